use Rattle.std.proofs.Common.{◌≡◌, ◌++◌}
use Rattle.rela_branches.specs.Alternatives.{alternatives_of}
use Rattle.rela_branches.proofs.Blames.{else_pushed, now_of, on_ok, one_alternative, one_pushed}
use Rattle.rela_branches.proofs.claiming.+push_alternatives.Goals as goal

pub returns-in_ok-push_alternatives-in-Else : goal.returns-in_ok-push_alternatives-in-Else
returns-in_ok-push_alternatives-in-Else t c =
    let old = c.args.pushed.now.items in
    let middle = c.push_alternatives.new.pushed.items in
    let new = c.push_alternatives-in-Else.new.pushed.items in
    on_ok (now_of new ≡ now_of middle ++ alternatives_of c.get-in-Else.result.now) (now_of new ≡ now_of old ++ alternatives_of c.args.body.now) c.push_alternatives-in-Else.result
    (else_pushed old middle new c.args.body.now c.in-Else.a c.in-Else.b c.get.result.now c.get-in-Else.result.now c.in-Else.is c.get.ensures c.get-in-Else.ensures
    c.in_ok-push_alternatives-in-Else.ensures) c.push_alternatives-in-Else.ensures

pub returns-in_ok-push-in-Unit : goal.returns-in_ok-push-in-Unit
returns-in_ok-push-in-Unit t c =
    one_pushed c.args.pushed.now.items c.push.new.self.items c.args.body c.in_ok-push-in-Unit.ensures.items (one_alternative c.args.body.now c.in-Unit.is)
