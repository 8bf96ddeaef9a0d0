use Rattle.std.proofs.Common.{◌≡◌, Ok, Err, subst, arith}
use Rattle.rela_spec.specs.declared.tree.Member.{Member}
use Rattle.rela_expand.specs.Numbered.{or_none}
use Rattle.rela_expand.specs.Places.{Place, symbols_of}
use Rattle.rela_expand.proofs.PathGathering.{members_more, members_stop}
use Rattle.rela_expand.proofs.members.look_at_all.Goals as goal

pub returns-in_err-look_at-clause-refused : goal.returns-in_err-look_at-clause-refused
returns-in_err-look_at-clause-refused c =
    let place : Place = record { network = c.args.locations.now; level = c.args.level } in
    let e = c.in_err-look_at.field-0.0 in
    let fault : c.from_residual.result ≡ Err e = grind arith in
    rw fault
    (members_stop place c.args.members.now c.loop-member.member-index c.member-item.result _ e c.loop-member-test.true c.loop-member.invariant
    (subst (λ (m : Member). symbols_of place m ≡ Err e) c.member-item.is (c.in_err-look_at.ensures.refused)))

pub loop-member-preserved : goal.loop-member-preserved
loop-member-preserved c =
    let place : Place = record { network = c.args.locations.now; level = c.args.level } in
    members_more place c.args.members.now c.loop-member.member-index c.member-item.result c.loop-member-test.true c.loop-member.invariant
    (subst (λ (m : Member). symbols_of place m ≡ Ok (or_none (symbols_of place m))) c.member-item.is c.in_ok-look_at.ensures.some)
