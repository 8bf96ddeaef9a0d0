use Rattle.std.proofs.Common.{Bool, ◌||◌, List, ℕ, map, ap, ap₂, sym, ◌∙◌}
use Rattle.std.specs.List.{list_any}
use Rattle.std.proofs.lemmas.List.{take_all}
use Rattle.rela_locations.specs.Tables.{has_number}
use Rattle.rela_spec.specs.declared.tree.Member.{Member}
use Rattle.rela_expand.specs.Known.{picked}
use Rattle.rela_expand.specs.Numbered.{named_by}
use Rattle.rela_expand.specs.Places.{Place}
use Rattle.rela_expand.specs.declared.written.Pick.{Pick}
use Rattle.rela_expand.proofs.Known.{same_pick, same_picked}
use Rattle.rela_expand.proofs.Picks.{one_key_more, one_member_more}
use Rattle.rela_expand.proofs.written.distinct.Goals as goal

pub loop-member-preserved : goal.loop-member-preserved
loop-member-preserved c =
    λ network n.
    let place : Place = record { network = network; level = c.args.level } in
    ap (λ (picks : List Pick). list_any (λ list. has_number list n) (map (picked place) picks)) c.in_ok-insert.ensures.keys
    ∙ one_key_more (picked place) same_pick (same_picked place) n c.loop-member.picks.keys c.picked_by.result
    ∙ ap₂ (λ (a b : Bool). a || b) (c.loop-member.invariant network n) (ap (λ (list : List ℕ). has_number list n) (c.picked_by.ensures network))
    ∙ sym (one_member_more place c.args.members.now c.loop-member.member-index c.member-item.result n c.loop-member-test.true c.member-item.is)

pub returns : goal.returns
returns c =
    λ network n.
    let place : Place = record { network = network; level = c.args.level } in
    c.loop-member.invariant network n
    ∙ ap (λ (members : List Member). list_any (λ list. has_number list n) (map (named_by place) members)) (take_all c.loop-member.member-index c.args.members.now c.loop-member-test.false)
