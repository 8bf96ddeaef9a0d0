use Rattle.std.proofs.Common.{List, Bool, if◌then◌else◌, Option, None, Some, ◌∙◌, sym, ap}
use Rattle.std.proofs.lemmas.Bool.{both_ways}
use Rattle.rela_nfa.specs.Meeting.{common}
use Rattle.rela_trans.specs.Composition.{unless_empty}
use Rattle.rela_trans.proofs.SharedLetters.{meet_letters, some_in, none_shared}
use Rattle.rela_trans.proofs.joint.common_letters.Goals as goal

pub returns-then-is_disjoint : goal.returns-then-is_disjoint
returns-then-is_disjoint g c =
    let s = g.L.LabelSet.letters c.args.first.now in
    let t = g.L.LabelSet.letters c.args.second.now in
    let some : Option (List Bool) = Some (common s t) in
    sym (ap (λ b. if b then some else None) (none_shared s t (c.is_disjoint.ensures.0 c.if-is_disjoint.true)))

pub returns : goal.returns
returns g c =
    let s = g.L.LabelSet.letters c.args.first.now in
    let t = g.L.LabelSet.letters c.args.second.now in
    let set = g.L.LabelSet.letters c.in_ok-meet.field-0 in
    let some : Option (List Bool) = Some set in
    let shared = some_in set (λ none. both_ways c.is_disjoint.result c.if-is_disjoint.false (c.is_disjoint.ensures.1 (λ k. sym (c.in_ok-meet.ensures.both k) ∙ none k))) in
    sym (ap (λ b. if b then some else None) shared)
    ∙ ap unless_empty (meet_letters s t set c.in_ok-meet.ensures.size c.in_ok-meet.ensures.both)
