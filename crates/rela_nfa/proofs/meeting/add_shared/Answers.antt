use Rattle.std.proofs.Common.{map, Some, ◌∙◌, refl, sym, ap}
use Rattle.std.specs.List.{list_any}
use Rattle.std.specs.Option.{option_map}
use Rattle.std.proofs.lemmas.Bool.{both_ways}
use Rattle.rela_nfa.specs.Directing.{extended, shared_label}
use Rattle.rela_nfa.specs.Meeting.{common}
use Rattle.rela_nfa.specs.Stored.{move_of}
use Rattle.rela_nfa.proofs.InTurn.{extended_none, shared_met, shared_apart}
use Rattle.rela_nfa.proofs.Joint.{meet_letters, none_common, some_common}
use Rattle.rela_nfa.proofs.meeting.add_shared.Goals as goal

pub returns-in_ok-add_directed : goal.returns-in_ok-add_directed
returns-in_ok-add_directed g c =
    let letters = g.L.LabelSet.letters in
    let s = letters c.in-Some-Some.s in
    let t = letters c.in-Some-Some.t in
    let set = letters c.in_ok-meet.field-0 in
    let same = meet_letters s t set c.in_ok-meet.ensures.size c.in_ok-meet.ensures.both in
    let any = some_common s t (λ none. both_ways c.is_disjoint.result c.if-not-is_disjoint.true (c.is_disjoint.ensures.1 none)) in
    let some = ap (λ l. list_any (λ c. c) l) same ∙ any in
    c.in_ok-add_directed.ensures
    ∙ ap (λ l. extended (map (move_of letters) c.args.edges.now.items) l c.args.targets.now)
    (sym (ap (λ o. shared_label (option_map letters o) (option_map letters c.args.second.now.label)) c.in-Some-Some.is-0
    ∙ ap (λ o. shared_label (option_map letters (Some c.in-Some-Some.s)) (option_map letters o)) c.in-Some-Some.is-1
    ∙ shared_met s t set same some))

pub returns-else-not-is_disjoint : goal.returns-else-not-is_disjoint
returns-else-not-is_disjoint g c =
    let letters = g.L.LabelSet.letters in
    let s = letters c.in-Some-Some.s in
    let t = letters c.in-Some-Some.t in
    let none = none_common s t (c.is_disjoint.ensures.0 c.if-not-is_disjoint.false) in
    sym (extended_none (map (move_of letters) c.args.edges.now.items) c.args.targets.now)
    ∙ ap (λ l. extended (map (move_of letters) c.args.edges.now.items) l c.args.targets.now)
    (sym (ap (λ o. shared_label (option_map letters o) (option_map letters c.args.second.now.label)) c.in-Some-Some.is-0
    ∙ ap (λ o. shared_label (option_map letters (Some c.in-Some-Some.s)) (option_map letters o)) c.in-Some-Some.is-1
    ∙ shared_apart s t (common s t) refl none))
