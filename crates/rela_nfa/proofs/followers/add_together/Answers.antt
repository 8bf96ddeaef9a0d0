use Rattle.std.proofs.Common.{◌++◌, map, Some, ◌∙◌, refl, sym, ap}
use Rattle.std.specs.Option.{option_map}
use Rattle.std.proofs.lemmas.Bool.{both_ways}
use Rattle.std.proofs.lemmas.List.{append-nil}
use Rattle.rela_nfa.specs.Meeting.{JointMove, common, labelled_both, pair_of}
use Rattle.rela_nfa.proofs.Joint.{labelled_met, labelled_apart, none_common, some_common}
use Rattle.rela_nfa.proofs.followers.add_together.Goals as goal

pub returns-in_ok-push : goal.returns-in_ok-push
returns-in_ok-push g c =
    let letters = g.L.LabelSet.letters in
    let s = letters c.in-Some-Some.s in
    let t = letters c.in-Some-Some.t in
    let to = pair_of c.args.first.now.to c.args.second.now.to in
    let some = some_common s t (λ none. both_ways c.is_disjoint.result c.if-not-is_disjoint.true (c.is_disjoint.ensures.1 none)) in
    c.in_ok-push.ensures.items
    ∙ ap (λ l. c.args.followers.now.items ++ map (λ (j : JointMove). j.to) l)
    (sym (ap (λ o. labelled_both (option_map letters o) (option_map letters c.args.second.now.label) to) c.in-Some-Some.is-0
    ∙ ap (λ o. labelled_both (option_map letters (Some c.in-Some-Some.s)) (option_map letters o) to) c.in-Some-Some.is-1
    ∙ labelled_met s t (common s t) to refl some))

pub returns-else-not-is_disjoint : goal.returns-else-not-is_disjoint
returns-else-not-is_disjoint g c =
    let letters = g.L.LabelSet.letters in
    let s = letters c.in-Some-Some.s in
    let t = letters c.in-Some-Some.t in
    let to = pair_of c.args.first.now.to c.args.second.now.to in
    let none = none_common s t (c.is_disjoint.ensures.0 c.if-not-is_disjoint.false) in
    sym (append-nil c.args.followers.now.items)
    ∙ ap (λ l. c.args.followers.now.items ++ map (λ (j : JointMove). j.to) l)
    (sym (ap (λ o. labelled_both (option_map letters o) (option_map letters c.args.second.now.label) to) c.in-Some-Some.is-0
    ∙ ap (λ o. labelled_both (option_map letters (Some c.in-Some-Some.s)) (option_map letters o) to) c.in-Some-Some.is-1
    ∙ labelled_apart s t (common s t) to refl none))
