use Rattle.std.proofs.Common.{◌∷◌, ◌++◌, [], map, ap, ◌∙◌, sym, subst}
use Rattle.std.specs.Option.{option_map}
use Rattle.std.proofs.lemmas.List.{map_push}
use Rattle.rela_nfa.specs.Stored.{move_of}
use Rattle.rela_subset.specs.Outgoing.{AreSortedOut}
use Rattle.rela_subset.proofs.ByLetter.{only_alone}
use Rattle.rela_subset.proofs.SortingOut.{sorted_other, sorted_silent, sorted_single}
use Rattle.rela_subset.proofs.outgoing.sort_out_one.Goals as goal

pub returns-in_default : goal.returns-in_default
returns-in_default g c moves sorted =
    sorted_silent moves c.args.singles.now.items (map (λ edge. move_of g.L.LabelSet.letters edge.now) c.args.others.now.items) sorted (move_of g.L.LabelSet.letters c.args.edge.now)
    (ap (option_map g.L.LabelSet.letters) c.in_default.is)

pub returns-in_ok-push-in-Some-only : goal.returns-in_ok-push-in-Some-only
returns-in_ok-push-in-Some-only g c moves sorted =
    let letters = g.L.LabelSet.letters in
    let others = map (λ edge. move_of letters edge.now) c.args.others.now.items in
    subst (λ singles. AreSortedOut (moves ++ move_of letters c.args.edge.now ∷ []) singles others) (sym c.in_ok-push-in-Some-only.ensures.items)
    (sorted_single moves c.args.singles.now.items others sorted (move_of letters c.args.edge.now) (letters c.in-Some.label) c.in-Some-only.letter (ap (option_map letters) c.in-Some.is)
    (only_alone (letters c.in-Some.label) c.in-Some-only.letter c.in-Some-only.ensures.only))

pub returns-in_ok-push-in-None : goal.returns-in_ok-push-in-None
returns-in_ok-push-in-None g c moves sorted =
    subst (λ others. AreSortedOut (moves ++ move_of g.L.LabelSet.letters c.args.edge.now ∷ []) c.args.singles.now.items others)
    (sym (ap (map (λ edge. move_of g.L.LabelSet.letters edge.now)) c.in_ok-push-in-None.ensures.items
    ∙ map_push (λ edge. move_of g.L.LabelSet.letters edge.now) c.args.others.now.items c.args.edge))
    (sorted_other moves c.args.singles.now.items (map (λ edge. move_of g.L.LabelSet.letters edge.now) c.args.others.now.items) sorted (move_of g.L.LabelSet.letters c.args.edge.now))
