use Rattle.std.proofs.Common.{◌<◌, List, length, map, ap, sym, subst, ◌∙◌}
use Rattle.std.specs.List.{All}
use Rattle.std.specs.List.Sorted.{IsNonDecreasingBy}
use Rattle.std.proofs.lemmas.Result.{IfOk-weaker}
use Rattle.rela_nfa.specs.Automaton.{states}
use Rattle.rela_nfa.specs.Stored.{move_of}
use Rattle.rela_subset.specs.Outgoing.{Sorted}
use Rattle.rela_subset.specs.declared.letter_edge.LetterEdge.{LetterEdge}
use Rattle.rela_subset.proofs.OutOfSets.{labels_sized}
use Rattle.rela_subset.proofs.outgoing.Outgoing.blocks.Goals as goal

pub new-requires-clause-rising : goal.new-requires-clause-rising
new-requires-clause-rising g c =
    subst (λ (es : List LetterEdge). IsNonDecreasingBy (λ edge. edge.letter) es) (sym c.deref.ensures.value) c.self.invariant.0.rising

pub new-requires-clause-below : goal.new-requires-clause-below
new-requires-clause-below g c =
    subst (λ (es : List LetterEdge). All (λ edge. edge.letter < length (g.L.LabelSet.letters c.args.over.now)) es) (sym c.deref.ensures.value)
    (subst (λ n. All (λ (edge : LetterEdge). edge.letter < n) c.self.inside.singles.items)
    (ap (λ (s : Sorted). s.automaton.letters) c.self.view_is ∙ sym c.requires.letters) c.self.invariant.0.below)

pub new-requires-clause-labels : goal.new-requires-clause-labels
new-requires-clause-labels g c =
    labels_sized g.L.LabelSet.letters c.self.inside.others.items c.deref-2.result.now c.self.inside.a.now.letters (states c.self.inside.a.now) c.deref-2.ensures.value c.self.invariant.0.moves
    (length (g.L.LabelSet.letters c.args.over.now)) (ap (λ (s : Sorted). s.automaton.letters) c.self.view_is ∙ sym c.requires.letters)

pub returns-clause-others : goal.returns-clause-others
returns-clause-others g c =
    IfOk-weaker c.new.result _ _
    (λ blocks same. same ∙ ap (map (λ edge. move_of g.L.LabelSet.letters edge.now)) c.deref-2.ensures.value ∙ ap (λ (s : Sorted). s.others) c.self.view_is) c.new.ensures.others
