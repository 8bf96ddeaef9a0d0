use Rattle.std.proofs.Common.{List, ◌∙◌, ap, sym, subst}
use Rattle.std.specs.List.Sorted.{IsNonDecreasingBy}
use Rattle.rela_subset.specs.Outgoing.{HasEnd}
use Rattle.rela_subset.specs.Splitting.{letters_left}
use Rattle.rela_subset.specs.declared.letter_edge.LetterEdge.{LetterEdge}
use Rattle.rela_subset.proofs.Splitting.{left_skip, rising_tail}
use Rattle.rela_subset.proofs.Targets.{Contains-tail}
use Rattle.rela_subset.proofs.letter_edge.from_letter_in.Goals as goal

pub loop-first-preserved : goal.loop-first-preserved
loop-first-preserved g c =
    let over = g.L.LabelSet.letters c.args.set.now in
    let first = c.in-Some.first.now in
    let later = c.in-Some.later.now in
    let is = c.in-Some.ensures.cases.0 in
    record {
      rising = rising_tail first later (subst (λ (es : List LetterEdge). IsNonDecreasingBy (λ edge. edge.letter) es) is c.loop-first.invariant.rising);
      among = λ k q h. c.loop-first.invariant.among k q (subst (λ (es : List LetterEdge). HasEnd es k q) (sym is) (Contains-tail first later _ h));
      left = λ rest.
          sym (left_skip over first later rest (sym c.contains.ensures.has ∙ c.if-contains.false))
          ∙ ap (λ (es : List LetterEdge). letters_left over es rest) (sym is) ∙ c.loop-first.invariant.left rest;
    }
