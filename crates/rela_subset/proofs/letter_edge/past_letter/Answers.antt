use Rattle.std.proofs.Common.{◌≡◌, List, ◌∙◌, ap, sym, subst}
use Rattle.std.specs.List.Sorted.{IsNonDecreasingBy}
use Rattle.rela_labels.specs.Letters.{has}
use Rattle.rela_subset.specs.Outgoing.{HasEnd}
use Rattle.rela_subset.specs.Splitting.{letters_left}
use Rattle.rela_subset.specs.declared.letter_edge.LetterEdge.{LetterEdge}
use Rattle.rela_subset.proofs.Splitting.{all_past, left_other, rising_tail}
use Rattle.rela_subset.proofs.Targets.{Contains-tail}
use Rattle.rela_subset.proofs.letter_edge.past_letter.Goals as goal

pub returns-then-first-letter-clause-past : goal.returns-then-first-letter-clause-past
returns-then-first-letter-clause-past c =
    all_past c.args.edges.now c.loop-first.coming.now c.args.letter c.in-Some.first.now c.in-Some.later.now c.in-Some.ensures.cases.0
    c.loop-first.invariant.rising c.loop-first.invariant.among c.requires.first c.if-first-letter.true

pub loop-first-preserved : goal.loop-first-preserved
loop-first-preserved c =
    let first = c.in-Some.first.now in
    let later = c.in-Some.later.now in
    let is = c.in-Some.ensures.cases.0 in
    let own : first.letter ≡ c.args.letter = c.if-first-letter.false in
    record {
      rising = rising_tail first later (subst (λ (es : List LetterEdge). IsNonDecreasingBy (λ edge. edge.letter) es) is c.loop-first.invariant.rising);
      among = λ k q h. c.loop-first.invariant.among k q (subst (λ (es : List LetterEdge). HasEnd es k q) (sym is) (Contains-tail first later _ h));
      left = λ over rest k apart.
          sym (left_other over first later rest k (λ same. apart (same ∙ own)))
          ∙ ap (λ (es : List LetterEdge). has (letters_left over es rest) k) (sym is) ∙ c.loop-first.invariant.left over rest k apart;
    }
