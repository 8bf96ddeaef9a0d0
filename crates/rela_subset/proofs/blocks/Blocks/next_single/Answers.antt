use Rattle.std.proofs.Common.{◌≡◌, true, List, Bool, ℕ, length, ap, sym, subst, ◌∙◌, arith}
use Rattle.rela_labels.specs.Letters.{has}
use Rattle.rela_subset.specs.Outgoing.{HasEnd}
use Rattle.rela_subset.specs.Splitting.{Splitting}
use Rattle.rela_subset.proofs.Splitting.{all_from, first_left, first_of, here, left_no_more, length_left, none_before, rest_first}
use Rattle.rela_subset.proofs.blocks.Blocks.next_single.Goals as goal

pub returns-then-not-comes_before-clause-none : goal.returns-then-not-comes_before-clause-none
returns-then-not-comes_before-clause-none g c =
    let letters = g.L.LabelSet.letters in
    let coming = c.from_letter_in-self-inside.result.now in
    let (later, is) = first_of coming c.in-Some.single.now c.in-Some.ensures.item.3.0 (λ d. sym (c.in-Some.ensures.item.4 (omega arith) d)) in
    rest_first (letters c.self.inside.over.now) (letters c.self.inside.rest) coming c.self.inside.least c.in-Some.single.now later is
    c.from_letter_in-self-inside.ensures.rising c.self.invariant.0.first (c.comes_before.ensures.after c.if-not-comes_before.true)

pub past_letter-self-inside-requires-clause-first : goal.past_letter-self-inside-requires-clause-first
past_letter-self-inside-requires-clause-first g c =
    let letters = g.L.LabelSet.letters in
    let coming = c.from_letter_in-self-inside.result.now in
    let (later, is) = first_of coming c.in-Some.single.now c.in-Some.ensures.item.3.0 (λ d. sym (c.in-Some.ensures.item.4 (omega arith) d)) in
    all_from (letters c.self.inside.over.now) (letters c.self.inside.rest) coming c.self.inside.least c.in-Some.single.now later is
    c.from_letter_in-self-inside.ensures.rising c.self.invariant.0.first

pub invariant_of-self-2 : goal.invariant_of-self-2
invariant_of-self-2 g c =
    let split = c.self.invariant.0 in (
      record {
        size = split.size;
        rising = c.past_letter-self-inside.ensures.rising;
        among = λ k q h. split.among k q (c.from_letter_in-self-inside.ensures.among k q (c.past_letter-self-inside.ensures.among k q h));
        apart = split.apart;
        first = split.first;
      },
      c.self.invariant.1,
    )

pub returns-clause-size : goal.returns-clause-size
returns-clause-size g c =
    let letters = g.L.LabelSet.letters in
    length_left (letters c.self.inside.over.now) c.past_letter-self-inside.result.now (letters c.self.inside.rest)
    ∙ sym (length_left (letters c.self.inside.over.now) c.self.inside.coming.now (letters c.self.inside.rest)) ∙ ap (λ (s : Splitting). length s.left) c.self.view_is

pub returns-clause-member : goal.returns-clause-member
returns-clause-member g c =
    let letters = g.L.LabelSet.letters in
    let coming = c.from_letter_in-self-inside.result.now in
    let edge = c.in-Some.single.now in
    let (later, is) = first_of coming edge c.in-Some.ensures.item.3.0 (λ d. sym (c.in-Some.ensures.item.4 (omega arith) d)) in
    subst (λ (s : Splitting). has s.left edge.letter ≡ true) c.self.view_is
    (subst (λ (l : List Bool). has l edge.letter ≡ true) (c.from_letter_in-self-inside.ensures.left (letters c.self.inside.rest))
    (first_left (letters c.self.inside.over.now) (letters c.self.inside.rest) coming c.self.inside.least edge later is
    c.from_letter_in-self-inside.ensures.rising c.self.invariant.0.first c.self.invariant.0.size (c.from_letter_in-self-inside.ensures.first edge later is)))

pub returns-clause-least : goal.returns-clause-least
returns-clause-least g c k below =
    let letters = g.L.LabelSet.letters in
    let coming = c.from_letter_in-self-inside.result.now in
    let edge = c.in-Some.single.now in
    let (later, is) = first_of coming edge c.in-Some.ensures.item.3.0 (λ d. sym (c.in-Some.ensures.item.4 (omega arith) d)) in
    ap (λ (s : Splitting). has s.left k) (sym c.self.view_is)
    ∙ ap (λ (l : List Bool). has l k) (sym (c.from_letter_in-self-inside.ensures.left (letters c.self.inside.rest)))
    ∙ none_before (letters c.self.inside.over.now) (letters c.self.inside.rest) coming c.self.inside.least edge later is
    c.from_letter_in-self-inside.ensures.rising c.self.invariant.0.first (c.comes_before.ensures.before c.if-not-comes_before.false) k below

pub returns-clause-single : goal.returns-clause-single
returns-clause-single g c =
    let letters = g.L.LabelSet.letters in
    let coming = c.from_letter_in-self-inside.result.now in
    let edge = c.in-Some.single.now in
    let (later, is) = first_of coming edge c.in-Some.ensures.item.3.0 (λ d. sym (c.in-Some.ensures.item.4 (omega arith) d)) in
    subst (λ (s : Splitting). (q : ℕ) × HasEnd s.singles edge.letter q) c.self.view_is (
      edge.to,
      c.self.invariant.0.among edge.letter edge.to (c.from_letter_in-self-inside.ensures.among edge.letter edge.to
          (here (letters c.self.inside.over.now) (letters c.self.inside.rest) coming c.self.inside.least edge later is
          c.from_letter_in-self-inside.ensures.rising c.self.invariant.0.first)),
    )

pub returns-clause-taken : goal.returns-clause-taken
returns-clause-taken g c =
    let letters = g.L.LabelSet.letters in
    let coming = c.from_letter_in-self-inside.result.now in
    let edge = c.in-Some.single.now in
    let (later, is) = first_of coming edge c.in-Some.ensures.item.3.0 (λ d. sym (c.in-Some.ensures.item.4 (omega arith) d)) in
    left_no_more (letters c.self.inside.over.now) c.self.inside.singles.now c.past_letter-self-inside.result.now (letters c.self.inside.rest) edge.letter edge.to
    c.self.invariant.0.apart (c.self.invariant.0.among edge.letter edge.to (c.from_letter_in-self-inside.ensures.among edge.letter edge.to
    (here (letters c.self.inside.over.now) (letters c.self.inside.rest) coming c.self.inside.least edge later is
    c.from_letter_in-self-inside.ensures.rising c.self.invariant.0.first)))
    c.past_letter-self-inside.ensures.past
