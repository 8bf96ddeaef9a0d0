use Rattle.std.proofs.Common.{◌≡◌, ◌&&◌, not, true, List, ℕ, length, map, ap, sym, subst, ◌∙◌, IfSome}
use Rattle.rela_labels.specs.Letters.{has}
use Rattle.rela_nfa.specs.Automaton.{Automaton}
use Rattle.rela_nfa.specs.Stored.{move_of}
use Rattle.rela_subset.specs.Expansion.{IsAlike}
use Rattle.rela_subset.specs.Outgoing.{AreSortedOut, moves_from}
use Rattle.rela_subset.specs.Splitting.{Splitting}
use Rattle.rela_subset.proofs.Splitting.{alike_rest, kept_in, left_minus, left_rest, length_left}
use Rattle.rela_subset.proofs.blocks.Blocks.next_of_rest.Goals as goal

pub invariant_of-self : goal.invariant_of-self
invariant_of-self g c =
    let letters = g.L.LabelSet.letters in
    let split = c.self.invariant.0 in (
      record {
        size = c.in_ok-rest.ensures.size ∙ split.size;
        rising = split.rising;
        among = split.among;
        apart = λ k q h. split.apart k q (kept_in (letters c.self.inside.rest) (letters c.in_ok-rest.rest) (letters c.in_ok-letters.letters) c.in_ok-rest.ensures.first_only k h);
        first = record { none = c.least-self-inside.ensures.none; member = c.least-self-inside.ensures.member; before = c.least-self-inside.ensures.least };
      },
      c.self.invariant.1,
    )

pub returns-clause-size : goal.returns-clause-size
returns-clause-size g c =
    let letters = g.L.LabelSet.letters in
    length_left (letters c.self.inside.over.now) c.self.inside.coming.now (letters c.in_ok-rest.rest) ∙ c.in_ok-rest.ensures.size
    ∙ sym (length_left (letters c.self.inside.over.now) c.self.inside.coming.now (letters c.self.inside.rest)) ∙ ap (λ (s : Splitting). length s.left) c.self.view_is

pub returns-clause-member : goal.returns-clause-member
returns-clause-member g c =
    let letters = g.L.LabelSet.letters in
    subst (λ (s : Splitting). has s.left c.in-Some.letter ≡ true) c.self.view_is
    (left_rest (letters c.self.inside.over.now) c.self.inside.coming.now (letters c.self.inside.rest) c.in-Some.letter
    (subst (λ least. IfSome least (λ m. has (letters c.self.inside.rest) m ≡ true)) c.in-Some.is c.self.invariant.0.first.member))

pub returns-clause-sized : goal.returns-clause-sized
returns-clause-sized g c =
    let letters = g.L.LabelSet.letters in
    c.in_ok-letters.ensures.size ∙ c.in_ok-near.ensures.size
    ∙ sym (length_left (letters c.self.inside.over.now) c.self.inside.coming.now (letters c.self.inside.rest)) ∙ ap (λ (s : Splitting). length s.left) c.self.view_is

pub returns-clause-alike : goal.returns-clause-alike
returns-clause-alike g c =
    let letters = g.L.LabelSet.letters in
    let split = c.self.invariant.0 in
    subst
    (λ (s : Splitting). (a : Automaton) (set : List ℕ) → AreSortedOut (moves_from a set) s.singles s.others → IsAlike a set s.left c.in-Some.letter (letters c.in_ok-letters.letters))
    c.self.view_is
    (λ a set sorted.
    alike_rest a set (letters c.self.inside.over.now) (letters c.self.inside.rest) (letters c.in_ok-near.near) (letters c.in_ok-letters.letters) c.in-Some.letter
    c.self.inside.singles.now c.self.inside.coming.now (map (λ edge. move_of letters edge.now) c.self.inside.others.now) split.apart split.among
    (subst (λ least. IfSome least (λ m. has (letters c.self.inside.rest) m ≡ true)) c.in-Some.is split.first.member)
    c.in_ok-near.ensures.within c.in_ok-near.ensures.alike c.in_ok-letters.ensures.alike sorted)

pub returns-clause-taken : goal.returns-clause-taken
returns-clause-taken g c k =
    let letters = g.L.LabelSet.letters in
    let split = c.self.invariant.0 in
    left_minus (letters c.self.inside.over.now) c.self.inside.coming.now (letters c.self.inside.rest) (letters c.in_ok-rest.rest) (letters c.in_ok-letters.letters)
    split.size (c.in_ok-rest.ensures.size ∙ split.size) (λ j q h here. split.apart j q h (split.among j q here))
    (λ j h. c.in_ok-near.ensures.within j ((c.in_ok-letters.ensures.alike j).0 h).0) c.in_ok-rest.ensures.first_only k
    ∙ ap (λ (s : Splitting). has s.left k && not (has (letters c.in_ok-letters.letters) k)) c.self.view_is
