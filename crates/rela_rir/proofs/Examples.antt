-- Places on small terms, and how many of them are reached.
use Rattle.std.proofs.Common.{◌≡◌, ℕ, ◌+◌, zero, suc, ◌<◌, inl, true, false, List, [], ◌∷◌, refl, subst, arith}
use Rattle.std.specs.Prelude.{length}
use Rattle.std.specs.List.{All, AllPairs}
use Rattle.std.proofs.lemmas.List.Elements.{All-nil, All-cons}
use Rattle.rela_rir.specs.Meaning.{IsInClass, IsPathWord}
use Rattle.rela_rir.specs.Places.{Place, Start, End, Begin, Left, Right, Inner, Both, Seen, Node, Scene, Apart, PartsApart, NoParts, EmptyPlaces}
use Rattle.rela_rir.specs.Limit.{Reached, IsReached, IsCheckWord, AreTold, ToldByContinuing}
use Rattle.rela_rir.proofs.MeaningForms as meaning
use Rattle.rela_rir.proofs.PlaceForms as forms
use Rattle.rela_rir.specs.declared.term.PathTerm.TheVariants as P

letter : (m : Scene) (s : ℕ) → s < m.setting.path_symbols → IsCheckWord m (s ∷ [])
letter m s path = All-cons (λ t. t < m.setting.path_symbols + m.markers) s [] (omega (arith, path)) (All-nil (λ t. t < m.setting.path_symbols + m.markers))

pairs_of_two : {X : Type 0} (R : X → X → Type 0) (x y : X) → R x y → AllPairs R (x ∷ y ∷ [])
pairs_of_two R x y xy zero zero d before inside = absurd (omega (arith, before))
pairs_of_two R x y xy zero (suc zero) d before inside = xy
pairs_of_two R x y xy zero (suc (suc j)) d before inside = absurd (omega (arith, inside))
pairs_of_two R x y xy (suc i) zero d before inside = absurd (omega (arith, before))
pairs_of_two R x y xy (suc i) (suc j) d before inside = absurd (omega (arith, before, inside))

pairs_of_three : {X : Type 0} (R : X → X → Type 0) (x y z : X) → R x y → R x z → R y z → AllPairs R (x ∷ y ∷ z ∷ [])
pairs_of_three R x y z xy xz yz zero zero d before inside = absurd (omega (arith, before))
pairs_of_three R x y z xy xz yz zero (suc zero) d before inside = xy
pairs_of_three R x y z xy xz yz zero (suc (suc zero)) d before inside = xz
pairs_of_three R x y z xy xz yz zero (suc (suc (suc j))) d before inside = absurd (omega (arith, inside))
pairs_of_three R x y z xy xz yz (suc i) zero d before inside = absurd (omega (arith, before))
pairs_of_three R x y z xy xz yz (suc i) (suc j) d before inside = pairs_of_two R y z yz i j d (omega (arith, before)) (omega (arith, inside))

all_of_two : {X : Type 0} (P : X → Type 0) (x y : X) → P x → P y → All P (x ∷ y ∷ [])
all_of_two P x y has_x has_y = All-cons P x (y ∷ []) has_x (All-cons P y [] has_y (All-nil P))

-- both places of a symbol's term are reached, and they are apart
pub reached_one : (m : Scene) (s : ℕ) → s < m.setting.path_symbols → Reached m (P.One s) 2
reached_one m s path = record {
  places = Start ∷ End ∷ [];
  many = refl;
  apart = pairs_of_two (Apart m (P.One s)) Start End (rw (forms.apart_one m s) refl);
  reached = all_of_two (IsReached m (P.One s)) Start End
      ([], All-nil (λ t. t < m.setting.path_symbols + m.markers), rw (forms.at_one m s) refl)
      (s ∷ [], letter m s path, rw (forms.at_one m s) (s, refl, refl));
}

-- both places of a class that has a symbol are reached, and they are apart
pub reached_class : (m : Scene) (k s : ℕ) → IsInClass m.setting k s → Reached m (P.Class k) 2
reached_class m k s entry = record {
  places = Start ∷ End ∷ [];
  many = refl;
  apart = pairs_of_two (Apart m (P.Class k)) Start End (rw (forms.apart_class m k) refl);
  reached = all_of_two (IsReached m (P.Class k)) Start End
      ([], All-nil (λ t. t < m.setting.path_symbols + m.markers), rw (forms.at_class m k) refl)
      (s ∷ [], letter m s entry.2.path, rw (forms.at_class m k) (s, refl, entry));
}

only_start : (p : Place) (w : List ℕ) → EmptyPlaces p w → p ≡ Start
only_start Start w at = refl
only_start End w at = absurd at
only_start Begin w at = absurd at
only_start (Left p) w at = absurd at
only_start (Right p) w at = absurd at
only_start (Inner p) w at = absurd at
only_start (Both p q) w at = absurd at
only_start (Seen z) w at = absurd at
only_start (Node n) w at = absurd at

-- the term of no word has one place, and so no two that are apart
no_two : (m : Scene) (places : List Place) → length places ≡ 2 → AllPairs (Apart m P.None) places →
    All (IsReached m P.None) places → ⊥
no_two m [] many apart reached = absurd (omega (arith, many))
no_two m (p ∷ []) many apart reached = absurd (omega (arith, many))
no_two m (p ∷ q ∷ more) many apart reached =
    let first = reached 0 p (omega arith) in
    let second = reached 1 p (omega arith) in
    let at_p : EmptyPlaces p first.0 = rw (forms.at_none m) at first.2 in
    let at_q : EmptyPlaces q second.0 = rw (forms.at_none m) at second.2 in
    let differ : PartsApart NoParts NoParts p q = rw (forms.apart_none m) at (apart 0 1 p (omega arith) (omega arith)) in
    let differ_q : PartsApart NoParts NoParts Start q = subst (λ (o : Place). PartsApart NoParts NoParts o q) (only_start p first.0 at_p) differ in
    let never : PartsApart NoParts NoParts Start Start = subst (λ (o : Place). PartsApart NoParts NoParts Start o) (only_start q second.0 at_q) differ_q in
    let bad : true ≡ false = never in
    cc

pub not_two_places_of_none : (m : Scene) → ¬ Reached m P.None 2
not_two_places_of_none m two = no_two m two.places two.many two.apart two.reached

-- the empty word, the symbol's word and a longer one are told apart by continuing them to the symbol's word
pub three_words : (m : Scene) (s : ℕ) → s < m.setting.path_symbols → AreTold m (P.One s) 3
three_words m s path = record {
  words = [] ∷ (s ∷ []) ∷ (s ∷ s ∷ []) ∷ [];
  many = refl;
  symbols = All-cons (IsPathWord m.setting.path_symbols) [] ((s ∷ []) ∷ (s ∷ s ∷ []) ∷ []) no_letters
      (all_of_two (IsPathWord m.setting.path_symbols) (s ∷ []) (s ∷ s ∷ []) one_letter (All-cons (λ r. r < m.setting.path_symbols) s (s ∷ []) path one_letter));
  told = pairs_of_three (ToldByContinuing m (P.One s)) [] (s ∷ []) (s ∷ s ∷ [])
      (s ∷ [], one_letter, rw (meaning.in_one m.setting s) (inl (refl, λ long. cc)))
      (s ∷ [], one_letter, rw (meaning.in_one m.setting s) (inl (refl, λ long. cc)))
      ([], no_letters, rw (meaning.in_one m.setting s) (inl (refl, λ long. cc)));
} where
  no_letters : IsPathWord m.setting.path_symbols []
  no_letters = All-nil (λ r. r < m.setting.path_symbols)

  one_letter : IsPathWord m.setting.path_symbols (s ∷ [])
  one_letter = All-cons (λ r. r < m.setting.path_symbols) s [] path no_letters
