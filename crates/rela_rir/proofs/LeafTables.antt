-- The tables of machines that are built of no others, and of complements.
use Rattle.std.proofs.Common.{◌≡◌, ◌≢◌, ◌∙◌, ℕ, zero, suc, ◌+◌, ◌<◌, ◌⊎◌, inl, inr, List, [], ◌∷◌, refl, sym, ap, subst, arith}
use Rattle.std.specs.Prelude.{◌↔◌, Option, Some, None}
use Rattle.std.proofs.lemmas.List.Elements.{All-nil, All-cons, All-head, All-tail}
use Rattle.rela_rir.specs.Meaning.{IsPathWord}
use Rattle.rela_rir.specs.Places.{Place, Start, End, Begin, Seen, Node, Places, Arrivals, Tells, Agree, EmptyPlaces, LetterPlaces, ComplementPlaces, PathSetPlaces, PartsApart, SeenApart, NoParts}
use Rattle.rela_rir.specs.Tables.{StandsAt, IsTable}
use Rattle.rela_rir.specs.Built.{OneState, LetterStates, PathStates, ComplementStates}
use Rattle.rela_rir.proofs.Tables.{told_by_place}
use Rattle.rela_rir.proofs.FormTables.{below_or_after}

-- the state, where the condition holds
abbrev pub given : {P : Type 0} → P ⊎ (P → ⊥) → ℕ → Option ℕ
given (inl is) q = Some q
given (inr fails) q = None

pub given_if : {P : Type 0} (decided : P ⊎ (P → ⊥)) (q : ℕ) → P → given decided q ≡ Some q
given_if (inl is) q holds = refl
given_if (inr fails) q holds = absurd (fails holds)

pub from_given : {P : Type 0} (decided : P ⊎ (P → ⊥)) (q k : ℕ) → given decided q ≡ Some k → P × (q ≡ k)
from_given (inl is) q k entry = (is, cc)
from_given (inr fails) q k entry = absurd (let never : ⊥ = cc in never)

abbrev pub only_start : Place → Option ℕ
only_start Start = Some 0
only_start _ = None

pub one_state : (r : ℕ → List ℕ → Type 0) → OneState r → IsTable r EmptyPlaces (PartsApart NoParts NoParts) only_start
one_state r states = record { reached = λ q w. (there q w, λ stands. back q w stands.place stands.entry stands.reached); apart = apart } where
  there : (q : ℕ) (w : List ℕ) → r q w → StandsAt only_start EmptyPlaces q w
  there q w has =
      let zeros : q ≡ 0 = omega (arith, states.count q w has) in
      record { place = Start; entry = ap Some (sym zeros); reached = (states.begin w).0 (subst (λ k. r k w) zeros has) }

  back : (q : ℕ) (w : List ℕ) (p : Place) → only_start p ≡ Some q → EmptyPlaces p w → r q w
  back q w Start entry at = subst (λ k. r k w) (let zeros : 0 ≡ q = cc in zeros) ((states.begin w).1 at)
  back q w _ entry at = absurd at

  apart : (p s : Place) (k l : ℕ) → only_start p ≡ Some k → only_start s ≡ Some l → k ≢ l → PartsApart NoParts NoParts p s
  apart Start Start k l one two differ = absurd (differ (let same : k ≡ l = cc in same))
  apart _ _ k l one two differ = absurd (let never : ⊥ = cc in never)

abbrev pub start_and_end : Place → Option ℕ
start_and_end Start = Some 0
start_and_end End = Some 1
start_and_end _ = None

pub letter_states : (member : ℕ → Type 0) (r : ℕ → List ℕ → Type 0) → LetterStates member r → IsTable r (LetterPlaces member) (PartsApart NoParts NoParts) start_and_end
letter_states member r states = record { reached = λ q w. (there q w, λ stands. back q w stands.place stands.entry stands.reached); apart = apart } where
  there : (q : ℕ) (w : List ℕ) → r q w → StandsAt start_and_end (LetterPlaces member) q w
  there zero w has = record { place = Start; entry = refl; reached = (states.begin w).0 has }
  there (suc q) w has =
      let below : suc q < 2 = states.count (suc q) w has in
      let one : suc q ≡ 1 = omega (arith, below) in
      record { place = End; entry = ap Some (sym one); reached = (states.end w).0 (subst (λ k. r k w) one has) }

  back : (q : ℕ) (w : List ℕ) (p : Place) → start_and_end p ≡ Some q → LetterPlaces member p w → r q w
  back q w Start entry at = subst (λ k. r k w) (let zeros : 0 ≡ q = cc in zeros) ((states.begin w).1 at)
  back q w End entry at = subst (λ k. r k w) (let ones : 1 ≡ q = cc in ones) ((states.end w).1 at)
  back q w _ entry at = absurd at

  apart : (p s : Place) (k l : ℕ) → start_and_end p ≡ Some k → start_and_end s ≡ Some l → k ≢ l → PartsApart NoParts NoParts p s
  apart Start Start k l one two differ = absurd (differ (let same : k ≡ l = cc in same))
  apart End End k l one two differ = absurd (differ (let same : k ≡ l = cc in same))
  apart Start End k l one two differ = refl
  apart End Start k l one two differ = refl
  apart _ _ k l one two differ = absurd (let never : ⊥ = cc in never)

pub below_or_not : (k n : ℕ) → (k < n) ⊎ (k < n → ⊥)
below_or_not k n = elim (below_or_after k n) [ inl below ↦ inl below | inr after ↦ inr (λ below. (let is : k ≡ n + after.0 = after.1 in omega (arith, below))) ]

abbrev pub path_table : ℕ → Place → Option ℕ
path_table n Begin = Some 0
path_table n (Node k) = given (below_or_not k n) (1 + k)
path_table n End = Some (1 + n)
path_table n _ = None

pub path_states : (n : ℕ) (arrivals : Arrivals) (r : ℕ → List ℕ → Type 0) → PathStates n arrivals r → IsTable r (PathSetPlaces arrivals) (PartsApart NoParts NoParts) (path_table n)
path_states n arrivals r states = record { reached = λ q w. (there q w, λ stands. back q w stands.place stands.entry stands.reached); apart = apart } where
  there : (q : ℕ) (w : List ℕ) → r q w → StandsAt (path_table n) (PathSetPlaces arrivals) q w
  there zero w has = record { place = Begin; entry = refl; reached = (states.begin w).0 has }
  there (suc q) w has = elim (below_or_after q n) [
    | inl below ↦
        let is : suc q ≡ 1 + q = omega arith in
        record { place = Node q; entry = given_if (below_or_not q n) (1 + q) below ∙ ap Some (sym is); reached = (states.nodes q w below).0 (subst (λ k. r k w) is has) }
    | inr after ↦
        let few : suc q < 2 + n = states.count (suc q) w has in
        let later : q ≡ n + after.0 = after.1 in
        let is : suc q ≡ 1 + n = omega (arith, few) in
        record { place = End; entry = ap Some (sym is); reached = (states.end w).0 (subst (λ k. r k w) is has) }
  ]

  back : (q : ℕ) (w : List ℕ) (p : Place) → path_table n p ≡ Some q → PathSetPlaces arrivals p w → r q w
  back q w Begin entry at = subst (λ k. r k w) (let zeros : 0 ≡ q = cc in zeros) ((states.begin w).1 at)
  back q w (Node k) entry at =
      let from = from_given (below_or_not k n) (1 + k) q entry in
      subst (λ j. r j w) from.1 ((states.nodes k w from.0).1 at)
  back q w End entry at = subst (λ k. r k w) (let ends : 1 + n ≡ q = cc in ends) ((states.end w).1 at)
  back q w _ entry at = absurd at

  apart : (p s : Place) (k l : ℕ) → path_table n p ≡ Some k → path_table n s ≡ Some l → k ≢ l → PartsApart NoParts NoParts p s
  apart Begin Begin k l one two differ = absurd (differ (let same : k ≡ l = cc in same))
  apart End End k l one two differ = absurd (differ (let same : k ≡ l = cc in same))
  apart (Node a) (Node b) k l one two differ =
      let of_p = from_given (below_or_not a n) (1 + a) k one in
      let of_s = from_given (below_or_not b n) (1 + b) l two in
      λ same. differ (sym of_p.1 ∙ ap (λ j. 1 + j) same ∙ of_s.1)
  apart Begin (Node b) k l one two differ = refl
  apart Begin End k l one two differ = refl
  apart (Node a) Begin k l one two differ = refl
  apart (Node a) End k l one two differ = refl
  apart End Begin k l one two differ = refl
  apart End (Node b) k l one two differ = refl
  apart _ _ k l one two differ = absurd (let never : ⊥ = cc in never)

pub path_or_not : (n : ℕ) (w : List ℕ) → IsPathWord n w ⊎ (IsPathWord n w → ⊥)
path_or_not n [] = inl (All-nil (λ s. s < n))
path_or_not n (s ∷ w) = elim (below_or_not s n) [
  | inl below ↦ elim (path_or_not n w) [
    | inl rest ↦ inl (All-cons (λ t. t < n) s w below rest)
    | inr fails ↦ inr (λ all. fails (All-tail (λ t. t < n) s w all))
  ]
  | inr fails ↦ inr (λ all. fails (All-head (λ t. t < n) s w all))
]

abbrev pub seen_table : ℕ → (List ℕ → ℕ) → Place → Option ℕ
seen_table n after (Seen z) = given (path_or_not n z) (after z)
seen_table n after _ = None

-- words that reach the same places reach the same states
pub same_states : {x : Places} {tx : Tells} {t : Place → Option ℕ} {a : ℕ → List ℕ → Type 0} → IsTable a x tx t → (z w : List ℕ) → Agree x z w → (q : ℕ) → a q z ↔ a q w
same_states {x} {tx} {t} {a} is z w agree q = (
  (λ has. (let stands = (is.reached q z).0 has in (is.reached q w).1 (record { place = stands.place; entry = stands.entry; reached = (agree stands.place).0 stands.reached }))),
  λ has. (let stands = (is.reached q w).0 has in (is.reached q z).1 (record { place = stands.place; entry = stands.entry; reached = (agree stands.place).1 stands.reached })),
)

pub complement_states : {x : Places} {tx : Tells} {t : Place → Option ℕ} (n : ℕ) (a r : ℕ → List ℕ → Type 0) → IsTable a x tx t → (states : ComplementStates n a r) →
    IsTable r (ComplementPlaces n x) (SeenApart x) (seen_table n states.after)
complement_states {x} {tx} {t} n a r is states = record { reached = λ q w. (there q w, λ stands. back q w stands.place stands.entry stands.reached); apart = apart } where
  there : (q : ℕ) (w : List ℕ) → r q w → StandsAt (seen_table n states.after) (ComplementPlaces n x) q w
  there q w has =
      let leads = (states.reached q w).0 has in
      record { place = Seen w; entry = given_if (path_or_not n w) (states.after w) leads.0 ∙ ap Some leads.1; reached = (leads.0, leads.0, λ p. ((λ at. at), λ at. at)) }

  back : (q : ℕ) (w : List ℕ) (p : Place) → seen_table n states.after p ≡ Some q → ComplementPlaces n x p w → r q w
  back q w (Seen z) entry at =
      let from = from_given (path_or_not n z) (states.after z) q entry in
      (states.reached q w).1 (at.1, states.alike w z at.1 at.0 (same_states is w z at.2) ∙ from.1)
  back q w _ entry at = absurd at

  apart : (p s : Place) (k l : ℕ) → seen_table n states.after p ≡ Some k → seen_table n states.after s ≡ Some l → k ≢ l → SeenApart x p s
  apart (Seen v) (Seen w) k l one two differ =
      let of_v = from_given (path_or_not n v) (states.after v) k one in
      let of_w = from_given (path_or_not n w) (states.after w) l two in
      let told = states.told v w of_v.0 of_w.0 (λ same. differ (sym of_v.1 ∙ same ∙ of_w.1)) in
      told_by_place is told.0 v w told.1
  apart _ _ k l one two differ = absurd (let never : ⊥ = cc in never)
