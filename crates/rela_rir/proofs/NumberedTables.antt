-- The table of a machine whose states are numbered pairs, from a table of the pairs.
use Rattle.std.proofs.Common.{◌≡◌, ◌≢◌, ◌∙◌, ℕ, zero, suc, ◌+◌, ◌<◌, ◌⊎◌, inl, inr, List, [], ◌∷◌, refl, sym, ap, arith, length}
use Rattle.std.specs.Prelude.{Option, Some, None, slice_get}
use Rattle.std.specs.List.{AllPairs, Contains}
use Rattle.std.specs.Option.{option_map}
use Rattle.std.proofs.lemmas.Option.{slice_get_within, get_or_from_slice_get, slice_get_read}
use Rattle.rela_rir.specs.Places.{Place, Tells}
use Rattle.rela_rir.specs.Tables.{StandsAt, IsTable}
use Rattle.rela_rir.specs.Built.{NumberedPairs}
use Rattle.rela_rir.proofs.FormTables.{below_or_after}
use Rattle.rela_rir.proofs.JointTables.{pair_or_not}

abbrev pub here_or_later : {P : Type 0} → P ⊎ (P → ⊥) → Option ℕ → Option ℕ
here_or_later (inl here) later = Some 0
here_or_later (inr fails) later = option_map suc later

-- where the pair stands first in the list
abbrev pub index_of : List (ℕ × ℕ) → ℕ × ℕ → Option ℕ
index_of [] q = None
index_of (x ∷ xs) q = here_or_later (pair_or_not x q) (index_of xs q)

index_here : (x q : ℕ × ℕ) (xs : List (ℕ × ℕ)) (decided : (x ≡ q) ⊎ (x ≡ q → ⊥)) (later : Option ℕ) (k : ℕ) →
    ((j : ℕ) → later ≡ Some j → slice_get xs j ≡ Some q) → here_or_later decided later ≡ Some k → slice_get (x ∷ xs) k ≡ Some q
index_here x q xs (inl here) later zero rest entry = ap Some here
index_here x q xs (inl here) later (suc k) rest entry = absurd (let never : ⊥ = cc in never)
index_here x q xs (inr fails) None k rest entry = absurd (let never : ⊥ = cc in never)
index_here x q xs (inr fails) (Some j) zero rest entry = absurd (let never : ⊥ = cc in never)
index_here x q xs (inr fails) (Some j) (suc k) rest entry = rest k (let same : j ≡ k = cc in ap Some same)

index_gets : (xs : List (ℕ × ℕ)) (q : ℕ × ℕ) (k : ℕ) → index_of xs q ≡ Some k → slice_get xs k ≡ Some q
index_gets [] q k entry = absurd (let never : ⊥ = cc in never)
index_gets (x ∷ xs) q k entry = index_here x q xs (pair_or_not x q) (index_of xs q) k (λ j. index_gets xs q j) entry

has_index : (x q : ℕ × ℕ) (decided : (x ≡ q) ⊎ (x ≡ q → ⊥)) (later : Option ℕ) → (x ≢ q → (j : ℕ) × (later ≡ Some j)) → (k : ℕ) × (here_or_later decided later ≡ Some k)
has_index x q (inl here) later rest = (0, refl)
has_index x q (inr fails) later rest = (let found = rest fails in (suc found.0, ap (option_map suc) found.1))

pub index_found : (xs : List (ℕ × ℕ)) (q : ℕ × ℕ) (i : ℕ) → slice_get xs i ≡ Some q → (k : ℕ) × (index_of xs q ≡ Some k)
index_found [] q i gets = absurd (let never : ⊥ = cc in never)
index_found (x ∷ xs) q zero gets = has_index x q (pair_or_not x q) (index_of xs q) (λ fails. absurd (fails (let same : x ≡ q = cc in same)))
index_found (x ∷ xs) q (suc i) gets = has_index x q (pair_or_not x q) (index_of xs q) (λ fails. index_found xs q i gets)

-- of pairs that all differ each stands at one place
earlier : (xs : List (ℕ × ℕ)) → AllPairs ◌≢◌ xs → (q : ℕ × ℕ) (i j : ℕ) → slice_get xs i ≡ Some q → slice_get xs j ≡ Some q → i < j → ⊥
earlier xs different q i j one two before =
    different i j q before (slice_get_within xs j q two) (get_or_from_slice_get xs i q q one ∙ sym (get_or_from_slice_get xs j q q two))

one_place : (xs : List (ℕ × ℕ)) → AllPairs ◌≢◌ xs → (q : ℕ × ℕ) (i j : ℕ) → slice_get xs i ≡ Some q → slice_get xs j ≡ Some q → i ≡ j
one_place xs different q i j one two = elim (below_or_after i j) [
  | inl before ↦ absurd (earlier xs different q i j one two before)
  | inr after ↦ elim (below_or_after j i) [
    | inl before ↦ absurd (earlier xs different q j i two one before)
    | inr again ↦ (let first : i ≡ j + after.0 = after.1 in let second : j ≡ i + again.0 = again.1 in omega arith)
  ]
]

abbrev pub number : List (ℕ × ℕ) → Option (ℕ × ℕ) → Option ℕ
number pairs None = None
number pairs (Some q) = index_of pairs q

pub numbered_from : (pairs : List (ℕ × ℕ)) (o : Option (ℕ × ℕ)) (k : ℕ) → number pairs o ≡ Some k → (q : ℕ × ℕ) × (o ≡ Some q) × (slice_get pairs k ≡ Some q)
numbered_from pairs None k entry = absurd (let never : ⊥ = cc in never)
numbered_from pairs (Some q) k entry = (q, refl, index_gets pairs q k entry)

-- a pair of the list has a number
pub listed_number : (pairs : List (ℕ × ℕ)) (o : Option (ℕ × ℕ)) (q : ℕ × ℕ) → o ≡ Some q → Contains pairs q → (k : ℕ) × (number pairs o ≡ Some k)
listed_number pairs o q is listed =
    let found = index_found pairs q listed.0 (slice_get_read pairs (length pairs) listed.0 q refl listed.1 (sym listed.2)) in
    (found.0, ap (number pairs) is ∙ found.1)

module _ {I : Type 0} {reach : ℕ × ℕ → I → Type 0} {r : ℕ → I → Type 0} {at : Place → I → Type 0} {tells : Tells} {table : Place → Option (ℕ × ℕ)} {pairs : List (ℕ × ℕ)}
    (is : IsTable reach at tells table) (states : NumberedPairs pairs reach r) where
  there : (k : ℕ) (i : I) → r k i → StandsAt (λ p. number pairs (table p)) at k i
  there k i has =
      let from = (states.numbered k i).0 has in
      let stands = (is.reached from.0 i).0 from.2 in
      let found = index_found pairs from.0 k from.1 in
      let there : found.0 ≡ k = one_place pairs states.different from.0 found.0 k (index_gets pairs from.0 found.0 found.1) from.1 in
      record { place = stands.place; entry = ap (number pairs) stands.entry ∙ found.1 ∙ ap Some there; reached = stands.reached }

  back : (k : ℕ) (i : I) (p : Place) → number pairs (table p) ≡ Some k → at p i → r k i
  back k i p entry has =
      let from = numbered_from pairs (table p) k entry in
      (states.numbered k i).1 (from.0, from.2, (is.reached from.0 i).1 (record { place = p; entry = from.1; reached = has }))

  apart : (p s : Place) (k l : ℕ) → number pairs (table p) ≡ Some k → number pairs (table s) ≡ Some l → k ≢ l → tells p s
  apart p s k l one two differ =
      let of_p = numbered_from pairs (table p) k one in
      let of_s = numbered_from pairs (table s) l two in
      is.apart p s of_p.0 of_s.0 of_p.1 of_s.1 (λ same. differ (one_place pairs states.different of_p.0 k l of_p.2 (of_s.2 ∙ ap Some (sym same))))

  pub numbered : IsTable r at tells (λ p. number pairs (table p))
  numbered = record { reached = λ k i. (there k i, λ stands. back k i stands.place stands.entry stands.reached); apart = apart }
