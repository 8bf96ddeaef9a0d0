-- The bits of rows, and what operations on words do to them.
use Rattle.std.proofs.Common.{◌≡◌, ℕ, ◌/◌, ◌%◌, ◌*◌, ◌^◌, ◌<◌, ◌≤◌, ◌+◌, ◌⊎◌, ◌==◌, true, false, IsTrue, List, [], length, get_or, set, inl, inr, arith, refl, sym, ap, ◌∙◌, subst, bit_and, bit_or, max}
use Rattle.std.proofs.lemmas.Bool.{cases_lt, cases_eq, false≢true}
use Rattle.std.proofs.lemmas.List.{get_or_past, get_or-set_other, get_or-set_same, length-map, map-set, with_items_is}
use Rattle.std.proofs.lemmas.Nat.Bits.{shr_and_one, bit_at-zero, bit_at_or, bit_at-lt}
use Rattle.std.specs.Int.{bit_at}
use Rattle.std.specs.Vec.{with_items}
use Rattle.std.specs.declared.vec.Vec.{Vec}
use Rattle.rela_reduce.specs.Bits.{HasBit, bit_of}
use Rattle.rela_reduce.specs.Stored.{lists_of}

-- `(word >> (j % 64)) & 1 == 1`
pub read_bit : (words : List ℕ) (j word : ℕ) → word ≡ get_or words (j / 64) 0 → (bit_and (word / 2 ^ (j % 64)) 1 == 1) ≡ bit_of words j
unfolding bit_of
read_bit words j word e = rw (shr_and_one word (j % 64), e) refl

-- the word is 0
pub no_word : (words : List ℕ) (j : ℕ) → get_or words (j / 64) 0 ≡ 0 → bit_of words j ≡ false
unfolding bit_of
no_word words j e = rw (e, bit_at-zero (j % 64)) refl

-- a bit by its word
pub bit_in_word : (words : List ℕ) (j place b word : ℕ) → j ≡ 64 * place + b → b < 64 → word ≡ get_or words place 0 → bit_of words j ≡ (bit_at word b == 1)
unfolding bit_of
bit_in_word words j place b word at within is =
    let at_place : j / 64 ≡ place = omega arith in
    let at_bit : j % 64 ≡ b = omega arith in
    rw (at_place, at_bit, is) refl

pub past_words : (words : List ℕ) (j : ℕ) → length words ≤ j / 64 → bit_of words j ≡ false
past_words words j past = no_word words j (get_or_past words (j / 64) 0 past)

pub no_words : (words : List ℕ) → ((i : ℕ) → i < length words → get_or words i 0 ≡ 0) → (j : ℕ) → bit_of words j ≡ false
no_words words zeros j = elim (cases_lt (j / 64) (length words)) [ inl within ↦ no_word words j (zeros (j / 64) within) | inr past ↦ past_words words j past ]

-- where there are no rows, no bit is 1
pub no_rows : (i j : ℕ) → HasBit [] i j → ⊥
no_rows i j set = false≢true (sym (no_word [] j refl) ∙ set)

-- nor is one past the rows
pub none_past : {A : Type 0} (rows : List (Vec ℕ A)) (i j : ℕ) → length rows ≤ i → HasBit (lists_of rows) i j → ⊥
none_past rows i j past set =
    let none : get_or (lists_of rows) i [] ≡ [] = get_or_past (lists_of rows) i [] (omega (arith, length-map rows (λ v. v.items), past)) in
    no_rows 0 j (subst (λ (row : List ℕ). IsTrue (bit_of row j)) none set)

-- what holds of the bits of the rows before, and of those of one that is written, holds of those of one row more
pub row_set : {A : Type 0} (rows : List (Vec ℕ A)) (i : ℕ) (d : Vec ℕ A) (row : List ℕ) (P : ℕ → ℕ → Type 0) → i < length rows → length row ≡ (get_or rows i d).len
    → ((k j : ℕ) → k < i → HasBit (lists_of rows) k j → P k j) → ((j : ℕ) → IsTrue (bit_of row j) → P i j)
    → (k j : ℕ) → k < i + 1 → HasBit (lists_of (set rows i (with_items (get_or rows i d) row))) k j → P k j
row_set rows i d row P within len before here k j below bit =
    let written : List (List ℕ) = set (lists_of rows) i row in
    let all : lists_of (set rows i (with_items (get_or rows i d) row)) ≡ written =
    map-set (λ v. v.items) rows i (with_items (get_or rows i d) row) ∙ ap (λ (r : List ℕ). set (lists_of rows) i r) (with_items_is (get_or rows i d) row len) in
    let bit_there : HasBit written k j = subst (λ (rs : List (List ℕ)). HasBit rs k j) all bit in
    elim (cases_eq k i) [
      | inl same ↦
          let is : get_or written k [] ≡ row =
          ap (λ (n : ℕ). get_or written n []) same ∙ get_or-set_same (lists_of rows) i row [] (omega (arith, length-map rows (λ v. v.items), within)) in
          subst (λ (n : ℕ). P n j) (sym same) (here j (subst (λ (r : List ℕ). IsTrue (bit_of r j)) is bit_there))
      | inr other ↦ before k j (omega arith) (subst (λ (r : List ℕ). IsTrue (bit_of r j)) (get_or-set_other (lists_of rows) i k row [] other) bit_there)
    ]

either_word : (x y : ℕ) → x < 2 → y < 2 → (max x y == 1) ≡ true → IsTrue (x == 1) ⊎ IsTrue (y == 1)
either_word x y x_digit y_digit e = elim (cases_eq x 1) [
  | inl one ↦ inl (rw one refl)
  | inr not_one ↦ elim (cases_eq y 1) [
    | inl one ↦ inr (rw one refl)
    | inr not_either ↦ let x_none : x ≡ 0 = omega arith in let y_none : y ≡ 0 = omega arith in absurd (false≢true (rw (x_none, y_none) at e))
  ]
]

-- the words below i have the bits of both, and the others are as they were
pub record IsJoined (old other new : List ℕ) (i : ℕ) : Type 0 where
  pub done : (j : ℕ) → j < i → get_or new j 0 ≡ bit_or (get_or old j 0) (get_or other j 0)
  pub rest : (j : ℕ) → i ≤ j → get_or new j 0 ≡ get_or old j 0

pub none_joined : (old other : List ℕ) → IsJoined old other old 0
none_joined old other = record { done = λ j below. absurd (omega arith); rest = λ j above. refl }

pub joined_more : (old other new : List ℕ) (i : ℕ) → i < length new → IsJoined old other new i → IsJoined old other (set new i (bit_or (get_or new i 0) (get_or other i 0))) (i + 1)
joined_more old other new i within so_far = record {
  done = λ j below.
      elim (cases_eq j i) [
        | inl e ↦ rw (e, get_or-set_same new i (bit_or (get_or new i 0) (get_or other i 0)) 0 within, so_far.rest i (omega arith)) refl
        | inr n ↦ let lt : j < i = omega arith in rw get_or-set_other (so_far.done j lt)
      ];
  rest = λ j above. let n : j ≡ i → ⊥ = (λ e. omega arith) in rw get_or-set_other (so_far.rest j (omega arith));
}

pub joined_bit : (old other new : List ℕ) (i : ℕ) → IsJoined old other new i → (j : ℕ) → IsTrue (bit_of new j) → IsTrue (bit_of old j) ⊎ IsTrue (bit_of other j)
unfolding bit_of
joined_bit old other new i joined j bit = elim (cases_lt (j / 64) i) [
  | inl below ↦
      let x : ℕ = get_or old (j / 64) 0 in
      let y : ℕ = get_or other (j / 64) 0 in
      let both : bit_at (get_or new (j / 64) 0) (j % 64) ≡ max (bit_at x (j % 64)) (bit_at y (j % 64)) = ap (λ w. bit_at w (j % 64)) (joined.done (j / 64) below) ∙ bit_at_or x y (j % 64) in
      either_word (bit_at x (j % 64)) (bit_at y (j % 64)) (bit_at-lt x (j % 64)) (bit_at-lt y (j % 64)) (sym (ap (λ n. n == 1) both) ∙ bit)
  | inr above ↦ inl (sym (ap (λ w. bit_at w (j % 64) == 1) (joined.rest (j / 64) above)) ∙ bit)
]
