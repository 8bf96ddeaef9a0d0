-- The bits of words, and what reads, writes and word-wise operations do to them.
use Rattle.std.proofs.Common.{◌≡◌, ◌≢◌, ℕ, ◌+◌, ◌-◌, ◌*◌, Fits, ◌/◌, ◌%◌, ◌^◌, ◌<◌, ◌≤◌, ◌==◌, Bool, true, false, not, ◌&&◌, ◌||◌, List, length, get_or, set, inl, inr, arith, refl, sym, ap, ◌∙◌, bit_and, bit_or, min, max}
use Rattle.std.proofs.lemmas.Bool.{cases_lt, cases_eq, eq-eqb, ne_eqb, false≢true}
use Rattle.std.proofs.lemmas.Grind.{same_number_lists}
use Rattle.std.proofs.lemmas.List.{get_or_past, get_or-set_other, get_or-set_same}
use Rattle.std.proofs.lemmas.Nat.{and_le_l}
use Rattle.std.proofs.lemmas.Nat.Bits.{shr_and_one, bit_at-zero, bit_at_and, bit_at_or, bit_at_not, bit_at_set_same, bit_at_set_other, bit_at-trailing_zeros, bit_at-lt, same_from_bits_below}
use Rattle.std.specs.Int.{bit_at, bit_not, trailing_zeros, w64}
use Rattle.rela_labels.specs.Words.{bit_of, word_has}

-- `(word >> (k % 64)) & 1 == 1`
pub read_bit : (words : List ℕ) (k word : ℕ) → word ≡ get_or words (k / 64) 0 → (bit_and (word / 2 ^ (k % 64)) 1 == 1) ≡ bit_of words k
unfolding bit_of
read_bit words k word e = rw (shr_and_one word (k % 64), e) refl

pub no_word : (words : List ℕ) (k : ℕ) → get_or words (k / 64) 0 ≡ 0 → bit_of words k ≡ false
unfolding bit_of
no_word words k e = rw (e, bit_at-zero (k % 64)) refl

pub past_words : (words : List ℕ) (k : ℕ) → length words ≤ k / 64 → bit_of words k ≡ false
past_words words k past = no_word words k (get_or_past words (k / 64) 0 past)

pub set_bit_same : (words : List ℕ) (k : ℕ) → k < 64 * length words
    → bit_of (set words (k / 64) (bit_or (get_or words (k / 64) 0) (1 * 2 ^ (k % 64) % 2 ^ 64))) k ≡ true
unfolding bit_of
set_bit_same words k within =
    let lt : k / 64 < length words = omega arith in
    let small : k % 64 < 64 = omega arith in
    let same = get_or-set_same words (k / 64) (bit_or (get_or words (k / 64) 0) (1 * 2 ^ (k % 64) % 2 ^ 64)) 0 lt in
    let one = bit_at_set_same w64 (get_or words (k / 64) 0) (k % 64) small in
    rw (same, one) refl

pub set_bit_other : (words : List ℕ) (k j : ℕ) → k < 64 * length words → j ≢ k
    → bit_of (set words (k / 64) (bit_or (get_or words (k / 64) 0) (1 * 2 ^ (k % 64) % 2 ^ 64))) j ≡ bit_of words j
unfolding bit_of
set_bit_other words k j within apart =
    let lt : k / 64 < length words = omega arith in
    let small : k % 64 < 64 = omega arith in
    elim (cases_eq (j / 64) (k / 64)) [
      | inl e ↦
          let differ : j % 64 ≢ k % 64 = omega arith in
          let same = get_or-set_same words (k / 64) (bit_or (get_or words (k / 64) 0) (1 * 2 ^ (k % 64) % 2 ^ 64)) 0 lt in
          let other = bit_at_set_other w64 (get_or words (k / 64) 0) (k % 64) small (j % 64) differ in
          rw (e, same, other) refl
      | inr n ↦ rw get_or-set_other refl
    ]

-- the words below i are done, and the others as they were
pub record IsDone (op : ℕ → ℕ → ℕ) (old other new : List ℕ) (i : ℕ) : Type 0 where
  pub done : (j : ℕ) → j < i → get_or new j 0 ≡ op (get_or old j 0) (get_or other j 0)
  pub rest : (j : ℕ) → i ≤ j → get_or new j 0 ≡ get_or old j 0

pub none_done : (op : ℕ → ℕ → ℕ) (old other : List ℕ) → IsDone op old other old 0
none_done op old other = record { done = λ j h. absurd (omega arith); rest = λ j h. refl }

pub one_more_done : (op : ℕ → ℕ → ℕ) (old other new : List ℕ) (i : ℕ) → i < length new → IsDone op old other new i
    → IsDone op old other (set new i (op (get_or new i 0) (get_or other i 0))) (i + 1)
one_more_done op old other new i within h = record {
  done = λ j below.
      elim (cases_eq j i) [
        | inl e ↦ rw (e, get_or-set_same new i (op (get_or new i 0) (get_or other i 0)) 0 within, h.rest i (omega arith)) refl
        | inr n ↦ let lt : j < i = omega arith in rw get_or-set_other (h.done j lt)
      ];
  rest = λ j above. let n : j ≢ i = omega arith in rw get_or-set_other (h.rest j (omega arith));
}

-- what an operation on words does to each bit
abbrev pub IsBitwise : (ℕ → ℕ → ℕ) → (Bool → Bool → Bool) → Type 0
IsBitwise op each = (a b i : ℕ) → b < 2 ^ 64 → i < 64 → word_has (op a b) i ≡ each (word_has a i) (word_has b i)

pub bits_done : (op : ℕ → ℕ → ℕ) (each : Bool → Bool → Bool) → IsBitwise op each → each false false ≡ false
    → (old other new : List ℕ) → length old ≡ length other → length new ≡ length old
    → ((j : ℕ) → Fits w64 (get_or other j 0)) → (i : ℕ) → length old ≤ i → IsDone op old other new i → (k : ℕ) → bit_of new k ≡ each (bit_of old k) (bit_of other k)
unfolding bit_of
bits_done op each bitwise none old other new len len_new other_fits i all h k =
    elim (cases_lt (k / 64) (length old)) [
      | inl lt ↦
          rw (h.done (k / 64) (omega arith))
          (bitwise (get_or old (k / 64) 0) (get_or other (k / 64) 0) (k % 64) ((other_fits (k / 64)).fits) (omega arith))
      | inr above ↦
          rw (
            past_words new k (omega arith),
            past_words old k above,
            past_words other k (omega arith),
          ) (sym none)
    ]

two_cases : (P : ℕ → ℕ → Type 0) → P 0 0 → P 0 1 → P 1 0 → P 1 1 → (x y : ℕ) → x < 2 → y < 2 → P x y
two_cases P a b c d x y p q =
    elim (cases_eq x 0) [
      | inl x_is ↦ elim (cases_eq y 0) [
        | inl y_is ↦ rw (x_is, y_is) a
        | inr n ↦ let y_is : y ≡ 1 = omega arith in rw (x_is, y_is) b
      ]
      | inr m ↦
          let x_is : x ≡ 1 = omega arith in
          elim (cases_eq y 0) [
            | inl y_is ↦ rw (x_is, y_is) c
            | inr n ↦ let y_is : y ≡ 1 = omega arith in rw (x_is, y_is) d
          ]
    ]

min_is_and : (x y : ℕ) → x < 2 → y < 2 → (min x y == 1) ≡ ((x == 1) && (y == 1))
min_is_and x y p q = two_cases (λ x y. (min x y == 1) ≡ ((x == 1) && (y == 1))) refl refl refl refl x y p q

max_is_or : (x y : ℕ) → x < 2 → y < 2 → (max x y == 1) ≡ ((x == 1) || (y == 1))
max_is_or x y p q = two_cases (λ x y. (max x y == 1) ≡ ((x == 1) || (y == 1))) refl refl refl refl x y p q

min_is_minus : (x y : ℕ) → x < 2 → y < 2 → (min x (1 - y) == 1) ≡ ((x == 1) && not (y == 1))
min_is_minus x y p q = two_cases (λ x y. (min x (1 - y) == 1) ≡ ((x == 1) && not (y == 1))) refl refl refl refl x y p q

pub meet_bits : (a b i : ℕ) → word_has (bit_and a b) i ≡ (word_has a i && word_has b i)
meet_bits a b i = rw (bit_at_and a b i) (min_is_and (bit_at a i) (bit_at b i) (bit_at-lt a i) (bit_at-lt b i))

pub meet_bitwise : IsBitwise bit_and (◌&&◌)
meet_bitwise a b i _ _ = meet_bits a b i

pub join_bits : (a b i : ℕ) → word_has (bit_or a b) i ≡ (word_has a i || word_has b i)
join_bits a b i = rw (bit_at_or a b i) (max_is_or (bit_at a i) (bit_at b i) (bit_at-lt a i) (bit_at-lt b i))

pub join_bitwise : IsBitwise bit_or (◌||◌)
join_bitwise a b i _ _ = join_bits a b i

pub minus_bitwise : IsBitwise (λ a b. bit_and a (bit_not w64 b)) (λ x y. x && not y)
minus_bitwise a b i b_fits i_fits =
    rw (bit_at_and a (bit_not w64 b) i, bit_at_not w64 b i b_fits i_fits)
    (min_is_minus (bit_at a i) (bit_at b i) (bit_at-lt a i) (bit_at-lt b i))

pub same_digit : (x y : ℕ) → x < 2 → y < 2 → (x == 1) ≡ (y == 1) → x ≡ y
same_digit x y p q e =
    two_cases (λ x y. (x == 1) ≡ (y == 1) → x ≡ y) (λ e. refl) (λ e. cc) (λ e. cc) (λ e. refl) x y p q e

bit_at_place : (words : List ℕ) (j i : ℕ) → i < 64 → bit_of words (64 * j + i) ≡ (bit_at (get_or words j 0) i == 1)
unfolding bit_of
bit_at_place words j i within =
    let word : (64 * j + i) / 64 ≡ j = omega arith in
    let bit : (64 * j + i) % 64 ≡ i = omega arith in
    rw (word, bit) refl

-- words with the same bits are the same
pub words_from_bits : (a b : List ℕ) → length a ≡ length b → ((j : ℕ) → Fits w64 (get_or a j 0)) → ((j : ℕ) → Fits w64 (get_or b j 0))
    → ((k : ℕ) → bit_of a k ≡ bit_of b k) → a ≡ b
words_from_bits a b len a_fits b_fits same =
    same_number_lists a b len (λ j _. same_from_bits_below 64 (get_or a j 0) (get_or b j 0) ((a_fits j).fits) ((b_fits j).fits)
    (λ i within. same_digit (bit_at (get_or a j 0) i) (bit_at (get_or b j 0) i) (bit_at-lt (get_or a j 0) i) (bit_at-lt (get_or b j 0) i)
    (sym (bit_at_place a j i within) ∙ same (64 * j + i) ∙ bit_at_place b j i within)))

-- the words before the i-th are 0, and its lowest 1 is the least letter
pub least_of_word : (words : List ℕ) (i : ℕ) → 0 < get_or words i 0 → get_or words i 0 < 2 ^ 64
    → bit_of words (i * 64 + trailing_zeros w64 (get_or words i 0)) ≡ true
least_of_word words i positive fits =
    let lowest = bit_at-trailing_zeros w64 (get_or words i 0) positive fits in
    let place : i * 64 + trailing_zeros w64 (get_or words i 0) ≡ 64 * i + trailing_zeros w64 (get_or words i 0) = omega arith in
    rw (place, bit_at_place words i (trailing_zeros w64 (get_or words i 0)) lowest.0, lowest.1) refl

pub none_before : (words : List ℕ) (i : ℕ) → ((j : ℕ) → j < i → get_or words j 0 ≡ 0) → 0 < get_or words i 0 → get_or words i 0 < 2 ^ 64
    → (k : ℕ) → k < i * 64 + trailing_zeros w64 (get_or words i 0) → bit_of words k ≡ false
none_before words i zeros positive fits k below =
    let lowest = bit_at-trailing_zeros w64 (get_or words i 0) positive fits in
    elim (cases_lt (k / 64) i) [
      | inl before ↦ no_word words k (zeros (k / 64) before)
      | inr here ↦
          let small : trailing_zeros w64 (get_or words i 0) < 64 = lowest.0 in
          let place : k ≡ 64 * i + (k - 64 * i) = omega arith in
          let within : k - 64 * i < trailing_zeros w64 (get_or words i 0) = omega arith in
          let zero_bit : bit_at (get_or words i 0) (k - 64 * i) ≡ 0 = lowest.2 (k - 64 * i) within in
          ap (bit_of words) place ∙ bit_at_place words i (k - 64 * i) (omega arith) ∙ ap (λ b. b == 1) zero_bit
    ]

pub none_at_all : (words : List ℕ) → ((j : ℕ) → j < length words → get_or words j 0 ≡ 0) → (k : ℕ) → bit_of words k ≡ false
none_at_all words zeros k =
    elim (cases_lt (k / 64) (length words)) [
      | inl before ↦ no_word words k (zeros (k / 64) before)
      | inr past ↦ no_word words k (get_or_past words (k / 64) 0 past)
    ]

pub bits_of_same_words : (a b : List ℕ) (i : ℕ) → length a ≡ length b → length a ≤ i → ((j : ℕ) → j < i → get_or a j 0 ≡ get_or b j 0)
    → (k : ℕ) → bit_of a k ≡ bit_of b k
bits_of_same_words a b i len all same k =
    ap (λ words. bit_of words k) (same_number_lists a b len (λ j within. same j (omega arith)))

pub some_bit_differs : (a b : List ℕ) (i : ℕ) → length a ≡ length b → ((j : ℕ) → Fits w64 (get_or a j 0)) → ((j : ℕ) → Fits w64 (get_or b j 0))
    → get_or a i 0 ≢ get_or b i 0 → ((k : ℕ) → bit_of a k ≡ bit_of b k) → ⊥
some_bit_differs a b i len a_fits b_fits differ same = differ (ap (λ words. get_or words i 0) (words_from_bits a b len a_fits b_fits same))

-- a word with the bit of one letter
pub bit_of_one : (letter place : ℕ) → letter / 64 ≡ place → (b : ℕ) → b < 64
    → (bit_at (1 * 2 ^ (letter % 64) % 2 ^ 64) b == 1) ≡ (letter == 64 * place + b)
bit_of_one letter place at b within =
    let small : letter % 64 < 64 = omega arith in
    elim (cases_eq b (letter % 64)) [
      | inl e ↦
          let here : letter ≡ 64 * place + b = omega arith in
          let one : bit_at (1 * 2 ^ (letter % 64) % 2 ^ 64) (letter % 64) ≡ 1 = bit_at_set_same w64 0 (letter % 64) small in
          ap (λ i. bit_at (1 * 2 ^ (letter % 64) % 2 ^ 64) i == 1) e ∙ ap (λ n. n == 1) one ∙ sym (eq-eqb letter (64 * place + b) here)
      | inr n ↦
          let other : bit_at (1 * 2 ^ (letter % 64) % 2 ^ 64) b ≡ bit_at 0 b = bit_at_set_other w64 0 (letter % 64) small b n in
          ap (λ n. n == 1) (other ∙ bit_at-zero b) ∙ sym (ne_eqb letter (64 * place + b) (λ e. n (omega arith)))
    ]

-- words in which the bit of one letter alone is 1
abbrev pub IsWordOf : ℕ → ℕ → ℕ → Type 0
IsWordOf letter place word = (b : ℕ) → b < 64 → (bit_at word b == 1) ≡ (letter == 64 * place + b)

pub only_bit : (words : List ℕ) (letter i : ℕ) → bit_of words letter ≡ true → length words ≤ i
    → ((j : ℕ) → j < i → IsWordOf letter j (get_or words j 0)) → (k : ℕ) → bit_of words k ≡ (letter == k)
only_bit words letter i there all each k =
    let place : k ≡ 64 * (k / 64) + k % 64 = omega arith in
    elim (cases_lt (k / 64) (length words)) [
      | inl before ↦
          ap (bit_of words) place ∙ bit_at_place words (k / 64) (k % 64) (omega arith)
          ∙ each (k / 64) (omega arith) (k % 64) (omega arith) ∙ ap (λ j. letter == j) (sym place)
      | inr past ↦
          past_words words k past
          ∙ sym (ne_eqb letter k (λ e. false≢true (sym (past_words words k past) ∙ ap (bit_of words) (sym e) ∙ there)))
    ]

pub not_only_bit : (words : List ℕ) (letter i word : ℕ) → get_or words i 0 < 2 ^ 64 → word < 2 ^ 64 → IsWordOf letter i word
    → get_or words i 0 ≢ word → ((k : ℕ) → bit_of words k ≡ (letter == k)) → ⊥
not_only_bit words letter i word fits word_fits is differ only =
    differ (same_from_bits_below 64 (get_or words i 0) word fits word_fits (λ b within.
    same_digit (bit_at (get_or words i 0) b) (bit_at word b) (bit_at-lt (get_or words i 0) b) (bit_at-lt word b)
    (sym (bit_at_place words i b within) ∙ only (64 * i + b) ∙ sym (is b within))))

-- words that have no letter in both
pub no_shared_bit : (words other : List ℕ) (i : ℕ) → length words ≤ i
    → ((j : ℕ) → j < i → bit_and (get_or words j 0) (get_or other j 0) ≡ 0) → (k : ℕ) → (bit_of words k && bit_of other k) ≡ false
unfolding bit_of
no_shared_bit words other i all zeros k =
    elim (cases_lt (k / 64) (length words)) [
      | inl before ↦
          sym (meet_bits (get_or words (k / 64) 0) (get_or other (k / 64) 0) (k % 64))
          ∙ ap (λ word. word_has word (k % 64)) (zeros (k / 64) (omega arith)) ∙ ap (λ b. b == 1) (bit_at-zero (k % 64))
      | inr past ↦ ap (λ v. v && bit_of other k) (past_words words k past)
    ]

pub shared_bit : (words other : List ℕ) (i : ℕ) → get_or words i 0 < 2 ^ 64 → bit_and (get_or words i 0) (get_or other i 0) ≢ 0
    → ((k : ℕ) → (bit_of words k && bit_of other k) ≡ false) → ⊥
shared_bit words other i fits some none =
    let both = bit_and (get_or words i 0) (get_or other i 0) in
    let below : both ≤ get_or words i 0 = and_le_l (get_or words i 0) (get_or other i 0) in
    let lowest = bit_at-trailing_zeros w64 both (omega arith) (omega arith) in
    let b = trailing_zeros w64 both in
    false≢true (sym (none (64 * i + b)) ∙ ap (λ v. v && bit_of other (64 * i + b)) (bit_at_place words i b lowest.0)
    ∙ ap (λ v. word_has (get_or words i 0) b && v) (bit_at_place other i b lowest.0)
    ∙ sym (meet_bits (get_or words i 0) (get_or other i 0) b) ∙ ap (λ v. v == 1) lowest.1)
