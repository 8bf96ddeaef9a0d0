-- Numbers that places are given as they are met.
use Rattle.std.proofs.Common.{◌≡◌, ℕ, ◌+◌, ◌<◌, ◌≤◌, ◌⊎◌, true, if◌then◌else◌, nat_eq, List, [], ◌∷◌, ◌++◌, length, get_or, Some, sym, ap, ◌∙◌, inl, inr, below_more, arith}
use Rattle.std.specs.List.{IsDistinct, list_any, slice_get}
use Rattle.std.proofs.lemmas.Bool.{cases_Bool, cases_lt, eq-eqb, eqb-true, false≢true}
use Rattle.std.proofs.lemmas.List.{get_or_append_left, get_or_push, length_push}
use Rattle.std.proofs.lemmas.Map.Keys.{apart_from_distinct}
use Rattle.std.proofs.lemmas.Option.{get_or_from_slice_get}
use Rattle.indexmap.specs.IndexSet.{insert_key}
use Rattle.rela_shape.specs.Shape.{AreNumbered}

-- the numbers of the first places, where the keys are the places that were met
pub record AreBegun (places keys numbers : List ℕ) : Type 0 where
  pub stored : (i : ℕ) → i < length numbers → get_or numbers i 0 < length keys
  pub at : (i : ℕ) → i < length numbers → get_or keys (get_or numbers i 0) 0 ≡ get_or places i 0
  pub found : (n : ℕ) → n < length keys → (j : ℕ) × (j < length numbers) × (get_or numbers j 0 ≡ n)
  pub by_first : (i : ℕ) → i < length numbers → (n : ℕ) → n < get_or numbers i 0 → (j : ℕ) × (j < i) × (get_or numbers j 0 ≡ n)
  pub few : length keys ≤ length numbers

-- the keys after a place, which has this number among them
pub record AreGrown (keys new : List ℕ) (place number : ℕ) : Type 0 where
  pub within : number < length new
  pub at : get_or new number 0 ≡ place
  pub kept : (k : ℕ) → k < length keys → get_or new k 0 ≡ get_or keys k 0
  pub long : length keys ≤ length new
  pub short : length new ≤ length keys + 1
  pub older : (k : ℕ) → k < number → k < length keys
  pub all : (k : ℕ) → k < length new → (k < length keys) ⊎ (k ≡ number)

equal_apart : (keys : List ℕ) → IsDistinct nat_eq keys → (a b : ℕ) → a < b → b < length keys → get_or keys a 0 ≡ get_or keys b 0 → ⊥
equal_apart keys distinct a b before within equal =
    false≢true (sym (apart_from_distinct nat_eq keys a b 0 distinct before within) ∙ eq-eqb (get_or keys a 0) (get_or keys b 0) equal)

-- no key stands at two places
one_place : (keys : List ℕ) → IsDistinct nat_eq keys → (a b : ℕ) → a < length keys → b < length keys → get_or keys a 0 ≡ get_or keys b 0 → a ≡ b
one_place keys distinct a b a_in b_in equal = elim (cases_lt a b) [
  | inl before ↦ absurd (equal_apart keys distinct a b before b_in equal)
  | inr after ↦ elim (cases_lt b a) [
    | inl before ↦ absurd (equal_apart keys distinct b a before a_in (sym equal))
    | inr same ↦ omega (arith, after, same)
  ]
]

old_keys : (keys new : List ℕ) (place number : ℕ) → new ≡ keys → number < length new → get_or new number 0 ≡ place → AreGrown keys new place number
old_keys keys new place number is within at =
    let len : length new ≡ length keys = ap length is in
    record {
      within = within;
      at = at;
      kept = λ k below. ap (λ l. get_or l k 0) is;
      long = omega (arith, len);
      short = omega (arith, len);
      older = λ k below. omega (arith, len, below, within);
      all = λ k below. inl (omega (arith, len, below));
    }

new_key : (keys new : List ℕ) (place number : ℕ) → new ≡ keys ++ place ∷ [] → IsDistinct nat_eq new → number < length new → get_or new number 0 ≡ place → AreGrown keys new place number
new_key keys new place number is distinct within at =
    let len : length new ≡ length keys + 1 = ap length is ∙ length_push keys place in
    let last : get_or new (length keys) 0 ≡ place = ap (λ l. get_or l (length keys) 0) is ∙ get_or_push keys place 0 (length keys) (λ _. length keys) in
    let number_is : number ≡ length keys = one_place new distinct number (length keys) within (omega (arith, len)) (at ∙ sym last) in
    record {
      within = within;
      at = at;
      kept = λ k below. ap (λ l. get_or l k 0) is ∙ get_or_append_left keys (place ∷ []) 0 k below;
      long = omega (arith, len);
      short = omega (arith, len);
      older = λ k below. omega (arith, number_is, below);
      all = λ k below. elim (cases_lt k (length keys)) [
        | inl before ↦ inl before
        | inr after ↦ inr (omega (arith, after, below, len, number_is))
      ];
    }

-- what `insert_full` answers
pub keys_grown : (keys new : List ℕ) (place number : ℕ) → new ≡ insert_key nat_eq keys place → IsDistinct nat_eq new → number < length new
    → (k : ℕ) × (slice_get new number ≡ Some k) × (nat_eq place k ≡ true) → AreGrown keys new place number
keys_grown keys new place number is distinct within (k, there, same) =
    let at : get_or new number 0 ≡ place = get_or_from_slice_get new number k 0 there ∙ sym (eqb-true place k same) in
    elim (cases_Bool (list_any (nat_eq place) keys)) [
      | inl among ↦ old_keys keys new place number (is ∙ ap (λ b. if b then keys else keys ++ place ∷ []) among) within at
      | inr absent ↦ new_key keys new place number (is ∙ ap (λ b. if b then keys else keys ++ place ∷ []) absent) distinct within at
    ]

-- one more place with its number
pub begun_more : (places keys new numbers more : List ℕ) (place number : ℕ) → AreBegun places keys numbers → AreGrown keys new place number
    → place ≡ get_or places (length numbers) 0 → more ≡ numbers ++ number ∷ [] → AreBegun places new more
begun_more places keys new numbers more place number begun grown place_is more_is =
    let len : length more ≡ length numbers + 1 = ap length more_is ∙ length_push numbers number in
    let last : get_or more (length numbers) 0 ≡ number = ap (λ l. get_or l (length numbers) 0) more_is ∙ get_or_push numbers number 0 (length numbers) (λ _. length numbers) in
    let old : (i : ℕ) → i < length numbers → get_or more i 0 ≡ get_or numbers i 0 = λ i below. ap (λ l. get_or l i 0) more_is ∙ get_or_append_left numbers (number ∷ []) 0 i below in
    let found : (n : ℕ) → n < length keys → (j : ℕ) × (j < length numbers) × (get_or more j 0 ≡ n) =
    λ n below. (let f = begun.found n below in (f.0, f.1, old f.0 f.1 ∙ f.2)) in
    record {
      stored = λ i below. below_more (λ i. get_or more i 0 < length new) (length numbers)
          (λ i before. omega (arith, old i before, begun.stored i before, grown.long))
          (omega (arith, last, grown.within)) i (omega (arith, below, len));
      at = λ i below. below_more (λ i. get_or new (get_or more i 0) 0 ≡ get_or places i 0) (length numbers)
          (λ i before. ap (λ n. get_or new n 0) (old i before) ∙ grown.kept (get_or numbers i 0) (begun.stored i before) ∙ begun.at i before)
          (ap (λ n. get_or new n 0) last ∙ grown.at ∙ place_is) i (omega (arith, below, len));
      found = λ n below. elim (grown.all n below) [
        | inl before ↦ (let f = found n before in (f.0, omega (arith, f.1, len), f.2))
        | inr is ↦ (length numbers, omega (arith, len), last ∙ sym is)
      ];
      by_first = λ i below. below_more (λ i. (n : ℕ) → n < get_or more i 0 → (j : ℕ) × (j < i) × (get_or more j 0 ≡ n)) (length numbers)
          (λ i before n less.
          (let f = begun.by_first i before n (omega (arith, less, old i before)) in (f.0, f.1, old f.0 (omega (arith, f.1, before)) ∙ f.2)))
          (λ n less. found n (grown.older n (omega (arith, less, last)))) i (omega (arith, below, len));
      few = omega (arith, len, grown.short, begun.few);
    }

-- the numbers of all places
pub numbers_done : (places keys numbers : List ℕ) → AreBegun places keys numbers → IsDistinct nat_eq keys → length numbers ≡ length places → AreNumbered places numbers
numbers_done places keys numbers begun distinct len = record {
  each = len;
  together = λ i j i_in j_in.
      let i_at = begun.at i (omega (arith, i_in, len)) in
      let j_at = begun.at j (omega (arith, j_in, len)) in (
        λ equal. sym i_at ∙ ap (λ n. get_or keys n 0) equal ∙ j_at,
        λ equal. one_place keys distinct (get_or numbers i 0) (get_or numbers j 0) (begun.stored i (omega (arith, i_in, len))) (begun.stored j (omega (arith, j_in, len)))
            (i_at ∙ equal ∙ sym j_at),
      );
  by_first = λ i n i_in less. begun.by_first i (omega (arith, i_in, len)) n less;
}
