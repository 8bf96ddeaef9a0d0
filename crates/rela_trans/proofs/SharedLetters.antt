-- Letters that a set has, and that two have in common.
use Rattle.std.proofs.Common.{◌≡◌, ℕ, zero, suc, ◌<◌, ◌&&◌, Bool, true, false, List, [], ◌∷◌, length, inl, inr, arith, sym, ap, ◌∙◌}
use Rattle.std.specs.List.{list_any}
use Rattle.std.proofs.lemmas.Bool.{cases_lt, false_from_ne_true, true_from_ne_false, false≢true, and_parts, and_from, or_cases, or_left, or_right}
use Rattle.std.proofs.lemmas.List.{ext_get_or, get_or_past}
use Rattle.std.proofs.lemmas.List.FromFn.{get_or-map-range_with_len, length-map-range_with_len}
use Rattle.rela_labels.specs.Letters.{has}
use Rattle.rela_nfa.specs.Meeting.{common}

pub has_below : (set : List Bool) (k : ℕ) → has set k ≡ true → k < length set
has_below set k among = elim (cases_lt k (length set)) [ inl below ↦ below | inr past ↦ absurd (false≢true (sym (get_or_past set k false past) ∙ among)) ]

-- ---- whether a set has a letter

pub some_letter : (set : List Bool) → list_any (λ b. b) set ≡ true → (k : ℕ) × (has set k ≡ true)
some_letter [] any = absurd (false≢true any)
some_letter (b ∷ set) any = elim (or_cases b (list_any (λ b. b) set) any) [
  | inl here ↦ (0, here)
  | inr later ↦ let found = some_letter set later in (suc found.0, found.1)
]

pub any_letter : (set : List Bool) (k : ℕ) → has set k ≡ true → list_any (λ b. b) set ≡ true
any_letter [] k among = absurd (false≢true among)
any_letter (b ∷ set) zero among = or_left b (list_any (λ b. b) set) among
any_letter (b ∷ set) (suc k) among = or_right b (list_any (λ b. b) set) (any_letter set k among)

pub none_in : (set : List Bool) → ((k : ℕ) → has set k ≡ false) → list_any (λ b. b) set ≡ false
none_in set none = false_from_ne_true (list_any (λ b. b) set) (λ any. let found = some_letter set any in false≢true (sym (none found.0) ∙ found.1))

pub some_in : (set : List Bool) → (((k : ℕ) → has set k ≡ false) → ⊥) → list_any (λ b. b) set ≡ true
some_in set some =
    true_from_ne_false (list_any (λ b. b) set) (λ none. some (λ k. false_from_ne_true (has set k) (λ here. false≢true (sym none ∙ any_letter set k here))))

-- ---- letters that two sets have in common

has_common : (s t : List Bool) (k : ℕ) → has (common s t) k ≡ (has s k && has t k)
has_common s t k = elim (cases_lt k (length s)) [
  | inl below ↦ get_or-map-range_with_len (λ j. has s j && has t j) 0 (length s) k k false below (omega arith)
  | inr past ↦
      get_or_past (common s t) k false (omega (arith, past, length-map-range_with_len (λ j. has s j && has t j) 0 (length s)))
      ∙ sym (ap (λ v. v && has t k) (get_or_past s k false past))
]

pub common_both : (s t : List Bool) (k : ℕ) → has (common s t) k ≡ true → (has s k ≡ true) × (has t k ≡ true)
common_both s t k among = and_parts (has s k) (has t k) (sym (has_common s t k) ∙ among)

pub both_common : (s t : List Bool) (k : ℕ) → has s k ≡ true → has t k ≡ true → has (common s t) k ≡ true
both_common s t k left right = has_common s t k ∙ and_from (has s k) (has t k) left right

pub none_shared : (s t : List Bool) → ((k : ℕ) → (has s k && has t k) ≡ false) → list_any (λ b. b) (common s t) ≡ false
none_shared s t none = none_in (common s t) (λ k. has_common s t k ∙ none k)

pub meet_letters : (s t u : List Bool) → length u ≡ length s → ((k : ℕ) → has u k ≡ (has s k && has t k)) → u ≡ common s t
meet_letters s t u len each =
    ext_get_or false u (common s t) (len ∙ sym (length-map-range_with_len (λ j. has s j && has t j) 0 (length s))) (λ k below. each k ∙ sym (has_common s t k))
