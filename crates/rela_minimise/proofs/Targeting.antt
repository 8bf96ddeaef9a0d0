-- Where states go by their signatures.
use Rattle.std.proofs.Common.{◌≡◌, ℕ, ◌+◌, ◌<◌, List, [], ◌∷◌, ◌++◌, length, get_or, sym, ap, ◌∙◌, subst, inl, inr, arith}
use Rattle.std.proofs.lemmas.Bool.{cases_lt}
use Rattle.std.proofs.lemmas.List.{get_or_append_left, get_or_push, length_push}
use Rattle.rela_subset.specs.Deterministic.{Deterministic}
use Rattle.rela_minimise.specs.Refining.{Goes, HasFound, Stage}

-- with more signatures that have been found
pub goes_later : (d : Deterministic) (columns : List (List ℕ)) (s : Stage) (found found' : List (List ℕ)) (count class : ℕ) → HasFound count found found' class → (q to : ℕ) → Goes d columns s found q to → Goes d columns s found' q to
goes_later d columns s found found' count class has q to (inl stays) = inl stays
goes_later d columns s found found' count class has q to (inr (other, (j, below, at, is))) =
    inr (other, (j, (let longer = has.longer in omega arith), has.kept j below ∙ at, is))

module _ (d : Deterministic) (columns : List (List ℕ)) (s : Stage) (waiting targets targets' : List ℕ) (found found' : List (List ℕ)) (i class : ℕ)
    (each : length targets ≡ i) (pushed : targets' ≡ targets ++ class ∷ []) (has : HasFound (length s.members) found found' class) where
  same_before : (k : ℕ) → k < i → get_or targets' k 0 ≡ get_or targets k 0
  same_before k below = ap (λ l. get_or l k 0) pushed ∙ get_or_append_left targets (class ∷ []) 0 k (omega arith)

  same_last : get_or targets' i 0 ≡ class
  same_last = ap (λ l. get_or l i 0) pushed ∙ get_or_push targets class 0 i each

  pub goes_more : ((k : ℕ) → k < i → Goes d columns s found (get_or waiting k 0) (get_or targets k 0)) → Goes d columns s found' (get_or waiting i 0) class
      → (k : ℕ) → k < i + 1 → Goes d columns s found' (get_or waiting k 0) (get_or targets' k 0)
  goes_more before last k below = elim (cases_lt k i) [
    | inl earlier ↦
        subst (Goes d columns s found' (get_or waiting k 0)) (sym (same_before k earlier))
        (goes_later d columns s found found' (length s.members) class has (get_or waiting k 0) (get_or targets k 0) (before k earlier))
    | inr not_earlier ↦
        let here : i ≡ k = omega arith in
        subst (λ n. Goes d columns s found' (get_or waiting n 0) (get_or targets' n 0)) here (subst (Goes d columns s found' (get_or waiting i 0)) (sym same_last) last)
  ]

  pub used_more : ((j : ℕ) → j < length found → (k : ℕ) × (k < i) × (get_or targets k 0 ≡ length s.members + j))
      → (j : ℕ) → j < length found' → (k : ℕ) × (k < i + 1) × (get_or targets' k 0 ≡ length s.members + j)
  used_more before j below = elim (has.used j below) [
    | inl earlier ↦ let (k, k_in, at) = before j earlier in (k, omega arith, same_before k k_in ∙ at)
    | inr new ↦ (i, omega arith, same_last ∙ new)
  ]

  pub each_more : length targets' ≡ i + 1
  each_more = let pushed_len = ap length pushed ∙ length_push targets class in omega arith
