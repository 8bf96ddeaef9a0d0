-- The classes of which new ones were parts.
use Rattle.std.proofs.Common.{◌≡◌, ℕ, ◌+◌, ◌-◌, ◌<◌, ◌≤◌, List, length, get_or, set, ap, ◌∙◌, inl, inr, arith}
use Rattle.std.proofs.lemmas.Bool.{cases_eq, cases_lt}
use Rattle.std.proofs.lemmas.List.{get_or-set_other, get_or-set_same}
use Rattle.rela_minimise.specs.Refining.{AreOrigins, Stage}

-- a place that has been written for each new class that was met
abbrev pub AreMet : List ℕ → List ℕ → ℕ → List ℕ → ℕ → List ℕ → Type 0
AreMet waiting targets first classes i origins = (k j : ℕ) → k < i → get_or targets k 0 ≡ first + j
    → (m : ℕ) × (m < i) × (get_or targets m 0 ≡ first + j) × (get_or origins j 0 ≡ get_or classes (get_or waiting m 0) 0)

module _ (waiting targets : List ℕ) (first : ℕ) (classes : List ℕ) (i : ℕ) (origins : List ℕ) (met : AreMet waiting targets first classes i origins) where
  pub met_with : first ≤ get_or targets i 0 → get_or targets i 0 - first < length origins → AreMet waiting targets first classes (i + 1) (set origins (get_or targets i 0 - first) (get_or classes (get_or waiting i 0) 0))
  met_with above inside k j below at = elim (cases_eq j (get_or targets i 0 - first)) [
    | inl here ↦ (
      i,
      omega arith,
      omega (arith, here, above),
      ap (λ m. get_or (set origins (get_or targets i 0 - first) (get_or classes (get_or waiting i 0) 0)) m 0) here
          ∙ get_or-set_same origins (get_or targets i 0 - first) (get_or classes (get_or waiting i 0) 0) 0 inside,
    )
    | inr other ↦ elim (cases_lt k i) [
      | inl earlier ↦
          let (m, m_in, to, own) = met k j earlier at in
          (m, omega arith, to, get_or-set_other origins (get_or targets i 0 - first) j (get_or classes (get_or waiting i 0) 0) 0 other ∙ own)
      | inr not_earlier ↦ let last : k ≡ i = omega arith in absurd (other (let same = ap (λ m. get_or targets m 0) last in omega arith))
    ]
  ]

  pub met_without : get_or targets i 0 < first → AreMet waiting targets first classes (i + 1) origins
  met_without small k j below at = elim (cases_lt k i) [
    | inl earlier ↦ let (m, m_in, to, own) = met k j earlier at in (m, omega arith, to, own)
    | inr not_earlier ↦ let last : k ≡ i = omega arith in absurd (let same = ap (λ m. get_or targets m 0) last in omega arith)
  ]

pub met_all : (s : Stage) (waiting targets : List ℕ) (count first i : ℕ) (origins : List ℕ) → first ≡ length s.members → length waiting ≤ i → i ≤ length waiting → length origins ≡ count
    → ((j : ℕ) → j < count → (m : ℕ) × (m < length waiting) × (get_or targets m 0 ≡ first + j)) → AreMet waiting targets first s.classes i origins → AreOrigins s waiting targets count origins
met_all s waiting targets count first i origins first_is all end each used met = record {
  each = each;
  own = λ j below.
      let (k, k_in, at) = used j below in
      let (m, m_in, to, own) = met k j (omega arith) at in
      (m, omega arith, to ∙ ap (λ n. n + j) first_is, own);
}
