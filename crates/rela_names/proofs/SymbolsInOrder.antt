-- The numbers of symbols ascend as the symbols do.
use Rattle.std.proofs.Common.{◌≡◌, ℕ, ◌+◌, ◌-◌, ◌<◌, inl, inr, List, [], length, get_or, arith}
use Rattle.std.proofs.lemmas.Bool.{cases_lt}
use Rattle.std.proofs.lemmas.Grind.{common_steps}
use Rattle.rela_names.specs.Name.{IsAscending}
use Rattle.rela_names.specs.Symbol.{Meaning, Location, Drop, Loop, Marker, meaning_of, SymbolOrder}

location_at : (names : List (List ℕ)) (s : ℕ) → s < length names → meaning_of names s ≡ Location (get_or names s [])
location_at names s within = grind (arith, common_steps)

drop_at : (names : List (List ℕ)) (s : ℕ) → s ≡ length names → meaning_of names s ≡ Drop
drop_at names s is = grind (arith, common_steps)

loop_at : (names : List (List ℕ)) (s : ℕ) → s ≡ length names + 1 → meaning_of names s ≡ Loop
loop_at names s is = grind (arith, common_steps)

marker_at : (names : List (List ℕ)) (s : ℕ) → length names + 1 < s → meaning_of names s ≡ Marker (s - (length names + 1))
marker_at names s above = grind (arith, common_steps)

-- the meaning of a symbol, by cases
meaning_cases : (P : Meaning → Type 0) (names : List (List ℕ)) (s : ℕ) → (s < length names → P (Location (get_or names s [])))
    → (s ≡ length names → P Drop) → (s ≡ length names + 1 → P Loop) → (length names + 1 < s → P (Marker (s - (length names + 1))))
    → P (meaning_of names s)
meaning_cases P names s location drop loop marker =
    elim (cases_lt s (length names)) [
      | inl within ↦ rw (location_at names s within) (location within)
      | inr past ↦ elim (cases_lt (length names) s) [
        | inr not_past ↦ let is : s ≡ length names = omega arith in rw (drop_at names s is) (drop is)
        | inl above ↦ elim (cases_lt (length names + 1) s) [
          | inl far ↦ rw (marker_at names s far) (marker far)
          | inr not_far ↦ let is : s ≡ length names + 1 = omega arith in rw (loop_at names s is) (loop is)
        ]
      ]
    ]

pub in_order : (names : List (List ℕ)) → IsAscending names → (s t : ℕ) → s < t → SymbolOrder (meaning_of names s) (meaning_of names t)
in_order names ascending s t below =
    meaning_cases (λ m. SymbolOrder m (meaning_of names t)) names s
    (λ s_is. meaning_cases (λ m. SymbolOrder (Location (get_or names s [])) m) names t
    (λ t_is. ascending s t [] below t_is) (λ t_is. tt) (λ t_is. tt) (λ t_is. tt))
    (λ s_is. meaning_cases (λ m. SymbolOrder Drop m) names t
    (λ t_is. absurd (omega arith)) (λ t_is. absurd (omega arith)) (λ t_is. tt) (λ t_is. tt))
    (λ s_is. meaning_cases (λ m. SymbolOrder Loop m) names t
    (λ t_is. absurd (omega arith)) (λ t_is. absurd (omega arith)) (λ t_is. absurd (omega arith)) (λ t_is. tt))
    (λ s_is. meaning_cases (λ m. SymbolOrder (Marker (s - (length names + 1))) m) names t
    (λ t_is. absurd (omega arith)) (λ t_is. absurd (omega arith)) (λ t_is. absurd (omega arith)) (λ t_is. omega arith))
