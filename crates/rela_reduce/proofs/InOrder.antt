-- States in an order.
use Rattle.std.proofs.Common.{◌≡◌, ℕ, ◌+◌, ◌<◌, List, [], ◌∷◌, ◌++◌, drop, take, sym, ap, subst, inl, inr, arith}
use Rattle.std.specs.List.{Contains}
use Rattle.std.proofs.lemmas.Bool.{cases_eq}
use Rattle.std.proofs.lemmas.List.{take-append-drop}
use Rattle.std.proofs.lemmas.List.Elements.{Contains-append_left, Contains-push, Contains-push_cases}
use Rattle.rela_reduce.specs.declared.ranking.Ranked.{Ranked}

pub ranked_below : (order : List Ranked) (r : Ranked) → ((s : Ranked) → Contains order s → s.state < r.state) → (s : Ranked) → Contains (order ++ r ∷ []) s → s.state < r.state + 1
ranked_below order r so_far s listed = elim (Contains-push_cases order r s listed) [
  | inl before ↦ let below = so_far s before in omega arith
  | inr same ↦ let is : r.state ≡ s.state = ap (λ (t : Ranked). t.state) same in omega arith
]

pub ranked_each : (order : List Ranked) (r : Ranked) → ((p : ℕ) → p < r.state → (s : Ranked) × Contains order s × (s.state ≡ p)) → (p : ℕ) → p < r.state + 1
    → (s : Ranked) × Contains (order ++ r ∷ []) s × (s.state ≡ p)
ranked_each order r so_far p below = elim (cases_eq p r.state) [
  | inl same ↦ (r, Contains-push order r, sym same)
  | inr other ↦ let (s, listed, is) = so_far p (omega arith) in (s, Contains-append_left order (r ∷ []) s listed, is)
]

pub among_taken : (order : List Ranked) (i : ℕ) (r : Ranked) → Contains (take i order) r → Contains order r
among_taken order i r listed = subst (λ (all : List Ranked). Contains all r) (take-append-drop i order) (Contains-append_left (take i order) (drop i order) r listed)
