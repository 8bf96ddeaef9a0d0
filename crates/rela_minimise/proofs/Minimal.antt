-- What makes an automaton minimal, and the automaton of the same words.
use Rattle.std.proofs.Common.{◌≡◌, ℕ, ◌↔◌, true, List, [], ◌∷◌, ◌++◌, refl, sym, subst, inl, inr, arith}
use Rattle.std.proofs.lemmas.Bool.{cases_lt}
use Rattle.std.proofs.lemmas.List.Elements.{All-nil}
use Rattle.rela_labels.specs.Letters.{has}
use Rattle.rela_names.specs.Shortlex.{IsBefore}
use Rattle.rela_subset.specs.Deterministic.{Deterministic, IsAccepted, IsByArrival, IsOver, IsReachable, state_after}
use Rattle.rela_minimise.specs.Classes.{AreAlike, IsMinimal}
use Rattle.rela_minimise.proofs.Alike.{minimal}

none_before : (word : List ℕ) → ¬ IsBefore word []
none_before [] (inl less) = omega (arith, less)
none_before [] (inr (same, smaller)) = smaller
none_before (k ∷ rest) (inl less) = omega (arith, less)
none_before (k ∷ rest) (inr (same, smaller)) = smaller

-- the empty word arrives first
pub starts_first : (d : Deterministic) → IsByArrival d → d.start ≡ 0
starts_first d arrival = elim (cases_lt 0 d.start) [
  | inl later ↦
      let (earlier, leads, before) = arrival 0 d.start [] later (All-nil (λ k. has d.over k ≡ true), refl) in
      absurd (none_before earlier before)
  | inr not_later ↦ omega arith
]

-- the same continuations tell words apart in automata of the same words
pub alike_same : (d e : Deterministic) → e.over ≡ d.over → ((word : List ℕ) → IsAccepted e word ↔ IsAccepted d word) → (v w : List ℕ) → AreAlike e v w ↔ AreAlike d v w
alike_same d e over language v w = (
  λ alike rest read.
      let is = alike rest (subst (λ o. IsOver o rest) (sym over) read) in (
        λ accepted. (language (w ++ rest)).0 (is.0 ((language (v ++ rest)).1 accepted)),
        λ accepted. (language (v ++ rest)).0 (is.1 ((language (w ++ rest)).1 accepted)),
      ),
  λ alike rest read.
      let is = alike rest (subst (λ o. IsOver o rest) over read) in (
        λ accepted. (language (w ++ rest)).1 (is.0 ((language (v ++ rest)).0 accepted)),
        λ accepted. (language (v ++ rest)).1 (is.1 ((language (w ++ rest)).0 accepted)),
      ),
)

-- where words lead to one state that no continuation tells apart, no two states that words reach accept the same words
pub made_minimal : (d m : Deterministic) → m.over ≡ d.over → ((word : List ℕ) → IsAccepted m word ↔ IsAccepted d word)
    → ((v w : List ℕ) → IsOver d.over v → IsOver d.over w → (state_after m v ≡ state_after m w) ↔ AreAlike d v w) → IsReachable m → IsMinimal m
made_minimal d m over language classes reachable = minimal m reachable (λ v w v_over w_over alike.
    (classes v w (subst (λ o. IsOver o v) over v_over) (subst (λ o. IsOver o w) over w_over)).1 ((alike_same d m over language v w).0 alike))
