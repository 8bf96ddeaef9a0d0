-- The letters that are left where a block of them is taken away.
use Rattle.std.proofs.Common.{◌≡◌, ℕ, ◌<◌, ◌≤◌, ◌⊎◌, Bool, true, false, not, ◌&&◌, List, refl, sym, ◌∙◌, subst, inl, inr, arith}
use Rattle.std.proofs.lemmas.Bool.{cases_lt, false≢true}
use Rattle.rela_labels.specs.Letters.{has}
use Rattle.rela_nfa.specs.Automaton.{Automaton}
use Rattle.rela_subset.specs.Expansion.{IsAlike}

-- a letter is alike itself
pub itself : (a : Automaton) (rest block : List Bool) (set : List ℕ) (letter : ℕ) → has rest letter ≡ true → IsAlike a set rest letter block → has block letter ≡ true
itself a rest block set letter among alike = (alike letter).1 (among, λ i d below j e inside. refl)

module _ (a : Automaton) (rest rest' block : List Bool) (set : List ℕ) (letter : ℕ)
    (among : has rest letter ≡ true) (least : (k : ℕ) → k < letter → has rest k ≡ false)
    (alike : IsAlike a set rest letter block) (cut : (k : ℕ) → has rest' k ≡ (has rest k && not (has block k))) where
  pub in_rest : (k : ℕ) → has block k ≡ true → has rest k ≡ true
  in_rest k h = ((alike k).0 h).0

  pub not_before : (k : ℕ) → has rest k ≡ true → letter ≤ k
  not_before k h = elim (cases_lt k letter) [ inl below ↦ absurd (false≢true (sym (least k below) ∙ h)) | inr above ↦ above ]

  pub still : (k : ℕ) → has rest' k ≡ true → has rest k ≡ true
  still k h = first (has rest k) (has block k) (sym (cut k) ∙ h)
    where
      first : (x y : Bool) → (x && not y) ≡ true → x ≡ true
      first true y e = refl
      first false y e = e

  pub after : (k : ℕ) → has rest' k ≡ true → letter < k
  after k h = elim (cases_lt letter k) [
    | inl below ↦ below
    | inr above ↦
        let upto = not_before k (still k h) in
        let same : letter ≡ k = omega arith in
        absurd (taken (has rest k) (has block k) (subst (λ n. has block n ≡ true) same (itself a rest block set letter among alike)) (sym (cut k) ∙ h))
  ]
    where
      taken : (x y : Bool) → y ≡ true → (x && not y) ≡ true → ⊥
      taken true true e f = false≢true f
      taken true false e f = false≢true e
      taken false y e f = false≢true f

  -- a letter of this block, or of one before
  pub before_or_here : (k : ℕ) → has rest' k ≡ false → (has rest k ≡ false) ⊎ ((has rest k ≡ true) × (has block k ≡ true))
  before_or_here k h = which (has rest k) (has block k) refl refl (sym (cut k) ∙ h)
    where
      which : (x y : Bool) → has rest k ≡ x → has block k ≡ y → (x && not y) ≡ false → (has rest k ≡ false) ⊎ ((has rest k ≡ true) × (has block k ≡ true))
      which true true e f g = inr (e, f)
      which true false e f g = absurd (false≢true (sym g))
      which false y e f g = inl e
