-- Induction on words along the shortlex order.
use Rattle.std.proofs.Common.{zero, suc, ◌≡◌, ℕ, ◌+◌, ◌<◌, List, [], ◌∷◌, length, inl, inr, arith, refl, sym, subst}
use Rattle.rela_names.specs.Shortlex.{IsSmaller, IsBefore}

-- what holds of a number where it holds of all smaller ones holds of each
by_smaller : (P : ℕ → Type 0) → ((k : ℕ) → ((j : ℕ) → j < k → P j) → P k) → (k : ℕ) → P k
by_smaller P step k = below P step (k + 1) k (omega arith)
  where
    below : (P : ℕ → Type 0) → ((k : ℕ) → ((j : ℕ) → j < k → P j) → P k) → (n k : ℕ) → k < n → P k
    below P step zero k less = absurd (omega arith)
    below P step (suc n) k less = step k (λ j smaller. below P step n j (omega arith))

-- what is smaller than a word has a smaller first symbol, or the same one and then a smaller rest
smaller_cases : (n : ℕ) (P : List ℕ → Type 0) (s : ℕ) (v : List ℕ)
    → ((r : ℕ) → r < s → (u : List ℕ) → length u ≡ n → P (r ∷ u))
    → ((u : List ℕ) → length u ≡ n → IsSmaller u v → P (s ∷ u))
    → (u : List ℕ) → length u ≡ n + 1 → IsSmaller u (s ∷ v) → P u
smaller_cases n P s v first rest [] long smaller = absurd smaller
smaller_cases n P s v first rest (r ∷ u) long smaller = elim smaller [
  | inl less ↦ first r less u (omega arith)
  | inr both ↦ subst (λ (t : ℕ). P (t ∷ u)) (sym both.0) (rest u (omega arith) both.1)
]

-- what holds of a word where it holds of all smaller ones of its length holds of each word of that length
by_smaller_words : (n : ℕ) (P : List ℕ → Type 0)
    → ((w : List ℕ) → length w ≡ n → ((u : List ℕ) → length u ≡ n → IsSmaller u w → P u) → P w)
    → (w : List ℕ) → length w ≡ n → P w
by_smaller_words zero P step [] long = step [] long (λ u u_long smaller. absurd (none u smaller))
  where
    none : (u : List ℕ) → ¬ IsSmaller u []
    none [] smaller = smaller
    none (s ∷ u) smaller = smaller
by_smaller_words zero P step (s ∷ w) long = absurd (omega arith)
by_smaller_words (suc n) P step [] long = absurd (omega arith)
by_smaller_words (suc n) P step (s ∷ w) long =
    by_smaller (λ r. (v : List ℕ) → length v ≡ n → P (r ∷ v))
    (λ r first.
    by_smaller_words n (λ v. P (r ∷ v))
    (λ v v_long rest. step (r ∷ v) (omega arith) (λ u u_long. smaller_cases n P r v first rest u (omega arith))))
    s w (omega arith)

-- what holds of a word where it holds of all earlier ones holds of each
pub by_earlier : (P : List ℕ → Type 0) → ((w : List ℕ) → ((u : List ℕ) → IsBefore u w → P u) → P w) → (w : List ℕ) → P w
by_earlier P step w =
    by_smaller (λ n. (v : List ℕ) → length v ≡ n → P v)
    (λ n shorter.
    by_smaller_words n P (λ v long smaller.
    step v (λ u before. elim before [
      | inl less ↦ shorter (length u) (omega arith) u refl
      | inr both ↦ smaller u (omega (arith, both.0)) both.1
    ])))
    (length w) w refl
