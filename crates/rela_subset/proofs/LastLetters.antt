-- Words that get a last letter, in shortlex order.
use Rattle.std.proofs.Common.{◌≡◌, ℕ, ◌<◌, List, [], ◌∷◌, ◌++◌, length, refl, sym, ap, ◌∙◌, subst, inl, inr, arith}
use Rattle.std.proofs.lemmas.List.{length_push}
use Rattle.rela_names.specs.Shortlex.{IsBefore, IsSmaller}
use Rattle.rela_subset.specs.Expansion.{IsUpTo}

smaller_push : (u v : List ℕ) (j k : ℕ) → length u ≡ length v → IsSmaller u v → IsSmaller (u ++ j ∷ []) (v ++ k ∷ [])
smaller_push [] v j k same smaller = absurd smaller
smaller_push (x ∷ u) [] j k same smaller = absurd smaller
smaller_push (x ∷ u) (y ∷ v) j k same smaller = elim smaller [
  | inl below ↦ inl below
  | inr later ↦ inr (later.0, smaller_push u v j k (omega arith) later.1)
]

-- a letter more keeps the order
pub before_push : (u v : List ℕ) (j k : ℕ) → IsBefore u v → IsBefore (u ++ j ∷ []) (v ++ k ∷ [])
before_push u v j k before =
    let u_len = length_push u j in let v_len = length_push v k in
    elim before [
      | inl shorter ↦ inl (omega arith)
      | inr equal ↦ inr (let same = equal.0 in omega arith, smaller_push u v j k equal.0 equal.1)
    ]

last_smaller : (u : List ℕ) (j k : ℕ) → j < k → IsSmaller (u ++ j ∷ []) (u ++ k ∷ [])
last_smaller [] j k below = inl below
last_smaller (x ∷ u) j k below = inr (refl, last_smaller u j k below)

pub before_last : (u : List ℕ) (j k : ℕ) → j < k → IsBefore (u ++ j ∷ []) (u ++ k ∷ [])
before_last u j k below = inr (length_push u j ∙ sym (length_push u k), last_smaller u j k below)

pub nil_before : (u : List ℕ) (k : ℕ) → IsBefore [] (u ++ k ∷ [])
nil_before u k = inl (omega (arith, length_push u k))

pub upto_push : (u v : List ℕ) (k : ℕ) → IsUpTo u v → IsUpTo (u ++ k ∷ []) (v ++ k ∷ [])
upto_push u v k upto = elim upto [ inl same ↦ inl (ap (λ w. w ++ k ∷ []) same) | inr before ↦ inr (before_push u v k k before) ]

-- the laws of the order
abbrev pub IsTransitive : Type 0
IsTransitive = (u v w : List ℕ) → IsBefore u v → IsBefore v w → IsBefore u w

pub record IsOrder : Type 0 where
  pub irreflexive : (u : List ℕ) → ¬ IsBefore u u
  pub transitive : IsTransitive

module _ (transitive : IsTransitive) where
  pub upto_transitive : (u v w : List ℕ) → IsUpTo u v → IsUpTo v w → IsUpTo u w
  upto_transitive u v w first second = elim first [
    | inl same ↦ subst (λ x. IsUpTo x w) (sym same) second
    | inr before ↦ elim second [
      | inl same ↦ inr (subst (λ x. IsBefore u x) same before)
      | inr later ↦ inr (transitive u v w before later)
    ]
  ]

  pub before_upto : (u v w : List ℕ) → IsBefore u v → IsUpTo v w → IsBefore u w
  before_upto u v w before upto = elim upto [ inl same ↦ subst (λ x. IsBefore u x) same before | inr later ↦ transitive u v w before later ]

  -- what is not after a word is before what comes after that word
  pub upto_before : (u v w : List ℕ) → IsUpTo u v → IsBefore v w → IsBefore u w
  upto_before u v w upto before = elim upto [ inl same ↦ subst (λ x. IsBefore x w) (sym same) before | inr earlier ↦ transitive u v w earlier before ]
