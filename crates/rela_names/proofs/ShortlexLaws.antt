-- The shortlex order is a strict total order, so a set of words has at most one first word.
use Rattle.std.proofs.Common.{◌≡◌, ◌≢◌, ℕ, ◌⊎◌, inl, inr, List, [], ◌∷◌, length, arith, refl, sym}
use Rattle.std.proofs.lemmas.Bool.{cases_lt}
use Rattle.rela_names.specs.Shortlex.{IsSmaller, IsBefore, First}

smaller_irreflexive : (u : List ℕ) → ¬ IsSmaller u u
smaller_irreflexive [] h = h
smaller_irreflexive (x ∷ u) h = elim h [ inl lt ↦ omega arith | inr r ↦ smaller_irreflexive u r.1 ]

smaller_transitive : (u v w : List ℕ) → IsSmaller u v → IsSmaller v w → IsSmaller u w
smaller_transitive [] v w h k = absurd h
smaller_transitive (x ∷ u) [] w h k = absurd h
smaller_transitive (x ∷ u) (y ∷ v) [] h k = absurd k
smaller_transitive (x ∷ u) (y ∷ v) (z ∷ w) h k =
    elim h [
      | inl xy ↦ elim k [ inl yz ↦ inl (omega arith) | inr r ↦ inl (let e = r.0 in omega arith) ]
      | inr q ↦ elim k [ inl yz ↦ inl (let e = q.0 in omega arith) | inr r ↦ inr (cc, smaller_transitive u v w q.1 r.1) ]
    ]

-- of two words of one length, the first is smaller, they are equal, or the second is smaller
smaller_or_equal : (u v : List ℕ) → length u ≡ length v → IsSmaller u v ⊎ ((u ≡ v) ⊎ IsSmaller v u)
smaller_or_equal [] [] e = inr (inl refl)
smaller_or_equal [] (y ∷ v) e = absurd (omega arith)
smaller_or_equal (x ∷ u) [] e = absurd (omega arith)
smaller_or_equal (x ∷ u) (y ∷ v) e =
    elim (cases_lt x y) [
      | inl xy ↦ inl (inl xy)
      | inr yx ↦ elim (cases_lt y x) [
        | inl yx' ↦ inr (inr (inl yx'))
        | inr xy ↦
            let same : x ≡ y = omega arith in
            elim (smaller_or_equal u v (omega arith)) [
              | inl s ↦ inl (inr (same, s))
              | inr r ↦ elim r [ inl s ↦ inr (inl cc) | inr s ↦ inr (inr (inr (sym same, s))) ]
            ]
      ]
    ]

pub before_irreflexive : (u : List ℕ) → ¬ IsBefore u u
before_irreflexive u h = elim h [ inl lt ↦ omega arith | inr r ↦ smaller_irreflexive u r.1 ]

pub before_transitive : (u v w : List ℕ) → IsBefore u v → IsBefore v w → IsBefore u w
before_transitive u v w h k =
    elim h [
      | inl xy ↦ elim k [ inl yz ↦ inl (omega arith) | inr r ↦ inl (let e = r.0 in omega arith) ]
      | inr q ↦ elim k [
        | inl yz ↦ inl (let e = q.0 in omega arith)
        | inr r ↦ inr (cc, smaller_transitive u v w q.1 r.1)
      ]
    ]

-- the first is before the second, they are equal, or the second is before the first
pub before_or_equal : (u v : List ℕ) → IsBefore u v ⊎ ((u ≡ v) ⊎ IsBefore v u)
before_or_equal u v =
    elim (cases_lt (length u) (length v)) [
      | inl uv ↦ inl (inl uv)
      | inr vu ↦ elim (cases_lt (length v) (length u)) [
        | inl vu' ↦ inr (inr (inl vu'))
        | inr uv ↦
            let same : length u ≡ length v = omega arith in
            elim (smaller_or_equal u v same) [
              | inl s ↦ inl (inr (same, s))
              | inr r ↦ elim r [ inl s ↦ inr (inl s) | inr s ↦ inr (inr (inr (sym same, s))) ]
            ]
      ]
    ]

pub before_total : (u v : List ℕ) → u ≢ v → IsBefore u v ⊎ IsBefore v u
before_total u v apart =
    elim (before_or_equal u v) [ inl h ↦ inl h | inr r ↦ elim r [ inl e ↦ absurd (apart e) | inr h ↦ inr h ] ]

pub same_first : (X : List ℕ → Type 0) (v w : List ℕ) → First X v → First X w → v ≡ w
same_first X v w fv fw =
    elim (before_or_equal v w) [
      | inl h ↦ absurd (fw.least v fv.member h)
      | inr r ↦ elim r [ inl e ↦ e | inr h ↦ absurd (fv.least w fw.member h) ]
    ]
