-- The right states of the pairs of a list, each marked.
use Rattle.std.proofs.Common.{◌≡◌, ℕ, ◌+◌, ◌<◌, ◌↔◌, Bool, true, false, List, [], ◌∷◌, ◌++◌, length, get_or, take, IsTrue, inl, inr, sym, ap, ◌∙◌, subst}
use Rattle.std.specs.List.{Contains}
use Rattle.std.proofs.Math.ListN.{set}
use Rattle.std.proofs.lemmas.Bool.{cases_eq}
use Rattle.std.proofs.lemmas.List.{get_or-set_same, get_or-set_other, take_more}
use Rattle.std.proofs.lemmas.List.Elements.{Contains-append_left, Contains-push, Contains-push_cases}
use Rattle.rela_pairs.specs.declared.pair.Pair.{Pair}
use Rattle.rela_nfa.specs.Meeting.{pair_of}

-- the state is the right one of some pair
abbrev pub IsRight : List Pair → ℕ → Type 0
IsRight pairs q = (p : ℕ) × Contains pairs (pair_of p q)

pub right_more : (flags : List Bool) (pairs : List Pair) (i : ℕ) (d : Pair) → i < length pairs → (get_or pairs i d).right < length flags
    → ((q : ℕ) → IsTrue (get_or flags q false) ↔ IsRight (take i pairs) q)
    → (q : ℕ) → IsTrue (get_or (set flags (get_or pairs i d).right true) q false) ↔ IsRight (take (i + 1) pairs) q
right_more flags pairs i d below within marked q = elim (cases_eq q x.right) [
  | inl here ↦ (
    λ _. subst (λ l. IsRight l q) (sym more) (x.left, subst (λ n. Contains (take i pairs ++ x ∷ []) (pair_of x.left n)) (sym here) (Contains-push (take i pairs) x)),
    λ _. subst (λ n. IsTrue (get_or (set flags x.right true) n false)) (sym here) (get_or-set_same flags x.right true false within),
  )
  | inr other ↦ (
    λ is.
        let old = (marked q).0 (sym (get_or-set_other flags x.right q true false other) ∙ is) in
        subst (λ l. IsRight l q) (sym more) (old.0, Contains-append_left (take i pairs) (x ∷ []) (pair_of old.0 q) old.1),
    λ (p, among). get_or-set_other flags x.right q true false other
        ∙ elim (Contains-push_cases (take i pairs) x (pair_of p q) (subst (λ l. Contains l (pair_of p q)) more among)) [
          | inl old ↦ (marked q).1 (p, old)
          | inr new ↦ absurd (other (sym (ap (λ (y : Pair). y.right) new)))
        ],
  )
]
  where
    x : Pair
    x = get_or pairs i d

    more : take (i + 1) pairs ≡ take i pairs ++ x ∷ []
    more = take_more pairs i d below
