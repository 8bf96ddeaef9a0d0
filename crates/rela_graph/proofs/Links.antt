-- Edges in order.
use Rattle.std.proofs.Common.{zero, suc, ◌≡◌, ℕ, ◌↔◌, true, List, [], ◌∷◌, arith, refl, sym, ap, subst, ◌∙◌, rules, add-one}
use Rattle.std.specs.Bool.{Decides}
use Rattle.std.specs.Cmp.{IsTotalOrder, IsEquivalence}
use Rattle.std.specs.Cmp.Rules.{comparing}
use Rattle.std.specs.declared.cmp.Ordering.{Ordering}
use Rattle.std.specs.declared.cmp.Ordering.TheVariants.{Less, Equal, Greater}
use Rattle.std.specs.Ordering.{nat_cmp, is_lt, is_eq, eq_by_cmp, ordering_reverse}
use Rattle.std.specs.List.{Contains, dedup}
use Rattle.std.specs.List.Retain.{IsFiltered, DiffersFromLast}
use Rattle.std.specs.List.Sorted.{IsSorted, IsStrictlySortedBy, IsPermutation}
use Rattle.std.proofs.lemmas.Cmp.{then_total, on_total, nat_cmp_total}
use Rattle.std.proofs.lemmas.List.Elements.{All-from_recursion}
use Rattle.std.proofs.lemmas.List.Filters.{dedup_is}
use Rattle.std.proofs.lemmas.List.Kept.{Contains-dedup, Contains-from_dedup, IsStrictlySortedBy-dedup}
use Rattle.std.proofs.lemmas.List.Sorted.{Contains-permutation, IsPermutation-sym}
use Rattle.std.proofs.lemmas.Map.Lookups.{exact_pairs, exact_unsigned}
use Rattle.rela_graph.specs.Adjacency.{link_cmp}
use Rattle.rela_graph.specs.Outline.{same_link}
use Rattle.rela_graph.specs.declared.node.Link.{Link}

pub links_total : IsTotalOrder link_cmp
links_total = then_total (on_total (λ (l : Link). l.a) nat_cmp_total) (on_total (λ (l : Link). l.b) nat_cmp_total)

-- edges that compare alike are one
pub same_links : (x y : Link) → link_cmp x y ≡ Equal → x ≡ y
same_links x y h = ap (λ (p : ℕ × ℕ). record { a = p.0; b = p.1 }) (exact_pairs nat_cmp nat_cmp exact_unsigned exact_unsigned (x.a, x.b) (y.a, y.b) h)

pub links_alike : IsEquivalence same_link
links_alike = search (comparing, rules)

links_tie : (x y : Link) → same_link x y ≡ eq_by_cmp link_cmp x y
links_tie x y = search (comparing, rules)

equal_links : (x y : Link) → same_link x y ≡ true → x ≡ y
equal_links x y h = same_links x y (equal_of (link_cmp x y) (sym (links_tie x y) ∙ h))
  where
    equal_of : (o : Ordering) → is_eq o ≡ true → o ≡ Equal
    equal_of Less h = cc
    equal_of Equal h = refl
    equal_of Greater h = cc

-- the derived `==` decides whether edges are one
pub links_decide : (x y : Link) → Decides (same_link x y) (x ≡ y)
links_decide x y = (equal_links x y, λ e. subst (λ z. same_link x z ≡ true) e (links_alike.refl x))

-- a list in strict order is in order
sorted_from_strict : (xs : List Link) → IsStrictlySortedBy link_cmp xs → IsSorted link_cmp xs
unfolding IsStrictlySortedBy
sorted_from_strict [] s k d low within = absurd (omega arith)
sorted_from_strict (x ∷ []) s k d low within = absurd (omega arith)
sorted_from_strict (x ∷ y ∷ ys) s zero d low within =
    let up : link_cmp x y ≡ Less = All-from_recursion (λ z. link_cmp x z ≡ Less) (y ∷ ys) s.0 0 d (omega arith) in
    ap is_lt (links_total.antisymm y x) ∙ ap (λ o. is_lt (ordering_reverse o)) up
sorted_from_strict (x ∷ y ∷ ys) s (suc k) d low within =
    rw add-one (rw add-one at (sorted_from_strict (y ∷ ys) s.1 k d (omega arith) (omega arith)))

-- what is left of a sorted list has the same edges, in order
module _ (edges ordered left : List Link) (moved : IsPermutation edges ordered) (up : IsSorted link_cmp ordered) (kept : IsFiltered (DiffersFromLast same_link) [] ordered left) where
  pub same_edges : (link : Link) → Contains left link ↔ Contains edges link
  same_edges link = (
    λ h. Contains-permutation ordered edges link (IsPermutation-sym edges ordered moved) (Contains-from_dedup same_link ordered link (rw (dedup_is same_link ordered left kept) at h)),
    λ h. rw (dedup_is same_link ordered left kept) (Contains-dedup links_alike equal_links ordered link (Contains-permutation edges ordered link moved h)),
  )

  pub still_ordered : IsSorted link_cmp left
  still_ordered = rw (dedup_is same_link ordered left kept) (sorted_from_strict (dedup same_link ordered) (IsStrictlySortedBy-dedup links_total links_tie ordered up))
