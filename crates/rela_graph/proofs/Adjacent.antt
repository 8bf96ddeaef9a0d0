-- Finding edges in order by the node that they come from.
use Rattle.std.proofs.Common.{◌≡◌, ℕ, ◌+◌, ◌-◌, ◌<◌, ◌≤◌, true, false, List, length, get_or, take, drop, inl, inr, arith, sym, ap, ◌∙◌, length-take, length-drop}
use Rattle.std.specs.Prelude.{nat_lt}
use Rattle.std.specs.Ordering.{is_lt}
use Rattle.std.specs.List.{All, AllWithin, Contains}
use Rattle.std.specs.List.Sorted.{IsSorted, IsPartitionPoint}
use Rattle.std.proofs.lemmas.Bool.{cases_lt, lt-ltb}
use Rattle.std.proofs.lemmas.List.{get_or-take, get_or-drop, get_or_read_under, get_or_default}
use Rattle.std.proofs.lemmas.List.Sorted.{sorted_far, ranks_by}
use Rattle.rela_graph.specs.Adjacency.{IsIndexed, link_cmp}
use Rattle.rela_graph.specs.Topology.{JoinsNodes}
use Rattle.rela_graph.specs.declared.node.Link.{Link}
use Rattle.rela_graph.proofs.Links.{links_total}

below_or_less : (x y : Link) → is_lt (link_cmp y x) ≡ false → x.a ≤ y.a
below_or_less x y h = elim (cases_lt y.a x.a) [
  | inl below ↦ let t : nat_lt y.a x.a ≡ true = lt-ltb y.a x.a below in let no : true ≡ false = rw t at h in cc
  | inr above ↦ above
]

-- the nodes that ordered edges come from do not fall
pub rises : (edges : List Link) → IsSorted link_cmp edges → (i j : ℕ) (d : Link) → i ≤ j → j < length edges → (get_or edges i d).a ≤ (get_or edges j d).a
rises edges up i j d order within =
    below_or_less (get_or edges i d) (get_or edges j d) (sorted_far (λ x y. is_lt (link_cmp x y)) (ranks_by links_total (λ (x : Link). x)) edges up i j d order within)

-- what comes from nodes before n stands before the first edge that doesn't
pub parted_here : (edges : List Link) (n i : ℕ) → IsSorted link_cmp edges → AllWithin (λ link. link.a < n) edges 0 i → ((d : Link) → i < length edges → n ≤ (get_or edges i d).a)
    → IsPartitionPoint (λ link. link.a < n) (λ link. n ≤ link.a) edges i
parted_here edges n i up low here = (
  low,
  λ k d behind within. let first = here d (omega arith) in let later = rises edges up i k d behind within in omega arith,
)

pub not_before : (edges : List Link) (n i : ℕ) (d e : Link) → i < length edges → n ≤ (get_or edges i e).a → n ≤ (get_or edges i d).a
not_before edges n i d e within above = let same = ap (λ (l : Link). l.a) (get_or_default edges i d e within) in omega (arith, above, same)

-- one more comes from a node before n
pub one_more_before : (edges : List Link) (n i : ℕ) → AllWithin (λ link. link.a < n) edges 0 i → ((d : Link) → (get_or edges i d).a < n) → AllWithin (λ link. link.a < n) edges 0 (i + 1)
one_more_before edges n i low here k d from below = elim (cases_lt k i) [
  | inl less ↦ low k d from less
  | inr more ↦ let same : k ≡ i = omega arith in rw same (here d)
]

pub later_node : (edges : List Link) (n m i : ℕ) → n ≤ m → AllWithin (λ link. link.a < n) edges 0 i → AllWithin (λ link. link.a < m) edges 0 i
later_node edges n m i le low k d from below = let one = low k d from below in omega arith

-- the edges from n stand between the offsets of n and of the node after it
module _ (edges : List Link) (offsets : List ℕ) (count n from to : ℕ) (indexed : IsIndexed count edges offsets) (node : n < count)
    (from_is : from ≡ get_or offsets n from) (to_is : to ≡ get_or offsets (n + 1) to) where
  start : get_or offsets n 0 ≡ from
  start = sym (get_or_read_under offsets n (count + 1) from 0 from_is (omega arith) (sym indexed.len))

  end : get_or offsets (n + 1) 0 ≡ to
  end = sym (get_or_read_under offsets (n + 1) (count + 1) to 0 to_is (omega arith) (sym indexed.len))

  pub from_within : from ≤ length edges
  from_within = rw (start) at (indexed.within n (omega arith))

  pub to_within : to ≤ length edges
  to_within = rw (end) at (indexed.within (n + 1) (omega arith))

  at_start : IsPartitionPoint (λ link. link.a < n) (λ link. n ≤ link.a) edges from
  at_start = rw (start) at (indexed.parted n (omega arith))

  at_end : IsPartitionPoint (λ link. link.a < n + 1) (λ link. n + 1 ≤ link.a) edges to
  at_end = rw (end) at (indexed.parted (n + 1) (omega arith))

  pub from_before_to : from ≤ to
  from_before_to = elim (cases_lt to from) [
    | inl below ↦
        let d : Link = record { a = 0; b = 0 } in
        let low = at_start.0 to d (omega arith) below in
        let high = at_end.1 to d (omega arith) (let w = from_within in omega arith) in
        absurd (omega arith)
    | inr above ↦ above
  ]

  pub part_length : length (take (to - from) (drop from edges)) ≡ to - from
  part_length = let w = to_within in let v = from_before_to in simp (length-take, length-drop) (omega arith)

  part_at : (k : ℕ) (d : Link) → k < to - from → get_or (take (to - from) (drop from edges)) k d ≡ get_or edges (from + k) d
  part_at k d h = rw (get_or-take, get_or-drop)

  -- each edge between comes from n
  pub each_from : All (JoinsNodes count) edges → (k : ℕ) (d : Link) → k < length (take (to - from) (drop from edges))
      → ((get_or (take (to - from) (drop from edges)) k d).a ≡ n) × ((get_or (take (to - from) (drop from edges)) k d).b < count)
      × Contains edges (record { a = n; b = (get_or (take (to - from) (drop from edges)) k d).b })
  each_from joins k d within =
      let small : k < to - from = rw (part_length) at within in
      let w = to_within in
      let link : Link = get_or edges (from + k) d in
      let high : link.a < n + 1 = at_end.0 (from + k) d (omega arith) (omega arith) in
      let low : n ≤ link.a = at_start.1 (from + k) d (omega arith) (omega arith) in
      let same : link.a ≡ n = omega arith in
      let there : from + k < length edges = omega arith in
      let found : get_or edges (from + k) (record { a = n; b = link.b }) ≡ record { a = n; b = link.b } =
      get_or_default edges (from + k) (record { a = n; b = link.b }) d there ∙ ap (λ (a : ℕ). record { a = a; b = link.b }) same in
      rw (part_at k d small) (same, (joins (from + k) d there).1, (from + k, there, found))

  -- each edge from n stands between
  pub all_from : (b : ℕ) → Contains edges (record { a = n; b = b }) → Contains (take (to - from) (drop from edges)) (record { a = n; b = b })
  all_from b h =
      let link : Link = record { a = n; b = b } in
      let from_node : (get_or edges h.0 link).a ≡ n = ap (λ (l : Link). l.a) h.2 in
      let low : from ≤ h.0 = elim (cases_lt h.0 from) [ inl below ↦ let l = at_start.0 h.0 link (omega arith) below in absurd (omega arith) | inr above ↦ above ] in
      let high : h.0 < to = elim (cases_lt h.0 to) [ inl below ↦ below | inr above ↦ let l = at_end.1 h.0 link above h.1 in absurd (omega arith) ] in
      let small : h.0 - from < to - from = omega arith in
      let place : from + (h.0 - from) ≡ h.0 = omega arith in
      (h.0 - from, rw (part_length) small, part_at (h.0 - from) link small ∙ rw place h.2)
