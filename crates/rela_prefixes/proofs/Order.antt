-- Leaves that follow one another: where an address lies, and which classes they are.
use Rattle.std.proofs.Common.{◌≡◌, ◌∙◌, refl, sym, ap, subst, ℕ, zero, suc, ◌+◌, ◌-◌, ◌^◌, ◌<◌, ◌≤◌, ⊎_elim, inl, List, [], ◌∷◌, ◌++◌, length, get_or, Option, Some, None, arith}
use Rattle.std.specs.Prelude.{slice_get, option_map}
use Rattle.std.specs.List.{All, Contains}
use Rattle.std.specs.List.Sorted.{IsNonDecreasingBy, IsPartitionPoint, IsPermutation}
use Rattle.std.proofs.lemmas.Bool.{cases_lt}
use Rattle.std.proofs.lemmas.List.Elements.{All-cons, All-map, All-weaker}
use Rattle.std.proofs.lemmas.List.Sorted.{All-permutation, Contains-permutation}
use Rattle.std.proofs.lemmas.Option.{slice_get-map, slice_get-get_or, slice_get_within, get_or_from_slice_get, none-some, same_Some}
use Rattle.rela_flows.specs.declared.prefix.Ipv4Prefix.{Ipv4Prefix}
use Rattle.rela_prefixes.specs.declared.leaf.Leaf.{Leaf}
use Rattle.rela_prefixes.specs.declared.leaf.Numbered.{Numbered}
use Rattle.rela_prefixes.specs.Classes.{Adjoin, AreClasses, IsClass, IsInOne, IsParent}
use Rattle.rela_prefixes.specs.Holding.{Holds, HoldsAllOrNone, IsStrictlyWithin}
use Rattle.rela_prefixes.specs.Inside.{AreNumbered, IsAbove, IsInside, IsKnown, IsNumbered, rank}
use Rattle.rela_prefixes.specs.Leaves.{AreLeaves, HasLeaves, IsLeaf, cells}
use Rattle.rela_prefixes.specs.Longest.{Longest, LongestWanted}
use Rattle.rela_prefixes.proofs.Cells.{size, from_first, before_end, holds_from, holds_own}
use Rattle.rela_prefixes.proofs.Cutting.{at_of}
use Rattle.rela_prefixes.proofs.Nesting.{AreApart, all_held, all_or_none, first_held, first_of_within, same_prefix, within_from_first}

-- ---- the whole trie

root_inside : (root p : Ipv4Prefix) → root.address ≡ 0 → root.length ≡ 0 → IsInside root p
root_inside root p first short = record {
  begins = holds_from root p.address (omega (arith, first)) (let h : size root.length ≡ 2 ^ 32 = ap size short in omega (arith, h, p.address_fits));
  long = omega (arith, short);
}

numbered_inside : (prefixes : List Ipv4Prefix) (root : Ipv4Prefix) (ns : List Numbered) → root.address ≡ 0 → root.length ≡ 0 → AreNumbered prefixes ns → All (IsNumbered prefixes root) ns
numbered_inside prefixes root ns first short numbered k d lt =
    let p : Ipv4Prefix = get_or prefixes k d.prefix in
    let at : slice_get prefixes k ≡ Some p = slice_get-get_or prefixes k d.prefix (omega (arith, lt, numbered.as_many)) in
    let is : get_or ns k d ≡ record { prefix = p; number = k } = get_or_from_slice_get ns k (record { prefix = p; number = k }) d (numbered.each k p at) in
    subst (IsNumbered prefixes root) (sym is) (record { at = at; inside = root_inside root p first short })

root_above : (prefixes : List Ipv4Prefix) (root : Ipv4Prefix) → root.length ≡ 0 → LongestWanted (IsAbove root) prefixes None
unfolding LongestWanted
root_above prefixes root short k d lt above = absurd (omega (arith, above.short, short))

pub root_known : (prefixes : List Ipv4Prefix) (root : Ipv4Prefix) (ns ranked : List Numbered) → root.address ≡ 0 → root.length ≡ 0 → AreNumbered prefixes ns → IsPermutation ns ranked → IsNonDecreasingBy rank ranked → IsKnown prefixes root ranked None
root_known prefixes root ns ranked first short numbered same rising = record {
  inside = record {
    each = All-permutation (IsNumbered prefixes root) ns ranked same (numbered_inside prefixes root ns first short numbered);
    every = λ k p at inside.
        let n : Numbered = record { prefix = p; number = k } in
        Contains-permutation ns ranked n same (k, slice_get_within ns k n (numbered.each k p at), get_or_from_slice_get ns k n n (numbered.each k p at));
  };
  ranked = rising;
  above = root_above prefixes root short;
  reached = inl short;
}

pub leaves_whole : (prefixes : List Ipv4Prefix) (root : Ipv4Prefix) (ns ranked lent : List Numbered) (old new : List Leaf) → old ≡ [] → root.address ≡ 0 → root.length ≡ 0 → AreNumbered prefixes ns → IsPermutation ns ranked → IsNonDecreasingBy rank ranked → lent ≡ ranked → HasLeaves root lent None old new → AreLeaves prefixes 0 (2 ^ 32) new
unfolding HasLeaves
leaves_whole prefixes root ns ranked lent old new none first short numbered same rising is has =
    let made = has prefixes (subst (λ xs. IsKnown prefixes root xs None) (sym is) (root_known prefixes root ns ranked first short numbered same rising)) in
    let added : new ≡ made.0 = made.1 ∙ ap (λ xs. xs ++ made.0) none in
    let end : root.address + size root.length ≡ 2 ^ 32 = ap (λ n. root.address + size n) short ∙ ap (λ n. n + 2 ^ 32) first in
    subst (AreLeaves prefixes 0 (2 ^ 32)) (sym added) (subst (λ f. AreLeaves prefixes f (2 ^ 32) made.0) first (subst (λ t. AreLeaves prefixes root.address t made.0) end made.2))

-- ---- the order

adjoin_rises : (from to : ℕ) (leaves : List Leaf) → Adjoin from (cells leaves) to → from ≤ to
adjoin_rises from to [] h = omega (arith, h)
adjoin_rises from to (l ∷ ls) h = omega (arith, adjoin_rises (from + size l.cell.length) to ls h.1)

from_on : (from to : ℕ) (leaves : List Leaf) → Adjoin from (cells leaves) to → All (λ l. from ≤ l.cell.address) leaves
from_on from to [] h = λ k d lt. absurd (omega arith)
from_on from to (l ∷ ls) h =
    All-cons (λ (x : Leaf). from ≤ x.cell.address) l ls (omega (arith, h.0))
    (λ k d lt. omega (arith, from_on (from + size l.cell.length) to ls h.1 k d lt))

-- an earlier leaf ends before a later one begins
pub apart : (from to : ℕ) (leaves : List Leaf) (i j : ℕ) (d : Leaf) → Adjoin from (cells leaves) to → i < j → j < length leaves → (get_or leaves i d).cell.address + size (get_or leaves i d).cell.length ≤ (get_or leaves j d).cell.address
apart from to [] i j d h less lt = absurd (omega (arith, lt))
apart from to (l ∷ ls) zero zero d h less lt = absurd (omega (arith, less))
apart from to (l ∷ ls) zero (suc j) d h less lt = omega (arith, h.0, from_on (from + size l.cell.length) to ls h.1 j d (omega arith))
apart from to (l ∷ ls) (suc i) zero d h less lt = absurd (omega (arith, less))
apart from to (l ∷ ls) (suc i) (suc j) d h less lt = apart (from + size l.cell.length) to ls i j d h.1 (omega arith) (omega arith)

pub rising : (from to : ℕ) (leaves : List Leaf) → Adjoin from (cells leaves) to → IsNonDecreasingBy (λ l. l.cell.address) leaves
rising from to leaves h i j d le lt = ⊎_elim
    (λ less. omega (arith, apart from to leaves i j d h less lt))
    (λ ge. let same : i ≡ j = omega arith in omega (arith, ap (λ k. (get_or leaves k d).cell.address) same))
    (cases_lt i j)

-- ---- where an address lies

pub record IsAt (leaves : List Leaf) (a k : ℕ) : Type 0 where
  pub leaf : Leaf
  pub at : slice_get leaves k ≡ Some leaf
  pub holds : Holds leaf.cell a

next_at : (l : Leaf) (ls : List Leaf) (a : ℕ) → (k : ℕ) × IsAt ls a k → (k : ℕ) × IsAt (l ∷ ls) a k
next_at l ls a (k, is) = (suc k, record { leaf = is.leaf; at = is.at; holds = is.holds })

pub is_at : (from to : ℕ) (leaves : List Leaf) (a : ℕ) → Adjoin from (cells leaves) to → from ≤ a → a < to → (k : ℕ) × IsAt leaves a k
is_at from to [] a h above below = absurd (omega (arith, h))
is_at from to (l ∷ ls) a h above below = ⊎_elim
    (λ less. (0, record { leaf = l; at = refl; holds = holds_from l.cell a (omega (arith, h.0)) (omega (arith, h.0, less)) }))
    (λ ge. next_at l ls a (is_at (from + size l.cell.length) to ls a h.1 ge below))
    (cases_lt a (from + size l.cell.length))

not_before : (from to : ℕ) (leaves : List Leaf) (a i j : ℕ) → Adjoin from (cells leaves) to → IsAt leaves a i → (l : Leaf) → slice_get leaves j ≡ Some l → l.cell.address ≤ a → ¬ (i < j)
not_before from to leaves a i j h is l at starts less =
    let one : get_or leaves i l ≡ is.leaf = get_or_from_slice_get leaves i is.leaf l is.at in
    let two : get_or leaves j l ≡ l = get_or_from_slice_get leaves j l l at in
    let far = apart from to leaves i j l h less (slice_get_within leaves j l at) in
    omega (arith, starts, before_end is.leaf.cell a is.holds, ap (λ (l : Leaf). l.cell.address) two, ap (λ (l : Leaf). l.cell.address + size l.cell.length) one, far)

pub alone_at : (from to : ℕ) (leaves : List Leaf) (a i j : ℕ) → Adjoin from (cells leaves) to → IsAt leaves a i → IsAt leaves a j → j ≡ i
alone_at from to leaves a i j h one two = ⊎_elim
    (λ less. absurd (not_before from to leaves a i j h one two.leaf two.at (from_first two.leaf.cell a two.holds) less))
    (λ ge. ⊎_elim (λ less. absurd (not_before from to leaves a j i h two one.leaf one.at (from_first one.leaf.cell a one.holds) less)) (λ le. omega arith) (cases_lt j i))
    (cases_lt i j)

-- ---- the place that a binary search finds

pub found_at : (to : ℕ) (leaves : List Leaf) (a after : ℕ) → Adjoin 0 (cells leaves) to → a < to → after ≤ length leaves → IsPartitionPoint (λ (l : Leaf). l.cell.address ≤ a) (λ (l : Leaf). a < l.cell.address) leaves after
    → (k : ℕ) × (after ≡ k + 1) × IsAt leaves a k
found_at to leaves a after h below bound point =
    let is = is_at 0 to leaves a h (omega arith) below in
    let k : ℕ = is.0 in
    let leaf : Leaf = is.1.leaf in
    let at : get_or leaves k leaf ≡ leaf = get_or_from_slice_get leaves k leaf leaf is.1.at in
    let starts : leaf.cell.address ≤ a = from_first leaf.cell a is.1.holds in
    let within : k < length leaves = slice_get_within leaves k leaf is.1.at in
    let early : k < after = ⊎_elim (λ less. less)
    (λ ge. absurd (omega (arith, starts, subst (λ (l : Leaf). a < l.cell.address) at (point.1 k leaf ge within)))) (cases_lt k after) in
    let last : ¬ (k < after - 1) = λ less.
    let m : ℕ = after - 1 in
    let l : Leaf = get_or leaves m leaf in
    not_before 0 to leaves a k m h is.1 l (slice_get-get_or leaves m leaf (omega arith)) (point.0 m leaf (omega arith) (omega arith)) less in
    (k, ⊎_elim (λ less. absurd (last less)) (λ ge. omega arith) (cases_lt k (after - 1)), is.1)

pub longest_at : (prefixes : List Ipv4Prefix) (from to a k m : ℕ) (leaves : List Leaf) (d : Leaf) → AreLeaves prefixes from to leaves → IsAt leaves a k → m ≡ k → Longest prefixes a (get_or leaves m d).longest
longest_at prefixes from to a k m leaves d are is place =
    let same : get_or leaves m d ≡ is.leaf = ap (λ i. get_or leaves i d) place ∙ get_or_from_slice_get leaves k is.leaf d is.at in
    subst (λ (l : Leaf). Longest prefixes a l.longest) (sym same) ((at_of (IsLeaf prefixes) leaves k is.leaf is.at are.each).longest a is.holds)

-- ---- the classes

-- where a class ends another class that shares an address with it isn't longer
not_longer : (prefixes : List Ipv4Prefix) (c d : Ipv4Prefix) (a : ℕ) → IsClass prefixes c → IsClass prefixes d → Holds c a → Holds d a → ¬ (c.length < d.length)
not_longer prefixes c d a one two in_c in_d longer = ⊎_elim
    (λ none. omega (arith, none, longer))
    (λ reached.
    let q : Ipv4Prefix = reached.0 in
    let parent : IsParent q d = reached.1 in
    let k : ℕ = reached.2.0 in
    let p : Ipv4Prefix = reached.2.1 in
    let cut : IsStrictlyWithin p q = reached.2.4 in
    let of_d : Holds c d.address = first_held d c a (omega (arith, longer)) in_d in_c in
    let of_q : Holds c q.address = first_held q c d.address (omega (arith, longer, parent.shorter)) parent.holds of_d in
    let of_p : Holds c p.address = all_held q c (omega (arith, longer, parent.shorter)) of_q p.address (first_of_within p q cut) in
    let strict : IsStrictlyWithin p c = within_from_first p c (omega (arith, longer, parent.shorter, cut.longer)) of_p in
    one.uncut k p reached.2.2 (subst (λ x. IsStrictlyWithin x c) (sym reached.2.3) strict))
    two.parent_cut

pub same_class : AreApart → (prefixes : List Ipv4Prefix) (c d : Ipv4Prefix) (a : ℕ) → IsClass prefixes c → IsClass prefixes d → Holds c a → Holds d a → c ≡ d
same_class apart prefixes c d a one two in_c in_d =
    let not_less : d.length ≤ c.length = ⊎_elim (λ less. absurd (not_longer prefixes c d a one two in_c in_d less)) (λ ge. ge) (cases_lt c.length d.length) in
    let not_more : c.length ≤ d.length = ⊎_elim (λ less. absurd (not_longer prefixes d c a two one in_d in_c less)) (λ ge. ge) (cases_lt d.length c.length) in
    same_prefix apart c d a (omega arith) in_c in_d

some_cell : (leaves : List Leaf) (k : ℕ) (leaf : Leaf) → slice_get leaves k ≡ Some leaf → slice_get (cells leaves) k ≡ Some leaf.cell
some_cell leaves k leaf at = slice_get-map (λ (l : Leaf). l.cell) leaves k ∙ ap (option_map (λ (l : Leaf). l.cell)) at

leaf_of : (leaves : List Leaf) (a j : ℕ) (other : Ipv4Prefix) → slice_get (cells leaves) j ≡ Some other → Holds other a → IsAt leaves a j
leaf_of leaves a j other at holds = by (slice_get leaves j) refl
  where
    by : (o : Option Leaf) → slice_get leaves j ≡ o → IsAt leaves a j
    by None e = absurd (none-some other (sym (slice_get-map (λ (l : Leaf). l.cell) leaves j ∙ ap (option_map (λ (l : Leaf). l.cell)) e) ∙ at))
    by (Some leaf) e =
        let same : leaf.cell ≡ other = same_Some leaf.cell other (sym (some_cell leaves j leaf e) ∙ at) in
        record { leaf = leaf; at = e; holds = subst (λ c. Holds c a) (sym same) holds }

class_listed : AreApart → (prefixes : List Ipv4Prefix) (leaves : List Leaf) → AreLeaves prefixes 0 (2 ^ 32) leaves → (c : Ipv4Prefix) → IsClass prefixes c → Contains (cells leaves) c
class_listed apart prefixes leaves are c class =
    let found = is_at 0 (2 ^ 32) leaves c.address are.adjoin (omega arith) c.address_fits in
    let leaf : Leaf = found.1.leaf in
    let own = at_of (IsLeaf prefixes) leaves found.0 leaf found.1.at are.each in
    let same : leaf.cell ≡ c = same_class apart prefixes leaf.cell c c.address own.class class found.1.holds (holds_own c) in
    let at : slice_get (cells leaves) found.0 ≡ Some c = some_cell leaves found.0 leaf found.1.at ∙ ap Some same in
    (found.0, slice_get_within (cells leaves) found.0 c at, get_or_from_slice_get (cells leaves) found.0 c c at)

in_one : (prefixes : List Ipv4Prefix) (leaves : List Leaf) → AreLeaves prefixes 0 (2 ^ 32) leaves → (a : ℕ) → a < 2 ^ 32 → (k : ℕ) × IsInOne (cells leaves) a k
in_one prefixes leaves are a fits =
    let found = is_at 0 (2 ^ 32) leaves a are.adjoin (omega arith) fits in (
      found.0,
      record {
        prefix = found.1.leaf.cell;
        at = some_cell leaves found.0 found.1.leaf found.1.at;
        holds = found.1.holds;
        alone = λ j other at holds. alone_at 0 (2 ^ 32) leaves a found.0 j are.adjoin found.1 (leaf_of leaves a j other at holds);
      },
    )

pub are_classes : AreApart → (prefixes : List Ipv4Prefix) (leaves : List Leaf) (classes : List Ipv4Prefix) → AreLeaves prefixes 0 (2 ^ 32) leaves → classes ≡ cells leaves → AreClasses prefixes classes
are_classes apart prefixes leaves classes are is = subst (AreClasses prefixes) (sym is) (record {
  each = All-map (IsClass prefixes) (λ (l : Leaf). l.cell) leaves (All-weaker (IsLeaf prefixes) (λ (l : Leaf). IsClass prefixes l.cell) (λ l own. own.class) leaves are.each);
  every = class_listed apart prefixes leaves are;
  in_order = are.adjoin;
  one = in_one prefixes leaves are;
})

-- each prefix holds all addresses of a class or none
pub all_whole : (prefixes classes : List Ipv4Prefix) → AreClasses prefixes classes → All (λ c. All (λ p. HoldsAllOrNone p c) prefixes) classes
all_whole prefixes classes are = All-weaker (IsClass prefixes) (λ c. All (λ p. HoldsAllOrNone p c) prefixes) (λ c class k d lt. all_or_none (get_or prefixes k d) c (class.uncut k d lt)) classes are.each
