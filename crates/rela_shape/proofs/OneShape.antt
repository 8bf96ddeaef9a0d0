-- Flows of one shape are one flow but for the names of locations.
use Rattle.std.proofs.Common.{◌≡◌, ℕ, ◌<◌, ◌↔◌, ◌&&◌, true, nat_eq, List, length, get_or, refl, sym, ap, ◌∙◌, arith}
use Rattle.std.specs.Cmp.{unsigned_Decides}
use Rattle.std.specs.Cmp.Lexicographic.{pointwise}
use Rattle.std.proofs.lemmas.Bool.{and_parts}
use Rattle.std.proofs.lemmas.Slice.Eq.{slice_eq-Decides}
use Rattle.rela_names.specs.declared.level.Level.{Level}
use Rattle.rela_graph.specs.Topology.{IsTopology, Topology}
use Rattle.rela_snapshot.specs.declared.pairing.FlowPair.{FlowPair}
use Rattle.rela_shape.specs.Renamed.{AreRenamed, AreWiredAlike}
use Rattle.rela_shape.specs.Shape.{AreNumbered, IsShape, places_of, same_shape}
use Rattle.rela_shape.specs.Wiring.{wiring_of}
use Rattle.rela_shape.specs.declared.shape.Shape.{Shape}
use Rattle.rela_shape.proofs.Told.{wiring_told}

same_items : (xs ys : List ℕ) → pointwise nat_eq xs ys ≡ true → xs ≡ ys
same_items xs ys same = (slice_eq-Decides unsigned_Decides xs ys (pointwise nat_eq xs ys) refl).0 same

-- shapes that `==` finds equal have the same fields
pub record AreOneShape (shape found : Shape) : Type 0 where
  pub numbers : shape.numbers.items ≡ found.numbers.items
  pub blocks : shape.blocks.items ≡ found.blocks.items
  pub before : shape.before.items ≡ found.before.items
  pub after : shape.after.items ≡ found.after.items

pub equal_items : (shape found : Shape) → same_shape shape found ≡ true → AreOneShape shape found
equal_items shape found same =
    let numbers = pointwise nat_eq shape.numbers.items found.numbers.items in
    let blocks = pointwise nat_eq shape.blocks.items found.blocks.items in
    let before = pointwise nat_eq shape.before.items found.before.items in
    let after = pointwise nat_eq shape.after.items found.after.items in
    let first = and_parts numbers (blocks && (before && after)) same in
    let second = and_parts blocks (before && after) first.1 in
    let third = and_parts before after second.1 in
    record {
      numbers = same_items shape.numbers.items found.numbers.items first.0;
      blocks = same_items shape.blocks.items found.blocks.items second.0;
      before = same_items shape.before.items found.before.items third.0;
      after = same_items shape.after.items found.after.items third.1;
    }

wired_alike : (g h : Topology) (bytes more : List ℕ) → bytes ≡ wiring_of g → more ≡ wiring_of h → bytes ≡ more → IsTopology g → IsTopology h → AreWiredAlike g h
wired_alike g h bytes more is more_is equal g_is h_is =
    let told = wiring_told g h g_is h_is (sym is ∙ equal ∙ more_is) in
    record {
      nodes = sym g_is.starts ∙ ap length told.starts ∙ h_is.starts;
      edges = told.edges;
      starts = told.starts;
      delivered = told.delivered;
      dropped = told.dropped;
    }

-- what has the same numbers stands together alike
numbered_alike : (places others numbers more : List ℕ) → AreNumbered places numbers → AreNumbered others more → numbers ≡ more
    → (i j : ℕ) → i < length places → j < length places → (get_or places i 0 ≡ get_or places j 0) ↔ (get_or others i 0 ≡ get_or others j 0)
numbered_alike places others numbers more are more_are equal i j i_in j_in =
    let len : length places ≡ length others = sym are.each ∙ ap length equal ∙ more_are.each in
    let here = are.together i j i_in j_in in
    let there = more_are.together i j (omega (arith, i_in, len)) (omega (arith, j_in, len)) in (
      λ one. there.0 (ap (λ l. get_or l i 0) (sym equal) ∙ here.1 one ∙ ap (λ l. get_or l j 0) equal),
      λ one. here.0 (ap (λ l. get_or l i 0) equal ∙ there.1 one ∙ ap (λ l. get_or l j 0) (sym equal)),
    )

pub one_shape : (blocks : List ℕ) (level : Level) (pair other : FlowPair) (shape found : Shape) → IsShape blocks level pair shape → IsShape blocks level other found
    → same_shape shape found ≡ true → AreRenamed blocks level pair other
one_shape blocks level pair other shape found is found_is same =
    let one = equal_items shape found same in
    record {
      before = wired_alike pair.before other.before shape.before.items found.before.items is.before found_is.before one.before is.topology_before found_is.topology_before;
      after = wired_alike pair.after other.after shape.after.items found.after.items is.after found_is.after one.after is.topology_after found_is.topology_after;
      together = numbered_alike (places_of level pair) (places_of level other) shape.numbers.items found.numbers.items is.numbers found_is.numbers one.numbers;
      blocks_are = sym is.blocks_of ∙ one.blocks ∙ found_is.blocks_of;
    }
