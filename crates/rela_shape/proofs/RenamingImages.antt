-- Flows that are renamed one to one meet alike: each word of an image is one of the other flow, renamed.
use Rattle.std.proofs.Common.{◌≡◌, ℕ, ◌≤◌, Bool, true, false, List, length, map, sym, subst, arith}
use Rattle.rela_build.specs.Reading.{read_by}
use Rattle.rela_names.specs.Alphabet.{path_symbols}
use Rattle.rela_names.specs.declared.level.Level.{Level}
use Rattle.rela_graph.specs.Paths.{Paths}
use Rattle.rela_graph.specs.Topology.{Topology, IsTopology}
use Rattle.rela_rir.specs.Words.{ImageOf}
use Rattle.rela_snapshot.specs.PairsLocated.{IsPairLocated}
use Rattle.rela_snapshot.specs.declared.pairing.FlowPair.{FlowPair}
use Rattle.rela_trans.specs.Machine.{Machine}
use Rattle.rela_trans.specs.Runs.{Relates}
use Rattle.rela_translate.specs.Verdict.{AreMet}
use Rattle.rela_shape.specs.Renamed.{AreWiredAlike, AreRenamed}
use Rattle.rela_shape.specs.Shape.{places_of}
use Rattle.rela_shape.proofs.Renaming.{Renaming, mirrored, one_to_one, there_and_back}
use Rattle.rela_shape.proofs.RenamingPaths.{path_there, topology_there}
use Rattle.rela_shape.proofs.RenamingPlaces.{ends_and, renaming, Relocates, relocates}
use Rattle.rela_shape.proofs.RenamingWords.{related_there}

-- sets of words that are renamed to each other, there and back, are met alike
module _ (X Y X' Y' : List ℕ → Type 0) (to from : ℕ → ℕ) (forth : (s : ℕ) → to (from s) ≡ s)
    (first_to : (w : List ℕ) → X w → X' (map to w)) (first_from : (w : List ℕ) → X' w → X (map from w))
    (second_to : (w : List ℕ) → Y w → Y' (map to w)) (second_from : (w : List ℕ) → Y' w → Y (map from w)) where
  in_first : (w : List ℕ) → X (map from w) → X' w
  in_first w is = subst X' (there_and_back to from forth w) (first_to (map from w) is)

  in_second : (w : List ℕ) → Y (map from w) → Y' w
  in_second w is = subst Y' (there_and_back to from forth w) (second_to (map from w) is)

  met_alike : (at_most : Bool) → AreMet at_most X Y → AreMet at_most X' Y'
  met_alike false met = λ w. (
    λ is. in_second w ((met (map from w)).0 (first_from w is)),
    λ is. in_first w ((met (map from w)).1 (second_from w is)),
  )
  met_alike true met = λ w is. in_first w (met (map from w) (second_from w is))

-- the renamed words of an image are in the renamed image
image_there : (read to : ℕ → ℕ) → ((s : ℕ) → read (to s) ≡ read s) → (t : Machine) (X X' : List ℕ → Type 0)
    → ((w : List ℕ) → X w → X' (map to w)) → (w : List ℕ) → ImageOf X (Relates read t) w → ImageOf X' (Relates read t) (map to w)
image_there read to keeps t X X' there w is = record {
  source = map to is.source;
  in_set = there is.source is.in_set;
  related = related_there read to keeps t is.source w is.related;
}

-- the same seen from the other graph
wired_back : (g h : Topology) → AreWiredAlike g h → AreWiredAlike h g
wired_back g h alike = record {
  nodes = sym alike.nodes;
  edges = sym alike.edges;
  starts = sym alike.starts;
  delivered = sym alike.delivered;
  dropped = sym alike.dropped;
}

module _ (blocks : List ℕ) (level : Level) (names : List (List ℕ)) where
  -- images of one flow's paths are renamed to those of another's
  module _ (pair other : FlowPair) (is_before : IsTopology pair.before) (is_after : IsTopology pair.after)
      (before_alike : AreWiredAlike pair.before other.before) (after_alike : AreWiredAlike pair.after other.after)
      (r : Renaming (read_by blocks) (ends_and (length names) (places_of level pair)) (ends_and (length names) (places_of level other))) where
    moved : Relocates names level pair other r.to
    moved = relocates names level pair other r.to before_alike.nodes r.sends

    distinct : (s t : ℕ) → r.to s ≡ r.to t → s ≡ t
    distinct = one_to_one (read_by blocks) (ends_and (length names) (places_of level pair)) (ends_and (length names) (places_of level other)) r

    before_there : (t : Machine) (w : List ℕ) → ImageOf (Paths pair.before level names) (Relates (read_by blocks) t) w
        → ImageOf (Paths other.before level names) (Relates (read_by blocks) t) (map r.to w)
    before_there t = image_there (read_by blocks) r.to r.keeps t (Paths pair.before level names) (Paths other.before level names)
        (path_there level names pair.before other.before is_before before_alike r.to distinct moved.before moved.drops moved.loops)

    after_there : (t : Machine) (w : List ℕ) → ImageOf (Paths pair.after level names) (Relates (read_by blocks) t) w
        → ImageOf (Paths other.after level names) (Relates (read_by blocks) t) (map r.to w)
    after_there t = image_there (read_by blocks) r.to r.keeps t (Paths pair.after level names) (Paths other.after level names)
        (path_there level names pair.after other.after is_after after_alike r.to distinct moved.after moved.drops moved.loops)

pub flows_meet_alike : (blocks : List ℕ) (level : Level) (names : List (List ℕ)) (pair other : FlowPair) (before after : Machine) (at_most : Bool)
    → path_symbols names ≤ length blocks → IsTopology pair.before → IsTopology pair.after
    → IsPairLocated names level pair → IsPairLocated names level other → AreRenamed blocks level pair other
    → AreMet at_most (ImageOf (Paths pair.before level names) (Relates (read_by blocks) before))
    (ImageOf (Paths pair.after level names) (Relates (read_by blocks) after))
    → AreMet at_most (ImageOf (Paths other.before level names) (Relates (read_by blocks) before))
    (ImageOf (Paths other.after level names) (Relates (read_by blocks) after))
flows_meet_alike blocks level names pair other before after at_most enough is_before is_after located other_located renamed met =
    let r = renaming blocks level names pair other (omega arith) located other_located renamed in
    let m = mirrored (read_by blocks) (ends_and (length names) (places_of level pair)) (ends_and (length names) (places_of level other)) r in
    let other_before = topology_there pair.before other.before renamed.before is_before in
    let other_after = topology_there pair.after other.after renamed.after is_after in
    let before_back = wired_back pair.before other.before renamed.before in
    let after_back = wired_back pair.after other.after renamed.after in
    met_alike (ImageOf (Paths pair.before level names) (Relates (read_by blocks) before)) (ImageOf (Paths pair.after level names) (Relates (read_by blocks) after))
    (ImageOf (Paths other.before level names) (Relates (read_by blocks) before)) (ImageOf (Paths other.after level names) (Relates (read_by blocks) after))
    r.to r.from r.forth
    (before_there blocks level names pair other is_before is_after renamed.before renamed.after r before)
    (before_there blocks level names other pair other_before other_after before_back after_back m before)
    (after_there blocks level names pair other is_before is_after renamed.before renamed.after r after)
    (after_there blocks level names other pair other_before other_after before_back after_back m after)
    at_most met
