-- Flows of one shape, and the checks that they meet alike.
use Rattle.std.proofs.Common.{◌≡◌, ◌∙◌, ℕ, ◌<◌, ◌≤◌, ◌↔◌, Bool, true, false, List, [], length, get_or, Option, inl, inr, refl, sym, subst, arith}
use Rattle.std.specs.Prelude.{cond, slice_get, IsSomeAnd, nat_eq}
use Rattle.std.specs.HashSet.{HashSet, contains}
use Rattle.std.specs.List.{All, list_any}
use Rattle.std.proofs.lemmas.Bool.{and_parts, cases_Bool, cond-false, eqb-true, false≢true}
use Rattle.std.proofs.lemmas.List.Elements.{All-append, All-map}
use Rattle.std.proofs.lemmas.Option.{slice_get_read}
use Rattle.rela_build.specs.Reading.{read_by}
use Rattle.rela_blocks.specs.Blocks.{AreBlocks}
use Rattle.rela_engine.specs.Compilation.{Compilation}
use Rattle.rela_engine.specs.Reading.{Realises}
use Rattle.rela_engine.specs.RowOf.{MustBeOpen}
use Rattle.rela_blocks.specs.Scenes.{paths_of}
use Rattle.rela_graph.specs.Paths.{Paths, locations}
use Rattle.rela_graph.specs.Topology.{Topology, IsTopology, symbol_at}
use Rattle.rela_names.specs.Alphabet.{path_symbols}
use Rattle.rela_names.specs.declared.level.Level.{Level}
use Rattle.rela_report.specs.declared.rows.Row.TheVariants.{Compliant}
use Rattle.rela_rir.specs.Words.{WordSet, Relation, ImageOf}
use Rattle.rela_shape.specs.Renamed.{AreRenamed}
use Rattle.rela_shape.specs.Shape.{IsShape, places_of, same_shape}
use Rattle.rela_shape.specs.declared.shape.Shape.{Shape}
use Rattle.rela_snapshot.specs.Located.{StandsAt, IsLocated}
use Rattle.rela_snapshot.specs.PairsLocated.{IsPairLocated}
use Rattle.rela_snapshot.specs.declared.pairing.FlowPair.{FlowPair}
use Rattle.rela_trans.specs.Machine.{Machine}
use Rattle.rela_trans.specs.Runs.{Relates}
use Rattle.rela_translate.specs.Verdict.{AreMet, Meets}
use Rattle.rela_translate.specs.Zones.{Before, After}
use Rattle.rela_rows.specs.Shapes.{IsMetShape, same_entry, AreMetShapes}
use Rattle.rela_rows.specs.Sharing.{IsVerdict}

-- ---- images under equal relations

image_along : (X : WordSet) (R S : Relation) → ((u v : List ℕ) → R u v → S u v) → (w : List ℕ) → ImageOf X R w → ImageOf X S w
image_along X R S there w image = record { source = image.source; in_set = image.in_set; related = there image.source w image.related }

images_same : (X : WordSet) (R S : Relation) → ((u v : List ℕ) → R u v ↔ S u v) → (w : List ℕ) → ImageOf X R w ↔ ImageOf X S w
images_same X R S same w = (image_along X R S (λ u v r. (same u v).0 r) w, image_along X S R (λ u v s. (same u v).1 s) w)

met_along : (at_most : Bool) (X Y V W : WordSet) → ((w : List ℕ) → X w ↔ V w) → ((w : List ℕ) → Y w ↔ W w) → AreMet at_most X Y → AreMet at_most V W
met_along false X Y V W first second met = λ w. (λ v. (second w).0 ((met w).0 ((first w).1 v)), λ u. (first w).0 ((met w).1 ((second w).1 u)))
met_along true X Y V W first second met = λ w u. (first w).0 (met w ((second w).1 u))

-- ---- what rela_shape says of flows

-- flows of one shape are one but for the names of locations
abbrev pub AreRenamedByShape : Type 0
AreRenamedByShape =
    (blocks : List ℕ) (level : Level) (pair other : FlowPair) (shape found : Shape) → IsShape blocks level pair shape → IsShape blocks level other found
    → same_shape shape found ≡ true → AreRenamed blocks level pair other

-- and such flows meet alike what transducers tell
abbrev pub MeetAlike : Type 0
MeetAlike =
    (blocks : List ℕ) (level : Level) (names : List (List ℕ)) (pair other : FlowPair) (before after : Machine) (at_most : Bool) → path_symbols names ≤ length blocks
    → IsTopology pair.before → IsTopology pair.after → IsPairLocated names level pair → IsPairLocated names level other → AreRenamed blocks level pair other
    → AreMet at_most (ImageOf (Paths pair.before level names) (Relates (read_by blocks) before)) (ImageOf (Paths pair.after level names) (Relates (read_by blocks) after))
    → AreMet at_most (ImageOf (Paths other.before level names) (Relates (read_by blocks) before)) (ImageOf (Paths other.after level names) (Relates (read_by blocks) after))

-- ---- a check that one of them meets

-- no flow forces the check to be left open
abbrev pub IsUnforced : Compilation → Type 0
IsUnforced by =
    (names : List (List ℕ)) (before after : Topology) → ¬ MustBeOpen by.check by.locations (paths_of by.check.level names before after) by.states

module _ (names : List (List ℕ)) (by : Compilation) (before after : Machine) (alike : MeetAlike) (blocks : AreBlocks by.check (length names) by.blocks)
    (first : Realises by.blocks (Before by.check.classes (length names) by.check.body) before)
    (second : Realises by.blocks (After by.check.classes (length names) by.check.body) after) where
  meets_renamed : (pair other : FlowPair) → IsTopology pair.before → IsTopology pair.after → IsPairLocated names by.check.level pair → IsPairLocated names by.check.level other → AreRenamed by.blocks by.check.level pair other
      → Meets by.check (length names) (Paths pair.before by.check.level names) (Paths pair.after by.check.level names)
      → Meets by.check (length names) (Paths other.before by.check.level names) (Paths other.after by.check.level names)
  meets_renamed pair other old new here there renamed met =
      let level = by.check.level in
      let R : Relation = Relates (read_by by.blocks) before in
      let S : Relation = Relates (read_by by.blocks) after in
      let B : Relation = Before by.check.classes (length names) by.check.body in
      let A : Relation = After by.check.classes (length names) by.check.body in
      let few : path_symbols names ≤ length by.blocks = omega (arith, blocks.symbols) in
      met_along by.check.at_most (ImageOf (Paths other.before level names) R) (ImageOf (Paths other.after level names) S) (ImageOf (Paths other.before level names) B)
      (ImageOf (Paths other.after level names) A) (images_same (Paths other.before level names) R B first.relation) (images_same (Paths other.after level names) S A second.relation)
      (alike by.blocks level names pair other before after by.check.at_most few old new here there renamed
      (met_along by.check.at_most (ImageOf (Paths pair.before level names) B) (ImageOf (Paths pair.after level names) A) (ImageOf (Paths pair.before level names) R)
      (ImageOf (Paths pair.after level names) S) (images_same (Paths pair.before level names) B R (λ u v. ((first.relation u v).1, (first.relation u v).0)))
      (images_same (Paths pair.after level names) A S (λ u v. ((second.relation u v).1, (second.relation u v).0))) met))

  -- a flow of a shape that meets the check
  meets_too : AreRenamedByShape → IsUnforced by → by.locations ≡ length names → (pair : FlowPair) (shape : Shape) → IsPairLocated names by.check.level pair
      → IsShape by.blocks by.check.level pair shape → IsMetShape names by shape → IsVerdict names by pair Compliant
  meets_too renames unforced same pair shape located shaped met =
      let renamed = renames by.blocks by.check.level met.pair pair met.own shape met.shaped shaped met.same in
      let paths = paths_of by.check.level names pair.before pair.after in
      record {
        right = record {
          says = meets_renamed met.pair pair met.shaped.topology_before met.shaped.topology_after met.located located renamed met.compliant.right.says;
          forced = λ must. absurd (unforced names pair.before pair.after (subst (λ (n : ℕ). MustBeOpen by.check n paths by.states) (sym same) must));
        };
        texts = tt;
      }

pub compliant_too : (names : List (List ℕ)) (by : Compilation) (before after : Machine) → MeetAlike → AreRenamedByShape → by.locations ≡ length names
    → AreBlocks by.check by.locations by.blocks → Realises by.blocks (Before by.check.classes by.locations by.check.body) before
    → Realises by.blocks (After by.check.classes by.locations by.check.body) after → IsUnforced by → (pair : FlowPair) (shape : Shape)
    → IsPairLocated names by.check.level pair → IsShape by.blocks by.check.level pair shape → IsMetShape names by shape → IsVerdict names by pair Compliant
compliant_too names by before after alike renames same blocks first second unforced pair shape =
    meets_too names by before after alike (subst (λ (n : ℕ). AreBlocks by.check n by.blocks) same blocks)
    (subst (λ (n : ℕ). Realises by.blocks (Before by.check.classes n by.check.body) before) same first)
    (subst (λ (n : ℕ). Realises by.blocks (After by.check.classes n by.check.body) after) same second) renames unforced same pair shape

-- ---- the locations of a flow's nodes

graph_places : (names : List (List ℕ)) (level : Level) (n : ℕ) (g : Topology) → length names ≤ n → IsLocated names level g → All (λ s. s < n) (locations g level)
unfolding StandsAt
graph_places names level n g few located = All-map (λ s. s < n) (symbol_at level) g.nodes (λ k node inside. let here = located k node inside in omega (arith, here))

-- each is a symbol of the check's blocks
pub places_below : (names : List (List ℕ)) (by : Compilation) (pair : FlowPair) (level : Level) → level ≡ by.check.level → by.locations ≡ length names
    → AreBlocks by.check by.locations by.blocks → IsPairLocated names by.check.level pair → All (λ s. s < length by.blocks) (places_of level pair)
places_below names by pair level is same blocks located =
    let few : length names ≤ length by.blocks = omega (arith, blocks.symbols) in
    subst (λ (l : Level). All (λ s. s < length by.blocks) (places_of l pair)) (sym is)
    (All-append (λ s. s < length by.blocks) (locations pair.before by.check.level) (locations pair.after by.check.level)
    (graph_places names by.check.level (length by.blocks) pair.before few located.0) (graph_places names by.check.level (length by.blocks) pair.after few located.1))

-- ---- shapes that are kept

module _ {S : Type 0} (names : List (List ℕ)) (compiled : List Compilation) where
  -- a kept shape
  pub met_at : (met : HashSet (ℕ × Shape) S) (check : ℕ) (shape : Shape) (by : Compilation) → AreMetShapes names compiled met → check < length compiled
      → by ≡ get_or compiled check by → contains same_entry met (check, shape) ≡ true → IsMetShape names by shape
  met_at met check shape by kept inside by_is has =
      subst (λ (o : Option Compilation). IsSomeAnd o (λ (c : Compilation). IsMetShape names c shape)) (slice_get_read compiled (length compiled) check by refl inside by_is)
      (kept check shape has)

  -- there are none in a set without keys
  pub shapes_none : (met : HashSet (ℕ × Shape) S) → met.keys ≡ [] → AreMetShapes names compiled met
  shapes_none met none check shape has =
      absurd (false≢true (subst (λ (keys : List (ℕ × Shape)). list_any (same_entry (check, shape)) keys ≡ true) none has))

  -- one more
  pub shapes_more : (old new : HashSet (ℕ × Shape) S) (check : ℕ) (shape : Shape) (by : Compilation) (pair : FlowPair) → AreMetShapes names compiled old
      → check < length compiled → by ≡ get_or compiled check by → IsPairLocated names by.check.level pair → IsShape by.blocks by.check.level pair shape
      → IsVerdict names by pair Compliant → ((q : ℕ × Shape) → contains same_entry new q ≡ cond (same_entry (check, shape) q) true (contains same_entry old q))
      → AreMetShapes names compiled new
  shapes_more old new check shape by pair kept inside by_is located shaped compliant updates k s has = elim (cases_Bool (same_entry (check, shape) (k, s))) [
    | inl same ↦
        let parts = and_parts (nat_eq check k) (same_shape shape s) same in
        let number : check ≡ k = eqb-true check k parts.0 in
        subst (λ (n : ℕ). IsSomeAnd (slice_get compiled n) (λ (c : Compilation). IsMetShape names c s)) number
        (subst (λ (o : Option Compilation). IsSomeAnd o (λ (c : Compilation). IsMetShape names c s)) (sym (slice_get_read compiled (length compiled) check by refl inside by_is))
        (record { pair = pair; own = shape; located = located; shaped = shaped; same = parts.1; compliant = compliant }))
    | inr other ↦ kept k s (sym (updates (k, s) ∙ cond-false (same_entry (check, shape) (k, s)) true (contains same_entry old (k, s)) other) ∙ has)
  ]
