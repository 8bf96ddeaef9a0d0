-- A check is met alike by flows of one shape.
use Rattle.std.proofs.Common.{◌≡◌, ◌∙◌, ℕ, ◌<◌, ◌≤◌, ◌↔◌, cond, Bool, true, false, List, length, inl, inr, sym, subst, ⊎_elim, arith}
use Rattle.std.specs.Cmp.Lexicographic.{pointwise}
use Rattle.std.specs.HashSet.{HashSet, contains, hash_set_len}
use Rattle.std.specs.List.{All}
use Rattle.std.proofs.lemmas.Bool.{and_parts, cases_Bool, cases_lt, cond-false}
use Rattle.std.proofs.lemmas.List.Elements.{All-append, All-map}
use Rattle.rela_blocks.specs.RowBlocks.{AreCheckBlocks}
use Rattle.rela_blocks.specs.Scenes.{lettering_of, paths_of}
use Rattle.rela_build.specs.Made.{IsMadeR}
use Rattle.rela_build.specs.PathSets.{no_paths, scene_of}
use Rattle.rela_build.specs.Reading.{read_by}
use Rattle.rela_graph.specs.Paths.{Paths, locations}
use Rattle.rela_graph.specs.Topology.{IsTopology, Topology, symbol_at}
use Rattle.rela_names.specs.Alphabet.{path_symbols}
use Rattle.rela_names.specs.declared.level.Level.{Level}
use Rattle.rela_rir.specs.Meaning.{InR}
use Rattle.rela_rir.specs.Words.{ImageOf, Relation, WordSet}
use Rattle.rela_rir.specs.declared.term.RelTerm.{RelTerm}
use Rattle.rela_shape.specs.Renamed.{AreRenamed}
use Rattle.rela_shape.specs.Shape.{IsShape, places_of, same_shape}
use Rattle.rela_shape.specs.declared.shape.Shape.{Shape}
use Rattle.rela_snapshot.specs.Located.{IsLocated, StandsAt}
use Rattle.rela_snapshot.specs.PairsLocated.{IsPairLocated}
use Rattle.rela_snapshot.specs.declared.pairing.FlowPair.{FlowPair}
use Rattle.rela_trans.specs.Machine.{Machine}
use Rattle.rela_trans.specs.Runs.{Relates}
use Rattle.rela_translate.specs.Checked.{Checked}
use Rattle.rela_translate.specs.Terms.{after_of, before_of}
use Rattle.rela_translate.specs.Verdict.{AreMet}
use Rattle.rela_translate.specs.Zones.{After, Before}
use Rattle.rela_cert.specs.RowForms.{AreMetForms, IsMetShape, same_form, same_renamed}
use Rattle.rela_cert.specs.Sharing.{IsMetBy}
use Rattle.rela_cert.specs.declared.row_forms.RowForm.{RowForm}
use Rattle.rela_cert.proofs.TermsMean.{RelationsMean}

-- ---- images under relations with the same pairs

abbrev HaveSamePairs : Relation → Relation → Type 0
HaveSamePairs R S = (u v : List ℕ) → R u v ↔ S u v

image_along : (X : WordSet) (R S : Relation) → HaveSamePairs R S → (w : List ℕ) → ImageOf X R w ↔ ImageOf X S w
image_along X R S same w = (
  λ image. record { source = image.source; in_set = image.in_set; related = (same image.source w).0 image.related },
  λ image. record { source = image.source; in_set = image.in_set; related = (same image.source w).1 image.related },
)

met_along : (at_most : Bool) (X Y : WordSet) (R R' S S' : Relation) → HaveSamePairs R R' → HaveSamePairs S S' → AreMet at_most (ImageOf X R) (ImageOf Y S)
    → AreMet at_most (ImageOf X R') (ImageOf Y S')
met_along false X Y R R' S S' one two met =
    λ w. (
      λ x. (image_along Y S S' two w).0 ((met w).0 ((image_along X R R' one w).1 x)),
      λ y. (image_along X R R' one w).0 ((met w).1 ((image_along Y S S' two w).1 y)),
    )
met_along true X Y R R' S S' one two met = λ w y. (image_along X R R' one w).0 (met w ((image_along Y S S' two w).1 y))

turned : (R S : Relation) → HaveSamePairs R S → HaveSamePairs S R
turned R S same u v = ((same u v).1, (same u v).0)

-- ---- the relations of a check

-- the pairs of a transducer that was made of a term
made_pairs : (E : Type 0) (check : Checked) (n : ℕ) (blocks : List ℕ) (r : RelTerm) (pairs : Relation) (t : Machine)
    → ((u v : List ℕ) → InR (scene_of (lettering_of check n blocks) no_paths).setting r u v ↔ pairs u v) → IsMadeR E (lettering_of check n blocks) no_paths r t
    → HaveSamePairs (Relates (read_by blocks) t) pairs
unfolding IsMadeR
made_pairs E check n blocks r pairs t means made u v =
    (λ related. (means u v).0 ((made.relation u v).0 related), λ pair. (made.relation u v).1 ((means u v).1 pair))

module _ (E : Type 0) (check : Checked) (n : ℕ) (means : RelationsMean check n) (blocks : List ℕ) (t : Machine) where
  before_pairs : IsMadeR E (lettering_of check n blocks) no_paths (before_of n check.body) t
      → HaveSamePairs (Relates (read_by blocks) t) (Before check.classes n check.body)
  before_pairs = made_pairs E check n blocks (before_of n check.body) (Before check.classes n check.body) t means.before

  after_pairs : IsMadeR E (lettering_of check n blocks) no_paths (after_of n check.body) t
      → HaveSamePairs (Relates (read_by blocks) t) (After check.classes n check.body)
  after_pairs = made_pairs E check n blocks (after_of n check.body) (After check.classes n check.body) t means.after

-- ---- what the laws of shapes say

-- flows of one shape are one but for the names of locations
abbrev pub ShapesRename : Type 0
ShapesRename =
    (blocks : List ℕ) (level : Level) (pair other : FlowPair) (shape found : Shape) → IsShape blocks level pair shape → IsShape blocks level other found
    → same_shape shape found ≡ true → AreRenamed blocks level pair other

-- and such flows meet alike what transducers tell
abbrev pub RenamedMeetAlike : Type 0
RenamedMeetAlike =
    (blocks : List ℕ) (level : Level) (names : List (List ℕ)) (pair other : FlowPair) (before after : Machine) (at_most : Bool) → path_symbols names ≤ length blocks
    → IsTopology pair.before → IsTopology pair.after → IsPairLocated names level pair → IsPairLocated names level other → AreRenamed blocks level pair other
    → AreMet at_most (ImageOf (Paths pair.before level names) (Relates (read_by blocks) before)) (ImageOf (Paths pair.after level names) (Relates (read_by blocks) after))
    → AreMet at_most (ImageOf (Paths other.before level names) (Relates (read_by blocks) before)) (ImageOf (Paths other.after level names) (Relates (read_by blocks) after))

-- ---- a check that one of them meets

-- A check with these relations is met by each flow of a shape that is known.
pub met_too : (E : Type 0) (check : Checked) (names : List (List ℕ)) (blocks : List ℕ) (before after : Machine) (pair : FlowPair) (shape : Shape)
    → RelationsMean check (length names) → AreCheckBlocks check (length names) blocks → IsMadeR E (lettering_of check (length names) blocks) no_paths (before_of (length names) check.body) before
    → IsMadeR E (lettering_of check (length names) blocks) no_paths (after_of (length names) check.body) after → ShapesRename → RenamedMeetAlike
    → IsPairLocated names check.level pair → IsShape blocks check.level pair shape → IsMetShape names check blocks shape
    → IsMetBy (length names) check (paths_of check.level names pair.before pair.after)
met_too E check names blocks before after pair shape means are first second renames alike located shaped known =
    let n = length names in
    let level = check.level in
    let B : Relation = Before check.classes n check.body in
    let A : Relation = After check.classes n check.body in
    let R : Relation = Relates (read_by blocks) before in
    let S : Relation = Relates (read_by blocks) after in
    let one : HaveSamePairs R B = before_pairs E check n means blocks before first in
    let two : HaveSamePairs S A = after_pairs E check n means blocks after second in
    let symbols = are.letters.symbols in
    let few : path_symbols names ≤ length blocks = omega (arith, symbols) in
    let renamed : AreRenamed blocks level known.pair pair = renames blocks level known.pair pair known.own shape known.shaped shaped known.same in
    met_along check.at_most (Paths pair.before level names) (Paths pair.after level names) R B S A one two
    (alike blocks level names known.pair pair before after check.at_most few known.shaped.topology_before known.shaped.topology_after known.located located renamed
    (met_along check.at_most (Paths known.pair.before level names) (Paths known.pair.after level names) B R A S (turned R B one) (turned S A two) known.met))

-- ---- forms that are kept

module _ {S : Type 0} (names : List (List ℕ)) (check : Checked) (blocks : List ℕ) (old new : HashSet RowForm S) (form : RowForm) where
  -- one more
  forms_more : ((other : RowForm) → contains same_form new other ≡ cond (same_form form other) true (contains same_form old other)) → AreMetForms names check blocks old
      → (pair : FlowPair) → IsPairLocated names check.level pair → IsShape blocks check.level pair form.shape
      → IsMetBy (length names) check (paths_of check.level names pair.before pair.after) → AreMetForms names check blocks new
  forms_more updates known pair located shaped met other has = elim (cases_Bool (same_form form other)) [
    | inl same ↦
        let parts = and_parts (same_shape form.shape other.shape) (pointwise same_renamed form.block.items other.block.items) same in
        record { pair = pair; own = form.shape; located = located; shaped = shaped; same = parts.0; met = met }
    | inr apart ↦ known other (sym (updates other ∙ cond-false (same_form form other) true (contains same_form old other) apart) ∙ has)
  ]

  -- as far as there is room
  pub forms_kept : (most : ℕ) → (hash_set_len old < most → (other : RowForm) → contains same_form new other ≡ cond (same_form form other) true (contains same_form old other))
      → (most ≤ hash_set_len old → new ≡ old) → AreMetForms names check blocks old → (pair : FlowPair) → IsPairLocated names check.level pair
      → IsShape blocks check.level pair form.shape → IsMetBy (length names) check (paths_of check.level names pair.before pair.after) → AreMetForms names check blocks new
  forms_kept most room full known pair located shaped met =
      ⊎_elim (λ (below : hash_set_len old < most). forms_more (room below) known pair located shaped met)
      (λ (past : most ≤ hash_set_len old). subst (AreMetForms names check blocks) (sym (full past)) known) (cases_lt (hash_set_len old) most)

-- ---- the locations of a flow's nodes

graph_places : (names : List (List ℕ)) (level : Level) (n : ℕ) (g : Topology) → length names ≤ n → IsLocated names level g → All (λ s. s < n) (locations g level)
unfolding StandsAt
graph_places names level n g few located = All-map (λ s. s < n) (symbol_at level) g.nodes (λ k node inside. let here = located k node inside in omega (arith, here))

-- each is a symbol of the check's blocks
pub places_below : (check : Checked) (names : List (List ℕ)) (blocks : List ℕ) (pair : FlowPair) (level : Level) → level ≡ check.level → AreCheckBlocks check (length names) blocks
    → IsPairLocated names check.level pair → All (λ s. s < length blocks) (places_of level pair)
places_below check names blocks pair level is are located =
    let symbols = are.letters.symbols in
    let few : length names ≤ length blocks = omega (arith, symbols) in
    subst (λ (l : Level). All (λ s. s < length blocks) (places_of l pair)) (sym is)
    (All-append (λ s. s < length blocks) (locations pair.before check.level) (locations pair.after check.level)
    (graph_places names check.level (length blocks) pair.before few located.0) (graph_places names check.level (length blocks) pair.after few located.1))
