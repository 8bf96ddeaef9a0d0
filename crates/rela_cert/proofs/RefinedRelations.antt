-- The relations of a check over finer blocks, for the paths of a flow, and the images by them.
use Rattle.std.proofs.Common.{◌≡◌, ◌∙◌, ℕ, ◌+◌, ◌↔◌, List, length, map, sym, subst, arith}
use Rattle.rela_blocks.specs.FlowName.{paths_at}
use Rattle.rela_blocks.specs.Scenes.{lettering_of}
use Rattle.rela_build.specs.Lettering.{Lettering}
use Rattle.rela_build.specs.Made.{IsMade, IsMadeR, Leads, LeadsR}
use Rattle.rela_build.specs.Numbered.{AreNumbered, two_of}
use Rattle.rela_build.specs.PathSets.{Paths}
use Rattle.rela_build.specs.Reading.{read_by}
use Rattle.rela_labels.specs.Partition.{block_count}
use Rattle.rela_nfa.specs.Automaton.{Automaton, states}
use Rattle.rela_nfa.specs.Runs.{Reach}
use Rattle.rela_pairs.specs.Reachable.{MoreThan}
use Rattle.rela_pairs.specs.declared.pair.Pair.{Pair}
use Rattle.rela_rir.specs.Agreement.{AgreeOnR}
use Rattle.rela_rir.specs.BuiltTerms.{Stand, StandR}
use Rattle.rela_rir.specs.Limit.{Reached, ReachedInside}
use Rattle.rela_rir.specs.Meaning.{In, InR}
use Rattle.rela_rir.specs.Places.{At, Scene}
use Rattle.rela_rir.specs.ReachedTerms.{CarriedTables, StandFor, StandForR}
use Rattle.rela_rir.specs.Tables.{IsExact, IsStateReached, ReachFromSource}
use Rattle.rela_rir.specs.Words.{ImageOf}
use Rattle.rela_rir.specs.declared.term.PathTerm.{PathTerm}
use Rattle.rela_rir.specs.declared.term.RelTerm.{RelTerm}
use Rattle.rela_rir.specs.declared.term.PathTerm.TheVariants as P
use Rattle.rela_trans.specs.Composition.{Covers}
use Rattle.rela_trans.specs.Images.{AreReachedFrom}
use Rattle.rela_trans.specs.Machine.{IsMachine, Machine, machine_states}
use Rattle.rela_trans.specs.Runs.{ReachR, Relates}
use Rattle.rela_cert.specs.CheckRelations.{IsReadBy, IsWrittenBy}
use Rattle.rela_cert.specs.RowNames.{RowName, no_flow, row_machines, row_scenes}
use Rattle.rela_cert.proofs.LetterLaws.{Below, covered, state_of_reach, word_for, word_of_symbols}
use Rattle.rela_cert.proofs.NoPaths.{agree_r}
use Rattle.rela_cert.proofs.Refinements.{reach_below}

-- the letters of a relation are the blocks that it was made of
pub relation_letters : (E : Type 0) (l : Lettering) (paths : Paths) (r : RelTerm) (t : Machine) → IsMadeR E l paths r t → t.letters ≡ block_count l.blocks
unfolding IsMadeR
relation_letters E l paths r t made = made.letters

-- ---- what the laws of transducers say of symbols and their letters

abbrev pub SymbolsGiveLetters : Type 0
SymbolsGiveLetters = (read : ℕ → ℕ) (t : Machine) (q : ℕ) (u v : List ℕ) → ReachR read t q u v → ReachR (λ k. k) t q (map read u) (map read v)

abbrev pub LettersGiveSymbols : Type 0
LettersGiveSymbols =
    (read : ℕ → ℕ) (t : Machine) → IsMachine t → Covers read t.letters → (q : ℕ) (letters v : List ℕ) → ReachR (λ k. k) t q letters (map read v)
    → (u : List ℕ) × (map read u ≡ letters) × ReachR read t q u v

-- ---- what the laws of terms say in the scenes of rows

abbrev pub PairsAlike : Type 0
PairsAlike =
    (at other : RowName) (r : RelTerm) → AgreeOnR (row_scenes.of at) (row_scenes.of other) r
    → (u v : List ℕ) → InR (row_scenes.of at).setting r u v ↔ InR (row_scenes.of other).setting r u v

abbrev pub ImagesPlaced : Type 0
ImagesPlaced =
    (at : RowName) (x : PathTerm) (r : RelTerm) (n k : ℕ) (a : List ℕ × Automaton) (t : List ℕ × Machine) (u : List ℕ × Automaton) (pairs : List Pair)
    → Stand row_machines at x n a → StandR row_machines at r k t
    → AreNumbered pairs (ReachFromSource (row_machines.reach a) (row_machines.reach_pair t)) (row_machines.reach u)
    → Stand row_machines at (P.Image x r) (length pairs) u

abbrev pub ImagesPass : Type 0
ImagesPass =
    (at : RowName) (x : PathTerm) (r : RelTerm) (a : List ℕ × Automaton) (t : List ℕ × Machine) (words : Automaton) (relation : Machine) (limit : ℕ)
    → StandFor row_machines at x a → StandForR row_machines at r t
    → ((z : Pair) → AreReachedFrom words relation z → IsStateReached (row_scenes.of at) (ReachFromSource (row_machines.reach a) (row_machines.reach_pair t)) (two_of z))
    → MoreThan limit (AreReachedFrom words relation) → Reached (row_scenes.of at) (P.Image x r) (limit + 1)

-- ---- the image by the relation over finer blocks

module _ (tables : CarriedTables row_machines) (at : RowName) (coarse fine : List ℕ) (x : PathTerm) (r : RelTerm) (words : Automaton) (t u : Machine)
    (is : IsReadBy at coarse fine x r words t u) where
  abbrev l : Lettering
  l = lettering_of at.check at.locations fine

  abbrev m : Scene
  m = row_scenes.of at

  abbrev f : ℕ → ℕ
  f = read_by fine

  words_letters : words.letters ≡ block_count fine
  unfolding IsMade
  words_letters = is.made.letters

  -- for the flow too its states stand for places of the term
  placed_here : StandR row_machines at r (machine_states t) (coarse, t)
  unfolding IsMadeR
  placed_here =
      (tables.counted_relations (no_flow at.check at.locations) at r (machine_states t) (coarse, t) (agree_r at r is.fixed)).0
      (record { table = is.relation.table; is_table = is.relation.placed; exact = is.relation.exact })

  words_placed : Stand row_machines at x (states words) (fine, words)
  unfolding IsMade
  words_placed = record { table = is.made.table; is_table = is.made.placed; exact = is.made.exact }

  covers : Covers f (block_count fine)
  covers = covered fine is.letters.partition

  covers_words : Covers f words.letters
  covers_words = subst (Covers f) (sym words_letters) covers

  module _ (alike : PairsAlike) (placed : ImagesPlaced) (to_letters : SymbolsGiveLetters) where
    related_here : (v w : List ℕ) → Relates (read_by coarse) t v w ↔ InR m.setting r v w
    unfolding IsMadeR
    related_here v w =
        let same = alike (no_flow at.check at.locations) at r (agree_r at r is.fixed) v w in
        (λ related. same.0 ((is.relation.relation v w).0 related), λ among. (is.relation.relation v w).1 (same.1 among))

    stands : (image : Automaton) (written : IsWrittenBy u words image) → Stand row_machines at (P.Image x r) (length written.pairs.0) (fine, image)
    stands image written =
        let pairs = written.pairs.0 in
        let images = written.pairs.1 in
        placed at x r (states words) (machine_states t) (fine, words) (coarse, t) (fine, image) pairs words_placed placed_here (record {
          distinct = images.distinct;
          all = λ z v (source, first, second).
              images.all z (map f source, map f v, first, to_letters f u z.right source v ((is.refined.reached z.left z.right source v first).1 second));
          below = λ k v h. let less = state_of_reach image written.automaton k (map f v) h in omega (arith, less, images.count);
          reached = λ k z here v. (
            λ h. let from = (images.reached f covers_words k z here v).0 h in (from.0, from.1, (is.refined.reached z.left z.right from.0 v from.1).0 from.2),
            λ from. (images.reached f covers_words k z here v).1 (from.0, from.1, (is.refined.reached z.left z.right from.0 v from.1).1 from.2),
          );
        })

    pub image_made : ((w : List ℕ) → In m.setting (P.Image x r) w ↔ ImageOf (In m.setting x) (InR m.setting r) w) → (image : Automaton) → IsWrittenBy u words image
        → IsMade (Unit {0}) l (paths_at at.flow) (P.Image x r) image
    unfolding IsMade
    image_made means image written =
        let stand = stands image written in
        record {
          automaton = written.automaton;
          letters = written.letters ∙ is.made.letters;
          language = λ w. (
            λ accepted.
                let found = (written.language f covers_words w).0 accepted in
                (means w).1 (record {
                  source = found.0;
                  in_set = (is.made.language found.0).0 found.1;
                  related = (related_here found.0 w).0 ((is.refined.relation found.0 w found.1).0 found.2);
                }),
            λ among.
                let i = (means w).0 among in
                let accepted = (is.made.language i.source).1 i.in_set in
                (written.language f covers_words w).1 (i.source, accepted, (is.refined.relation i.source w accepted).1 ((related_here i.source w).1 i.related)),
          );
          table = stand.table;
          placed = stand.is_table;
          exact = λ e. subst (λ (k : ℕ). IsExact k (Leads fine image) (At m (P.Image x r)) stand.table) written.pairs.1.count (stand.exact e);
        }

  module _ (pass : ImagesPass) (to_symbols : LettersGiveSymbols) where
    -- what one source of letters leads to is led to by a source of symbols
    from_symbols : (z : Pair) → AreReachedFrom words u z → IsStateReached m (ReachFromSource (Leads fine words) (LeadsR coarse t)) (two_of z)
    from_symbols z (source, w, left, right) =
        let below : Below (block_count fine) w =
        subst (λ (k : ℕ). Below k w) is.refined.letters (reach_below (λ k. k) u is.refined.machine u.letters (λ k letter. letter) z.right source w right).1 in
        let v = word_for fine is.letters.partition w below in
        let lifted = to_symbols f u is.refined.machine (subst (Covers f) (sym is.refined.letters) covers) z.right source v.0
        (subst (λ (o : List ℕ). ReachR (λ k. k) u z.right source o) (sym v.1) right) in
        let leads : Leads fine words z.left lifted.0 = subst (Reach words z.left) (sym lifted.1) left in (
          v.0,
          subst (λ (k : ℕ). Below k v.0) is.letters.symbols (word_of_symbols fine v.0 (subst (Below (block_count fine)) (sym v.1) below)),
          (lifted.0, leads, (is.refined.reached z.left z.right lifted.0 v.0 leads).0 lifted.2),
        )

    pub image_passes : (limit : ℕ) → (Reached m (P.Image x r) (limit + 1) → ReachedInside m (limit + 1) (P.Image x r)) → MoreThan limit (AreReachedFrom words u)
        → ReachedInside m (limit + 1) (P.Image x r)
    image_passes limit inside more =
        inside (pass at x r (fine, words) (coarse, t) words u limit (record { table = words_placed.table; is_table = words_placed.is_table })
        (record { table = placed_here.table; is_table = placed_here.is_table }) from_symbols more)
