-- What images of words of letters tell of words of symbols.
use Rattle.std.proofs.Common.{◌≡◌, ℕ, ◌<◌, ◌↔◌, List, length, map, sym, ap, ◌∙◌, inl, inr, subst, arith}
use Rattle.std.specs.List.{All}
use Rattle.std.specs.Prelude.{Result, Ok, Err, IfOk}
use Rattle.std.proofs.lemmas.Bool.{cases_lt}
use Rattle.std.proofs.lemmas.List.{get_or_default, get_or_past}
use Rattle.rela_build.specs.PathSets.{Paths}
use Rattle.rela_build.specs.Reading.{read_by}
use Rattle.rela_labels.specs.Partition.{block_count, block_of, IsPartition}
use Rattle.rela_letter_image.specs.Coarse.{coarse_of}
use Rattle.rela_letter_nfa.specs.LetterAutomaton.{LetterAutomaton}
use Rattle.rela_letter_nfa.specs.Runs.{Accepts}
use Rattle.rela_letter_source.specs.Sources.{IsSourceOf}
use Rattle.rela_names.specs.Shortlex.{First, IsBefore}
use Rattle.rela_report.specs.declared.rows.Row.{Row}
use Rattle.rela_report.specs.declared.rows.Row.TheVariants.{Compliant, Violated, Undecided}
use Rattle.rela_report.specs.declared.rows.Side.{Side}
use Rattle.rela_report.specs.declared.rows.Side.TheVariants as side
use Rattle.rela_rir.specs.Words.{WordSet, Relation, ImageOf}
use Rattle.rela_trans.specs.Machine.{IsMachine, Machine}
use Rattle.rela_trans.specs.Runs.{Relates}
use Rattle.rela_engine.specs.Compilation.{Compilation, Relations, AreRelations, RelateAlike}
use Rattle.rela_engine.specs.LetterImages.{AreParents, IsFirstOffence, IsImageUnder, IsReadOver, ReadsJust, TellsFirst, TellsOfFlow, TellsOfImages, TellsSource}
use Rattle.rela_engine.specs.Reading.{Realises}
use Rattle.rela_engine.specs.RowOf.{RowOf, MustBeOpen, relation_of, words_of}
use Rattle.rela_engine.specs.Seen.{AreLeast, AreLeastSymbols}
use Rattle.rela_engine.specs.declared.told.Told.{Told}
use Rattle.rela_engine.specs.declared.told.Told.TheVariants.{Met, Differ, Open}
use Rattle.rela_engine.proofs.LeastWords.{before_letters, same_words}
use Rattle.rela_engine.proofs.LetterLaws.{block_below, word_for}
use Rattle.rela_engine.proofs.LiftedWords.{both, letters_related, symbols_related}
use Rattle.rela_engine.proofs.Rereading.{related_below}
use Rattle.rela_engine.proofs.Rows.{met, offence_of, offence_row, right_row}

-- ---- blocks of a fine partition, and those of a coarse one in which they lie

module _ (coarse fine parents : List ℕ) (same_symbols : length fine ≡ length coarse) (are : AreParents coarse fine parents) where
  -- the coarse letter of a symbol's letter is the symbol's coarse letter, also of a number that is no symbol
  same_reading : (s : ℕ) → coarse_of (block_count coarse) parents (read_by fine s) ≡ read_by coarse s
  same_reading s =
      elim (cases_lt s (length fine)) [
        | inl below ↦
            let by_fine : read_by fine s ≡ block_of fine s = get_or_default fine s (block_count fine) 0 below in
            let within : block_of fine s < length parents = omega (arith, block_below fine s 0 below, are.each) in
            ap (coarse_of (block_count coarse) parents) by_fine
            ∙ get_or_default parents (block_of fine s) (block_count coarse) 0 within
            ∙ are.parent s below
            ∙ sym (get_or_default coarse s (block_count coarse) 0 (omega (arith, below, same_symbols)))
        | inr past ↦
            ap (coarse_of (block_count coarse) parents) (get_or_past fine s (block_count fine) past)
            ∙ get_or_past parents (block_count fine) (block_count coarse) (omega (arith, are.each))
            ∙ sym (get_or_past coarse s (block_count coarse) (omega (arith, past, same_symbols)))
      ]

  -- what is read by the coarse letters is what symbols are read as
  same_readings : (t : Machine) → t.letters ≡ block_count coarse → both (coarse_of t.letters parents) (read_by fine) ≡ read_by coarse
  same_readings t count = λ i s. (ap (λ n. coarse_of n parents (read_by fine s)) count ∙ same_reading s) i

  -- the image of words of letters, read by the coarse ones, is that of the words of symbols
  pub reads_image : (words : WordSet) (paths : LetterAutomaton) (t : Machine) (image : LetterAutomaton) → IsPartition fine → IsReadOver fine words paths
      → t.letters ≡ block_count coarse → IsImageUnder parents paths t image → ReadsJust fine (ImageOf words (Relates (read_by coarse) t)) image
  reads_image words paths t image is over count language w =
      let read = coarse_of t.letters parents in
      let same = same_readings t count in (
        λ accepted.
            let found = (language (map (read_by fine) w)).0 accepted in
            let word = word_for fine is found.0 (over.below found.0 found.1) in
            let lifted = symbols_related read (read_by fine) t word.0 w (subst (λ u. Relates read t u (map (read_by fine) w)) (sym word.1) found.2) in
            record {
              source = lifted.0;
              in_set = (over.reads lifted.0).0 (subst (Accepts paths) (sym (lifted.1 ∙ word.1)) found.1);
              related = subst (λ by. Relates by t lifted.0 w) same lifted.2;
            },
        λ found. (language (map (read_by fine) w)).1 (
          map (read_by fine) found.source,
          (over.reads found.source).1 found.in_set,
          letters_related read (read_by fine) t found.source w (subst (λ by. Relates by t found.source w) (sym same) found.related),
        ),
      )

  -- its words have letters of the fine partition alone
  pub image_below : (paths : LetterAutomaton) (t : Machine) (image : LetterAutomaton) → IsMachine t → IsImageUnder parents paths t image
      → (v : List ℕ) → Accepts image v → All (λ k. k < block_count fine) v
  image_below paths t image ok language v accepted =
      let found = (language v).0 accepted in
      let only : (s : ℕ) → coarse_of t.letters parents s < t.letters → s < length parents =
      λ s letter. elim (cases_lt s (length parents)) [
        | inl below ↦ below
        | inr past ↦ absurd (omega (arith, letter, get_or_past parents s t.letters past))
      ] in
      subst (λ n. All (λ k. k < n) v) are.each (related_below (coarse_of t.letters parents) t ok (length parents) only found.0 v found.2).1

  -- the first source of a word of letters, by the symbols that are the least of their blocks, is the first path that is related
  -- to each word of symbols with these letters
  module _ (is : IsPartition fine) (words : WordSet) (paths : LetterAutomaton) (t : Machine) (over : IsReadOver fine words paths)
      (count : t.letters ≡ block_count coarse) (least : (w : List ℕ) → words w → AreLeastSymbols fine w) where
    abbrev read : ℕ → ℕ
    read = coarse_of t.letters parents

    path_of : (source word : List ℕ) → IsSourceOf read paths t (map (read_by fine) word) source
        → (u : List ℕ) × (map (read_by fine) u ≡ source) × words u × Relates (read_by coarse) t u word
    path_of source word is_source =
        let some = word_for fine is source (over.below source is_source.0) in
        let lifted = symbols_related read (read_by fine) t some.0 word (subst (λ u. Relates read t u (map (read_by fine) word)) (sym some.1) is_source.1) in (
          lifted.0,
          lifted.1 ∙ some.1,
          (over.reads lifted.0).0 (subst (Accepts paths) (sym (lifted.1 ∙ some.1)) is_source.0),
          subst (λ by. Relates by t lifted.0 word) (same_readings t count) lifted.2,
        )

    source_of : (u word : List ℕ) → words u → Relates (read_by coarse) t u word → IsSourceOf read paths t (map (read_by fine) word) (map (read_by fine) u)
    source_of u word in_words related = (
      (over.reads u).1 in_words,
      letters_related read (read_by fine) t u word (subst (λ by. Relates by t u word) (sym (same_readings t count)) related),
    )

    first_path : (word source path : List ℕ) → First (IsSourceOf read paths t (map (read_by fine) word)) source → AreLeast fine source path
        → First (λ u. words u × Relates (read_by coarse) t u word) path
    first_path word source path first symbols =
        let found = path_of source word first.member in
        let same : found.0 ≡ path = same_words fine found.0 path (least found.0 found.2) symbols.least (found.1 ∙ sym symbols.read) in
        record {
          member = subst (λ u. words u × Relates (read_by coarse) t u word) same (found.2, found.3);
          least = λ v is_source before.
              first.least (map (read_by fine) v) (source_of v word is_source.0 is_source.1)
              (subst (IsBefore (map (read_by fine) v)) symbols.read (before_letters fine is v path symbols.least before));
        }

    -- so the row that tells of both by their least symbols tells of the words
    pub tells_first_path : (letters : List ℕ) (of : Side) (source : List ℕ) (row : Row) → First (IsSourceOf read paths t letters) source
        → TellsSource fine letters of source row → TellsFirst fine words (Relates (read_by coarse) t) letters of row
    tells_first_path letters of source Compliant first tells = absurd tells
    tells_first_path letters of source Undecided first tells = absurd tells
    tells_first_path letters of source (Violated word on path) first tells =
        (tells.0, tells.1, first_path word source path (subst (λ l. First (IsSourceOf read paths t l) source) (sym tells.0.read) first) tells.2)

-- a transducer that was made to relate the same
pub relate_alike : {E : Type 0} (r : Result Machine E) (t : Machine) → IfOk r (λ made. made.letters ≡ t.letters)
    → IfOk r (λ made. (by : ℕ → ℕ) (u v : List ℕ) → Relates by made u v ↔ Relates by t u v) → IfOk r (λ made. RelateAlike made t)
relate_alike (Ok made) t letters relation = record { letters = letters; relation = relation }
relate_alike (Err e) t letters relation = tt

-- the image by it is the image by the other
pub image_alike : (parents : List ℕ) (paths : LetterAutomaton) (t other : Machine) (image : LetterAutomaton) → RelateAlike t other
    → IsImageUnder parents paths t image → IsImageUnder parents paths other image
image_alike parents paths t other image alike language v =
    let same : coarse_of t.letters parents ≡ coarse_of other.letters parents = ap (λ n. coarse_of n parents) alike.letters in (
      λ accepted.
          let found = (language v).0 accepted in
          (found.0, found.1, subst (λ by. Relates by other found.0 v) same ((alike.relation (coarse_of t.letters parents) found.0 v).0 found.2)),
      λ found.
          (language v).1 (found.0, found.1, (alike.relation (coarse_of t.letters parents) found.0 v).1 (subst (λ by. Relates by other found.0 v) (sym same) found.2)),
    )

-- the first source by it is the first source by the other
pub source_alike : (parents : List ℕ) (paths : LetterAutomaton) (t other : Machine) (letters source : List ℕ) → RelateAlike t other
    → First (IsSourceOf (coarse_of t.letters parents) paths t letters) source → First (IsSourceOf (coarse_of other.letters parents) paths other letters) source
source_alike parents paths t other letters source alike first =
    let by = coarse_of t.letters parents in
    let same : by ≡ coarse_of other.letters parents = ap (λ n. coarse_of n parents) alike.letters in
    record {
      member = (first.member.0, subst (λ r. Relates r other source letters) same ((alike.relation by source letters).0 first.member.1));
      least = λ u is. first.least u (is.0, (alike.relation by u letters).1 (subst (λ r. Relates r other u letters) (sym same) is.1));
    }

-- ---- what is told of a flow

-- the same of a relation with the same pairs
reads_same : (blocks : List ℕ) (words A : WordSet) (pairs others : Relation) → ((u v : List ℕ) → pairs u v ↔ others u v)
    → ((w : List ℕ) → A (map (read_by blocks) w) ↔ ImageOf words pairs w) → (w : List ℕ) → A (map (read_by blocks) w) ↔ ImageOf words others w
reads_same blocks words A pairs others same reads w = (
  λ accepted. let found = (reads w).0 accepted in
      record { source = found.source; in_set = found.in_set; related = (same found.source w).0 found.related },
  λ found. (reads w).1 (record { source = found.source; in_set = found.in_set; related = (same found.source w).1 found.related }),
)

first_same : (blocks : List ℕ) (words : WordSet) (pairs others : Relation) → ((u v : List ℕ) → pairs u v ↔ others u v)
    → (letters : List ℕ) (of : Side) (row : Row) → TellsFirst blocks words pairs letters of row → TellsFirst blocks words others letters of row
first_same blocks words pairs others same letters of Compliant tells = absurd tells
first_same blocks words pairs others same letters of Undecided tells = absurd tells
first_same blocks words pairs others same letters of (Violated word on source) tells = (
  tells.0,
  tells.1,
  record {
    member = (tells.2.member.0, (same source word).0 tells.2.member.1);
    least = λ u is before. tells.2.least u (is.0, (same u word).1 is.1) before;
  },
)

-- the small transducer of the relation of this side
abbrev pub small_on : Side → Relations → Machine
small_on side.Before relations = relations.before.small
small_on side.After relations = relations.after.small

module _ (c : Compilation) (relations : Relations) (are : AreRelations c relations) where
  on_side : (of : Side) → Realises c.blocks (relation_of of c.check c.locations) (small_on of relations)
  on_side side.Before = are.before.small
  on_side side.After = are.after.small

  -- a transducer that was lent has the pairs of the relation
  lent : (of : Side) (t : Machine) → t ≡ small_on of relations → (u v : List ℕ) → Relates (read_by c.blocks) t u v ↔ relation_of of c.check c.locations u v
  lent of t is = subst (λ (m : Machine). (u v : List ℕ) → Relates (read_by c.blocks) m u v ↔ relation_of of c.check c.locations u v) (sym is) (on_side of).relation

  -- and its letters are the blocks of the check
  pub lent_letters : (of : Side) (t : Machine) → t ≡ small_on of relations → t.letters ≡ block_count c.blocks
  lent_letters of t is = ap (λ (m : Machine). m.letters) is ∙ (on_side of).letters

  -- two images by letters tell of the flow
  module _ (blocks : List ℕ) (partition : IsPartition blocks) (pre post A B : WordSet) (first second : Machine)
      (first_is : first ≡ small_on side.Before relations) (second_is : second ≡ small_on side.After relations)
      (reads_pre : (w : List ℕ) → A (map (read_by blocks) w) ↔ ImageOf pre (Relates (read_by c.blocks) first) w)
      (reads_post : (w : List ℕ) → B (map (read_by blocks) w) ↔ ImageOf post (Relates (read_by c.blocks) second) w)
      (below_pre : (v : List ℕ) → A v → All (λ k. k < block_count blocks) v) (below_post : (v : List ℕ) → B v → All (λ k. k < block_count blocks) v) where
    in_pre : (w : List ℕ) → A (map (read_by blocks) w) ↔ ImageOf pre (relation_of side.Before c.check c.locations) w
    in_pre = reads_same blocks pre A (Relates (read_by c.blocks) first) (relation_of side.Before c.check c.locations) (lent side.Before first first_is) reads_pre

    in_post : (w : List ℕ) → B (map (read_by blocks) w) ↔ ImageOf post (relation_of side.After c.check c.locations) w
    in_post = reads_same blocks post B (Relates (read_by c.blocks) second) (relation_of side.After c.check c.locations) (lent side.After second second_is) reads_post

    below_on : (of : Side) (letters : List ℕ) → words_of of A B letters → All (λ k. k < block_count blocks) letters
    below_on side.Before letters one = below_pre letters one
    below_on side.After letters one = below_post letters one

    pub flow_told : (told : Told) → TellsOfImages c.check.at_most A B told → TellsOfFlow c.check c.locations pre post blocks told
    flow_told Met are_met =
        met blocks A B (ImageOf pre (relation_of side.Before c.check c.locations)) (ImageOf post (relation_of side.After c.check c.locations)) in_pre in_post c.check.at_most are_met
    flow_told (Differ offence) tells =
        offence_of blocks partition c.check c.locations pre post A B in_pre in_post offence.letters offence.side (below_on offence.side offence.letters tells.1) tells.0 tells.1
    flow_told Open tells = tt

  module _ (blocks : List ℕ) (flow : Paths) (of : Side) (letters : List ℕ) (is : IsFirstOffence c.check c.locations flow.pre flow.post blocks letters of)
      (t : Machine) (t_is : t ≡ small_on of relations) where
    -- the words with the letters of the offence are in the image
    pub side_image : (word : List ℕ) → map (read_by blocks) word ≡ letters → ImageOf (words_of of flow.pre flow.post) (Relates (read_by c.blocks) t) word
    side_image word same =
        let found = is.in_image word same in
        record { source = found.source; in_set = found.in_set; related = (lent of t t_is found.source word).1 found.related }

    -- and the row that tells of the offence is right
    pub side_row : ¬ MustBeOpen c.check c.locations flow c.states → (row : Row) → TellsFirst blocks (words_of of flow.pre flow.post) (Relates (read_by c.blocks) t) letters of row → RowOf c.check c.locations flow c.states row
    side_row unforced row tells =
        right_row c.check c.locations flow c.states unforced row
        (offence_row blocks c.check c.locations flow c.states letters of is row
        (first_same blocks (words_of of flow.pre flow.post) (Relates (read_by c.blocks) t) (relation_of of c.check c.locations) (lent of t t_is) letters of row tells))
