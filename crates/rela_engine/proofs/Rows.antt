-- The row of a check, by what automata over blocks of symbols tell.
use Rattle.std.proofs.Common.{◌≡◌, ℕ, ◌<◌, ◌↔◌, Bool, true, false, List, map, sym, ◌∙◌, subst, inl, inr}
use Rattle.std.specs.List.{All}
use Rattle.rela_labels.specs.Partition.{block_count, IsPartition}
use Rattle.rela_names.specs.Shortlex.{IsBefore, First}
use Rattle.rela_nfa.specs.Automaton.{Automaton, IsAutomaton}
use Rattle.rela_nfa.specs.Runs.{Accepts}
use Rattle.rela_report.specs.declared.rows.Row.{Row}
use Rattle.rela_report.specs.declared.rows.Row.TheVariants.{Compliant, Violated, Undecided}
use Rattle.rela_report.specs.declared.rows.Side.{Side}
use Rattle.rela_report.specs.declared.rows.Side.TheVariants as side
use Rattle.rela_rir.specs.Meaning.{InR}
use Rattle.rela_rir.specs.Words.{WordSet, Relation, ImageOf}
use Rattle.rela_rir.specs.declared.term.RelTerm.{RelTerm}
use Rattle.rela_trans.specs.Machine.{Machine, IsMachine}
use Rattle.rela_trans.specs.Runs.{Relates}
use Rattle.rela_translate.specs.Checked.{Checked}
use Rattle.rela_translate.specs.Settings.{bare}
use Rattle.rela_translate.specs.Terms.{before_of, after_of}
use Rattle.rela_translate.specs.Verdict.{AreMet, Offending, Offends}
use Rattle.rela_build.specs.Lettering.{Lettering}
use Rattle.rela_build.specs.Reading.{read_by}
use Rattle.rela_build.specs.Made.{IsMadeR}
use Rattle.rela_build.specs.PathSets.{Paths, no_paths}
use Rattle.rela_engine.specs.Compilation.{Compilation, Relations, Twofold, AreRelations}
use Rattle.rela_engine.specs.Reading.{Recognises, Realises, RealisesFrom}
use Rattle.rela_engine.specs.LetterImages.{IsFirstOffence, TellsFirst}
use Rattle.rela_engine.specs.RowOf.{RowOf, MustBeOpen, Says, IsOffence, relation_of, words_of}
use Rattle.rela_blocks.specs.Scenes.{lettering_of}
use Rattle.rela_engine.specs.Seen.{AreSeen, AreSides, AreLeastSymbols, IsSource, IsFirstSource, TellsOf, machine_of}
use Rattle.rela_engine.specs.declared.seen.Form.{Form}
use Rattle.rela_engine.specs.declared.seen.Form.TheVariants as form
use Rattle.rela_engine.proofs.LeastWords.{before_letters, first_symbols, same_words}
use Rattle.rela_engine.proofs.LetterLaws.{accepted_letters, word_for}
use Rattle.rela_engine.proofs.LiftedWords.{letters_related, symbols_related}
use Rattle.rela_engine.proofs.Rereading.{related_below}

-- ---- images told by letters

-- a relation with the same pairs
pub same_pairs : (coarse fine : List ℕ) (words : WordSet) (pairs : Relation) (a b : Machine) → Realises coarse pairs a → RealisesFrom fine words (Relates (read_by coarse) a) b
    → RealisesFrom fine words pairs b
same_pairs coarse fine words pairs a b is same = record {
  letters = same.letters;
  relation = λ u v in_words. (
    λ related. (is.relation u v).0 ((same.relation u v in_words).0 related),
    λ pair. (same.relation u v in_words).1 ((is.relation u v).1 pair),
  );
}

-- what an automaton of an image recognises
pub recognises_image : (blocks : List ℕ) (words : WordSet) (pairs : Relation) (a : Automaton) (t : Machine) (image : Automaton)
    → Recognises blocks words a → RealisesFrom blocks words pairs t → image.letters ≡ a.letters
    → ((v : List ℕ) → Accepts image (map (read_by blocks) v) ↔ ((source : List ℕ) × Accepts a (map (read_by blocks) source) × Relates (read_by blocks) t source v))
    → Recognises blocks (ImageOf words pairs) image
recognises_image blocks words pairs a t image in_a in_t letters language = record {
  letters = letters ∙ in_a.letters;
  language = λ v. (
    λ accepted.
        let found = (language v).0 accepted in
        let in_words = (in_a.language found.0).0 found.1 in
        record { source = found.0; in_set = in_words; related = (in_t.relation found.0 v in_words).0 found.2 },
    λ is. (language v).1 (is.source, (in_a.language is.source).1 is.in_set, (in_t.relation is.source v is.in_set).1 is.related),
  );
}

pub image_of_same : (blocks : List ℕ) (words : WordSet) (pairs others : Relation) (image : Automaton) → ((u v : List ℕ) → pairs u v ↔ others u v)
    → Recognises blocks (ImageOf words pairs) image → Recognises blocks (ImageOf words others) image
image_of_same blocks words pairs others image same is = record {
  letters = is.letters;
  language = λ w. (
    λ accepted. let found = (is.language w).0 accepted in
        record { source = found.source; in_set = found.in_set; related = (same found.source w).0 found.related },
    λ found. (is.language w).1 (record { source = found.source; in_set = found.in_set; related = (same found.source w).1 found.related }),
  );
}

-- the automata of a relation are those of one with the same pairs
pub seen_by_same : (blocks coarse : List ℕ) (words : WordSet) (pairs : Relation) (t : Machine) (paths : Automaton) (relation : Machine) (image : Automaton)
    → Realises coarse pairs t → AreSeen blocks words (Relates (read_by coarse) t) paths relation image → AreSeen blocks words pairs paths relation image
seen_by_same blocks coarse words pairs t paths relation image is seen = record {
  of_paths = seen.of_paths;
  of_relation = same_pairs coarse blocks words pairs t relation is seen.of_relation;
  of_image = image_of_same blocks words (Relates (read_by coarse) t) pairs image is.relation seen.of_image;
  of_pairs = seen.of_pairs;
  paths_ok = seen.paths_ok;
  relation_ok = seen.relation_ok;
  image_ok = seen.image_ok;
  least = seen.least;
}

-- ---- the verdict

-- two sets of words of letters, of each of which the words of symbols are known
module _ (blocks : List ℕ) (A B X Y : WordSet) (in_x : (w : List ℕ) → A (map (read_by blocks) w) ↔ X w) (in_y : (w : List ℕ) → B (map (read_by blocks) w) ↔ Y w) where
  pub met : (at_most : Bool) → AreMet at_most A B → AreMet at_most X Y
  met false same =
      λ w. (
        λ is. (in_y w).0 ((same (map (read_by blocks) w)).0 ((in_x w).1 is)),
        λ is. (in_x w).0 ((same (map (read_by blocks) w)).1 ((in_y w).1 is)),
      )
  met true within = λ w is. (in_x w).0 (within (map (read_by blocks) w) ((in_y w).1 is))

  pub offends : (at_most : Bool) (w : List ℕ) → Offends at_most A B (map (read_by blocks) w) ↔ Offends at_most X Y w
  offends false w = (
    λ o. elim o [
      | inl first ↦ inl ((in_x w).0 first.0, λ is. first.1 ((in_y w).1 is))
      | inr second ↦ inr (λ is. second.0 ((in_x w).1 is), (in_y w).0 second.1)
    ],
    λ o. elim o [
      | inl first ↦ inl ((in_x w).1 first.0, λ is. first.1 ((in_y w).0 is))
      | inr second ↦ inr (λ is. second.0 ((in_x w).0 is), (in_y w).1 second.1)
    ],
  )
  offends true w = (
    λ o. ((in_y w).0 o.0, λ is. o.1 ((in_x w).1 is)),
    λ o. ((in_y w).1 o.0, λ is. o.1 ((in_x w).0 is)),
  )

-- ---- the source

-- what is accepted is a word of letters
pub letters_below : (blocks : List ℕ) (a : Automaton) → IsAutomaton a → a.letters ≡ block_count blocks → (letters : List ℕ) → Accepts a letters → All (λ k. k < block_count blocks) letters
letters_below blocks a ok count letters accepted = subst (λ n. All (λ k. k < n) letters) count (accepted_letters a ok letters accepted)

module _ (blocks : List ℕ) (is : IsPartition blocks) (words : WordSet) (pairs : Relation) (paths : Automaton) (relation : Machine)
    (of_paths : Recognises blocks words paths) (of_relation : RealisesFrom blocks words pairs relation) (relation_ok : IsMachine relation) where
  -- a source by letters stands for a path
  path_of : (letters word : List ℕ) → IsSource paths relation (map (read_by blocks) word) letters
      → (u : List ℕ) × (map (read_by blocks) u ≡ letters) × words u × pairs u word
  path_of letters word source =
      let below = related_below (λ k. k) relation relation_ok relation.letters (λ k letter. letter) letters (map (read_by blocks) word) source.1 in
      let some = word_for blocks is letters (subst (λ n. All (λ k. k < n) letters) of_relation.letters below.0) in
      let lifted =
      symbols_related (λ k. k) (read_by blocks) relation some.0 word (subst (λ l. Relates (λ k. k) relation l (map (read_by blocks) word)) (sym some.1) source.1) in
      let read : map (read_by blocks) lifted.0 ≡ letters = lifted.1 ∙ some.1 in
      let in_words = (of_paths.language lifted.0).0 (subst (Accepts paths) (sym read) source.0) in
      (lifted.0, read, in_words, (of_relation.relation lifted.0 word in_words).0 lifted.2)

  -- and each path that is related to the word has letters that are a source
  source_of : (u word : List ℕ) → words u → pairs u word → IsSource paths relation (map (read_by blocks) word) (map (read_by blocks) u)
  source_of u word in_words related = (
    (of_paths.language u).1 in_words,
    letters_related (λ k. k) (read_by blocks) relation u word ((of_relation.relation u word in_words).1 related),
  )

  -- the letters of each word of the image have a source
  pub source_from : (letters word : List ℕ) → map (read_by blocks) word ≡ letters → ImageOf words pairs word → (source : List ℕ) × IsSource paths relation letters source
  source_from letters word are found = (
    map (read_by blocks) found.source,
    subst (λ l. IsSource paths relation l (map (read_by blocks) found.source)) are (source_of found.source word found.in_set found.related),
  )

  module _ (least : (w : List ℕ) → words w → AreLeastSymbols blocks w) where
    first_path : (word source : List ℕ) → IsFirstSource blocks paths relation (map (read_by blocks) word) source → First (λ u. words u × pairs u word) source
    first_path word source found =
        let path = path_of found.letters word found.first.member in
        let same : path.0 ≡ source = same_words blocks path.0 source (least path.0 path.2) found.symbols_are.least (path.1 ∙ sym found.symbols_are.read) in
        record {
          member = subst (λ u. words u × pairs u word) same (path.2, path.3);
          least = λ v is_source before.
              found.first.least (map (read_by blocks) v) (source_of v word is_source.0 is_source.1)
              (subst (IsBefore (map (read_by blocks) v)) found.symbols_are.read (before_letters blocks is v source found.symbols_are.least before));
        }

    -- a row that tells of sources by letters tells of the words
    pub tells_first : (letters : List ℕ) (of : Side) (row : Row) → TellsOf blocks paths relation letters of row → TellsFirst blocks words pairs letters of row
    tells_first letters of Compliant tells = absurd tells
    tells_first letters of Undecided tells = absurd tells
    tells_first letters of (Violated word on source) tells =
        (tells.0, tells.1, first_path word source (subst (λ l. IsFirstSource blocks paths relation l source) (sym tells.0.read) tells.2))

-- each word of an image has a source
pub some_source : (blocks : List ℕ) → IsPartition blocks → (words : WordSet) (pairs : Relation) (paths : Automaton) (relation : Machine) (image : Automaton)
    → AreSeen blocks words pairs paths relation image → (letters : List ℕ) → Accepts image letters → (source : List ℕ) × IsSource paths relation letters source
some_source blocks is words pairs paths relation image seen letters accepted =
    let word = word_for blocks is letters (letters_below blocks image seen.image_ok seen.of_image.letters letters accepted) in
    source_from blocks is words pairs paths relation seen.of_paths seen.of_relation seen.relation_ok letters word.0 word.1
    ((seen.of_image.language word.0).0 (subst (Accepts image) (sym word.1) accepted))

-- ---- the row

-- a plain transducer of a term has the pairs that the term means
pub plain_realises : (check : Checked) (n : ℕ) (blocks : List ℕ) (r : RelTerm) (pairs : Relation) (t : Machine)
    → ((u v : List ℕ) → InR (bare check.classes n) r u v ↔ pairs u v)
    → IsMadeR ⊥ (lettering_of check n blocks) no_paths r t → Realises blocks pairs t
unfolding IsMadeR
plain_realises check n blocks r pairs t means made = record {
  letters = made.letters;
  relation = λ u v. (λ related. (means u v).0 ((made.relation u v).0 related), λ pair. (made.relation u v).1 ((means u v).1 pair));
}

-- the letters of a plain transducer are the blocks
made_letters : (l : Lettering) (r : RelTerm) (t : Machine) → IsMadeR ⊥ l no_paths r t → t.letters ≡ block_count l.blocks
unfolding IsMadeR
made_letters l r t made = made.letters

-- the letters of relations that were lent are the blocks of the check
module _ (c : Compilation) (relations : Relations) (are : AreRelations c relations) where
  pub before_letters_are : (lent : Twofold) → lent ≡ relations.before → (lent.plain.letters ≡ block_count c.blocks) × (lent.small.letters ≡ block_count c.blocks)
  before_letters_are lent lent_is =
      subst (λ (r : Twofold). (r.plain.letters ≡ block_count c.blocks) × (r.small.letters ≡ block_count c.blocks)) (sym lent_is)
      (made_letters (lettering_of c.check c.locations c.blocks) (before_of c.locations c.check.body) relations.before.plain are.before.plain, are.before.small.letters)

  pub after_letters_are : (lent : Twofold) → lent ≡ relations.after → (lent.plain.letters ≡ block_count c.blocks) × (lent.small.letters ≡ block_count c.blocks)
  after_letters_are lent lent_is =
      subst (λ (r : Twofold). (r.plain.letters ≡ block_count c.blocks) × (r.small.letters ≡ block_count c.blocks)) (sym lent_is)
      (made_letters (lettering_of c.check c.locations c.blocks) (after_of c.locations c.check.body) relations.after.plain are.after.plain, are.after.small.letters)

module _ (c : Compilation) (relations : Relations) (are : AreRelations c relations)
    (before_plain : Realises c.blocks (relation_of side.Before c.check c.locations) relations.before.plain)
    (after_plain : Realises c.blocks (relation_of side.After c.check c.locations) relations.after.plain) where
  -- in either form a transducer realises its relation
  before_realises : (f : Form) → Realises c.blocks (relation_of side.Before c.check c.locations) (machine_of f relations.before)
  before_realises form.Plain = before_plain
  before_realises form.Small = are.before.small

  after_realises : (f : Form) → Realises c.blocks (relation_of side.After c.check c.locations) (machine_of f relations.after)
  after_realises form.Plain = after_plain
  after_realises form.Small = are.after.small

  -- what is seen through relations that were lent
  pub sides_of : (blocks : List ℕ) (f : Form) (pre post : WordSet) (before after : Twofold)
      (pre_paths : Automaton) (pre_relation : Machine) (pre_image : Automaton) (post_paths : Automaton) (post_relation : Machine) (post_image : Automaton)
      → IsPartition blocks → before ≡ relations.before → after ≡ relations.after
      → AreSeen blocks pre (Relates (read_by c.blocks) (machine_of f before)) pre_paths pre_relation pre_image
      → AreSeen blocks post (Relates (read_by c.blocks) (machine_of f after)) post_paths post_relation post_image
      → AreSides blocks c.check c.locations pre post pre_paths pre_relation pre_image post_paths post_relation post_image
  sides_of blocks f pre post before after pre_paths pre_relation pre_image post_paths post_relation post_image partition before_is after_is pre_seen post_seen = record {
    partition = partition;
    pre_seen =
        seen_by_same blocks c.blocks pre (relation_of side.Before c.check c.locations) (machine_of f relations.before) pre_paths pre_relation pre_image (before_realises f)
        (subst (λ (r : Twofold). AreSeen blocks pre (Relates (read_by c.blocks) (machine_of f r)) pre_paths pre_relation pre_image) before_is pre_seen);
    post_seen =
        seen_by_same blocks c.blocks post (relation_of side.After c.check c.locations) (machine_of f relations.after) post_paths post_relation post_image (after_realises f)
        (subst (λ (r : Twofold). AreSeen blocks post (Relates (read_by c.blocks) (machine_of f r)) post_paths post_relation post_image) after_is post_seen);
  }

-- a row that says what is so is right where it doesn't have to be left open
pub right_row : (check : Checked) (locations : ℕ) (paths : Paths) (limit : ℕ) → ¬ MustBeOpen check locations paths limit
    → (row : Row) → Says check locations paths limit row → RowOf check locations paths limit row
right_row check locations paths limit unforced row says = record { says = says; forced = λ must. absurd (unforced must) }

-- two sets of words of letters, which are those of the two images
module _ (blocks : List ℕ) (is : IsPartition blocks) (check : Checked) (locations : ℕ) (pre post A B : WordSet)
    (in_x : (w : List ℕ) → A (map (read_by blocks) w) ↔ ImageOf pre (relation_of side.Before check locations) w)
    (in_y : (w : List ℕ) → B (map (read_by blocks) w) ↔ ImageOf post (relation_of side.After check locations) w) where
  on_side : (of : Side) (letters : List ℕ) → words_of of A B letters → (word : List ℕ) → map (read_by blocks) word ≡ letters
      → ImageOf (words_of of pre post) (relation_of of check locations) word
  on_side side.Before letters one word are = (in_x word).0 (subst A (sym are) one)
  on_side side.After letters one word are = (in_y word).0 (subst B (sym are) one)

  -- the first word of letters that offends stands for the first word that does
  pub offence_of : (letters : List ℕ) (of : Side) → All (λ k. k < block_count blocks) letters → First (Offends check.at_most A B) letters → words_of of A B letters
      → IsFirstOffence check locations pre post blocks letters of
  offence_of letters of below first one = record {
    below = below;
    first = λ word are.
        first_symbols blocks is (Offends check.at_most A B) (Offending check locations pre post)
        (offends blocks A B (ImageOf pre (relation_of side.Before check locations)) (ImageOf post (relation_of side.After check locations)) in_x in_y check.at_most) letters word are first;
    in_image = on_side of letters one;
  }

-- a row that tells of the first offence is right
pub offence_row : (blocks : List ℕ) (check : Checked) (locations : ℕ) (paths : Paths) (limit : ℕ) (letters : List ℕ) (of : Side)
    → IsFirstOffence check locations paths.pre paths.post blocks letters of
    → (row : Row) → TellsFirst blocks (words_of of paths.pre paths.post) (relation_of of check locations) letters of row → Says check locations paths limit row
offence_row blocks check locations paths limit letters of is Compliant tells = absurd tells
offence_row blocks check locations paths limit letters of is Undecided tells = absurd tells
offence_row blocks check locations paths limit letters of is (Violated word on source) tells =
    subst (λ (s : Side). IsOffence check locations paths.pre paths.post word s source) (sym tells.1) (record {
      first = is.first word tells.0;
      in_image = is.in_image word tells.0.read;
      first_source = tells.2;
    })

module _ (blocks : List ℕ) (check : Checked) (locations : ℕ) (paths : Paths) (limit : ℕ)
    (pre_paths : Automaton) (pre_relation : Machine) (pre_image : Automaton) (post_paths : Automaton) (post_relation : Machine) (post_image : Automaton)
    (sides : AreSides blocks check locations paths.pre paths.post pre_paths pre_relation pre_image post_paths post_relation post_image) where
  abbrev X : WordSet
  X = ImageOf paths.pre (relation_of side.Before check locations)

  abbrev Y : WordSet
  Y = ImageOf paths.post (relation_of side.After check locations)

  pub compliant_row : AreMet check.at_most (Accepts pre_image) (Accepts post_image) → Says check locations paths limit Compliant
  compliant_row = met blocks (Accepts pre_image) (Accepts post_image) X Y sides.pre_seen.of_image.language sides.post_seen.of_image.language check.at_most

  pub before_row : (letters : List ℕ) → First (Offends check.at_most (Accepts pre_image) (Accepts post_image)) letters → Accepts pre_image letters
      → (row : Row) → TellsOf blocks pre_paths pre_relation letters side.Before row → Says check locations paths limit row
  before_row letters first accepted row tells =
      let seen = sides.pre_seen in
      offence_row blocks check locations paths limit letters side.Before
      (offence_of blocks sides.partition check locations paths.pre paths.post (Accepts pre_image) (Accepts post_image) sides.pre_seen.of_image.language sides.post_seen.of_image.language
      letters side.Before (letters_below blocks pre_image seen.image_ok seen.of_image.letters letters accepted) first accepted) row
      (tells_first blocks sides.partition paths.pre (relation_of side.Before check locations) pre_paths pre_relation seen.of_paths seen.of_relation seen.relation_ok seen.least letters side.Before row tells)

  pub after_row : (letters : List ℕ) → First (Offends check.at_most (Accepts pre_image) (Accepts post_image)) letters → Accepts post_image letters
      → (row : Row) → TellsOf blocks post_paths post_relation letters side.After row → Says check locations paths limit row
  after_row letters first accepted row tells =
      let seen = sides.post_seen in
      offence_row blocks check locations paths limit letters side.After
      (offence_of blocks sides.partition check locations paths.pre paths.post (Accepts pre_image) (Accepts post_image) sides.pre_seen.of_image.language sides.post_seen.of_image.language
      letters side.After (letters_below blocks post_image seen.image_ok seen.of_image.letters letters accepted) first accepted) row
      (tells_first blocks sides.partition paths.post (relation_of side.After check locations) post_paths post_relation seen.of_paths seen.of_relation seen.relation_ok seen.least letters side.After row tells)
