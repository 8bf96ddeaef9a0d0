-- The judgement of a row, by what its automata were made of.
use Rattle.std.proofs.Common.{◌≡◌, ℕ, ◌<◌, Bool, true, List, length, inl, inr, subst, arith}
use Rattle.rela_blocks.specs.RowBlocks.{symbols_of}
use Rattle.rela_blocks.specs.Scenes.{after_image, before_image, lettering_of, paths_of}
use Rattle.rela_build.specs.Lettering.{AreLetterBlocks, Lettering}
use Rattle.rela_build.specs.Made.{IsMade}
use Rattle.rela_build.specs.Notes.{NotedTwo, StoppedTwo}
use Rattle.rela_build.specs.PathSets.{Paths}
use Rattle.rela_build.specs.Reading.{HoldsJust, read_by}
use Rattle.rela_build.specs.declared.stop.Stop.{Stop}
use Rattle.rela_build.specs.declared.stop.Stop.TheVariants.{Memory}
use Rattle.rela_certfile.specs.Listed.{words_of}
use Rattle.rela_certfile.specs.declared.rows.Step.{Step}
use Rattle.rela_graph.specs.Topology.{Topology}
use Rattle.rela_labels.specs.Letters.{has}
use Rattle.rela_labels.specs.Partition.{block_count}
use Rattle.rela_names.specs.declared.level.Level.{Level}
use Rattle.rela_nfa.specs.Automaton.{Automaton, IsAutomaton}
use Rattle.rela_rir.specs.declared.term.PathTerm.{PathTerm}
use Rattle.rela_translate.specs.Checked.{Checked}
use Rattle.rela_cert.specs.Letters.{letter_words}
use Rattle.rela_cert.specs.Rows.{Judges}
use Rattle.rela_cert.specs.WordsJudged.{JudgesWords}
use Rattle.rela_cert.specs.declared.judgement.Judgement.{Judgement}
use Rattle.rela_cert.specs.declared.judgement.Judgement.TheVariants.{Met, OpenComplement, BadImages, TooLarge}
use Rattle.rela_cert.proofs.ByStates.{closed_two}
use Rattle.rela_cert.proofs.LetterLaws.{is_symbol_of, read_below}
use Rattle.rela_cert.proofs.RowWords.{meets, some_offends}
use Rattle.rela_cert.proofs.TermsMean.{ImagesMean}

-- the set of all letters has just those of the symbols
pub all_hold : (blocks : List ℕ) (n : ℕ) → length blocks ≡ n → (set : List Bool) → length set ≡ block_count blocks
    → ((k : ℕ) → k < block_count blocks → has set k ≡ true) → HoldsJust blocks (λ s. s < n) set
all_hold blocks n count set size all = record {
  size = size;
  holds = λ s. (
    λ among. let below = is_symbol_of blocks set s size among in omega (arith, below, count),
    λ below. all (read_by blocks s) (read_below blocks s (omega (arith, below, count))),
  );
}

-- what is made over these letters is an automaton over the blocks
pub made_automaton : (E : Type 0) (l : Lettering) (paths : Paths) (x : PathTerm) (a : Automaton) → IsMade E l paths x a → IsAutomaton a
unfolding IsMade
made_automaton E l paths x a made = made.automaton

pub made_letters : (E : Type 0) (l : Lettering) (paths : Paths) (x : PathTerm) (a : Automaton) → IsMade E l paths x a → a.letters ≡ block_count l.blocks
unfolding IsMade
made_letters E l paths x a made = made.letters

module _ (E : Type 0) (check : Checked) (names : List (List ℕ)) (pre post : Topology) (l : Lettering) (is : l ≡ lettering_of check (length names) l.blocks)
    (level : Level) (level_is : level ≡ check.level) where
  abbrev here : Lettering
  here = lettering_of check (length names) l.blocks

  abbrev flow : Paths
  flow = paths_of check.level names pre post

  pub made_here : (x y : PathTerm) (a : Automaton) → x ≡ y → IsMade E l (paths_of level names pre post) x a → IsMade E here flow y a
  made_here x y a same made =
      subst (λ (z : PathTerm). IsMade E here flow z a) same
      (subst (λ (k : Level). IsMade E here (paths_of k names pre post) x a) level_is
      (subst (λ (k : Lettering). IsMade E k (paths_of level names pre post) x a) is made))

  pub stopped_here : (refuses : ℕ → Automaton → List Bool → Type 0) (limit first : ℕ) (x y x' y' : PathTerm) (e : Stop) → x ≡ x' → y ≡ y'
      → StoppedTwo refuses E l (paths_of level names pre post) limit first x y e → StoppedTwo refuses E here flow limit first x' y' e
  stopped_here refuses limit first x y x' y' e one two stopped =
      subst (λ (z : PathTerm). StoppedTwo refuses E here flow limit first z y' e) one
      (subst (λ (z : PathTerm). StoppedTwo refuses E here flow limit first x z e) two
      (subst (λ (k : Level). StoppedTwo refuses E here (paths_of k names pre post) limit first x y e) level_is
      (subst (λ (k : Lettering). StoppedTwo refuses E k (paths_of level names pre post) limit first x y e) is stopped)))

  pub noted_here : {N : Type 0} (answers : ℕ → Automaton → List Bool → N → Type 0) (x y x' y' : PathTerm) (old new : List N) → x ≡ x' → y ≡ y'
      → NotedTwo answers E l (paths_of level names pre post) x y old new → NotedTwo answers E here flow x' y' old new
  noted_here answers x y x' y' old new one two noted =
      subst (λ (z : PathTerm). NotedTwo answers E here flow x' z old new) two
      (subst (λ (z : PathTerm). NotedTwo answers E here flow z y old new) one
      (subst (λ (k : Level). NotedTwo answers E here (paths_of k names pre post) x y old new) level_is
      (subst (λ (k : Lettering). NotedTwo answers E k (paths_of level names pre post) x y old new) is noted)))

-- a want of memory needs no reason
pub stopped_memory : (refuses : ℕ → Automaton → List Bool → Type 0) (E : Type 0) (l : Lettering) (paths : Paths) (limit first : ℕ) (x y : PathTerm)
    → StoppedTwo refuses E l paths limit first x y Memory
unfolding StoppedTwo
stopped_memory refuses E l paths limit first x y = tt

module _ (E : Type 0) (check : Checked) (n : ℕ) (paths : Paths) (means : ImagesMean check n paths) (blocks : List ℕ) (are : AreLetterBlocks (lettering_of check n blocks)) (a b : Automaton)
    (before : IsMade E (lettering_of check n blocks) paths (before_image check n) a) (after : IsMade E (lettering_of check n blocks) paths (after_image check n) b)
    (over : List Bool) (holds : HoldsJust blocks (λ s. s < symbols_of check n) over) (limit : ℕ) (complements : List (List Step)) (images : List Step) where
  pub row_judged : (j : Judgement) → JudgesWords check.at_most a b over (letter_words blocks (words_of images)) j → Judges check n paths limit complements images j
  row_judged Met met = meets E check n paths means blocks a b before after met
  row_judged BadImages (inl opened) =
      inl (λ closed. opened (closed_two E (lettering_of check n blocks) are paths (symbols_of check n) over holds (before_image check n) (after_image check n) a b before after (words_of images) closed))
  row_judged BadImages (inr (word, listed, offends)) = inr (some_offends E check n paths means blocks a b before after (words_of images) word listed offends)
  row_judged (OpenComplement number) none = absurd none
  row_judged TooLarge none = absurd none

  -- the same by the letters that the steps were read by, and what the check says of added paths
  pub judged_by : (at_most : Bool) → at_most ≡ check.at_most → (words : List (List ℕ)) → words ≡ letter_words blocks (words_of images) → (j : Judgement)
      → JudgesWords at_most a b over words j → Judges check n paths limit complements images j
  judged_by at_most at_is words words_are j told =
      row_judged j (subst (λ (ws : List (List ℕ)). JudgesWords check.at_most a b over ws j) words_are (subst (λ (k : Bool). JudgesWords k a b over words j) at_is told))
