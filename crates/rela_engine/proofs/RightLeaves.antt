-- What automata over blocks tell of an assertion, and when it may be left open.
use Rattle.std.proofs.Common.{◌≡◌, ◌∙◌, ℕ, ◌+◌, ◌<◌, ◌↔◌, List, length, map, inl, inr, refl, sym, ap, subst, arith}
use Rattle.std.specs.List.{All}
use Rattle.std.specs.Prelude.{None, Result, Ok, Err, IfErr, IsErrAnd}
use Rattle.std.proofs.lemmas.List.Elements.{All-weaker}
use Rattle.std.proofs.lemmas.Option.{none-some}
use Rattle.rela_build.specs.Lettering.{Lettering, AreLetterBlocks}
use Rattle.rela_build.specs.Made.{IsMade, Leads}
use Rattle.rela_build.specs.PathSets.{Paths, scene_of}
use Rattle.rela_build.specs.Reading.{read_by}
use Rattle.rela_build.specs.Stops.{stop_of}
use Rattle.rela_build.specs.declared.stop.Stop.{Stop}
use Rattle.rela_build.specs.declared.stop.Stop.TheVariants as stop
use Rattle.rela_compare.specs.Comparison.{IfDiffer, IsOnSide, ReachPairsBefore}
use Rattle.rela_compare.specs.declared.verdict.Verdict.{Verdict}
use Rattle.rela_compare.specs.declared.verdict.Verdict.TheVariants as verdict
use Rattle.rela_compare.specs.declared.verdict.Which.{Which}
use Rattle.rela_compare.specs.declared.verdict.Which.TheVariants as side
use Rattle.rela_labels.specs.Partition.{block_count}
use Rattle.rela_names.specs.Shortlex.{First}
use Rattle.rela_nfa.specs.Automaton.{Automaton}
use Rattle.rela_nfa.specs.Runs.{Accepts}
use Rattle.rela_pairs.specs.declared.errors.BuildError.{BuildError}
use Rattle.rela_pairs.specs.declared.errors.BuildError.TheVariants as built
use Rattle.rela_rir.specs.Assertions.{FailsBy, HoldsOnPaths, MayBeLeftOpen, TellsAgainst, first_term, second_term}
use Rattle.rela_rir.specs.Limit.{ForcedInside, ReachedInside}
use Rattle.rela_rir.specs.Meaning.{In, IsPathWord}
use Rattle.rela_rir.specs.Places.{Scene}
use Rattle.rela_rir.specs.Tables.{IsPlaced}
use Rattle.rela_rir.specs.declared.assertion.Assertion.{Assertion}
use Rattle.rela_rir.specs.declared.assertion.Assertion.TheVariants.{Equal, Included}
use Rattle.rela_rir.specs.declared.set.SymbolSet.{SymbolSet}
use Rattle.rela_rir.specs.declared.term.PathTerm.{PathTerm}
use Rattle.rela_engine.specs.Compared.{HoldsOfWords, TellsAgainstWords, TellsVerdict}
use Rattle.rela_engine.specs.Leaves.{LeafOf, MustBeLeftOpen, plain_lettering, term_on}
use Rattle.rela_engine.specs.Seen.{AreLeast}
use Rattle.rela_engine.specs.declared.leaf.Leaf.{Leaf}
use Rattle.rela_engine.specs.declared.leaf.Leaf.TheVariants as leaf
use Rattle.rela_engine.proofs.ComparedPlaces.{TellsByStates, comparison_passes}
use Rattle.rela_engine.proofs.LeastWords.{first_symbols}
use Rattle.rela_engine.proofs.PathLetters.{word_of_symbols}
use Rattle.rela_engine.proofs.Rows.{letters_below}

module _ (l : Lettering) (none : l.markers ≡ 0) (are : AreLetterBlocks l) (paths : Paths) where
  abbrev m : Scene
  m = scene_of l paths

  abbrev f : ℕ → ℕ
  f = read_by l.blocks

  -- ---- one automaton

  module _ (x : PathTerm) (a : Automaton) (made : IsMade ⊥ l paths x a) where
    letters : a.letters ≡ block_count l.blocks
    unfolding IsMade
    letters = made.letters

    language : (w : List ℕ) → Accepts a (map f w) ↔ In m.setting x w
    unfolding IsMade
    language = made.language

    placed : IsPlaced m x (Leads l.blocks a)
    unfolding IsMade
    placed = record { table = made.table; is_table = made.placed }

    -- what is accepted is a word of letters, and so one of path symbols
    below : (u : List ℕ) → Accepts a u → All (λ k. k < block_count l.blocks) u
    unfolding IsMade
    below u accepted = letters_below l.blocks a made.automaton letters u accepted

    path_word : (w : List ℕ) → Accepts a (map f w) → IsPathWord l.path_symbols w
    path_word w accepted =
        All-weaker (λ s. s < length l.blocks) (λ s. s < l.path_symbols) (λ s within. omega (arith, within, are.symbols, none)) w
        (word_of_symbols l.blocks w (below (map f w) accepted))

  -- ---- the automata of both terms

  module _ (a b : Automaton) where
    abbrev AreMade : Assertion → Type 0
    AreMade assertion = IsMade ⊥ l paths (first_term assertion) a × IsMade ⊥ l paths (second_term assertion) b

    pub same_letters : (assertion : Assertion) → AreMade assertion → a.letters ≡ b.letters
    same_letters assertion made = letters (first_term assertion) a made.0 ∙ sym (letters (second_term assertion) b made.1)

    holds : (assertion : Assertion) → AreMade assertion → HoldsOfWords assertion a b → HoldsOnPaths m.setting assertion
    holds (Equal x y) made same = λ w path. (
      λ is. (language y b made.1 w).0 ((same (map f w)).0 ((language x a made.0 w).1 is)),
      λ is. (language x a made.0 w).0 ((same (map f w)).1 ((language y b made.1 w).1 is)),
    )
    holds (Included x y) made within = λ w path is. (language y b made.1 w).0 (within (map f w) ((language x a made.0 w).1 is))

    tells : (assertion : Assertion) → AreMade assertion → (w : List ℕ) → TellsAgainstWords assertion a b (map f w) ↔ TellsAgainst m.setting assertion w
    tells (Equal x y) made w =
        let in_x = language x a made.0 w in
        let in_y = language y b made.1 w in (
          λ one. elim one [
            | inl first ↦ (path_word x a made.0 w first.0, inl (in_x.0 first.0, λ is. first.1 (in_y.1 is)))
            | inr second ↦ (path_word y b made.1 w second.0, inr (λ is. second.1 (in_x.1 is), in_y.0 second.0))
          ],
          λ one. elim one.1 [
            | inl first ↦ inl (in_x.1 first.0, λ is. first.1 (in_y.0 is))
            | inr second ↦ inr (in_y.1 second.1, λ is. second.0 (in_x.0 is))
          ],
        )
    tells (Included x y) made w =
        let in_x = language x a made.0 w in
        let in_y = language y b made.1 w in (
          λ one. (path_word x a made.0 w one.0, in_x.0 one.0, λ is. one.1 (in_y.1 is)),
          λ one. (in_x.1 one.1, λ is. one.2 (in_y.0 is)),
        )

    in_term : (assertion : Assertion) → AreMade assertion → (word : List ℕ) (of : Which) → IsOnSide a b (map f word) of → In m.setting (term_on of assertion) word
    in_term assertion made word side.First on = (language (first_term assertion) a made.0 word).0 on.0
    in_term assertion made word side.Second on = (language (second_term assertion) b made.1 word).0 on.0

    -- the word of a verdict is one of letters
    on_below : (assertion : Assertion) → AreMade assertion → (word : List ℕ) (of : Which) → IsOnSide a b word of → All (λ k. k < block_count l.blocks) word
    on_below assertion made word side.First on = below (first_term assertion) a made.0 word on.0
    on_below assertion made word side.Second on = below (second_term assertion) b made.1 word on.0

    pub verdict_below : (assertion : Assertion) → AreMade assertion → (v : Verdict) → IfDiffer v (λ word of. IsOnSide a b word of)
        → IfDiffer v (λ word of. All (λ k. k < block_count l.blocks) word)
    verdict_below assertion made verdict.Same on = tt
    verdict_below assertion made (verdict.Differ word of) on = on_below assertion made word of on

    fails : (assertion : Assertion) → AreMade assertion → (found word : List ℕ) (of : Which) → First (TellsAgainstWords assertion a b) found
        → IsOnSide a b found of → AreLeast l.blocks found word → FailsBy m.setting assertion (term_on of assertion) word
    fails assertion made found word of first on least = record {
      first = first_symbols l.blocks are.partition (TellsAgainstWords assertion a b) (TellsAgainst m.setting assertion) (tells assertion made) found word least first;
      in_term = in_term assertion made word of (subst (λ (u : List ℕ). IsOnSide a b u of) (sym least.read) on);
    }

    -- what a verdict tells is right
    pub right : (assertion : Assertion) → AreMade assertion → (limit : ℕ) (v : Verdict) → (v ≡ verdict.Same → HoldsOfWords assertion a b)
        → IfDiffer v (λ word of. First (TellsAgainstWords assertion a b) word) → IfDiffer v (λ word of. IsOnSide a b word of)
        → (told : Leaf) → TellsVerdict l.blocks v told → LeafOf m assertion limit told
    right assertion made limit verdict.Same same first on leaf.Holds says = holds assertion made (same refl)
    right assertion made limit verdict.Same same first on (leaf.Fails word of) says = absurd says
    right assertion made limit verdict.Same same first on leaf.Undecided says = absurd says
    right assertion made limit (verdict.Differ found of) same first on leaf.Holds says = absurd says
    right assertion made limit (verdict.Differ found of) same first on (leaf.Fails word given) says =
        subst (λ (which : Which). FailsBy m.setting assertion (term_on which assertion) word) (sym says.1) (fails assertion made found word of first on says.0)
    right assertion made limit (verdict.Differ found of) same first on leaf.Undecided says = absurd says

    -- a comparison that passes the limit leaves it open
    pub open_by_pairs : TellsByStates m → (assertion : Assertion) → AreMade assertion → (limit : ℕ) → ReachPairsBefore a b (TellsAgainstWords assertion a b) (limit + 1)
        → MayBeLeftOpen m assertion limit
    open_by_pairs told assertion made limit many =
        inr (inr (comparison_passes m l.blocks are.partition are.symbols told (first_term assertion) (second_term assertion) a b
        (letters (first_term assertion) a made.0) (placed (first_term assertion) a made.0) (placed (second_term assertion) b made.1)
        (TellsAgainst m.setting assertion) (TellsAgainstWords assertion a b) (λ w. (tells assertion made w).1) limit many
        None (λ end at. absurd (none-some end at))))

-- and so does a term that passes it
pub open_by_first : (m : Scene) (assertion : Assertion) (limit : ℕ) (x : PathTerm) → x ≡ first_term assertion → ReachedInside m (limit + 1) x → MayBeLeftOpen m assertion limit
open_by_first m assertion limit x is reached = inl (subst (ReachedInside m (limit + 1)) is reached)

pub open_by_second : (m : Scene) (assertion : Assertion) (limit : ℕ) (x : PathTerm) → x ≡ second_term assertion → ReachedInside m (limit + 1) x → MayBeLeftOpen m assertion limit
open_by_second m assertion limit x is reached = inr (inl (subst (ReachedInside m (limit + 1)) is reached))

-- where no complement in the two terms has a part that tells more words than the limit
pub untold : (m : Scene) (assertion : Assertion) (limit : ℕ) (x y : PathTerm) → x ≡ first_term assertion → y ≡ second_term assertion
    → ¬ ForcedInside m (limit + 1) x → ¬ ForcedInside m (limit + 1) y → ¬ MustBeLeftOpen m assertion limit
untold m assertion limit x y x_is y_is first second forced = elim forced [
  | inl one ↦ first (subst (ForcedInside m (limit + 1)) (sym x_is) one)
  | inr two ↦ second (subst (ForcedInside m (limit + 1)) (sym y_is) two)
]

-- letters that were made of the numbers as they were lent
pub lettering_is : (l : Lettering) (classes : List SymbolSet) (n end : ℕ) (blocks : List ℕ)
    → l ≡ record { classes = classes; path_symbols = end; markers = 0; blocks = blocks } → end ≡ n + 2 → l ≡ plain_lettering classes n blocks
lettering_is l classes n end blocks is end_is = is ∙ ap (λ (k : ℕ). the_letters k) end_is where
  the_letters : ℕ → Lettering
  the_letters k = record { classes = classes; path_symbols = k; markers = 0; blocks = blocks }

-- ---- what calls answered

-- what is returned where a call failed
pub exit : {T : Type 0} (Q P : Stop → Type 0) (r : Result T Stop) → IsErrAnd r Q → ((e : Stop) → Q e → P e) → IfErr r P
exit Q P (Ok x) fails on = tt
exit Q P (Err e) fails on = on e fails

-- why a comparison stopped, if not for want of memory
pub stopped_by_pairs : (P : Type 0) (b : BuildError) (e : Stop) → e ≡ stop_of b → (b ≡ built.Limit → P) → ¬ (e ≡ stop.Memory) → P
stopped_by_pairs P built.Limit e is passed other = passed refl
stopped_by_pairs P built.Memory e is passed other = absurd (other is)
