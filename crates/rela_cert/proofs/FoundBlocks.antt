-- Words that are found for automata make a block, where the states of the automata stand for places.
use Rattle.std.proofs.Common.{◌≡◌, ℕ, ◌<◌, Bool, true, List, [], ◌∷◌, ◌++◌, length, get_or, map, sym, subst, arith}
use Rattle.std.specs.Prelude.{Contains}
use Rattle.std.specs.List.{All, AllPairs}
use Rattle.std.proofs.lemmas.List.{get_or-map, length-map}
use Rattle.std.proofs.lemmas.List.Elements.{All-contains, All-map, Contains-get_or}
use Rattle.rela_build.specs.Complement.{IsOver}
use Rattle.rela_build.specs.Reading.{HoldsJust, read_by}
use Rattle.rela_certfile.specs.Listed.{IsBlock, words_of}
use Rattle.rela_certfile.specs.declared.rows.Step.{Step}
use Rattle.rela_closed.specs.Closed.{IsClosed, ReachesLike, SameStates}
use Rattle.rela_closed.specs.Words as letters
use Rattle.rela_closed.specs.declared.step.Step as letter
use Rattle.rela_labels.specs.Letters.{has}
use Rattle.rela_labels.specs.Partition.{IsPartition}
use Rattle.rela_names.specs.Shortlex.{First, IsBefore}
use Rattle.rela_nfa.specs.Automaton.{Automaton}
use Rattle.rela_rir.specs.Meaning.{IsPathWord}
use Rattle.rela_rir.specs.Places.{Scene}
use Rattle.rela_rir.specs.declared.term.PathTerm.{PathTerm}
use Rattle.rela_cert.specs.Closed.{AgreeOnAll, AreFirst, Closed}
use Rattle.rela_cert.specs.Found.{AreBySymbols, AreFound}
use Rattle.rela_cert.specs.Letters.{letter_words}
use Rattle.rela_cert.proofs.LeastOrder.{IsLeast, ascending_symbols, before_letters}
use Rattle.rela_cert.proofs.LetterLaws.{has_below}
use Rattle.rela_cert.proofs.LetterSteps.{are_block, least_each, reads_each, words_by_letters}
use Rattle.rela_cert.proofs.MappedWords.{mapped, mapped_back, pushed}

-- each letter of the words is in the set
pub over_each : (over : List Bool) (automata : List Automaton) (steps : List letter.Step) → AreFound over automata steps → All (IsOver over) (letters.words_of steps)
over_each over automata steps found k d below = (found.first k d below).member.0

-- so it is one of the letters
pub letters_below : (over : List Bool) (automata : List Automaton) (steps : List letter.Step) (n : ℕ) → length over ≡ n → AreFound over automata steps
    → All (λ step. step.letter < n) steps
letters_below over automata steps n size found k d below =
    let read = reads_each over steps (over_each over automata steps found) k d below in
    let less = has_below over (get_or steps k d).letter read in
    omega (arith, less, size)

module _ (blocks : List ℕ) (is : IsPartition blocks) (m : Scene) (terms : List PathTerm) (automata : List Automaton) where
  abbrev f : ℕ → ℕ
  f = read_by blocks

  module _ (same : (v w : List ℕ) → AgreeOnAll m terms v w → SameStates automata (map f v) (map f w))
      (agree : (v w : List ℕ) → SameStates automata (map f v) (map f w) → AgreeOnAll m terms v w)
      (n : ℕ) (over : List Bool) (holds : HoldsJust blocks (λ s. s < n) over)
      (ls : List letter.Step) (found : AreFound over automata ls) (ss : List Step) (by : AreBySymbols blocks ls ss) where
    words_are : letters.words_of ls ≡ letter_words blocks (words_of ss)
    words_are = words_by_letters blocks ls ss by

    -- ---- closed

    pub closed : Closed m n terms (words_of ss)
    closed word s listed below =
        let by_states = subst (IsClosed over automata) words_are found.closed in
        let read : has over (f s) ≡ true = (holds.holds s).1 below in
        let next = by_states (map f word) (f s) (mapped (map f) (words_of ss) word listed) read in
        let back = mapped_back (map f) (words_of ss) next.0 next.1 in
        let reached : SameStates automata (map f back.0) (map f (word ++ s ∷ [])) =
        subst (λ (u : List ℕ). SameStates automata u (map f (word ++ s ∷ []))) (sym back.2)
        (subst (SameStates automata next.0) (sym (pushed f word s)) next.2) in
        (back.0, back.1, agree back.0 (word ++ s ∷ []) reached)

    -- ---- of first words

    word_over : (w : List ℕ) → IsPathWord n w → IsOver over (map f w)
    word_over w path = All-map (λ k. has over k ≡ true) f w (λ k d below. (holds.holds (get_or w k d)).1 (path k d below))

    word_path : (w : List ℕ) → IsOver over (map f w) → IsPathWord n w
    word_path w read k d below =
        (holds.holds (get_or w k d)).0 (subst (λ (j : ℕ). has over j ≡ true) (get_or-map f w k d (f d) below) (read k (f d) (omega (arith, below, length-map w f))))

    firsts : (word : List ℕ) → Contains (words_of ss) word → First (ReachesLike over automata (map f word)) (map f word)
    firsts word listed =
        All-contains (λ w. First (ReachesLike over automata w) w) (letter_words blocks (words_of ss)) (map f word)
        (subst (All (λ w. First (ReachesLike over automata w) w)) words_are found.first) (mapped (map f) (words_of ss) word listed)

    first_word : (word : List ℕ) → Contains (words_of ss) word → First (λ v. IsPathWord n v × AgreeOnAll m terms v word) word
    first_word word listed =
        let first = firsts word listed in
        let least = All-contains (All (IsLeast blocks)) (words_of ss) word (least_each blocks ls ss by) listed in
        record {
          member = (word_path word first.member.0, agree word word first.member.1);
          least = λ v likewise before.
              first.least (map f v) (word_over v likewise.0, same v word likewise.1) (before_letters blocks is v word least before);
        }

    pub are_first : AreFirst m n terms (words_of ss)
    are_first = record {
      ascending = ascending_symbols blocks is (words_of ss) (least_each blocks ls ss by) (subst (AllPairs IsBefore) words_are found.ascending);
      first = λ k d below. first_word (get_or (words_of ss) k d) (Contains-get_or (words_of ss) k d below);
    }

    -- ---- a block

    pub block : IsBlock n ss
    block = are_block blocks over n (λ s read. (holds.holds s).0 read) ls ss by (reads_each over ls (over_each over automata ls found)) found.ordered
