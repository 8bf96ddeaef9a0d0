-- What closed lists of words tell of words of any length.
use Rattle.std.proofs.Common.{◌≡◌, ℕ, ◌↔◌, Bool, true, List, [], ◌∷◌, ◌++◌, length, get_or, refl, sym, subst, inl, inr, arith}
use Rattle.std.specs.List.{All, Contains}
use Rattle.std.proofs.lemmas.Bool.{cases_lt}
use Rattle.std.proofs.lemmas.List.{append_assoc, append-nil, get_or_past}
use Rattle.std.proofs.lemmas.List.Elements.{All-contains, All-head, All-tail, All-nil, All-push, All-get_or, All-cons, Contains-append_left}
use Rattle.rela_labels.specs.Letters.{has}
use Rattle.rela_nfa.specs.Automaton.{Automaton}
use Rattle.rela_nfa.specs.Runs.{Accepts}
use Rattle.rela_closed.specs.Closed.{AreEqualOn, AreIncludedOn, IsClosed, IsListed, SameStates}
use Rattle.rela_build.specs.Complement.{IsOver, ReachSame}
use Rattle.rela_closed.specs.Words.{words_from, words_of}
use Rattle.rela_closed.specs.declared.step.Step.{Step}
use Rattle.rela_closed.proofs.Alike.{reach_same_sym, same_accepts, same_push, same_refl, same_trans}

module _ (over : List Bool) (automata : List Automaton) (words : List (List ℕ)) (closed : IsClosed over automata words) where
  -- a listed word goes on to a listed word
  listed_push : (word : List ℕ) (k : ℕ) → has over k ≡ true → IsListed automata words word → IsListed automata words (word ++ k ∷ [])
  listed_push word k read (v, among, same) =
      let (u, u_among, u_same) = closed v k among read in
      (u, u_among, same_trans automata u (v ++ k ∷ []) (word ++ k ∷ []) u_same (same_push automata v word k same))

  listed_on : (front back : List ℕ) → IsOver over back → IsListed automata words front → IsListed automata words (front ++ back)
  listed_on front [] read listed = subst (IsListed automata words) (sym (append-nil front)) listed
  listed_on front (k ∷ back) read listed =
      subst (IsListed automata words) (append_assoc front (k ∷ []) back)
      (listed_on (front ++ k ∷ []) back (All-tail (λ j. has over j ≡ true) k back read) (listed_push front k (All-head (λ j. has over j ≡ true) k back read) listed))

  pub all_listed : Contains words [] → (word : List ℕ) → IsOver over word → IsListed automata words word
  all_listed empty word read = listed_on [] word read ([], empty, same_refl automata [])

module _ (over : List Bool) (a b : Automaton) (words : List (List ℕ)) (closed : IsClosed over (a ∷ b ∷ []) words) (empty : Contains words []) where
  first_same : (v w : List ℕ) → SameStates (a ∷ b ∷ []) v w → ReachSame a v w
  first_same v w same = All-head (λ x. ReachSame x v w) a (b ∷ []) same

  second_same : (v w : List ℕ) → SameStates (a ∷ b ∷ []) v w → ReachSame b v w
  second_same v w same = All-head (λ x. ReachSame x v w) b [] (All-tail (λ x. ReachSame x v w) a (b ∷ []) same)

  pub all_included : AreIncludedOn words b a → (word : List ℕ) → IsOver over word → Accepts b word → Accepts a word
  all_included included word read accepts =
      let (v, among, same) = all_listed over (a ∷ b ∷ []) words closed empty word read in
      let in_both = All-contains (λ w. Accepts b w → Accepts a w) words v included among in
      same_accepts a v word (first_same v word same) (in_both (same_accepts b word v (reach_same_sym b v word (second_same v word same)) accepts))

  pub all_equal : AreEqualOn words a b → (word : List ℕ) → IsOver over word → Accepts a word ↔ Accepts b word
  all_equal equal word read =
      let (v, among, same) = all_listed over (a ∷ b ∷ []) words closed empty word read in
      let both = All-contains (λ w. Accepts a w ↔ Accepts b w) words v equal among in (
        λ accepts. same_accepts b v word (second_same v word same) (both.0 (same_accepts a word v (reach_same_sym a v word (first_same v word same)) accepts)),
        λ accepts. same_accepts a v word (first_same v word same) (both.1 (same_accepts b word v (reach_same_sym b v word (second_same v word same)) accepts)),
      )

-- a word stays where it is
pub words_keep : (words : List (List ℕ)) (steps : List Step) (word : List ℕ) → Contains words word → Contains (words_from words steps) word
words_keep words [] word among = among
words_keep words (step ∷ steps) word among =
    let next = get_or words step.parent [] ++ step.letter ∷ [] in
    words_keep (words ++ next ∷ []) steps word (Contains-append_left words (next ∷ []) word among)

pub has_empty : (steps : List Step) → Contains (words_of steps) []
has_empty steps = words_keep ([] ∷ []) steps [] (0, omega arith, refl)

module _ (over : List Bool) where
  parent_over : (words : List (List ℕ)) (i : ℕ) → All (IsOver over) words → IsOver over (get_or words i [])
  parent_over words i read = elim (cases_lt i (length words)) [
    | inl below ↦ All-get_or (IsOver over) words i [] below read
    | inr past ↦ subst (IsOver over) (sym (get_or_past words i [] past)) (All-nil (λ k. has over k ≡ true))
  ]

  pub words_over : (words : List (List ℕ)) (steps : List Step) → All (IsOver over) words → All (λ step. has over step.letter ≡ true) steps
      → All (IsOver over) (words_from words steps)
  words_over words [] read letters = read
  words_over words (step ∷ steps) read letters =
      let first : has over step.letter ≡ true = All-head (λ (s : Step). has over s.letter ≡ true) step steps letters in
      let next = get_or words step.parent [] ++ step.letter ∷ [] in
      words_over (words ++ next ∷ []) steps
      (All-push (IsOver over) words next read (All-push (λ k. has over k ≡ true) (get_or words step.parent []) step.letter (parent_over words step.parent read) first))
      (All-tail (λ (s : Step). has over s.letter ≡ true) step steps letters)

  pub all_over : (steps : List Step) → All (λ step. has over step.letter ≡ true) steps → All (IsOver over) (words_of steps)
  all_over steps letters = words_over ([] ∷ []) steps (All-cons (IsOver over) [] [] (All-nil (λ k. has over k ≡ true)) (All-nil (IsOver over))) letters
