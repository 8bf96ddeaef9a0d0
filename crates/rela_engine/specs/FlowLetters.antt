-- The automata of a flow's paths before and after a change, whose letters are symbols.
use Rattle.std.specs.Prelude.{◌≡◌, ℕ, ◌↔◌, List, Option, Some, None}
use Rattle.std.specs.Option.{ForSome}
use Rattle.rela_graph.specs.Paths.{Paths}
use Rattle.rela_graph.specs.Topology.{Topology}
use Rattle.rela_letter_nfa.specs.LetterAutomaton.{LetterAutomaton}
use Rattle.rela_letter_nfa.specs.Runs.{Accepts}
use Rattle.rela_letter_paths.specs.Letters.{HasLettersBelow}
use Rattle.rela_names.specs.Alphabet.{path_symbols}
use Rattle.rela_names.specs.declared.level.Level.{Level}
use Rattle.rela_snapshot.specs.declared.pairing.FlowPair.{FlowPair}

-- a level, and the automata of the paths at it, of which one that would be too large is not there
pub record SideLetters : Type 0 where
  pub level : Level
  pub before : Option LetterAutomaton
  pub after : Option LetterAutomaton

-- the automaton accepts just the paths of the graph at the level, and its letters are path symbols
pub record AcceptsPaths (names : List (List ℕ)) (g : Topology) (level : Level)
    (a : LetterAutomaton) : Type 0 where
  pub language : (w : List ℕ) → Accepts a w ↔ Paths g level names w
  pub letters : HasLettersBelow (path_symbols names) a

-- the automata are those of the paths of the pair's two graphs at their level, whose locations are `names`
pub record AreSidesOf (names : List (List ℕ)) (pair : FlowPair) (sides : SideLetters) : Type 0 where
  pub before : ForSome sides.before (AcceptsPaths names pair.before sides.level)
  pub after : ForSome sides.after (AcceptsPaths names pair.after sides.level)

-- what is kept, if anything is, are those of the pair
abbrev pub AreLettersOf : List (List ℕ) → FlowPair → Option SideLetters → Type 0
AreLettersOf names pair kept = ForSome kept (AreSidesOf names pair)

-- something is kept, at this level
abbrev pub AreAt : Level → Option SideLetters → Type 0
AreAt level None = ⊥
AreAt level (Some sides) = sides.level ≡ level

-- the automaton of the paths before the change, and of those after it
abbrev pub kept_before : Option SideLetters → Option LetterAutomaton
kept_before None = None
kept_before (Some sides) = sides.before

abbrev pub kept_after : Option SideLetters → Option LetterAutomaton
kept_after None = None
kept_after (Some sides) = sides.after
