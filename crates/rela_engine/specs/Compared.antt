-- What the comparison of two automata tells of an assertion about their words.
use Rattle.std.specs.Prelude.{◌≡◌, ℕ, ◌↔◌, List}
use Rattle.rela_compare.specs.Comparison.{IsInFirstAlone, IsInOneAlone}
use Rattle.rela_compare.specs.declared.verdict.Verdict.{Verdict}
use Rattle.rela_compare.specs.declared.verdict.Verdict.TheVariants.{Same, Differ}
use Rattle.rela_nfa.specs.Automaton.{Automaton}
use Rattle.rela_nfa.specs.Runs.{Accepts}
use Rattle.rela_rir.specs.declared.assertion.Assertion.{Assertion}
use Rattle.rela_rir.specs.declared.assertion.Assertion.TheVariants.{Equal, Included}
use Rattle.rela_engine.specs.Seen.{AreLeast}
use Rattle.rela_engine.specs.declared.leaf.Leaf.{Leaf}
use Rattle.rela_engine.specs.declared.leaf.Leaf.TheVariants.{Holds, Fails}

-- the assertion holds of the words that the two automata accept
abbrev pub HoldsOfWords : Assertion → Automaton → Automaton → Type 0
HoldsOfWords (Equal x y) a b = (word : List ℕ) → Accepts a word ↔ Accepts b word
HoldsOfWords (Included x y) a b = (word : List ℕ) → Accepts a word → Accepts b word

-- the word of letters tells against it
abbrev pub TellsAgainstWords : Assertion → Automaton → Automaton → List ℕ → Type 0
TellsAgainstWords (Equal x y) a b word = IsInOneAlone a b word
TellsAgainstWords (Included x y) a b word = IsInFirstAlone a b word

-- the leaf tells what the verdict does, by the word of the least symbols of the blocks
abbrev pub TellsVerdict : List ℕ → Verdict → Leaf → Type 0
TellsVerdict blocks Same Holds = Unit {0}
TellsVerdict blocks (Differ letters of) (Fails word side) =
    AreLeast blocks letters word × (side ≡ of)
TellsVerdict blocks _ _ = ⊥
