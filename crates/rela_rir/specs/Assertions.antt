-- What may be answered of an assertion under a limit: that it holds, the first word that tells against it, or
-- nothing where so many places license that. Only words of path symbols count.
use Rattle.std.specs.Prelude.{ℕ, ◌↔◌, List, None}
use Rattle.rela_names.specs.Shortlex.{First}
use Rattle.rela_rir.specs.Limit.{Licensed}
use Rattle.rela_rir.specs.Meaning.{Setting, In, IsPathWord}
use Rattle.rela_rir.specs.Places.{Scene, JustOne}
use Rattle.rela_rir.specs.declared.assertion.Assertion.{Assertion}
use Rattle.rela_rir.specs.declared.assertion.Assertion.TheVariants.{Equal, Included}
use Rattle.rela_rir.specs.declared.term.PathTerm.{PathTerm}
use Rattle.rela_rir.specs.declared.value.Value.{Value}
use Rattle.rela_rir.specs.declared.value.Value.TheVariants as value

-- the two terms that it is about
abbrev pub first_term : Assertion → PathTerm
first_term (Equal x y) = x
first_term (Included x y) = x

abbrev pub second_term : Assertion → PathTerm
second_term (Equal x y) = y
second_term (Included x y) = y

-- both terms have the same words of path symbols, or the second has each that the first has
abbrev pub HoldsOnPaths : Setting → Assertion → Type 0
HoldsOnPaths m (Equal x y) =
    (w : List ℕ) → IsPathWord m.path_symbols w → In m x w ↔ In m y w
HoldsOnPaths m (Included x y) =
    (w : List ℕ) → IsPathWord m.path_symbols w → In m x w → In m y w

-- of the words of path symbols, one that is in exactly one of the terms, or in the first and not in the second
abbrev pub TellsAgainst : Setting → Assertion → List ℕ → Type 0
TellsAgainst m (Equal x y) w = IsPathWord m.path_symbols w × JustOne (In m x w) (In m y w)
TellsAgainst m (Included x y) w = IsPathWord m.path_symbols w × In m x w × (¬ In m y w)

-- the word is the first that tells against the assertion, and this one of its terms has the word
pub record FailsBy (m : Setting) (assertion : Assertion) (term : PathTerm)
    (word : List ℕ) : Type 0 where
  pub first : First (TellsAgainst m assertion) word
  pub in_term : In m term word

-- the assertion may be left open under the limit: some counted term in its terms has more reached places, or more
-- words are told apart by the places of the two, however late they come
abbrev pub MayBeLeftOpen : Scene → Assertion → ℕ → Type 0
MayBeLeftOpen m assertion limit =
    Licensed m None (first_term assertion) (second_term assertion) limit

-- Of two assertions that both are to hold: it fails where one fails, and holds where both hold.
abbrev pub both_of : Value → Value → Value
both_of value.Fails b = value.Fails
both_of value.Holds b = b
both_of value.Undecided value.Fails = value.Fails
both_of value.Undecided b = value.Undecided

-- Of two assertions of which one is to hold: it holds where one holds, and fails where both fail.
abbrev pub either_of : Value → Value → Value
either_of value.Holds b = value.Holds
either_of value.Fails b = b
either_of value.Undecided value.Holds = value.Holds
either_of value.Undecided b = value.Undecided

-- Of an assertion that is not to hold.
abbrev pub opposite_of : Value → Value
opposite_of value.Holds = value.Fails
opposite_of value.Fails = value.Holds
opposite_of value.Undecided = value.Undecided
