-- The words of the command line, each as its bytes, and what they ask for.
use Rattle.std.specs.Prelude.{◌≡◌, ℕ, ◌+◌, ◌≤◌, ◌==◌, ◌⊎◌, ◌↔◌, Bool, true, false, not}
use Rattle.std.specs.Prelude.{List, [], ◌∷◌, ◌++◌, codes, Option, None, Some, IsTrue}
use Rattle.std.specs.Prelude.{if◌then◌else◌}
use Rattle.std.specs.Fmt.{decimal}

-- ---- commands

-- What the words ask for, with the names of the files: to check a change, and to say by which
-- branch where the flag is given; to write the canonical text of a specification; to write the
-- snapshot that tables give; to write the automaton of the zone of the check of this name; to look
-- whether assertions hold of a change; to write a certificate of a change, or to audit one; or to
-- check the layered input of so many layers.
pub data Command : Type 0 where
  Check : (before after locations spec : List ℕ) (states : ℕ) (blame : Bool) → Command
  Fmt : (spec : List ℕ) → Command
  Fib : (tables other locations : List ℕ) → Command
  Zone : (locations spec name : List ℕ) (states : ℕ) → Command
  Rir : (before after locations assertions : List ℕ) (states : ℕ) → Command
  Certify : (before after locations spec : List ℕ) (states : ℕ) → Command
  Audit : (before after locations spec certificate : List ℕ) → Command
  Demo : (layers : ℕ) → Command

-- How a command is asked for: its name, its operands in order, its state limit where it takes one,
-- and whether its flag is given where it takes that.
pub record Row : Type 0 where
  pub name : List ℕ
  pub operands : List (List ℕ)
  pub states : Option ℕ
  pub blame : Option Bool

abbrev pub row_of : Command → Row
row_of (Check before after locations spec states blame) = record {
  name = codes "check";
  operands = before ∷ after ∷ locations ∷ spec ∷ [];
  states = Some states;
  blame = Some blame;
}
row_of (Fmt spec) = record {
  name = codes "fmt";
  operands = spec ∷ [];
  states = None;
  blame = None;
}
row_of (Fib tables other locations) = record {
  name = codes "fib";
  operands = tables ∷ other ∷ locations ∷ [];
  states = None;
  blame = None;
}
row_of (Zone locations spec name states) = record {
  name = codes "zone";
  operands = locations ∷ spec ∷ name ∷ [];
  states = Some states;
  blame = None;
}
row_of (Rir before after locations assertions states) = record {
  name = codes "rir";
  operands = before ∷ after ∷ locations ∷ assertions ∷ [];
  states = Some states;
  blame = None;
}
row_of (Certify before after locations spec states) = record {
  name = codes "certify";
  operands = before ∷ after ∷ locations ∷ spec ∷ [];
  states = Some states;
  blame = None;
}
row_of (Audit before after locations spec certificate) = record {
  name = codes "audit";
  operands = before ∷ after ∷ locations ∷ spec ∷ certificate ∷ [];
  states = None;
  blame = None;
}
row_of (Demo layers) = record {
  name = codes "demo";
  operands = decimal layers ∷ [];
  states = None;
  blame = None;
}

-- the number is from 1 to this one
abbrev pub IsUpTo : ℕ → ℕ → Type 0
IsUpTo most n = (1 ≤ n) × (n ≤ most)

-- the numbers of a command: a state limit from 1 to 4,000,000, and from 1 to 200 layers
abbrev pub HasNumbers : Command → Type 0
HasNumbers (Check before after locations spec states blame) = IsUpTo 4000000 states
HasNumbers (Fmt spec) = Unit {0}
HasNumbers (Fib tables other locations) = Unit {0}
HasNumbers (Zone locations spec name states) = IsUpTo 4000000 states
HasNumbers (Rir before after locations assertions states) = IsUpTo 4000000 states
HasNumbers (Certify before after locations spec states) = IsUpTo 4000000 states
HasNumbers (Audit before after locations spec certificate) = Unit {0}
HasNumbers (Demo layers) = IsUpTo 200 layers

-- ---- words

-- a dash with something behind it doesn't begin the word
abbrev pub is_plain : List ℕ → Bool
is_plain [] = true
is_plain (byte ∷ []) = true
is_plain (byte ∷ next ∷ bytes) = not (byte == 45)

abbrev pub IsPlain : List ℕ → Type 0
IsPlain word = IsTrue (is_plain word)

-- a piece of the words behind a command's name: an operand, an option in one of its two forms, or
-- the flag
pub data Piece : Type 0 where
  operand : (word : List ℕ) → IsPlain word → Piece
  apart : (number : List ℕ) → IsPlain number → Piece
  joined : (number : List ℕ) → Piece
  flag : Piece

-- the words of the pieces, one after another
abbrev pub words_in : List Piece → List (List ℕ)
words_in [] = []
words_in (operand word plain ∷ pieces) = word ∷ words_in pieces
words_in (apart number plain ∷ pieces) = codes "--states" ∷ number ∷ words_in pieces
words_in (joined number ∷ pieces) = (codes "--states=" ++ number) ∷ words_in pieces
words_in (flag ∷ pieces) = codes "--blame" ∷ words_in pieces

-- the operands among them
abbrev pub operands_in : List Piece → List (List ℕ)
operands_in [] = []
operands_in (operand word plain ∷ pieces) = word ∷ operands_in pieces
operands_in (apart number plain ∷ pieces) = operands_in pieces
operands_in (joined number ∷ pieces) = operands_in pieces
operands_in (flag ∷ pieces) = operands_in pieces

-- the texts that the options among them give
abbrev pub limits_in : List Piece → List (List ℕ)
limits_in [] = []
limits_in (operand word plain ∷ pieces) = limits_in pieces
limits_in (apart number plain ∷ pieces) = number ∷ limits_in pieces
limits_in (joined number ∷ pieces) = number ∷ limits_in pieces
limits_in (flag ∷ pieces) = limits_in pieces

-- how many of them are the flag
abbrev pub flags_in : List Piece → ℕ
flags_in [] = 0
flags_in (operand word plain ∷ pieces) = flags_in pieces
flags_in (apart number plain ∷ pieces) = flags_in pieces
flags_in (joined number ∷ pieces) = flags_in pieces
flags_in (flag ∷ pieces) = 1 + flags_in pieces

-- nothing, or the word `--` and these operands, whatever they begin with
abbrev pub AreAfterDashes : List (List ℕ) → List (List ℕ) → Type 0
AreAfterDashes words operands = ((words ≡ []) × (operands ≡ [])) ⊎ (words ≡ codes "--" ∷ operands)

-- what words give: operands in order, the texts of the options in order, and whether the flag
-- stands among them
pub record Parts : Type 0 where
  pub operands : List (List ℕ)
  pub limits : List (List ℕ)
  pub blame : Bool

-- The words give these parts: they are pieces, and then nothing, or `--` and further operands. The
-- flag stands there at most once.
pub record Give (words : List (List ℕ)) (parts : Parts) : Type 0 where
  pub pieces : List Piece
  pub tail : List (List ℕ)
  pub others : List (List ℕ)
  pub are_words : words ≡ words_in pieces ++ tail
  pub after_dashes : AreAfterDashes tail others
  pub are_operands : parts.operands ≡ operands_in pieces ++ others
  pub are_limits : parts.limits ≡ limits_in pieces
  pub is_flag : flags_in pieces ≡ (if parts.blame then 1 else 0)

-- ---- what words ask for

-- the state limit where the words give none
abbrev pub default_states : ℕ
default_states = 100000

-- the texts of the options are this limit in decimal, or there is none, and it is the default; a
-- command that takes no limit is given none
abbrev pub IsLimit : Option ℕ → List (List ℕ) → Type 0
IsLimit None limits = limits ≡ []
IsLimit (Some states) limits =
    (limits ≡ decimal states ∷ []) ⊎ ((limits ≡ []) × (states ≡ default_states))

-- the flag is given or not, as this says; a command that takes no flag is given none
abbrev pub IsFlag : Option Bool → Bool → Type 0
IsFlag None given = given ≡ false
IsFlag (Some blame) given = given ≡ blame

-- the parts are those of the command
pub record Fit (parts : Parts) (command : Command) : Type 0 where
  pub are_operands : parts.operands ≡ (row_of command).operands
  pub is_limit : IsLimit (row_of command).states parts.limits
  pub is_flag : IsFlag (row_of command).blame parts.blame
  pub numbers : HasNumbers command

-- the words ask for the command: its name, and then what gives its parts
pub record Ask (words : List (List ℕ)) (command : Command) : Type 0 where
  pub rest : List (List ℕ)
  pub parts : Parts
  pub are_words : words ≡ (row_of command).name ∷ rest
  pub gives : Give rest parts
  pub fits : Fit parts command

-- the first word is a command's name
pub record BeginByName (words : List (List ℕ)) : Type 0 where
  pub command : Command
  pub rest : List (List ℕ)
  pub are_words : words ≡ (row_of command).name ∷ rest

-- the words ask for this command and for no other
abbrev pub AskJust : List (List ℕ) → Command → Type 0
AskJust words asked = (command : Command) → Ask words command ↔ (command ≡ asked)

-- the words ask for no command
abbrev pub AskNothing : List (List ℕ) → Type 0
AskNothing words = (command : Command) → ¬ Ask words command
