-- The files that a command reads.
use Rattle.std.specs.Prelude.{◌≡◌, ◌∷◌, ℕ, All, List, [], Option}
use Rattle.rela_io.specs.Held.{FilesByName, HoldsName}
use Rattle.rela_words.specs.Words.{Command, Check, Fmt, Fib, Zone, Rir, Certify, Audit, Demo, Ask}
use Rattle.rela_inputs.specs.declared.refusal.Input.{Input}
use Rattle.rela_inputs.specs.declared.refusal.Input.TheVariants.{Locations, Before, After, Spec, Tables, Other, Assertions, Certificate}

-- the inputs of a command, each with the name of its file, in the order in which they are read
abbrev pub operands_of : Command → List (Input × List ℕ)
operands_of (Check before after locations spec states blame) =
    (Locations, locations) ∷ (Before, before) ∷ (After, after) ∷ (Spec, spec) ∷ []
operands_of (Fmt spec) = (Spec, spec) ∷ []
operands_of (Fib tables other locations) =
    (Locations, locations) ∷ (Tables, tables) ∷ (Other, other) ∷ []
operands_of (Zone locations spec name states) = (Locations, locations) ∷ (Spec, spec) ∷ []
operands_of (Rir before after locations assertions states) =
    (Locations, locations) ∷ (Before, before) ∷ (After, after) ∷ (Assertions, assertions) ∷ []
operands_of (Certify before after locations spec states) =
    (Locations, locations) ∷ (Before, before) ∷ (After, after) ∷ (Spec, spec) ∷ []
operands_of (Audit before after locations spec certificate) =
    (Locations, locations) ∷ (Before, before) ∷ (After, after) ∷ (Spec, spec)
    ∷ (Certificate, certificate) ∷ []
operands_of (Demo layers) = []

-- what the last of these inputs gave, where the file opened last gave so many bytes: none where there is no input
abbrev pub given_last : List (Input × List ℕ) → ℕ → ℕ
given_last [] given = 0
given_last (operand ∷ operands) given = given

abbrev pub given_to : Command → ℕ → ℕ
given_to command given = given_last (operands_of command) given

-- the words ask for a command that reads no file
abbrev pub AskForNoFile : List (List ℕ) → Type 0
AskForNoFile words = (command : Command) × Ask words command × (operands_of command ≡ [])

-- it is told that the file of each operand is there
abbrev pub HoldsFiles : Option FilesByName → Command → Type 0
HoldsFiles holds command = All (λ operand. HoldsName holds operand.1) (operands_of command)

-- and of each command that the words ask for
abbrev pub HoldsAsked : Option FilesByName → List (List ℕ) → Type 0
HoldsAsked holds words = (command : Command) → Ask words command → HoldsFiles holds command
