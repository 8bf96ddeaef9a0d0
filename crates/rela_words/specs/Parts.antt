-- What `clap` is asked to read, and the parts of what it read.
use Rattle.std.specs.Prelude.{◌≡◌, ◌↔◌, ℕ, true, false, List, [], codes, map, Option, Some}
use Rattle.std.specs.Prelude.{option_map, unwrap_or}
use Rattle.std.specs.Borrow.{Bor}
use Rattle.std.specs.Fmt.{decimal}
use Rattle.clap.specs.Words.{App, Rule, Text, found_of, matched_of, new_app, new_rule, raw_values}
use Rattle.clap.specs.Words.{with_rule}
use Rattle.clap.specs.declared.builder.action.ArgAction.TheVariants.{Append, SetTrue}
use Rattle.clap.specs.declared.parser.matches.ArgMatches.{ArgMatches}
use Rattle.rela_words.specs.Words.{Command, Fit, Give, IsLimit, IsUpTo, Parts, row_of}
use Rattle.rela_words.specs.declared.parts.Parts as declared

-- the option, the flag and the operands
abbrev pub states_rule : Rule
states_rule = record (new_rule (codes "states")) {
  long = Some (codes "states");
  action = Some Append;
}

abbrev pub blame_rule : Rule
blame_rule = record (new_rule (codes "blame")) {
  long = Some (codes "blame");
  action = Some SetTrue;
}

abbrev pub operands_rule : Rule
operands_rule = record (new_rule (codes "operands")) { action = Some Append }

-- a command of words without the program's name, and without a flag for help
abbrev pub bare_app : App
bare_app = record (new_app (codes "rela")) {
  top = record (new_app (codes "rela")).top { no_binary_name = true; disable_help_flag = true };
}

unfoldable pub options_app : App
options_app = with_rule (with_rule (with_rule bare_app states_rule) blame_rule) operands_rule

-- the values of an argument, of all its uses
abbrev pub values_of : ArgMatches → Text → List Text
values_of m id = unwrap_or (option_map raw_values (matched_of (found_of m) id)) []

-- the texts as their bytes, where there are any
abbrev pub words_of : Option (Bor (List (Bor (List ℕ)))) → List (List ℕ)
words_of texts = unwrap_or (option_map (λ s. map (λ w. w.now) s.now) texts) []

-- the parts that were read
abbrev pub parts_of : declared.Parts → Parts
parts_of p = record {
  operands = values_of p.matches (codes "operands");
  limits = values_of p.matches (codes "states");
  blame = p.blame;
}

-- the words give these parts and no others
abbrev pub GiveJust : List (List ℕ) → Parts → Type 0
GiveJust words given = (parts : Parts) → Give words parts ↔ (parts ≡ given)

-- the words give no parts
abbrev pub GiveNothing : List (List ℕ) → Type 0
GiveNothing words = (parts : Parts) → ¬ Give words parts

-- of the commands of this name, the parts are those of this one and of no other
abbrev pub FitJust : List ℕ → Parts → Command → Type 0
FitJust name parts asked = (command : Command) →
    (((row_of command).name ≡ name) × Fit parts command) ↔ (command ≡ asked)

-- the parts are those of no command of this name
abbrev pub FitNothing : List ℕ → Parts → Type 0
FitNothing name parts = (command : Command) → (row_of command).name ≡ name → ¬ Fit parts command

-- the word is the number in decimal, which is from 1 to this one
abbrev pub IsNumber : ℕ → List ℕ → ℕ → Type 0
IsNumber most word n = (word ≡ decimal n) × IsUpTo most n

-- the limit that the texts give
abbrev pub IsLimitUpTo : ℕ → List (List ℕ) → ℕ → Type 0
IsLimitUpTo most limits states = IsLimit (Some states) limits × IsUpTo most states

-- neither the option nor the flag is given
abbrev pub HaveNoOptions : Parts → Type 0
HaveNoOptions parts = (parts.limits ≡ []) × (parts.blame ≡ false)
