-- What a command gives, and what a run answers.
use Rattle.std.specs.Prelude.{◌≡◌, ℕ, ◌⊎◌, Bool, false, nat_lt, List, codes, IsSome, Option, Result, Ok, Err}
use Rattle.rela_io.specs.Held.{FilesByName}
use Rattle.rela_report.specs.Text.{line}
use Rattle.rela_inputs.specs.Answer.{Answer}
use Rattle.rela_top.specs.Delivered.{Delivers}
use Rattle.rela_assert.specs.AssertReports.{ReportsAssertions, SameAssertReports}
use Rattle.rela_audit.specs.Audits.{Audits, SameAudits}
use Rattle.rela_audit.specs.Certifies.{Certifies, SameCertificates}
use Rattle.rela_check.specs.Blames.{ReportsAs, SameAs}
use Rattle.rela_change_report.specs.Reports.{SameReports}
use Rattle.rela_demonstrate.specs.Demos.{Demos}
use Rattle.rela_draw.specs.Draws.{Draws, SameDrawings}
use Rattle.rela_format.specs.Formats.{Formats}
use Rattle.rela_inputs.specs.Given.{Equals}
use Rattle.rela_top.specs.Operands.{given_to}
use Rattle.rela_inputs.specs.Reading.{is_too_long, max_file_bytes}
use Rattle.rela_inputs.specs.Refusal.{refusal_line}
use Rattle.rela_words.specs.Words.{Command, Check, Fmt, Fib, Zone, Rir, Certify, Audit, Demo, Ask, AskNothing}
use Rattle.rela_zone.specs.Zones.{SameZones, Zones}
use Rattle.rela_inputs.specs.declared.refusal.Refusal.{Refusal}

-- what the files of a command give: its answer, or the first refusal
abbrev pub Outcome : Option FilesByName → Command → Result Answer Refusal → Type 0
Outcome holds (Check before after locations spec states blame) =
    ReportsAs blame holds before after locations spec states
Outcome holds (Fmt spec) = Formats holds spec
Outcome holds (Fib tables other locations) = Draws holds tables other locations
Outcome holds (Zone locations spec name states) = Zones holds locations spec name states
Outcome holds (Rir before after locations assertions states) =
    ReportsAssertions holds before after locations assertions states
Outcome holds (Certify before after locations spec states) =
    Certifies holds before after locations spec states
Outcome holds (Audit before after locations spec certificate) =
    Audits holds before after locations spec certificate
Outcome holds (Demo layers) = Demos layers

-- how far the files settle the answer of a command
abbrev pub SameAnswer : Command → Answer → Answer → Type 0
SameAnswer (Check before after locations spec states blame) = SameAs blame
SameAnswer (Fmt spec) = Equals
SameAnswer (Fib tables other locations) = SameDrawings
SameAnswer (Zone locations spec name states) = SameZones
SameAnswer (Rir before after locations assertions states) = SameAssertReports
SameAnswer (Certify before after locations spec states) = SameCertificates states
SameAnswer (Audit before after locations spec certificate) = SameAudits
SameAnswer (Demo layers) = SameReports

-- the same refusal, or the same answer as far as the files settle it
abbrev pub SameOutcome : Command → Result Answer Refusal → Result Answer Refusal → Type 0
SameOutcome command (Ok answer) (Ok other) = SameAnswer command answer other
SameOutcome command (Ok answer) (Err refusal) = ⊥
SameOutcome command (Err refusal) (Ok answer) = ⊥
SameOutcome command (Err refusal) (Err other) = refusal ≡ other

-- an outcome as it is answered: a refusal by its line and status 4
abbrev pub answer_of : Result Answer Refusal → Answer
answer_of (Ok answer) = answer
answer_of (Err refusal) = record { text = refusal_line refusal; status = 4 }

-- the outcome is that a file is too long
abbrev pub says_too_long : Result Answer Refusal → Bool
says_too_long (Ok answer) = false
says_too_long (Err refusal) = is_too_long refusal

-- This is the answer to what the files of a command give: as too long exactly where the file that it opened last gave
-- more bytes than are allowed. Where the files are told, they give nothing else.
pub record GivenBy (holds : Option FilesByName) (command : Command) (given : ℕ)
    (answer : Answer) : Type 0 where
  pub outcome : Result Answer Refusal
  pub is_outcome : Outcome holds command outcome
  pub alone : IsSome holds → (other : Result Answer Refusal) → Outcome holds command other →
      SameOutcome command outcome other
  pub too_long : says_too_long outcome ≡ nat_lt max_file_bytes (given_to command given)
  pub is_answer : answer ≡ answer_of outcome

-- the answer to words that ask for nothing
abbrev pub bad_words : Answer
bad_words = record { text = line (codes "rela: bad command line"); status = 2 }

-- the answer fits what the words ask for, and what the files gave
abbrev pub Fits : List (List ℕ) → Option FilesByName → ℕ → Answer → Type 0
Fits words holds given answer =
    (AskNothing words × (answer ≡ bad_words)) ⊎ ((command : Command) × Ask words command
    × GivenBy holds command given answer)

-- what fits was delivered
abbrev pub Answers : List (List ℕ) → Option FilesByName → ℕ → Option (List ℕ) →
    Option (List ℕ) → ℕ → Type 0
Answers words holds given old new status = (answer : Answer) × Fits words holds given answer
    × Delivers old new answer status

-- the answer is that to this outcome, or to one that is the same as far as the files settle it
abbrev pub IsSameAnswer : Command → Result Answer Refusal → Answer → Type 0
IsSameAnswer command outcome answer =
    (made : Result Answer Refusal) × SameOutcome command made outcome × (answer ≡ answer_of made)

-- the answer is that to each outcome of the command
abbrev pub AnswersAll : Option FilesByName → Command → Answer → Type 0
AnswersAll holds command answer = (outcome : Result Answer Refusal) → Outcome holds command outcome →
    IsSameAnswer command outcome answer

-- the command has no outcome: its files end before one
abbrev pub GivesNothing : Option FilesByName → Command → Type 0
GivesNothing holds command = (outcome : Result Answer Refusal) → ¬ Outcome holds command outcome

-- memory ran out, or the answer to this outcome of the command was delivered
abbrev pub Completes : Command → Result Answer Refusal → Option (List ℕ) → Option (List ℕ) →
    ℕ → Type 0
Completes command outcome old new status =
    (status ≡ 7) ⊎ ((answer : Answer) × IsSameAnswer command outcome answer
    × Delivers old new answer status)

-- that holds of each outcome of the command that the words ask for
abbrev pub CompletesAll : List (List ℕ) → Option FilesByName → Option (List ℕ) →
    Option (List ℕ) → ℕ → Type 0
CompletesAll words holds old new status =
    (command : Command) (outcome : Result Answer Refusal) → Ask words command →
    Outcome holds command outcome → Completes command outcome old new status
