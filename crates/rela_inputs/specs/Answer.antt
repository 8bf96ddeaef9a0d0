-- A text and a status.
use Rattle.std.specs.Prelude.{◌≢◌, ℕ, ◌<◌, List}
use Rattle.rela_inputs.specs.declared.answer.Answer as declared

-- the text that is written, and the status once it is
pub record Answer : Type 0 where
  pub text : List ℕ
  pub status : ℕ

-- what was made, as data
abbrev pub answer_by : declared.Answer → Answer
answer_by answer = record { text = answer.text.items; status = answer.status }

-- a status that says what the files of a command give, and not that the words are bad or that something failed
abbrev pub IsOutcomeStatus : ℕ → Type 0
IsOutcomeStatus status = (status < 5) × (status ≢ 2)
