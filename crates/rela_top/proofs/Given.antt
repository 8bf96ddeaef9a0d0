-- What a command gives rise to, and how it is answered.
use Rattle.std.proofs.Common.{◌≡◌, ℕ, ◌≤◌, nat_lt, false, Bool, is_some, IsTrue, List, Option, Result, Ok, Err, inr, refl, sym, ap, subst, rules}
use Rattle.rela_io.specs.Held.{FilesByName}
use Rattle.rela_inputs.specs.Answer.{Answer}
use Rattle.rela_top.specs.Delivered.{Delivers}
use Rattle.rela_inputs.specs.Given.{Agrees, IsGiven}
use Rattle.rela_top.specs.Operands.{given_to}
use Rattle.rela_top.specs.Outcome.{Outcome, SameAnswer, SameOutcome, GivenBy, IsSameAnswer, Completes}
use Rattle.rela_inputs.specs.Reading.{is_too_long, max_file_bytes}
use Rattle.rela_inputs.specs.Refusal.{refusal_line}
use Rattle.rela_words.specs.Words.{Command, Ask, AskJust, BeginByName}
use Rattle.rela_inputs.specs.declared.reading.Halt.{Halt}
use Rattle.rela_inputs.specs.declared.reading.Halt.TheVariants.{Refused, ReadFault}
use Rattle.rela_inputs.specs.declared.refusal.Refusal.{Refusal}

abbrev refusing : List ℕ → Answer
refusing text = record { text = text; status = 4 }

module _ (holds : Option FilesByName) (steady : Bool) (command : Command) where
  abbrev IsAnswered : Result Answer Halt → Type 0
  IsAnswered r = IsGiven (is_some holds) steady (SameAnswer command) (Outcome holds command) r

  made_same : (answer : Answer) (x : Result Answer Refusal) → Agrees steady (SameAnswer command) (Ok answer) x → SameOutcome command (Ok answer) x
  made_same answer (Ok other) agrees = agrees
  made_same answer (Err refusal) agrees = absurd agrees

  refused_same : (refusal : Refusal) (x : Result Answer Refusal) → Agrees steady (SameAnswer command) (Err (Refused refusal)) x → SameOutcome command (Err refusal) x
  refused_same refusal (Ok other) agrees = absurd agrees
  refused_same refusal (Err other) agrees = agrees

  -- what is made, where the file opened last isn't too long
  pub GivenBy-made : (given : ℕ) (answer : Answer) → IsAnswered (Ok answer) → given_to command given ≤ max_file_bytes → GivenBy holds command given answer
  GivenBy-made given answer is few =
      let short : nat_lt max_file_bytes (given_to command given) ≡ false = search rules in
      record {
        outcome = Ok answer;
        is_outcome = is.told_by;
        alone = λ told x outcome. made_same answer x (is.alone told x outcome);
        too_long = sym short;
        is_answer = refl;
      }

  -- the line of a refusal
  pub GivenBy-refusing : (given : ℕ) (text : List ℕ) (refusal : Refusal) → IsAnswered (Err (Refused refusal)) → is_too_long refusal ≡ nat_lt max_file_bytes (given_to command given) → text ≡ refusal_line refusal
      → GivenBy holds command given (record { text = text; status = 4 })
  GivenBy-refusing given text refusal is long is_line = record {
    outcome = Err refusal;
    is_outcome = is.told_by;
    alone = λ told x outcome. refused_same refusal x (is.alone told x outcome);
    too_long = long;
    is_answer = ap refusing is_line;
  }

  -- where the files are told, what they give is answered
  pub made_complete : (answer : Answer) (outcome : Result Answer Refusal) → IsAnswered (Ok answer) → IsTrue (is_some holds) → Outcome holds command outcome → IsSameAnswer command outcome answer
  made_complete answer outcome is told given = (Ok answer, made_same answer outcome (is.alone told outcome given), refl)

  pub refused_complete : (text : List ℕ) (refusal : Refusal) (outcome : Result Answer Refusal) → IsAnswered (Err (Refused refusal)) → IsTrue (is_some holds) → Outcome holds command outcome
      → text ≡ refusal_line refusal → IsSameAnswer command outcome (record { text = text; status = 4 })
  refused_complete text refusal outcome is told given is_line = (Err refusal, refused_same refusal outcome (is.alone told outcome given), ap refusing is_line)

-- over steady files no fault comes in the place of what they give
pub no_fault : (holds : Option FilesByName) (steady : Bool) (command : Command) (outcome : Result Answer Refusal)
    → IsGiven {A = Answer} (is_some holds) steady (SameAnswer command) (Outcome holds command) (Err ReadFault) → IsTrue (is_some holds) → IsTrue steady → Outcome holds command outcome → ⊥
no_fault holds steady command outcome is told stays given =
    let unsteady : steady ≡ false = is.alone told outcome given in
    cc

-- the words ask for one command
pub only_asked : (words : List (List ℕ)) (asked command : Command) → AskJust words asked → Ask words command → asked ≡ command
only_asked words asked command just ask = sym ((just command).0 ask)

-- and that one
pub asked_of : (words : List (List ℕ)) (asked : Command) → AskJust words asked → Ask words asked
asked_of words asked just = (just asked).1 refl

pub completes : (asked command : Command) (outcome : Result Answer Refusal) (answer : Answer) (old new : Option (List ℕ)) (status : ℕ) → asked ≡ command
    → IsSameAnswer asked outcome answer → Delivers old new answer status → Completes command outcome old new status
completes asked command outcome answer old new status same is delivers =
    inr (answer, subst (λ (x : Command). IsSameAnswer x outcome answer) same is, delivers)

-- words that ask for something begin by a command's name
pub begins : (words : List (List ℕ)) (command : Command) → Ask words command → BeginByName words
begins words command asked = record { command = command; rest = asked.rest; are_words = asked.are_words }
