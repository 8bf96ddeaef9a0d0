-- What the four inputs of a change and a certificate give: what an audit of the certificate finds, or the first refusal
-- in the order in which they are read.
use Rattle.std.specs.Prelude.{◌≡◌, ℕ, ◌⊎◌, List, ◌++◌, codes, Option, Result, Ok}
use Rattle.std.specs.Fmt.{decimal}
use Rattle.rela_cert.specs.Audited.{IsAudited, IsFoundOf}
use Rattle.rela_cert.specs.Subject.{Subject, layout_of, subject}
use Rattle.rela_cert.specs.declared.answer.Audit.{Audit}
use Rattle.rela_cert.specs.declared.answer.Audit.TheVariants.{Accepted, Rejected, TooLarge}
use Rattle.rela_flows.specs.declared.planning.PlannedRow.{PlannedRow}
use Rattle.rela_io.specs.Held.{FilesByName}
use Rattle.rela_report.specs.Text.{line}
use Rattle.rela_snapshot.specs.Steps.{◌>>=◌}
use Rattle.rela_inputs.specs.Answer.{Answer}
use Rattle.rela_inputs.specs.Inputs.{BytesOf}
use Rattle.rela_inputs.specs.Loaded.{Loaded, Loads, names_of}
use Rattle.rela_inputs.specs.declared.refusal.Input.TheVariants.{Locations, Before, After, Spec, Certificate}
use Rattle.rela_inputs.specs.declared.refusal.Refusal.{Refusal}

-- the line that says what an audit found, and its status
abbrev pub answer_to : Audit → Answer
answer_to (Accepted rows) = record {
  text = line (codes "accepted " ++ decimal rows);
  status = 0;
}
answer_to (Rejected number) = record {
  text = line (codes "rejected at " ++ decimal number);
  status = 1;
}
answer_to TooLarge = record { text = line (codes "undecided"); status = 3 }

-- the most states that the images of a row may have
abbrev pub limit : ℕ
limit = 4000000

-- the checks, the flows and the locations of a loaded change, of which a certificate speaks
abbrev pub subject_of : Loaded → Subject
subject_of loaded = subject loaded.specified.checks loaded.pairs (names_of loaded)

-- the answer is that of an audit of the text for the change
abbrev pub AnswersAudit : Loaded → List ℕ → Answer → Type 0
AnswersAudit loaded text answer = (audit : Audit)
    × IsAudited (subject_of loaded) limit text audit × (answer ≡ answer_to audit)

unfoldable pub AuditsText : Loaded → List ℕ → Result Answer Refusal → Type 0
AuditsText loaded text r = (answer : Answer) × AnswersAudit loaded text answer × (r ≡ Ok answer)

unfoldable pub Audits : Option FilesByName → (before after locations spec certificate : List ℕ) →
    Result Answer Refusal → Type 0
Audits holds before after locations spec certificate = do
  loaded ← Loads (BytesOf holds before Before) (BytesOf holds after After)
      (BytesOf holds locations Locations) (BytesOf holds spec Spec)
  text ← BytesOf holds certificate Certificate
  AuditsText loaded text

-- Both answers are of one text that is a certificate of rows of one plan: each says something of the rows that it
-- lists. Where one of their blocks is bad, it is left open which one is named.
pub record AreOfRows (x y : Answer) : Type 0 where
  pub subject : Subject
  pub other : Subject
  pub planned : List PlannedRow
  pub text : List ℕ
  pub audit : Audit
  pub another : Audit
  pub same_layout : layout_of subject planned ≡ layout_of other planned
  pub found : IsFoundOf subject planned limit text audit
  pub found_too : IsFoundOf other planned limit text another
  pub is_first : x ≡ answer_to audit
  pub is_second : y ≡ answer_to another

-- two answers that are the same, as they are where the text is no certificate; or that are of the rows which it lists
abbrev pub SameAudits : Answer → Answer → Type 0
SameAudits x y = (x ≡ y) ⊎ AreOfRows x y
