-- What the four inputs of a change give: a certificate of the rows that are met, or the first refusal in the order in
-- which they are read.
use Rattle.std.specs.Prelude.{◌≡◌, ℕ, List, Option, Result, Ok}
use Rattle.rela_cert.specs.Certified.{IsCertified}
use Rattle.rela_cert.specs.Subject.{Subject, layout_of}
use Rattle.rela_flows.specs.declared.planning.PlannedRow.{PlannedRow}
use Rattle.rela_io.specs.Held.{FilesByName}
use Rattle.rela_snapshot.specs.Steps.{◌>>=◌}
use Rattle.rela_inputs.specs.Answer.{Answer}
use Rattle.rela_inputs.specs.Inputs.{BytesOf}
use Rattle.rela_inputs.specs.Loaded.{Loaded, Loads}
use Rattle.rela_inputs.specs.declared.refusal.Input.TheVariants.{Locations, Before, After, Spec}
use Rattle.rela_inputs.specs.declared.refusal.Refusal.{Refusal}
use Rattle.rela_audit.specs.Audits.{subject_of}

-- the answer is a certificate for the subject, and its status is 0
abbrev pub AnswersCertificate : Subject → ℕ → Answer → Type 0
AnswersCertificate subject states answer =
    IsCertified subject states answer.text × (answer.status ≡ 0)

unfoldable pub CertifiesLoaded : Loaded → ℕ → Result Answer Refusal → Type 0
CertifiesLoaded loaded states r = (answer : Answer)
    × AnswersCertificate (subject_of loaded) states answer × (r ≡ Ok answer)

unfoldable pub Certifies : Option FilesByName → (before after locations spec : List ℕ) → ℕ →
    Result Answer Refusal → Type 0
Certifies holds before after locations spec states = do
  loaded ← Loads (BytesOf holds before Before) (BytesOf holds after After)
      (BytesOf holds locations Locations) (BytesOf holds spec Spec)
  CertifiesLoaded loaded states

-- Both answers are certificates, each for a subject whose rows are laid out as those of the other. It is left open
-- which of the rows that a limit leaves open are listed.
pub record SameCertificates (states : ℕ) (x y : Answer) : Type 0 where
  pub subject : Subject
  pub other : Subject
  pub same_layout : (planned : List PlannedRow) →
      layout_of subject planned ≡ layout_of other planned
  pub certified : AnswersCertificate subject states x
  pub certified_too : AnswersCertificate other states y
