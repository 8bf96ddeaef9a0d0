-- What `certify` gives, from what its steps give.
use Rattle.std.proofs.Common.{ℕ, Bool, List, Option, Result, Ok, Err, refl, sym, subst}
use Rattle.rela_flows.specs.declared.planning.PlannedRow.{PlannedRow}
use Rattle.rela_io.specs.Held.{FilesByName}
use Rattle.rela_inputs.specs.Answer.{Answer}
use Rattle.rela_inputs.specs.Given.{Agrees, IsGiven}
use Rattle.rela_inputs.specs.Inputs.{BytesOf}
use Rattle.rela_inputs.specs.Loaded.{Loaded, Loads, SameLoaded}
use Rattle.rela_inputs.specs.declared.reading.Halt.{Halt}
use Rattle.rela_inputs.specs.declared.refusal.Input.TheVariants.{Locations, Before, After as AfterChange, Spec}
use Rattle.rela_inputs.specs.declared.refusal.Refusal.{Refusal}
use Rattle.rela_audit.specs.Audits.{subject_of}
use Rattle.rela_audit.specs.Certifies.{AnswersCertificate, Certifies, CertifiesLoaded, SameCertificates}
use Rattle.rela_audit.proofs.AuditLaws.{SameIsOne, layout_same}
use Rattle.rela_audit.proofs.Points.{StepsChain, certified_change}

certified_so : (change : Loaded) (states : ℕ) (answer : Answer) → AnswersCertificate (subject_of change) states answer → CertifiesLoaded change states (Ok answer)
unfolding CertifiesLoaded
certified_so change states answer certified = (answer, certified, refl)

module _ (told steady : Bool) (law : StepsChain told steady) (holds : Option FilesByName) (before after locations spec : List ℕ) (states : ℕ) where
  abbrev Change : Result Loaded Refusal → Type 0
  Change = Loads (BytesOf holds before Before) (BytesOf holds after AfterChange) (BytesOf holds locations Locations) (BytesOf holds spec Spec)

  abbrev Certified : Result Answer Refusal → Type 0
  Certified = Certifies holds before after locations spec states

  pub change_stopped : (halt : Halt) → IsGiven told steady SameLoaded Change (Err halt) → IsGiven told steady (SameCertificates states) Certified (Err halt)
  unfolding Certifies
  change_stopped halt given = (law (certified_change holds before after locations spec states)).stopped halt given

  certificates_agree : SameIsOne → (change other : Loaded) (answer : Answer) (r : Result Answer Refusal) → SameLoaded change other → AnswersCertificate (subject_of change) states answer
      → CertifiesLoaded other states r → Agrees steady (SameCertificates states) (Ok answer) r
  unfolding CertifiesLoaded
  certificates_agree one_for_all change other answer r same certified (another, certified_too, is) =
      subst (λ (s : Result Answer Refusal). Agrees steady (SameCertificates states) (Ok answer) s) (sym is) (record {
        subject = subject_of change;
        other = subject_of other;
        same_layout = λ (planned : List PlannedRow). layout_same one_for_all change other same planned;
        certified = certified;
        certified_too = certified_too;
      })

  -- all of it is read and certified
  pub certified : SameIsOne → (change : Loaded) (answer : Answer) → IsGiven told steady SameLoaded Change (Ok change) → AnswersCertificate (subject_of change) states answer
      → IsGiven told steady (SameCertificates states) Certified (Ok answer)
  unfolding Certifies
  certified one_for_all change answer given answers =
      (law (certified_change holds before after locations spec states)).continued change (Ok answer) given (certified_so change states answer answers)
      (λ t other same x steps. certificates_agree one_for_all change other answer x same answers steps)
