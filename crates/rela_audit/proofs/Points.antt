-- Where in `audit` and `certify` one step comes after another.
use Rattle.std.proofs.Common.{ℕ, Bool, List, Option}
use Rattle.rela_io.specs.Held.{FilesByName}
use Rattle.rela_snapshot.specs.Steps.{◌>>=◌}
use Rattle.rela_inputs.specs.Answer.{Answer}
use Rattle.rela_inputs.specs.Chained.{Chain, Chained}
use Rattle.rela_inputs.specs.Given.{Equals}
use Rattle.rela_inputs.specs.Inputs.{BytesOf}
use Rattle.rela_inputs.specs.Loaded.{Loaded, Loads, SameLoaded}
use Rattle.rela_inputs.specs.declared.refusal.Input.TheVariants as input
use Rattle.rela_audit.specs.Audits.{AuditsText, SameAudits}
use Rattle.rela_audit.specs.Certifies.{CertifiesLoaded, SameCertificates}

pub data Point : Type 0 where
  audited_change : Option FilesByName → (before after locations spec certificate : List ℕ) → Point
  audited_text : Option FilesByName → (certificate : List ℕ) → Loaded → Point
  certified_change : Option FilesByName → (before after locations spec : List ℕ) → (states : ℕ) → Point

abbrev pub chain : Point → Chain
chain (audited_change holds before after locations spec certificate) = record {
  Value = Loaded;
  Made = Answer;
  Same = SameLoaded;
  Alike = SameAudits;
  Step = Loads (BytesOf holds before input.Before) (BytesOf holds after input.After) (BytesOf holds locations input.Locations) (BytesOf holds spec input.Spec);
  Next = λ change. BytesOf holds certificate input.Certificate >>= AuditsText change;
}
chain (audited_text holds certificate change) = record {
  Value = List ℕ;
  Made = Answer;
  Same = Equals;
  Alike = SameAudits;
  Step = BytesOf holds certificate input.Certificate;
  Next = AuditsText change;
}
chain (certified_change holds before after locations spec states) = record {
  Value = Loaded;
  Made = Answer;
  Same = SameLoaded;
  Alike = SameCertificates states;
  Step = Loads (BytesOf holds before input.Before) (BytesOf holds after input.After) (BytesOf holds locations input.Locations) (BytesOf holds spec input.Spec);
  Next = λ change. CertifiesLoaded change states;
}

-- what steps give one after the other, at each of these points
abbrev pub StepsChain : (told steady : Bool) → Type 0
StepsChain told steady = (point : Point) → Chained told steady (chain point)
