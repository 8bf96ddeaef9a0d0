-- Where in `check` one step comes after another.
use Rattle.std.proofs.Common.{ℕ, Bool, List, Option}
use Rattle.rela_io.specs.Held.{FilesByName}
use Rattle.rela_locations.specs.Network.{Network}
use Rattle.rela_same_flows.specs.SameFlows.{SamePairs}
use Rattle.rela_snapshot.specs.Steps.{◌>>=◌}
use Rattle.rela_snapshot.specs.declared.pairing.FlowPair.{FlowPair}
use Rattle.rela_change_report.specs.Reports.{Reports, SameReports}
use Rattle.rela_inputs.specs.Answer.{Answer}
use Rattle.rela_inputs.specs.Chained.{Chain, Chained}
use Rattle.rela_inputs.specs.Given.{Equals}
use Rattle.rela_inputs.specs.Inputs.{BytesOf, Gives, ReadsNetwork}
use Rattle.rela_inputs.specs.Loaded.{Loaded, Loads, SameLoaded}
use Rattle.rela_inputs.specs.Paired.{GivesPairs}
use Rattle.rela_inputs.specs.Specifications.{ReadsWritten, Written}
use Rattle.rela_inputs.specs.Specified.{AsksFor, SameSpecified, Specified}
use Rattle.rela_inputs.specs.declared.refusal.Input.TheVariants as input
use Rattle.rela_check.specs.Blames.{BlamesOver, ReportsBlamed, SameBlamed, change_of}

pub data Point : Type 0 where
  at_change : Option FilesByName → (before after locations spec : List ℕ) → (states : ℕ) → Point
  at_locations : Option FilesByName → (before after locations spec : List ℕ) → (states : ℕ) → Point
  at_pairs : Option FilesByName → (before after spec : List ℕ) → (states : ℕ) → Network → Point
  at_written : Option FilesByName → (spec : List ℕ) → (states : ℕ) → Network → List FlowPair → Point
  at_asked : (states : ℕ) → Network → List FlowPair → Written → Point

abbrev pub chain : Point → Chain
chain (at_change holds before after locations spec states) = record {
  Value = Loaded;
  Made = Answer;
  Same = SameLoaded;
  Alike = SameReports;
  Step = Loads (BytesOf holds before input.Before) (BytesOf holds after input.After) (BytesOf holds locations input.Locations) (BytesOf holds spec input.Spec);
  Next = Reports states;
}
chain (at_locations holds before after locations spec states) = record {
  Value = Network;
  Made = Answer;
  Same = Equals;
  Alike = SameBlamed;
  Step = Gives (BytesOf holds locations input.Locations) ReadsNetwork;
  Next = BlamesOver holds before after spec states;
}
chain (at_pairs holds before after spec states network) = record {
  Value = List FlowPair;
  Made = Answer;
  Same = SamePairs;
  Alike = SameBlamed;
  Step = GivesPairs network (BytesOf holds before input.Before) (BytesOf holds after input.After);
  Next = λ pairs. Gives (BytesOf holds spec input.Spec) ReadsWritten
      >>= (λ written. AsksFor network written.file >>= (λ specified. ReportsBlamed states written (change_of network pairs specified)));
}
chain (at_written holds spec states network pairs) = record {
  Value = Written;
  Made = Answer;
  Same = Equals;
  Alike = SameBlamed;
  Step = Gives (BytesOf holds spec input.Spec) ReadsWritten;
  Next = λ written. AsksFor network written.file >>= (λ specified. ReportsBlamed states written (change_of network pairs specified));
}
chain (at_asked states network pairs written) = record {
  Value = Specified;
  Made = Answer;
  Same = SameSpecified;
  Alike = SameBlamed;
  Step = AsksFor network written.file;
  Next = λ specified. ReportsBlamed states written (change_of network pairs specified);
}

-- what steps give one after the other, at each of these points
abbrev pub StepsChain : (told steady : Bool) → Type 0
StepsChain told steady = (point : Point) → Chained told steady (chain point)
