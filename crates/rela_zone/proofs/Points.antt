-- Where in `zone` one step comes after another.
use Rattle.std.proofs.Common.{ℕ, List, Option}
use Rattle.rela_io.specs.Held.{FilesByName}
use Rattle.rela_locations.specs.Network.{Network, alphabet_of}
use Rattle.rela_snapshot.specs.Steps.{Is, ◌>>=◌}
use Rattle.rela_translate.specs.Checked.{Checked as Check}
use Rattle.rela_inputs.specs.Answer.{Answer}
use Rattle.rela_inputs.specs.Chained.{Chain}
use Rattle.rela_inputs.specs.Given.{Equals}
use Rattle.rela_inputs.specs.Inputs.{BytesOf, Gives, ReadsNetwork}
use Rattle.rela_inputs.specs.Specified.{ReadsChecks, SameSpecified, Specified}
use Rattle.rela_inputs.specs.declared.refusal.Input.TheVariants.{Locations, Spec}
use Rattle.rela_zone.specs.Zones.{SameZones, ShowsZone, WritesZone, check_named, or_unknown}

pub data Point : Type 0 where
  at_locations : Option FilesByName → (locations spec name : List ℕ) → (states : ℕ) → Point
  at_spec : Option FilesByName → (spec name : List ℕ) → (states : ℕ) → Network → Point
  at_check : (name : List ℕ) → (states : ℕ) → Network → Specified → Point

abbrev pub chain : Point → Chain
chain (at_locations holds locations spec name states) = record {
  Value = Network;
  Made = Answer;
  Same = Equals;
  Alike = SameZones;
  Step = Gives (BytesOf holds locations Locations) ReadsNetwork;
  Next = λ network. Gives (BytesOf holds spec Spec) (ReadsChecks network) >>= ShowsZone network name states;
}
chain (at_spec holds spec name states network) = record {
  Value = Specified;
  Made = Answer;
  Same = SameSpecified;
  Alike = SameZones;
  Step = Gives (BytesOf holds spec Spec) (ReadsChecks network);
  Next = ShowsZone network name states;
}
chain (at_check name states network specified) = record {
  Value = Check;
  Made = Answer;
  Same = Equals;
  Alike = SameZones;
  Step = Is (or_unknown (check_named name specified.checks));
  Next = WritesZone (alphabet_of specified.level network) states;
}
