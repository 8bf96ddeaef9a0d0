-- Where in `rir` one step comes after another.
use Rattle.std.proofs.Common.{ℕ, Bool, List, Option}
use Rattle.rela_io.specs.Held.{FilesByName}
use Rattle.rela_locations.specs.Network.{Network}
use Rattle.rela_rirfile.specs.declared.written.AssertFile.{AssertFile}
use Rattle.rela_same_flows.specs.SameFlows.{SamePairs}
use Rattle.rela_snapshot.specs.Steps.{◌>>=◌}
use Rattle.rela_snapshot.specs.declared.pairing.FlowPair.{FlowPair}
use Rattle.rela_inputs.specs.Answer.{Answer}
use Rattle.rela_inputs.specs.Chained.{Chain, Chained}
use Rattle.rela_inputs.specs.Given.{Equals}
use Rattle.rela_inputs.specs.Inputs.{BytesOf, Gives, ReadsNetwork}
use Rattle.rela_inputs.specs.Paired.{GivesPairs}
use Rattle.rela_inputs.specs.Specifications.{ReadsAssertions}
use Rattle.rela_inputs.specs.declared.refusal.Input.TheVariants as input
use Rattle.rela_assert.specs.AssertReports.{ReportsClaims, ReportsOver, SameAssertReports}
use Rattle.rela_assert.specs.Asserted.{Asserted, Asserts, ReadsClaims, SameAsserted}

pub data Point : Type 0 where
  at_locations : Option FilesByName → (before after locations assertions : List ℕ) → (states : ℕ) → Point
  at_pairs : Option FilesByName → (before after assertions : List ℕ) → (states : ℕ) → Network → Point
  at_claims : Option FilesByName → (assertions : List ℕ) → (states : ℕ) → Network → List FlowPair → Point
  at_text : Option FilesByName → (assertions : List ℕ) → Network → Point
  at_file : (text : List ℕ) → Network → Point

abbrev pub chain : Point → Chain
chain (at_locations holds before after locations assertions states) = record {
  Value = Network;
  Made = Answer;
  Same = Equals;
  Alike = SameAssertReports;
  Step = Gives (BytesOf holds locations input.Locations) ReadsNetwork;
  Next = ReportsOver holds before after assertions states;
}
chain (at_pairs holds before after assertions states network) = record {
  Value = List FlowPair;
  Made = Answer;
  Same = SamePairs;
  Alike = SameAssertReports;
  Step = GivesPairs network (BytesOf holds before input.Before) (BytesOf holds after input.After);
  Next = λ pairs. Gives (BytesOf holds assertions input.Assertions) (ReadsClaims network) >>= ReportsClaims states network pairs;
}
chain (at_claims holds assertions states network pairs) = record {
  Value = Asserted;
  Made = Answer;
  Same = SameAsserted;
  Alike = SameAssertReports;
  Step = Gives (BytesOf holds assertions input.Assertions) (ReadsClaims network);
  Next = ReportsClaims states network pairs;
}
chain (at_text holds assertions network) = record {
  Value = List ℕ;
  Made = Asserted;
  Same = Equals;
  Alike = SameAsserted;
  Step = BytesOf holds assertions input.Assertions;
  Next = ReadsClaims network;
}
chain (at_file text network) = record {
  Value = AssertFile;
  Made = Asserted;
  Same = Equals;
  Alike = SameAsserted;
  Step = ReadsAssertions text;
  Next = Asserts network;
}

-- what steps give one after the other, at each of these points
abbrev pub StepsChain : (told steady : Bool) → Type 0
StepsChain told steady = (point : Point) → Chained told steady (chain point)
