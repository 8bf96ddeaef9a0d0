-- Where in `fib` one step comes after another.
use Rattle.std.proofs.Common.{ℕ, List, Option}
use Rattle.rela_io.specs.Held.{FilesByName}
use Rattle.rela_locations.specs.Network.{Network}
use Rattle.rela_snapshot.specs.Steps.{◌>>=◌}
use Rattle.rela_tables.specs.Forwarding.{Forwarding}
use Rattle.rela_inputs.specs.Answer.{Answer}
use Rattle.rela_inputs.specs.Chained.{Chain}
use Rattle.rela_inputs.specs.Given.{Equals}
use Rattle.rela_inputs.specs.Inputs.{BytesOf, Gives, ReadsNetwork, ReadsTables}
use Rattle.rela_inputs.specs.declared.refusal.Input.TheVariants.{Locations, Tables, Other}
use Rattle.rela_draw.specs.Draws.{DrawsOver, IsDrawing, SameDrawings}

pub data Point : Type 0 where
  at_locations : Option FilesByName → (tables other locations : List ℕ) → Point
  at_tables : Option FilesByName → (tables other : List ℕ) → Network → Point
  at_other : Option FilesByName → (other : List ℕ) → Network → Forwarding → Point

abbrev pub chain : Point → Chain
chain (at_locations holds tables other locations) = record {
  Value = Network;
  Made = Answer;
  Same = Equals;
  Alike = SameDrawings;
  Step = Gives (BytesOf holds locations Locations) ReadsNetwork;
  Next = DrawsOver holds tables other;
}
chain (at_tables holds tables other network) = record {
  Value = Forwarding;
  Made = Answer;
  Same = Equals;
  Alike = SameDrawings;
  Step = Gives (BytesOf holds tables Tables) (ReadsTables Tables network);
  Next = λ first. Gives (BytesOf holds other Other) (ReadsTables Other network) >>= IsDrawing network first;
}
chain (at_other holds other network first) = record {
  Value = Forwarding;
  Made = Answer;
  Same = Equals;
  Alike = SameDrawings;
  Step = Gives (BytesOf holds other Other) (ReadsTables Other network);
  Next = IsDrawing network first;
}
