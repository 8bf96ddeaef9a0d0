-- The input of a number of layers: four texts that stand for its values.
use Rattle.std.specs.Prelude.{◌≡◌, ℕ, ◌≤◌, List, length, Ok}
use Rattle.rela_flows.specs.declared.predicate.FlowClass.{FlowClass}
use Rattle.rela_locations.specs.Load.{Load as LoadLocations}
use Rattle.rela_snapshot.specs.Flows.{AreFlowsOf}
use Rattle.rela_snapshot.specs.Load.{Load as LoadSnapshot}
use Rattle.rela_snapshot.specs.Pair.{IsFirstDifference}
use Rattle.rela_snapshot.specs.declared.snapshot.Flow.{Flow}
use Rattle.rela_demo.specs.Flows.{flows_after, flows_before}
use Rattle.rela_demo.specs.Locations.{network}
use Rattle.rela_demo.specs.Specification.{IsTextOf, specification}

-- four texts
pub record Texts : Type 0 where
  pub before : List ℕ
  pub after : List ℕ
  pub locations : List ℕ
  pub spec : List ℕ

-- no text is longer than a program takes
pub record AreShort (texts : Texts) : Type 0 where
  pub before : length texts.before ≤ 33554432
  pub after : length texts.after ≤ 33554432
  pub locations : length texts.locations ≤ 33554432
  pub spec : length texts.spec ≤ 33554432

abbrev pub LoadsNetwork : ℕ → Texts → Type 0
LoadsNetwork n texts = LoadLocations texts.locations ≡ Ok (network n)

abbrev pub LoadsBefore : ℕ → Texts → Type 0
LoadsBefore n texts = LoadSnapshot (network n) texts.before (Ok (flows_before n))

abbrev pub LoadsAfter : ℕ → Texts → Type 0
LoadsAfter n texts = LoadSnapshot (network n) texts.after (Ok (flows_after n))

abbrev pub HasSpecification : ℕ → Texts → Type 0
HasSpecification n texts = IsTextOf (specification n) texts.spec

-- no flow of the one snapshot differs in its class from that of its name in the other
abbrev pub DoNotDiffer : ℕ → Type 0
DoNotDiffer n = (before after : List Flow) → AreFlowsOf (flows_before n) before
    → AreFlowsOf (flows_after n) after → (row : ℕ) (first second : FlowClass)
    → ¬ IsFirstDifference before after row first second
