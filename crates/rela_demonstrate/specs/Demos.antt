-- What the layered input gives: the report on its change.
use Rattle.std.specs.Prelude.{◌≡◌, ℕ, ◌≤◌, List, Result, Ok, Err}
use Rattle.rela_demo.specs.Flows.{flows_after, flows_before}
use Rattle.rela_demo.specs.Input.{HasSpecification, LoadsAfter, LoadsBefore, LoadsNetwork, Texts}
use Rattle.rela_demo.specs.Locations as layers
use Rattle.rela_demo.specs.Specification.{specification}
use Rattle.rela_snapshot.specs.Flows.{AreFlowsOf}
use Rattle.rela_snapshot.specs.Pair.{pairs_of}
use Rattle.rela_snapshot.specs.Steps.{◌>>=◌}
use Rattle.rela_snapshot.specs.declared.pairing.FlowPair.{FlowPair}
use Rattle.rela_snapshot.specs.declared.snapshot.Flow.{Flow}
use Rattle.rela_words.specs.Words.{default_states}
use Rattle.rela_inputs.specs.Answer.{Answer}
use Rattle.rela_change_report.specs.Reports.{Reports}
use Rattle.rela_inputs.specs.Loaded.{Loaded}
use Rattle.rela_inputs.specs.Specified.{IsSpecified}
use Rattle.rela_inputs.specs.declared.reading.Halt.{Halt}
use Rattle.rela_inputs.specs.declared.reading.Halt.TheVariants.{Memory}
use Rattle.rela_inputs.specs.declared.refusal.Refusal.{Refusal}

-- the texts of the input of n layers
pub record IsInput (n : ℕ) (texts : Texts) : Type 0 where
  pub from_one : 1 ≤ n
  pub at_most : n ≤ 200
  pub locations : LoadsNetwork n texts
  pub before : LoadsBefore n texts
  pub after : LoadsAfter n texts
  pub spec : HasSpecification n texts

-- what holds of the value, unless memory ran out
abbrev pub OrMemory : {A : Type 0} → (A → Type 0) → Result A Halt → Type 0
OrMemory P (Ok a) = P a
OrMemory P (Err halt) = halt ≡ Memory

-- the flows of the input of n layers before and after its change, side by side
pub record AreLayered (n : ℕ) (pairs : List FlowPair) : Type 0 where
  pub before : List Flow
  pub after : List Flow
  pub are_before : AreFlowsOf (flows_before n) before
  pub are_after : AreFlowsOf (flows_after n) after
  pub side_by_side : pairs ≡ pairs_of before after

-- its network, its flows, and the checks of its specification
pub record IsLayered (n : ℕ) (loaded : Loaded) : Type 0 where
  pub network : loaded.network ≡ layers.network n
  pub pairs : AreLayered n loaded.pairs
  pub specified : IsSpecified (layers.network n) (specification n) loaded.specified

-- what is loaded of the input: nothing of it is refused
abbrev pub LoadsLayered : ℕ → Result Loaded Refusal → Type 0
LoadsLayered n (Ok loaded) = IsLayered n loaded
LoadsLayered n (Err refusal) = ⊥

-- the report on it, under the state limit of words that give none
unfoldable pub Demos : ℕ → Result Answer Refusal → Type 0
Demos n = do
  loaded ← LoadsLayered n
  Reports default_states loaded
