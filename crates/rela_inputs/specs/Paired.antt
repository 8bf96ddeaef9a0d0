-- What the snapshots before and after a change give: their flows side by side, or the first refusal.
use Rattle.std.specs.Prelude.{◌≡◌, ℕ, List, Result, Ok, Err}
use Rattle.rela_locations.specs.Network.{Network}
use Rattle.rela_snapshot.specs.Pair.{Pairing}
use Rattle.rela_snapshot.specs.Steps.{◌>>=◌}
use Rattle.rela_snapshot.specs.declared.pairing.FlowPair.{FlowPair}
use Rattle.rela_snapshot.specs.declared.pairing.PairError.{PairError}
use Rattle.rela_snapshot.specs.declared.pairing.PairError.TheVariants as pair
use Rattle.rela_snapshot.specs.declared.snapshot.Flow.{Flow}
use Rattle.rela_inputs.specs.Inputs.{Gives, ReadsFlows}
use Rattle.rela_inputs.specs.declared.refusal.Input.TheVariants.{Before, After, Pair}
use Rattle.rela_inputs.specs.declared.refusal.Reason.TheVariants.{FlowDiffers}
use Rattle.rela_inputs.specs.declared.refusal.Refusal.{Refusal}

-- what pairing answers, without the place of a flow that differs
abbrev pub IsPairedAs : Result (List FlowPair) PairError → Result (List FlowPair) Refusal → Type 0
IsPairedAs (Ok pairs) r = r ≡ Ok pairs
IsPairedAs (Err (pair.FlowDiffers row before after)) r =
    r ≡ Err (record { input = Pair; reason = FlowDiffers before after })
IsPairedAs (Err pair.Memory) r = ⊥

unfoldable pub ArePaired : List Flow → List Flow → Result (List FlowPair) Refusal → Type 0
ArePaired before after r = (x : Result (List FlowPair) PairError)
    × Pairing before after x × IsPairedAs x r

-- over a network, from steps that give the bytes of each snapshot
unfoldable pub GivesPairs : Network → (before after : Result (List ℕ) Refusal → Type 0) →
    Result (List FlowPair) Refusal → Type 0
GivesPairs network before after = do
  earlier ← Gives before (ReadsFlows Before network)
  later ← Gives after (ReadsFlows After network)
  ArePaired earlier later
