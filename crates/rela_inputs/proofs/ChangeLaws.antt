-- What a change gives, by what its steps give.
use Rattle.std.proofs.Common.{◌≡◌, ℕ, Bool, List, Result, Ok, Err, refl, sym, subst}
use Rattle.std.specs.List.{All}
use Rattle.std.proofs.lemmas.List.Elements.{All-weaker}
use Rattle.rela_locations.specs.Network.{Network}
use Rattle.rela_names.specs.declared.level.Level.{Level}
use Rattle.rela_snapshot.specs.PairsLocated.{ArePairsLocated}
use Rattle.rela_snapshot.specs.Steps.{Is, After, ◌>>=◌}
use Rattle.rela_snapshot.specs.declared.pairing.FlowPair.{FlowPair}
use Rattle.rela_translate.specs.Checked.{Checked as Check}
use Rattle.rela_inputs.specs.Given.{Equals, Agrees, IsGiven}
use Rattle.rela_inputs.specs.Inputs.{Gives, ReadsNetwork}
use Rattle.rela_inputs.specs.Loaded.{Loaded, Loads, SameLoaded}
use Rattle.rela_inputs.specs.Paired.{GivesPairs}
use Rattle.rela_same_flows.specs.SameFlows.{SamePairs}
use Rattle.rela_inputs.specs.Specified.{Specified, ReadsChecks, SameSpecified}
use Rattle.rela_inputs.specs.declared.reading.Halt.{Halt}
use Rattle.rela_inputs.specs.declared.refusal.Refusal.{Refusal}
use Rattle.rela_inputs.proofs.GivenLaws.{stopped, continued, continued_equal}

module _ (told steady : Bool) (before after locations spec : Result (List ℕ) Refusal → Type 0) where
  abbrev made : Network → List FlowPair → Specified → Loaded
  made network pairs specified = record { network = network; pairs = pairs; specified = specified }

  abbrev Last : Network → List FlowPair → Specified → Result Loaded Refusal → Type 0
  Last network pairs specified = Is (Ok (made network pairs specified))

  abbrev Asks : Network → Result Specified Refusal → Type 0
  Asks network = Gives spec (ReadsChecks network)

  abbrev Then : Network → List FlowPair → Result Loaded Refusal → Type 0
  Then network pairs = Asks network >>= Last network pairs

  abbrev Pairs : Network → Result (List FlowPair) Refusal → Type 0
  Pairs network = GivesPairs network before after

  abbrev Next : Network → Result Loaded Refusal → Type 0
  Next network = Pairs network >>= Then network

  abbrev Places : Result Network Refusal → Type 0
  Places = Gives locations ReadsNetwork

  abbrev Loaded' : Result Loaded Refusal → Type 0
  Loaded' = Loads before after locations spec

  pub locations_stopped : (halt : Halt) → IsGiven told steady Equals Places (Err halt) → IsGiven told steady SameLoaded Loaded' (Err halt)
  unfolding Loads
  locations_stopped halt given = stopped told steady Equals SameLoaded Places Next halt given

  over : (network : Network) (r : Result Loaded Halt) → IsGiven told steady Equals Places (Ok network) → IsGiven told steady SameLoaded (Next network) r → IsGiven told steady SameLoaded Loaded' r
  unfolding Loads
  over network r given next = continued_equal told steady SameLoaded Places Next network r given next

  pub pairs_stopped : (network : Network) (halt : Halt) → IsGiven told steady Equals Places (Ok network) → IsGiven told steady SamePairs (Pairs network) (Err halt)
      → IsGiven told steady SameLoaded Loaded' (Err halt)
  pairs_stopped network halt given pairs = over network (Err halt) given (stopped told steady SamePairs SameLoaded (Pairs network) (Then network) halt pairs)

  spec_alone : (network : Network) (pairs : List FlowPair) (halt : Halt) → IsGiven told steady SameSpecified (Asks network) (Err halt) → IsGiven told steady SameLoaded (Then network pairs) (Err halt)
  spec_alone network pairs halt asks = stopped told steady SameSpecified SameLoaded (Asks network) (Last network pairs) halt asks

  pub spec_stopped : (network : Network) (pairs : List FlowPair) (halt : Halt) → IsGiven told steady Equals Places (Ok network) → IsGiven told steady SamePairs (Pairs network) (Ok pairs)
      → IsGiven told steady SameSpecified (Asks network) (Err halt) → IsGiven told steady SameLoaded Loaded' (Err halt)
  spec_stopped network pairs halt given paired asks = over network (Err halt) given
      (continued told steady SamePairs SameLoaded (Pairs network) (Then network) pairs (Err halt) paired (spec_alone network pairs halt asks).told_by
      (λ t others same x steps. (spec_alone network others halt asks).alone t x steps))

  last_alone : (network : Network) (pairs others : List FlowPair) (specified : Specified) (x : Result Loaded Refusal) (y : Result Specified Refusal) → SamePairs pairs others
      → Agrees steady SameSpecified (Ok specified) y → After (Last network others) y x → Agrees steady SameLoaded (Ok (made network pairs specified)) x
  last_alone network pairs others specified x (Ok asked) same agrees is =
      subst (λ (r : Result Loaded Refusal). Agrees steady SameLoaded (Ok (made network pairs specified)) r) (sym is)
      (record { network = refl; pairs = same; specified = agrees })
  last_alone network pairs others specified x (Err e) same agrees is = absurd agrees

  -- all of it is loaded
  pub loaded : (network : Network) (pairs : List FlowPair) (specified : Specified) → IsGiven told steady Equals Places (Ok network)
      → IsGiven told steady SamePairs (Pairs network) (Ok pairs) → IsGiven told steady SameSpecified (Asks network) (Ok specified)
      → IsGiven told steady SameLoaded Loaded' (Ok (made network pairs specified))
  loaded network pairs specified given paired asks = over network (Ok (made network pairs specified)) given
      (continued told steady SamePairs SameLoaded (Pairs network) (Then network) pairs (Ok (made network pairs specified)) paired (Ok specified, asks.told_by, refl)
      (λ t others same x steps. last_alone network pairs others specified x steps.0 same (asks.alone t steps.0 steps.1) steps.2))

-- the nodes of the flows stand at locations of each check's level, where the checks have one level
pub located_checks : (names : List (List ℕ)) (pairs : List FlowPair) (level : Level) (checks : List Check)
    → ArePairsLocated names level pairs → All (λ check. check.level ≡ level) checks → All (λ check. ArePairsLocated names check.level pairs) checks
located_checks names pairs level checks located levels =
    All-weaker (λ (check : Check). check.level ≡ level) (λ check. ArePairsLocated names check.level pairs)
    (λ check is. subst (λ (l : Level). ArePairsLocated names l pairs) (sym is) located) checks levels
