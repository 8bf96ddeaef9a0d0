-- Flows that stand in a file as members of plain pieces.
use Rattle.std.specs.Prelude.{◌≡◌, ℕ, List, [], ◌∷◌, Ok, codes, map}
use Rattle.json.specs.Token.{Token, begin_array, begin_object, key}
use Rattle.serde_json.specs.Data.{Data}
use Rattle.rela_tokens.specs.Holds.{Holds}
use Rattle.rela_tokens.specs.Objects.{object_of}
use Rattle.rela_tokens.specs.Pieces.{list, member_of, whole}
use Rattle.rela_tokens.specs.declared.piece.Member.{Member}
use Rattle.rela_locations.specs.Network.{Network}
use Rattle.rela_snapshot.specs.declared.snapshot.Flow.{Flow}
use Rattle.rela_snapshot.specs.declared.version.Version.TheVariants.{One}
use Rattle.rela_snapshot.specs.FlowEntry.{ListedFlow}
use Rattle.rela_snapshot.specs.Flows.{AreFlows, AreFlowsOf, IsFlow, IsFlowOf}
use Rattle.rela_snapshot.specs.Steps.{IsAnswer}

-- the object of these members
abbrev pub entry_of : List Member → Data
entry_of members = object_of (map member_of members)

-- `old` begins a file of version 1 up to the bracket that opens its flows, and `new` follows that
pub record Opens (old new : List Token) : Type 0 where
  pub first : List Token
  pub second : List Token
  pub begins : old ≡ begin_object ∷ key (codes "version") ∷ first
  pub version : Holds 0 first (whole 1) second
  pub flows : second ≡ key (codes "flows") ∷ begin_array ∷ new

-- `old` begins with the entry of the flow after those of these names, and `new` follows that
pub record IsPlainFlow (network : Network) (names : List (List ℕ)) (old : List Token) (flow : Flow)
    (new : List Token) : Type 0 where
  pub entry : Data
  pub listed : ListedFlow
  pub held : Holds 3 old entry new
  pub answer : IsAnswer (IsFlow network One names entry) (Ok listed)
  pub same : IsFlowOf listed flow

-- `old` begins with the array of the entries of these flows, and `new` follows that
pub record ArePlainFlows (network : Network) (old : List Token) (flows : List Flow)
    (new : List Token) : Type 0 where
  pub entries : List Data
  pub listed : List ListedFlow
  pub held : Holds 4 old (list entries) new
  pub answer : IsAnswer (AreFlows network One [] entries) (Ok listed)
  pub same : AreFlowsOf listed flows
