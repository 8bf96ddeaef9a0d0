-- What an assertion file gives: its claims over a network, or its first refusal.
use Rattle.std.specs.Prelude.{◌≡◌, ℕ, List, map, Result, Ok, Err}
use Rattle.rela_claims.specs.Claims.{claimed_of, claims_of}
use Rattle.rela_claims.specs.declared.claim.Claim.{Claim}
use Rattle.rela_locations.specs.Network.{Network}
use Rattle.rela_names.specs.declared.level.Level.{Level}
use Rattle.rela_rirfile.specs.declared.written.AssertFile.{AssertFile}
use Rattle.rela_snapshot.specs.Steps.{◌>>=◌}
use Rattle.rela_inputs.specs.Specifications.{IsFaultOf, ReadsAssertions}
use Rattle.rela_assert.specs.declared.claiming.Asserted as declared
use Rattle.rela_inputs.specs.declared.refusal.Input.TheVariants.{Assertions}
use Rattle.rela_inputs.specs.declared.refusal.Refusal.{Refusal}

-- the level of the locations, and the claims in their order
pub record Asserted : Type 0 where
  pub level : Level
  pub claims : List Claim

-- the claims are those of the file over the network, at the file's level
pub record IsAsserted (network : Network) (file : AssertFile) (asserted : Asserted) : Type 0 where
  pub claims : claims_of network file ≡ Ok (map claimed_of asserted.claims)
  pub level : asserted.level ≡ file.level

-- what a file asserts over the network, or the first refusal as its names are looked up
abbrev pub Asserts : Network → AssertFile → Result Asserted Refusal → Type 0
Asserts network file (Ok asserted) = IsAsserted network file asserted
Asserts network file (Err refusal) =
    IsFaultOf Assertions (λ e. claims_of network file ≡ Err e) refusal

-- what a text asserts, or its first refusal: of its tokens, else of their tree, else of its names
unfoldable pub ReadsClaims : Network → List ℕ → Result Asserted Refusal → Type 0
ReadsClaims network bytes = do
  file ← ReadsAssertions bytes
  Asserts network file

-- the same level, and the same claims there
pub record SameAsserted (a b : Asserted) : Type 0 where
  pub level : a.level ≡ b.level
  pub claims : map claimed_of a.claims ≡ map claimed_of b.claims

-- what was read, as data
abbrev pub asserted_by : declared.Asserted → Asserted
asserted_by asserted = record { level = asserted.level; claims = asserted.claims.items }
