-- The claims of an assertion file, or the refusal that comes first: assertions in their order, and
-- in one its name before its members, and its size last.
use Rattle.std.specs.Prelude.{◌≡◌, ℕ, ◌<◌, List, [], ◌∷◌, ◌++◌, length, map, nat_lt, not, if◌then◌else◌, Result, Ok, Err}
use Rattle.std.specs.List.{All}
use Rattle.rela_json.specs.Results.{◌>>=◌, try_fold, try_map}
use Rattle.rela_lex.specs.declared.error.SpecError.{SpecError}
use Rattle.rela_lex.specs.declared.error.SpecError.TheVariants.{RepeatedName, TooLarge}
use Rattle.rela_locations.specs.Names.{has_name}
use Rattle.rela_locations.specs.Network.{Network, alphabet_of}
use Rattle.rela_names.specs.Alphabet.{path_symbols}
use Rattle.rela_rirfile.specs.declared.written.Assert.{Assert}
use Rattle.rela_rirfile.specs.declared.written.AssertFile.{AssertFile}
use Rattle.rela_claims.specs.Classes.{Class, Listing, Place, each_once, listing, listing_of, number_in, resolved_class}
use Rattle.rela_claims.specs.Named.{symbols_in_tree}
use Rattle.rela_claims.specs.Terms.{mentions_in, nodes_in, tree_of}
use Rattle.rela_claims.specs.declared.claim.Claim.{Claim}
use Rattle.rela_claims.specs.declared.claim.Tree.{Tree}

-- a claim as data: its name, its tree and its class table
pub record Claimed : Type 0 where
  pub name : List ℕ
  pub tree : Tree
  pub classes : List Listing

abbrev pub claimed_of : Claim → Claimed
claimed_of claim = record {
  name = claim.name;
  tree = claim.tree;
  classes = map listing_of claim.classes.items;
}

-- the claim of an assertion over a table of classes
abbrev pub claim_over : Place → Assert → List Class → Claimed
claim_over place assertion table = record {
  name = assertion.name;
  tree = tree_of place.level (number_in table) assertion.tree;
  classes = map (listing place) table;
}

-- no claim has the name yet, and there may be 200
abbrev pub free_name : List (List ℕ) → List ℕ → ℕ → Result (List ℕ) SpecError
free_name names name at =
    if has_name names name then Err (RepeatedName at)
    else if not (nat_lt (length names) 200) then Err (TooLarge at)
    else Ok name

-- the claim, where its terms have at most 20,000 nodes together
abbrev pub in_size : ℕ → Claimed → Result Claimed SpecError
in_size at claim = if nat_lt 20000 (nodes_in claim.tree) then Err (TooLarge at) else Ok claim

-- the claim of an assertion: its classes are those that it mentions, each once
unfoldable pub claim_of : Place → Assert → Result Claimed SpecError
claim_of place assertion = do
  classes ← try_map (resolved_class place) (mentions_in place.level assertion.tree)
  in_size assertion.at (claim_over place assertion (each_once classes))

-- the names of claims
abbrev pub names_of : List Claimed → List (List ℕ)
names_of claims = map (λ claim. claim.name) claims

-- one assertion more
unfoldable pub with_claim : Place → List Claimed → Assert → Result (List Claimed) SpecError
with_claim place claims assertion = do
  name ← free_name (names_of claims) assertion.name assertion.at
  claim ← claim_of place assertion
  Ok (claims ++ claim ∷ [])

-- the claims of a file over a network, or the first refusal
unfoldable pub claims_of : Network → AssertFile → Result (List Claimed) SpecError
claims_of network file =
    try_fold (with_claim (record { network = network; level = file.level })) [] file.asserts

-- the classes of the claim list path symbols of the level alone
abbrev pub ListsPathSymbols : Place → Claim → Type 0
ListsPathSymbols place claim =
    All (λ set. All (λ s. s < path_symbols (alphabet_of place.level place.network)) set.members)
    claim.classes.items

-- the terms of the claim name symbols by classes alone
abbrev pub NamesByClasses : Claim → Type 0
NamesByClasses claim = symbols_in_tree claim.tree ≡ []
