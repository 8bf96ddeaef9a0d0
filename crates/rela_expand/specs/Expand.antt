-- The checks of a specification, or the refusal that comes first: items in their order, and in an item its name before
-- its body, and the size of a check last.
use Rattle.std.specs.Prelude.{ℕ, ◌+◌, ◌||◌, Bool, List, [], ◌∷◌, ◌++◌, length, map, nat_lt, sum, if◌then◌else◌, Option, Some, Result, Ok, Err}
use Rattle.std.specs.Str.{bytes_eq}
use Rattle.rela_flows.specs.declared.predicate.Predicate.{Predicate}
use Rattle.rela_json.specs.Results.{◌>>=◌, try_fold}
use Rattle.rela_lex.specs.declared.error.SpecError.{SpecError}
use Rattle.rela_lex.specs.declared.error.SpecError.TheVariants.{RepeatedName, TooDeep, TooLarge}
use Rattle.rela_locations.specs.Names.{has_name}
use Rattle.rela_locations.specs.Network.{Network}
use Rattle.rela_rir.specs.Size.{nodes_of_rel, depth_of_rel}
use Rattle.rela_rir.specs.declared.set.SymbolSet.{SymbolSet}
use Rattle.rela_spec.specs.declared.tree.Item.{Item}
use Rattle.rela_spec.specs.declared.tree.Item.TheVariants.{Path, Spec, Check}
use Rattle.rela_spec.specs.declared.tree.SpecFile.{SpecFile}
use Rattle.rela_translate.specs.Checked.{Checked}
use Rattle.rela_expand.specs.Expansions.{Names, no_names, path_expansion, spec_expansion}
use Rattle.rela_expand.specs.Numbering.{Expansion, Listing, Step, nothing_numbered}
use Rattle.rela_expand.specs.Places.{Place, locations_at}
use Rattle.rela_translate.specs.Terms.{before_of, after_of}
use Rattle.rela_translate.specs.declared.body.Core.{Core}
use Rattle.rela_translate.specs.declared.body.Expr.{Expr}

-- a check as it comes out: its name, whether only added paths offend, its flows, its class table and its body
pub record Expanded : Type 0 where
  pub name : List ℕ
  pub at_most : Bool
  pub when : Predicate
  pub classes : List Listing
  pub body : Core

-- what has been read of the items so far: what names stand for, the names that are taken, and the checks
pub record Sofar : Type 0 where
  pub names : Names
  pub taken : List (List ℕ)
  pub checks : List Expanded

abbrev pub at_first : Sofar
at_first = record { names = no_names; taken = []; checks = [] }

-- the function with this value for the name
abbrev pub with_name : {X : Type 0} → List ℕ → X → (List ℕ → Option X) → List ℕ → Option X
with_name name x others other = if bytes_eq name other then Some x else others other

abbrev pub with_path : List ℕ → Expansion Expr → Sofar → Sofar
with_path name body sofar = record sofar {
  names = record sofar.names {
    paths = with_name name body
        sofar.names.paths;
  };
  taken = name ∷ sofar.taken;
}

abbrev pub with_spec : List ℕ → Expansion Core → Sofar → Sofar
with_spec name body sofar = record sofar {
  names = record sofar.names {
    specs = with_name name body
        sofar.names.specs;
  };
  taken = name ∷ sofar.taken;
}

-- none of the names is this one
abbrev pub unused : List (List ℕ) → List ℕ → ℕ → Result (List ℕ) SpecError
unused names name at = if has_name names name then Err (RepeatedName at) else Ok name

-- how many symbols the classes list together
abbrev pub symbols_in : List Listing → ℕ
symbols_in classes = sum (map (λ c. length c.members) classes)

abbrev pub is_deep : ℕ → Core → Bool
is_deep locations body = nat_lt 1000 (depth_of_rel (before_of locations body))
    || nat_lt 1000 (depth_of_rel (after_of locations body))

abbrev pub is_large : ℕ → Step Core → Bool
is_large locations step =
    nat_lt 20000 (nodes_of_rel (before_of locations step.value)
    + nodes_of_rel (after_of locations step.value))
    || nat_lt 4000000 (symbols_in step.after.classes)

-- the check's body and classes, where its terms are neither too deep nor too large
abbrev pub in_size : ℕ → ℕ → Step Core → Result (Step Core) SpecError
in_size locations at step =
    if is_deep locations step.value then Err (TooDeep at)
    else if is_large locations step then Err (TooLarge at)
    else Ok step

-- there may be 200 checks
abbrev pub not_full : List Expanded → ℕ → Result ℕ SpecError
not_full checks at = if nat_lt (length checks) 200 then Ok at else Err (TooLarge at)

-- one item more
unfoldable pub with_item : Place → Sofar → Item → Result Sofar SpecError
with_item place sofar (Path name at body) = do
  new ← unused sofar.taken name at
  step ← path_expansion place sofar.names body nothing_numbered
  Ok (with_path new (path_expansion place sofar.names body) sofar)
with_item place sofar (Spec name at body) = do
  new ← unused sofar.taken name at
  step ← spec_expansion place sofar.names body nothing_numbered
  Ok (with_spec new (spec_expansion place sofar.names body) sofar)
with_item place sofar (Check at_most name at when body) = do
  new ← unused (map (λ check. check.name) sofar.checks) name at
  within ← not_full sofar.checks at
  whole ← spec_expansion place sofar.names body nothing_numbered
  step ← in_size (locations_at place) at whole
  Ok (record sofar {
    checks = sofar.checks ++ record {
      name = new;
      at_most = at_most;
      when = when;
      classes = step.after.classes;
      body = step.value;
    } ∷ [];
  })

-- the checks of a specification over a network, or the first refusal
unfoldable pub expanded : Network → SpecFile → Result (List Expanded) SpecError
expanded network file = do
  sofar ← try_fold (with_item (record { network = network; level = file.level }))
      at_first file.items
  Ok sofar.checks

abbrev pub listing_of : SymbolSet → Listing
listing_of set = record { negated = set.negated; members = set.members }

-- a check as data, but for its level
abbrev pub outcome_of : Checked → Expanded
outcome_of check = record {
  name = check.name;
  at_most = check.at_most;
  when = check.when;
  classes = map listing_of check.classes;
  body = check.body;
}
