-- Where the names of a specification are looked up, and which path symbols a class lists.
use Rattle.std.specs.Prelude.{ℕ, ◌+◌, List, [], ◌∷◌, length, filter, nat_eq, not, if◌then◌else◌, Result, Ok, Err}
use Rattle.std.specs.List.{list_any, range_with_len}
use Rattle.rela_names.specs.declared.level.Level.{Level}
use Rattle.rela_json.specs.Results.{◌>>=◌, try_map}
use Rattle.rela_lex.specs.declared.error.SpecError.{SpecError}
use Rattle.rela_lex.specs.declared.error.SpecError.TheVariants.{FinerLevel, UnknownLocation}
use Rattle.rela_locations.specs.Names.{has_name}
use Rattle.rela_locations.specs.Network.{Network, alphabet_of, by_level, is_finer, members_of, names_by}
use Rattle.rela_locations.specs.declared.members.By.{By}
use Rattle.rela_spec.specs.declared.tree.Member.{Member}
use Rattle.rela_spec.specs.declared.tree.Member.TheVariants.{Here, Within, Drop, Loop}
use Rattle.rela_translate.specs.Zones.{drop_symbol, path_symbols}

-- the network, and the level of its locations that paths are made of
pub record Place : Type 0 where
  pub network : Network
  pub level : Level

-- how many locations there are
abbrev pub locations_at : Place → ℕ
locations_at place = length (alphabet_of place.level place.network)

abbrev pub path_symbols_at : Place → ℕ
path_symbols_at place = path_symbols (locations_at place)

-- the symbols within what is named: first the level is looked at, and then the name
abbrev pub located : Place → By → List ℕ → ℕ → Result (List ℕ) SpecError
located place by name at =
    if is_finer by place.level then Err (FinerLevel at)
    else if not (has_name (names_by by place.network) name) then Err (UnknownLocation at)
    else Ok (members_of place.level by name place.network)

-- the symbols that a member names
unfoldable pub symbols_of : Place → Member → Result (List ℕ) SpecError
symbols_of place (Here name at) = located place (by_level place.level) name at
symbols_of place (Within by name at) = located place by name at
symbols_of place Drop = Ok (drop_symbol (locations_at place) ∷ [])
symbols_of place Loop = Ok ((drop_symbol (locations_at place) + 1) ∷ [])

-- the path symbols that are in some of the lists, ascending
abbrev pub in_some : Place → List (List ℕ) → List ℕ
in_some place lists = filter (λ s. list_any (λ list. list_any (nat_eq s) list) lists)
    (range_with_len 0 (path_symbols_at place))

-- the path symbols that some member names, ascending; the first member that names none refuses
unfoldable pub listed : Place → List Member → Result (List ℕ) SpecError
listed place members = do
  lists ← try_map (symbols_of place) members
  Ok (in_some place lists)
