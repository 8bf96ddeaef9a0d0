-- The checks of a specification by way of shapes: what names stand for is a shape, and only a check's body is numbered.
use Rattle.std.specs.Prelude.{ℕ, List, [], ◌∷◌, ◌++◌, map, None, Result, Ok}
use Rattle.rela_json.specs.Results.{◌>>=◌, try_fold}
use Rattle.rela_lex.specs.declared.error.SpecError.{SpecError}
use Rattle.rela_locations.specs.Network.{Network}
use Rattle.rela_spec.specs.declared.tree.Item.{Item}
use Rattle.rela_spec.specs.declared.tree.Item.TheVariants.{Path, Spec, Check}
use Rattle.rela_spec.specs.declared.tree.SpecFile.{SpecFile}
use Rattle.rela_expand.specs.Expand.{Expanded, Sofar, with_name, unused, in_size, not_full}
use Rattle.rela_expand.specs.Numbered.{numbered_body, expansions_of}
use Rattle.rela_expand.specs.Numbering.{nothing_numbered}
use Rattle.rela_expand.specs.Places.{Place, locations_at}
use Rattle.rela_expand.specs.Shapes.{Shape, BodyShape, Shapes, shape_of, body_shape_of}

-- what has been read of the items so far
pub record Seen : Type 0 where
  pub names : Shapes
  pub taken : List (List ℕ)
  pub checks : List Expanded

abbrev pub at_start : Seen
at_start = record {
  names = record { paths = λ _. None; specs = λ _. None };
  taken = [];
  checks = [];
}

abbrev pub seen_path : List ℕ → Shape → Seen → Seen
seen_path name shape seen = record {
  names = record {
    paths = with_name name shape seen.names.paths;
    specs = seen.names.specs;
  };
  taken = name ∷ seen.taken;
  checks = seen.checks;
}

abbrev pub seen_spec : List ℕ → BodyShape → Seen → Seen
seen_spec name shape seen = record {
  names = record {
    paths = seen.names.paths;
    specs = with_name name shape seen.names.specs;
  };
  taken = name ∷ seen.taken;
  checks = seen.checks;
}

-- one item more
unfoldable pub with_shaped : Place → Seen → Item → Result Seen SpecError
with_shaped place seen (Path name at body) = do
  new ← unused seen.taken name at
  shape ← shape_of place seen.names.paths body
  Ok (seen_path new shape seen)
with_shaped place seen (Spec name at body) = do
  new ← unused seen.taken name at
  shape ← body_shape_of place seen.names body
  Ok (seen_spec new shape seen)
with_shaped place seen (Check at_most name at when body) = do
  new ← unused (map (λ check. check.name) seen.checks) name at
  within ← not_full seen.checks at
  shape ← body_shape_of place seen.names body
  step ← in_size (locations_at place) at (numbered_body place shape nothing_numbered)
  Ok (record seen {
    checks = seen.checks ++ record {
      name = new;
      at_most = at_most;
      when = when;
      classes = step.after.classes;
      body = step.value;
    } ∷ [];
  })

-- the same, with what names expand to
abbrev pub sofar_of : Place → Seen → Sofar
sofar_of place seen = record {
  names = expansions_of place seen.names;
  taken = seen.taken;
  checks = seen.checks;
}

-- the checks of a specification over a network, or the first refusal
unfoldable pub shaped : Network → SpecFile → Result (List Expanded) SpecError
shaped network file = do
  seen ← try_fold (with_shaped (record { network = network; level = file.level }))
      at_start file.items
  Ok seen.checks
