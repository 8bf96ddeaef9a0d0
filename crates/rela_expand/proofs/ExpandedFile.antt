-- The checks of a file are those that the walk over its items makes.
use Rattle.std.proofs.Common.{◌≡◌, List, Result, Ok, Err, ap, sym, ◌∙◌}
use Rattle.std.specs.Prelude.{IfOk}
use Rattle.rela_json.specs.Results.{◌>>=◌, try_fold}
use Rattle.rela_lex.specs.declared.error.SpecError.{SpecError}
use Rattle.rela_locations.specs.Network.{Network}
use Rattle.rela_spec.specs.declared.tree.Item.{Item}
use Rattle.rela_spec.specs.declared.tree.SpecFile.{SpecFile}
use Rattle.rela_expand.specs.Expand.{Expanded, expanded}
use Rattle.rela_expand.specs.Walk.{Seen, at_start, shaped, with_shaped}
use Rattle.rela_expand.proofs.ShapedChecks.{checks_by_shapes}

abbrev checks_in : Result Seen SpecError → Result (List Expanded) SpecError
checks_in r = r >>= (λ seen. Ok seen.checks)

module _ (network : Network) (file : SpecFile) (items : List Item) (same : items ≡ file.items) where
  shaped_by : (r : Result Seen SpecError) → try_fold (with_shaped (record { network = network; level = file.level })) at_start items ≡ r → shaped network file ≡ checks_in r
  unfolding shaped
  shaped_by r is = ap checks_in (ap (try_fold (with_shaped (record { network = network; level = file.level })) at_start) (sym same) ∙ is)

  pub expanded_to : (seen : Seen) (checks : List Expanded) → try_fold (with_shaped (record { network = network; level = file.level })) at_start items ≡ Ok seen → seen.checks ≡ checks
      → expanded network file ≡ Ok checks
  expanded_to seen checks is are =
      checks_by_shapes network file ∙ shaped_by (Ok seen) is ∙ ap (λ (cs : List Expanded). let r : Result (List Expanded) SpecError = Ok cs in r) are

  pub not_expanded : (e : SpecError) → try_fold (with_shaped (record { network = network; level = file.level })) at_start items ≡ Err e → expanded network file ≡ Err e
  not_expanded e is = checks_by_shapes network file ∙ shaped_by (Err e) is

pub if_ok : {T E : Type 0} (r : Result T E) (P Q : T → Type 0) → ((x : T) → P x → Q x) → IfOk r P → IfOk r Q
if_ok (Ok x) P Q f h = f x h
if_ok (Err e) P Q f h = tt
