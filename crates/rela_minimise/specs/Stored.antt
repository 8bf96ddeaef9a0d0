-- What the fields of a refinement stand for.
use Rattle.std.specs.Prelude.{ℕ, List, map}
use Rattle.std.specs.declared.vec.Vec.{Vec}
use Rattle.rela_minimise.specs.Refining.{Stage}
use Rattle.rela_minimise.specs.declared.refinement.Refinement.{Refinement}

-- the items of each
abbrev pub lists_of : {A : Type 0} → List (Vec ℕ A) → List (List ℕ)
lists_of lists = map (λ list. list.items) lists

abbrev pub stage_of : Refinement → Stage
stage_of r = record {
  classes = r.classes.items;
  members = lists_of r.members.items;
  signatures = lists_of r.signatures.items;
  stale = r.stale.items;
}
