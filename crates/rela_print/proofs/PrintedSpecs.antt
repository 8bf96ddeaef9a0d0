-- How specifications of changes are written, form by form.
use Rattle.std.proofs.Common.{◌≡◌, ◌∙◌, sym, ap, ℕ, List, map, codes}
use Rattle.rela_print.specs.Joined.{joined}
use Rattle.rela_print.specs.Names.{reference_text}
use Rattle.rela_print.specs.Printed.{Printed, within}
use Rattle.rela_print.specs.SpecTexts.{unit_text, spec_layer, printed_spec}
use Rattle.rela_spec.specs.declared.tree.Modifier.{Modifier}
use Rattle.rela_spec.specs.declared.tree.PathExpr.{PathExpr}
use Rattle.rela_spec.specs.declared.tree.SpecExpr.{SpecExpr}
use Rattle.rela_spec.specs.declared.tree.SpecExpr.TheVariants as V
use Rattle.rela_spec.specs.declared.tree.SpecExpr.TheOpen as layer
use Rattle.rela_spec.specs.declared.tree.SpecExpr.TheFolds.{fold-roll-SpecExpr}
use Rattle.rela_print.proofs.JoinedTexts.{joined_map}

-- the parts of a chain, each as it stands within one
abbrev pub row : ℕ → List ℕ → List SpecExpr → List ℕ
row binding between parts = joined between (λ part. within binding (printed_spec part)) parts

chain_of : (binding : ℕ) (between : List ℕ) (parts : List SpecExpr) → (let p : Printed = record { binding = binding; text = joined between (within binding) (map printed_spec parts) } in p) ≡ record { binding = binding; text = row binding between parts }
chain_of binding between parts = ap (λ (t : List ℕ). let p : Printed = record { binding = binding; text = t } in p) (joined_map between (within binding) printed_spec parts)

pub spec_unit : (zone : PathExpr) (m : Modifier PathExpr) → printed_spec (V.Unit zone m) ≡ record { binding = 3; text = unit_text zone m }
unfolding printed_spec
spec_unit zone m = ap printed_spec (sym (V.rolls-Unit zone m)) ∙ fold-roll-SpecExpr Printed spec_layer (layer.Unit zone m)

pub spec_reference : (name : List ℕ) (at : ℕ) → printed_spec (V.Reference name at) ≡ record { binding = 3; text = reference_text name }
unfolding printed_spec
spec_reference name at = ap printed_spec (sym (V.rolls-Reference name at)) ∙ fold-roll-SpecExpr Printed spec_layer (layer.Reference name at)

pub spec_then : (parts : List SpecExpr) → printed_spec (V.Then parts) ≡ record { binding = 2; text = row 2 (codes " then ") parts }
unfolding printed_spec
spec_then parts = ap printed_spec (sym (V.rolls-Then parts)) ∙ fold-roll-SpecExpr Printed spec_layer (layer.Then parts) ∙ chain_of 2 (codes " then ") parts

pub spec_else : (parts : List SpecExpr) → printed_spec (V.Else parts) ≡ record { binding = 1; text = row 1 (codes " else ") parts }
unfolding printed_spec
spec_else parts = ap printed_spec (sym (V.rolls-Else parts)) ∙ fold-roll-SpecExpr Printed spec_layer (layer.Else parts) ∙ chain_of 1 (codes " else ") parts

pub ruleset spec_forms = (spec_unit, spec_reference, spec_then, spec_else)
