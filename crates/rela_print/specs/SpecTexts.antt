-- How specifications of changes are written.
use Rattle.std.specs.Prelude.{ℕ, List, ◌++◌, codes}
use Rattle.rela_print.specs.Joined.{joined}
use Rattle.rela_print.specs.Names.{reference_text}
use Rattle.rela_print.specs.PathTexts.{printed_path}
use Rattle.rela_print.specs.Printed.{Printed, within}
use Rattle.rela_spec.specs.declared.tree.PathExpr.{PathExpr}
use Rattle.rela_spec.specs.declared.tree.Modifier.{Modifier}
use Rattle.rela_spec.specs.declared.tree.Modifier.TheVariants as modifier
use Rattle.rela_spec.specs.declared.tree.SpecExpr.{SpecExpr}
use Rattle.rela_spec.specs.declared.tree.SpecExpr.TheOpen.{SpecExpr-F, Unit, Reference, Then, Else}
use Rattle.rela_spec.specs.declared.tree.SpecExpr.TheFolds.{fold-SpecExpr}

abbrev pub path_text : PathExpr → List ℕ
path_text p = (printed_path p).text

unfoldable pub modifier_text : Modifier PathExpr → List ℕ
modifier_text modifier.Preserve = codes "preserve"
modifier_text (modifier.Add p) = codes "add(" ++ (path_text p ++ codes ")")
modifier_text (modifier.Remove p) = codes "remove(" ++ (path_text p ++ codes ")")
modifier_text (modifier.Replace p q) = codes "replace("
    ++ (path_text p ++ (codes ", " ++ (path_text q ++ codes ")")))
modifier_text modifier.Drop = codes "drop"
modifier_text (modifier.AnyOf p) = codes "any(" ++ (path_text p ++ codes ")")
modifier_text (modifier.Ignore p) = codes "ignore(" ++ (path_text p ++ codes ")")

unfoldable pub unit_text : PathExpr → Modifier PathExpr → List ℕ
unit_text zone m = codes "{ " ++ (path_text zone
    ++ (codes " : " ++ (modifier_text m ++ codes " }")))

-- one layer of a specification, with each part printed
abbrev pub spec_layer : SpecExpr-F Printed → Printed
spec_layer (Unit zone m) = record { binding = 3; text = unit_text zone m }
spec_layer (Reference name at) = record { binding = 3; text = reference_text name }
spec_layer (Then parts) = record { binding = 2; text = joined (codes " then ") (within 2) parts }
spec_layer (Else parts) = record { binding = 1; text = joined (codes " else ") (within 1) parts }

unfoldable pub printed_spec : SpecExpr → Printed
printed_spec = fold-SpecExpr Printed spec_layer
