-- How many units are written in a specification.
use Rattle.std.specs.Prelude.{ℕ, List, map, sum}
use Rattle.rela_spec.specs.declared.tree.Item.{Item}
use Rattle.rela_spec.specs.declared.tree.Item.TheVariants.{Path, Spec, Check}
use Rattle.rela_spec.specs.declared.tree.SpecExpr.{SpecExpr}
use Rattle.rela_spec.specs.declared.tree.SpecExpr.TheOpen.{SpecExpr-F, Unit as Unit', Reference, Then, Else}
use Rattle.rela_spec.specs.declared.tree.SpecExpr.TheFolds.{fold-SpecExpr}

abbrev pub layer_units_in : SpecExpr-F ℕ → ℕ
layer_units_in (Unit' zone m) = 1
layer_units_in (Reference name at) = 0
layer_units_in (Then parts) = sum parts
layer_units_in (Else parts) = sum parts

-- how many units are written in a body itself, where references aren't followed
unfoldable pub units_in : SpecExpr → ℕ
units_in = fold-SpecExpr ℕ layer_units_in

abbrev pub units_in_item : Item → ℕ
units_in_item (Path name at body) = 0
units_in_item (Spec name at body) = units_in body
units_in_item (Check at_most name at when body) = units_in body

-- how many units are written in all items
abbrev pub units_in_items : List Item → ℕ
units_in_items items = sum (map units_in_item items)
