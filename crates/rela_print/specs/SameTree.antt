-- Trees that are the same but for where their names stand in a text.
use Rattle.std.specs.Prelude.{◌≡◌, map}
use Rattle.rela_spec.specs.declared.tree.Item.{Item}
use Rattle.rela_spec.specs.declared.tree.Item.TheVariants as item
use Rattle.rela_spec.specs.declared.tree.Member.{Member}
use Rattle.rela_spec.specs.declared.tree.Member.TheVariants as member
use Rattle.rela_spec.specs.declared.tree.Modifier.{Modifier}
use Rattle.rela_spec.specs.declared.tree.Modifier.TheVariants as modifier
use Rattle.rela_spec.specs.declared.tree.PathExpr.{PathExpr}
use Rattle.rela_spec.specs.declared.tree.PathExpr.TheVariants as expr
use Rattle.rela_spec.specs.declared.tree.PathExpr.TheOpen as path
use Rattle.rela_spec.specs.declared.tree.PathExpr.TheFolds.{fold-PathExpr}
use Rattle.rela_spec.specs.declared.tree.SpecExpr.{SpecExpr}
use Rattle.rela_spec.specs.declared.tree.SpecExpr.TheVariants as spec
use Rattle.rela_spec.specs.declared.tree.SpecExpr.TheOpen as open_spec
use Rattle.rela_spec.specs.declared.tree.SpecExpr.TheFolds.{fold-SpecExpr}
use Rattle.rela_spec.specs.declared.tree.SpecFile.{SpecFile}

-- the tree with each offset 0: of a member, of a path expression, and so on
abbrev pub member_at_zero : Member → Member
member_at_zero (member.Here name at) = member.Here name 0
member_at_zero (member.Within b name at) = member.Within b name 0
member_at_zero member.Drop = member.Drop
member_at_zero member.Loop = member.Loop

abbrev pub path_layer_at_zero : path.PathExpr-F PathExpr → PathExpr
path_layer_at_zero path.Any = expr.Any
path_layer_at_zero path.Empty = expr.Empty
path_layer_at_zero (path.One m) = expr.One (member_at_zero m)
path_layer_at_zero (path.Class negated members) = expr.Class negated (map member_at_zero members)
path_layer_at_zero (path.Reference name at) = expr.Reference name 0
path_layer_at_zero (path.Seq parts) = expr.Seq parts
path_layer_at_zero (path.Alt parts) = expr.Alt parts
path_layer_at_zero (path.And parts) = expr.And parts
path_layer_at_zero (path.Not part) = expr.Not part
path_layer_at_zero (path.Star part) = expr.Star part
path_layer_at_zero (path.Plus part) = expr.Plus part
path_layer_at_zero (path.Maybe part) = expr.Maybe part
path_layer_at_zero (path.Times part n) = expr.Times part n

unfoldable pub path_at_zero : PathExpr → PathExpr
path_at_zero = fold-PathExpr PathExpr path_layer_at_zero

abbrev pub modifier_at_zero : Modifier PathExpr → Modifier PathExpr
modifier_at_zero modifier.Preserve = modifier.Preserve
modifier_at_zero (modifier.Add p) = modifier.Add (path_at_zero p)
modifier_at_zero (modifier.Remove p) = modifier.Remove (path_at_zero p)
modifier_at_zero (modifier.Replace p q) = modifier.Replace (path_at_zero p) (path_at_zero q)
modifier_at_zero modifier.Drop = modifier.Drop
modifier_at_zero (modifier.AnyOf p) = modifier.AnyOf (path_at_zero p)
modifier_at_zero (modifier.Ignore p) = modifier.Ignore (path_at_zero p)

abbrev pub spec_layer_at_zero : open_spec.SpecExpr-F SpecExpr → SpecExpr
spec_layer_at_zero (open_spec.Unit zone m) = spec.Unit (path_at_zero zone) (modifier_at_zero m)
spec_layer_at_zero (open_spec.Reference name at) = spec.Reference name 0
spec_layer_at_zero (open_spec.Then parts) = spec.Then parts
spec_layer_at_zero (open_spec.Else parts) = spec.Else parts

unfoldable pub spec_at_zero : SpecExpr → SpecExpr
spec_at_zero = fold-SpecExpr SpecExpr spec_layer_at_zero

abbrev pub item_at_zero : Item → Item
item_at_zero (item.Path name at body) = item.Path name 0 (path_at_zero body)
item_at_zero (item.Spec name at body) = item.Spec name 0 (spec_at_zero body)
item_at_zero (item.Check at_most name at when body) =
    item.Check at_most name 0 when (spec_at_zero body)

unfoldable pub file_at_zero : SpecFile → SpecFile
file_at_zero file = record { level = file.level; items = map item_at_zero file.items }

-- the same trees but for their offsets
abbrev pub SameButOffsets : SpecFile → SpecFile → Type 0
SameButOffsets a b = file_at_zero a ≡ file_at_zero b
