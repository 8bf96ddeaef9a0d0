-- Trees whose lists have two parts or more.
use Rattle.std.specs.Prelude.{◌≡◌, Bool, true, ◌&&◌, nat_le, List, length}
use Rattle.std.specs.List.{list_all}
use Rattle.rela_flows.specs.declared.predicate.Predicate.{Predicate}
use Rattle.rela_flows.specs.declared.predicate.Predicate.TheOpen as p
use Rattle.rela_flows.specs.declared.predicate.Predicate.TheFolds.{fold-Predicate}
use Rattle.rela_spec.specs.declared.tree.Item.{Item}
use Rattle.rela_spec.specs.declared.tree.Item.TheVariants as item
use Rattle.rela_spec.specs.declared.tree.Modifier.{Modifier}
use Rattle.rela_spec.specs.declared.tree.Modifier.TheVariants as modifier
use Rattle.rela_spec.specs.declared.tree.PathExpr.{PathExpr}
use Rattle.rela_spec.specs.declared.tree.PathExpr.TheOpen as e
use Rattle.rela_spec.specs.declared.tree.PathExpr.TheFolds.{fold-PathExpr}
use Rattle.rela_spec.specs.declared.tree.SpecExpr.{SpecExpr}
use Rattle.rela_spec.specs.declared.tree.SpecExpr.TheOpen as s
use Rattle.rela_spec.specs.declared.tree.SpecExpr.TheFolds.{fold-SpecExpr}
use Rattle.rela_spec.specs.declared.tree.SpecFile.{SpecFile}

-- two parts or more, each of which is full
abbrev pub are_full : List Bool → Bool
are_full parts = nat_le 2 (length parts) && list_all (λ full. full) parts

-- one layer of a path expression, with whether each part is full
abbrev pub full_path_layer : e.PathExpr-F Bool → Bool
full_path_layer e.Any = true
full_path_layer e.Empty = true
full_path_layer (e.One m) = true
full_path_layer (e.Class negated members) = true
full_path_layer (e.Reference name at) = true
full_path_layer (e.Seq parts) = are_full parts
full_path_layer (e.Alt parts) = are_full parts
full_path_layer (e.And parts) = are_full parts
full_path_layer (e.Not part) = part
full_path_layer (e.Star part) = part
full_path_layer (e.Plus part) = part
full_path_layer (e.Maybe part) = part
full_path_layer (e.Times part n) = part

unfoldable pub is_full_path : PathExpr → Bool
is_full_path = fold-PathExpr Bool full_path_layer

abbrev pub is_full_change : Modifier PathExpr → Bool
is_full_change modifier.Preserve = true
is_full_change modifier.Drop = true
is_full_change (modifier.Add path) = is_full_path path
is_full_change (modifier.Remove path) = is_full_path path
is_full_change (modifier.Replace old new) = is_full_path old && is_full_path new
is_full_change (modifier.AnyOf path) = is_full_path path
is_full_change (modifier.Ignore path) = is_full_path path

abbrev pub full_spec_layer : s.SpecExpr-F Bool → Bool
full_spec_layer (s.Unit zone m) = is_full_path zone && is_full_change m
full_spec_layer (s.Reference name at) = true
full_spec_layer (s.Then parts) = are_full parts
full_spec_layer (s.Else parts) = are_full parts

unfoldable pub is_full_spec : SpecExpr → Bool
is_full_spec = fold-SpecExpr Bool full_spec_layer

abbrev pub full_predicate_layer : p.Predicate-F Bool → Bool
full_predicate_layer p.All = true
full_predicate_layer (p.DstIn q) = true
full_predicate_layer (p.DstOverlaps q) = true
full_predicate_layer (p.SrcIn q) = true
full_predicate_layer (p.SrcOverlaps q) = true
full_predicate_layer (p.Flow name) = true
full_predicate_layer (p.Class name) = true
full_predicate_layer (p.Not part) = part
full_predicate_layer (p.And parts) = are_full parts
full_predicate_layer (p.Or parts) = are_full parts

unfoldable pub is_full_predicate : Predicate → Bool
is_full_predicate = fold-Predicate Bool full_predicate_layer

abbrev pub is_full_item : Item → Bool
is_full_item (item.Path name at body) = is_full_path body
is_full_item (item.Spec name at body) = is_full_spec body
is_full_item (item.Check at_most name at when body) = is_full_predicate when && is_full_spec body

-- each list of the tree has two parts or more
abbrev pub IsFull : SpecFile → Type 0
IsFull file = list_all is_full_item file.items ≡ true
