-- How deep the predicates of a specification are.
use Rattle.std.specs.Prelude.{◌≤◌, ⊤}
use Rattle.rela_flows.specs.Selects.{depth}
use Rattle.rela_spec.specs.declared.tree.Item.{Item}
use Rattle.rela_spec.specs.declared.tree.Item.TheVariants as item

-- a check is for flows that a predicate of a depth of at most 1,000 selects
abbrev pub IsLow : Item → Type 0
IsLow (item.Path name at body) = ⊤
IsLow (item.Spec name at body) = ⊤
IsLow (item.Check at_most name at when body) = depth when ≤ 1000
