-- Path expressions that are repeated.
use Rattle.std.specs.Prelude.{Option, None, Some}
use Rattle.rela_spec.specs.declared.parsing.postfix.Repetition.{Repetition}
use Rattle.rela_spec.specs.declared.parsing.postfix.Repetition.TheVariants.{Star, Plus, Maybe, Times}
use Rattle.rela_spec.specs.declared.tree.PathExpr.{PathExpr}
use Rattle.rela_spec.specs.declared.tree.PathExpr.TheVariants as expr

-- the expression, repeated so
abbrev pub repeated : Option Repetition → PathExpr → PathExpr
repeated None e = e
repeated (Some Star) e = expr.Star e
repeated (Some Plus) e = expr.Plus e
repeated (Some Maybe) e = expr.Maybe e
repeated (Some (Times n)) e = expr.Times e n
