-- What forms are gathered for.
use Rattle.std.specs.Prelude.{List, Result, Ok, Err, replicate}
use Rattle.rela_lex.specs.declared.error.SpecError.{SpecError}
use Rattle.rela_spec.specs.declared.tree.PathExpr.{PathExpr}
use Rattle.rela_expand.specs.Scopes.{paths_named}
use Rattle.rela_expand.specs.Shapes.{Shape, Empty, Seq, Alt, Not, Star, sequence_shape, shape_of}
use Rattle.rela_expand.specs.declared.gathering.Scope.{Scope}
use Rattle.rela_expand.specs.declared.gathering.Wrap.{Wrap}
use Rattle.rela_expand.specs.declared.gathering.Wrap.TheVariants as wrap

-- what is made of what succeeds
abbrev pub made_of : {A B : Type 0} → (A → B) → Result A SpecError → Result B SpecError
made_of f (Ok x) = Ok (f x)
made_of f (Err e) = Err e

-- the shape of a path expression, or its first refusal
abbrev pub path_shape : Scope → List Shape → PathExpr → Result Shape SpecError
path_shape scope shapes = shape_of (record { network = scope.locations.now; level = scope.level })
    (paths_named shapes scope.names.now)

abbrev pub wrapped : Wrap → Shape → Shape
wrapped wrap.Not s = Not s
wrapped wrap.Star s = Star s
wrapped wrap.Plus s = Seq s (Star s)
wrapped wrap.Maybe s = Alt Empty s
wrapped (wrap.Times n) s = sequence_shape (replicate n s)
