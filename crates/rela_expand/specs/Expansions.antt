-- What path expressions and specifications expand to: names are replaced by what they stand for, short forms are
-- written out, and lists become binary trees.
use Rattle.std.specs.Prelude.{ℕ, ◌+◌, ◌/◌, Bool, true, false, List, [], ◌∷◌, length, replicate, take, drop, Option, None, Some, Result, Ok, Err, zero, suc}
use Rattle.rela_lex.specs.declared.error.SpecError.{SpecError}
use Rattle.rela_lex.specs.declared.error.SpecError.TheVariants.{UnknownName}
use Rattle.rela_spec.specs.declared.tree.Member.{Member}
use Rattle.rela_spec.specs.declared.tree.Modifier.{Modifier}
use Rattle.rela_spec.specs.declared.tree.Modifier.TheVariants as modifier
use Rattle.rela_spec.specs.declared.tree.PathExpr.{PathExpr}
use Rattle.rela_spec.specs.declared.tree.PathExpr.TheOpen as e
use Rattle.rela_spec.specs.declared.tree.PathExpr.TheFolds.{fold-PathExpr}
use Rattle.rela_spec.specs.declared.tree.SpecExpr.{SpecExpr}
use Rattle.rela_spec.specs.declared.tree.SpecExpr.TheOpen as s
use Rattle.rela_spec.specs.declared.tree.SpecExpr.TheFolds.{fold-SpecExpr}
use Rattle.rela_expand.specs.Numbering.{Expansion, Numbering, Step, ◌>>=◌, each, gives, next_marker, numbered_class, plainly, refuses}
use Rattle.rela_expand.specs.Places.{Place, listed}
use Rattle.rela_translate.specs.declared.body.Expr.{Expr}
use Rattle.rela_translate.specs.declared.body.Expr.TheVariants as x
use Rattle.rela_translate.specs.declared.body.Change.{Change}
use Rattle.rela_translate.specs.declared.body.Change.TheVariants as change
use Rattle.rela_translate.specs.declared.body.Core.{Core}
use Rattle.rela_translate.specs.declared.body.Core.TheVariants as core

-- how many of the parts of a list come into the first half of its tree
abbrev pub half : ℕ → ℕ
half n = (n + 1) / 2

-- the tree of a list: of one part the part itself, of more the tree of the first half and that of the others. The
-- depth is a bound that the number of the parts always meets.
abbrev pub tree_within : {X : Type 0} → ℕ → (X → X → X) → X → List X → X
tree_within depth join none [] = none
tree_within depth join none (x ∷ []) = x
tree_within zero join none (x ∷ y ∷ others) = none
tree_within (suc depth) join none (x ∷ y ∷ others) =
    join (tree_within depth join none (take (half (length (x ∷ y ∷ others))) (x ∷ y ∷ others)))
    (tree_within depth join none (drop (half (length (x ∷ y ∷ others))) (x ∷ y ∷ others)))

abbrev pub tree_of : {X : Type 0} → (X → X → X) → X → List X → X
tree_of join none xs = tree_within (length xs) join none xs

-- the parts one after another; of no parts the empty path
abbrev pub sequence_of : List Expr → Expr
sequence_of = tree_of x.Seq x.Empty

-- what names stand for, each on its own
pub record Names : Type 0 where
  pub paths : List ℕ → Option (Expansion Expr)
  pub specs : List ℕ → Option (Expansion Core)

abbrev pub no_names : Names
no_names = record { paths = λ _. None; specs = λ _. None }

-- what the name stands for; a name that stands for nothing is refused where it is used
abbrev pub named : {X : Type 0} → Option (Expansion X) → ℕ → Expansion X
named None at = refuses (UnknownName at)
named (Some expansion) at = expansion

-- the class of the symbols that the members name
abbrev pub class_of : Place → Bool → List Member → Expansion Expr
class_of place negated members = do
  symbols ← plainly (listed place members)
  k ← numbered_class (record { negated = negated; members = symbols })
  gives (x.Class k)

abbrev pub emptied : Numbering → Result (Step Expr) SpecError → Result (Step Expr) SpecError
emptied numbering (Ok step) = Ok (record { value = x.Empty; after = numbering })
emptied numbering (Err e) = Err e

-- what is left of a part that is written no times: its refusals, and nothing that is numbered
abbrev pub left_out : Expansion Expr → Expansion Expr
left_out part numbering = emptied numbering (part numbering)

-- the part n times in a row; of no copies the empty path, for which nothing is numbered
abbrev pub times : ℕ → Expansion Expr → Expansion Expr
times zero part = left_out part
times (suc n) part = do
  a ← part
  gives (sequence_of (replicate (suc n) a))

-- One layer of a path expression, by the expansions of its parts.
abbrev pub layer_of_path : Place → Names → e.PathExpr-F (Expansion Expr) → Expansion Expr
layer_of_path place names e.Any = class_of place true []
layer_of_path place names e.Empty = gives x.Empty
layer_of_path place names (e.One m) = class_of place false (m ∷ [])
layer_of_path place names (e.Class negated members) = class_of place negated members
layer_of_path place names (e.Reference name at) = named (names.paths name) at
layer_of_path place names (e.Seq parts) = do
  xs ← each parts
  gives (sequence_of xs)
layer_of_path place names (e.Alt parts) = do
  xs ← each parts
  gives (tree_of x.Alt x.Empty xs)
layer_of_path place names (e.And parts) = do
  xs ← each parts
  gives (tree_of x.Meet x.Empty xs)
layer_of_path place names (e.Not part) = do
  a ← part
  gives (x.Not a)
layer_of_path place names (e.Star part) = do
  a ← part
  gives (x.Star a)
layer_of_path place names (e.Plus part) = do
  a ← part
  gives (x.Seq a (x.Star a))
layer_of_path place names (e.Maybe part) = do
  a ← part
  gives (x.Alt x.Empty a)
layer_of_path place names (e.Times part n) = times n part

-- what a path expression expands to, by recursion on it
unfoldable pub path_expansion : Place → Names → PathExpr → Expansion Expr
path_expansion place names = fold-PathExpr (Expansion Expr) (layer_of_path place names)

abbrev pub change_expansion : Place → Names → Modifier PathExpr → Expansion Change
change_expansion place names modifier.Preserve = gives change.Preserve
change_expansion place names (modifier.Add p) = do
  a ← path_expansion place names p
  gives (change.Add a)
change_expansion place names (modifier.Remove p) = do
  a ← path_expansion place names p
  gives (change.Remove a)
change_expansion place names (modifier.Replace p q) = do
  a ← path_expansion place names p
  b ← path_expansion place names q
  gives (change.Replace a b)
change_expansion place names modifier.Drop = gives change.Drop
change_expansion place names (modifier.AnyOf p) = do
  a ← path_expansion place names p
  k ← next_marker
  gives (change.AnyOf a k)
change_expansion place names (modifier.Ignore p) = do
  a ← path_expansion place names p
  gives (change.Ignore a)

-- stands for the body of a check that has no parts, which no list has
abbrev pub nothing_asked : Core
nothing_asked = core.Unit x.Empty change.Preserve

-- One layer of a specification, by the expansions of its parts.
abbrev pub layer_of_spec : Place → Names → s.SpecExpr-F (Expansion Core) → Expansion Core
layer_of_spec place names (s.Unit zone m) = do
  a ← path_expansion place names zone
  c ← change_expansion place names m
  gives (core.Unit a c)
layer_of_spec place names (s.Reference name at) = named (names.specs name) at
layer_of_spec place names (s.Then parts) = do
  xs ← each parts
  gives (tree_of core.Then nothing_asked xs)
layer_of_spec place names (s.Else parts) = do
  xs ← each parts
  gives (tree_of core.Else nothing_asked xs)

-- what a specification expands to, by recursion on it
unfoldable pub spec_expansion : Place → Names → SpecExpr → Expansion Core
spec_expansion place names = fold-SpecExpr (Expansion Core) (layer_of_spec place names)
