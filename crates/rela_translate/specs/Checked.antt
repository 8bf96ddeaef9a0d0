-- A check as data, and what each check keeps.
use Rattle.std.specs.Prelude.{◌≡◌, ℕ, ◌+◌, ◌<◌, ◌≤◌, Bool, List, [], ◌∷◌, ◌++◌, length}
use Rattle.std.specs.List.{All, range_with_len}
use Rattle.rela_names.specs.declared.level.Level.{Level}
use Rattle.rela_flows.specs.Selects.{depth}
use Rattle.rela_flows.specs.declared.predicate.Predicate.{Predicate}
use Rattle.rela_rir.specs.Size.{nodes_of_rel, depth_of_rel}
use Rattle.rela_rir.specs.declared.set.SymbolSet.{SymbolSet}
use Rattle.rela_translate.specs.Terms.{before_of, after_of}
use Rattle.rela_translate.specs.declared.body.Expr.{Expr}
use Rattle.rela_translate.specs.declared.body.Expr.TheOpen.{Expr-F, Empty, Class, Seq, Alt, Meet, Not, Star}
use Rattle.rela_translate.specs.declared.body.Expr.TheFolds.{fold-Expr}
use Rattle.rela_translate.specs.declared.body.Change.{Change}
use Rattle.rela_translate.specs.declared.body.Change.TheVariants.{Preserve, Add, Remove, Replace, Drop, AnyOf, Ignore}
use Rattle.rela_translate.specs.declared.body.Core.{Core}
use Rattle.rela_translate.specs.declared.body.Core.TheOpen.{Core-F, Unit, Then, Else}
use Rattle.rela_translate.specs.declared.body.Core.TheFolds.{fold-Core}

-- a check: its name, the level of its locations, the flows that it is for, whether only added paths offend,
-- its class table and its body
pub record Checked : Type 0 where
  pub name : List ℕ
  pub level : Level
  pub when : Predicate
  pub at_most : Bool
  pub classes : List SymbolSet
  pub body : Core

abbrev pub layer_entries : Expr-F (List ℕ) → List ℕ
layer_entries Empty = []
layer_entries (Class k) = k ∷ []
layer_entries (Seq a b) = a ++ b
layer_entries (Alt a b) = a ++ b
layer_entries (Meet a b) = a ++ b
layer_entries (Not a) = a
layer_entries (Star a) = a

-- the entries of the class table that the expression names, from left to right
abbrev pub path_entries : Expr → List ℕ
path_entries = fold-Expr (List ℕ) layer_entries

abbrev pub change_entries : Change → List ℕ
change_entries Preserve = []
change_entries (Add p) = path_entries p
change_entries (Remove p) = path_entries p
change_entries (Replace p q) = path_entries p ++ path_entries q
change_entries Drop = []
change_entries (AnyOf p k) = path_entries p
change_entries (Ignore p) = path_entries p

abbrev pub layer_body_entries : Core-F (List ℕ) → List ℕ
layer_body_entries (Unit z c) = path_entries z ++ change_entries c
layer_body_entries (Then s t) = s ++ t
layer_body_entries (Else s t) = s ++ t

-- the entries of the class table that the body names, from left to right
abbrev pub entries_of : Core → List ℕ
entries_of = fold-Core (List ℕ) layer_body_entries

abbrev pub change_markers : Change → List ℕ
change_markers (AnyOf p k) = k ∷ []
change_markers _ = []

abbrev pub layer_markers : Core-F (List ℕ) → List ℕ
layer_markers (Unit z c) = change_markers c
layer_markers (Then s t) = s ++ t
layer_markers (Else s t) = s ++ t

-- the numbers of the body's markers, from left to right
abbrev pub markers_of : Core → List ℕ
markers_of = fold-Core (List ℕ) layer_markers

-- Each class is an entry of the table, the markers are 1, 2 and so on from left to right, and the predicate
-- and the terms of the two relations are no larger than what every call on them can bear.
pub record IsCheck (check : Checked) : Type 0 where
  pub entries : All (λ k. k < length check.classes) (entries_of check.body)
  pub numbered : markers_of check.body ≡ range_with_len 1 (length (markers_of check.body))
  pub shallow_predicate : depth check.when ≤ 1000
  pub few_nodes : (locations : ℕ) → nodes_of_rel (before_of locations check.body)
      + nodes_of_rel (after_of locations check.body) ≤ 20000
  pub shallow_before : (locations : ℕ) → depth_of_rel (before_of locations check.body) ≤ 1000
  pub shallow_after : (locations : ℕ) → depth_of_rel (after_of locations check.body) ≤ 1000
