-- An expanded body says what the written one says.
use Rattle.std.specs.Prelude.{◌≡◌, ℕ, ◌↔◌, List, [], ◌∷◌, ◌++◌}
use Rattle.std.specs.List.{AllZip}
use Rattle.rela_rir.specs.Words.{WordSet}
use Rattle.rela_spec.specs.declared.tree.Item.{Item}
use Rattle.rela_spec.specs.declared.tree.Modifier.{Modifier}
use Rattle.rela_spec.specs.declared.tree.Modifier.TheVariants as m
use Rattle.rela_spec.specs.declared.tree.PathExpr.{PathExpr}
use Rattle.rela_spec.specs.declared.tree.SpecExpr.{SpecExpr}
use Rattle.rela_translate.specs.Checked.{Checked}
use Rattle.rela_expand.specs.LangW.{LangW}
use Rattle.rela_expand.specs.Places.{Place, locations_at}
use Rattle.rela_translate.specs.Zones.{Paths, Zone}
use Rattle.rela_expand.specs.ZonesW.{UnitW, ZoneW, named_units, names_w, units_w}
use Rattle.rela_translate.specs.declared.body.Expr.{Expr}
use Rattle.rela_translate.specs.declared.body.Change.{Change}
use Rattle.rela_translate.specs.declared.body.Change.TheVariants as c
use Rattle.rela_translate.specs.declared.body.Core.{Core}
use Rattle.rela_translate.specs.declared.body.Core.TheOpen.{Core-F, Unit as Unit', Then, Else}
use Rattle.rela_translate.specs.declared.body.Core.TheFolds.{fold-Core}

-- a unit of an expanded body
pub record ExpandedUnit : Type 0 where
  pub zone : Expr
  pub change : Change

abbrev pub layer_units : Core-F (List ExpandedUnit) → List ExpandedUnit
layer_units (Unit' zone change) = record { zone = zone; change = change } ∷ []
layer_units (Then s t) = s ++ t
layer_units (Else s t) = s ++ t

-- the units of an expanded body from left to right
abbrev pub units_of : Core → List ExpandedUnit
units_of = fold-Core (List ExpandedUnit) layer_units

-- what a change asks for, but for its marker
abbrev pub asked : Change → Modifier Expr
asked c.Preserve = m.Preserve
asked (c.Add a) = m.Add a
asked (c.Remove a) = m.Remove a
asked (c.Replace a b) = m.Replace a b
asked c.Drop = m.Drop
asked (c.AnyOf a k) = m.AnyOf a
asked (c.Ignore a) = m.Ignore a

-- a modifier without its paths
abbrev pub kind_of : {E : Type 0} → Modifier E → Modifier (Unit {0})
kind_of m.Preserve = m.Preserve
kind_of (m.Add p) = m.Add tt
kind_of (m.Remove p) = m.Remove tt
kind_of (m.Replace p q) = m.Replace tt tt
kind_of m.Drop = m.Drop
kind_of (m.AnyOf p) = m.AnyOf tt
kind_of (m.Ignore p) = m.Ignore tt

-- the paths of a modifier, in their order
abbrev pub paths_of : {E : Type 0} → Modifier E → List E
paths_of m.Preserve = []
paths_of (m.Add p) = p ∷ []
paths_of (m.Remove p) = p ∷ []
paths_of (m.Replace p q) = p ∷ q ∷ []
paths_of m.Drop = []
paths_of (m.AnyOf p) = p ∷ []
paths_of (m.Ignore p) = p ∷ []

module _ (place : Place) (named : List ℕ → WordSet) (check : Checked) where
  -- the expanded expression has the words of the written one
  abbrev pub SameWords : PathExpr → Expr → Type 0
  SameWords written e = (w : List ℕ) → Paths check.classes (locations_at place) e w ↔
      LangW place named written w

  -- the zones have the same words; the modifiers are of the same kind, and their paths have the same words
  pub record SameUnit (written : UnitW) (unit : ExpandedUnit) : Type 0 where
    pub zone : SameWords written.zone unit.zone
    pub kind : kind_of written.modifier ≡ kind_of (asked unit.change)
    pub paths : AllZip SameWords (paths_of written.modifier) (paths_of (asked unit.change))

-- the check's body speaks of the words that the written body speaks of, and its units are those of the written
-- body, in their order
pub record IsFaithful (place : Place) (items : List Item) (written : SpecExpr)
    (check : Checked) : Type 0 where
  pub zone : (w : List ℕ) → Zone check.classes (locations_at place) check.body w ↔
      ZoneW place (names_w place items) written w
  pub units : AllZip (SameUnit place (names_w place items).paths check) (units_w (named_units items)
      written) (units_of check.body)
