-- What a specification speaks of as it is written, and its units from left to right.
use Rattle.std.specs.Prelude.{◌≡◌, ◌≢◌, ℕ, ◌⊎◌, List, [], ◌∷◌, fold, if◌then◌else◌}
use Rattle.std.specs.List.{flat_map}
use Rattle.std.specs.Str.{bytes_eq}
use Rattle.rela_rir.specs.Words.{WordSet}
use Rattle.rela_spec.specs.declared.tree.Item.{Item}
use Rattle.rela_spec.specs.declared.tree.Item.TheVariants.{Path, Spec, Check}
use Rattle.rela_spec.specs.declared.tree.Modifier.{Modifier}
use Rattle.rela_spec.specs.declared.tree.Modifier.TheVariants.{Preserve, Add, Remove, Replace, Drop, AnyOf, Ignore}
use Rattle.rela_spec.specs.declared.tree.PathExpr.{PathExpr}
use Rattle.rela_spec.specs.declared.tree.SpecExpr.{SpecExpr}
use Rattle.rela_spec.specs.declared.tree.SpecExpr.TheOpen.{SpecExpr-F, Unit as Unit', Reference, Then, Else}
use Rattle.rela_spec.specs.declared.tree.SpecExpr.TheFolds.{fold-SpecExpr, rec-SpecExpr}
use Rattle.rela_expand.specs.LangW.{InOrder, LangW, OfSome}
use Rattle.rela_expand.specs.Places.{Place, locations_at}
use Rattle.rela_translate.specs.Zones.{Either, Single, drop_symbol}

-- what names stand for: paths, and the zones of specifications
pub record NamesW : Type 1 where
  pub paths : List ℕ → List ℕ → Type 0
  pub zones : List ℕ → List ℕ → Type 0

-- the words that a unit speaks of: those of its zone, and those that its modifier brings in
abbrev pub UnitZoneW : Place → (List ℕ → WordSet) → WordSet → Modifier PathExpr → WordSet
UnitZoneW place named Z Preserve = Z
UnitZoneW place named Z (Add p) = Either Z (LangW place named p)
UnitZoneW place named Z (Remove p) = Z
UnitZoneW place named Z (Replace p q) = Either Z (LangW place named q)
UnitZoneW place named Z Drop = Either Z (Single (drop_symbol (locations_at place)))
UnitZoneW place named Z (AnyOf p) = Either Z (LangW place named p)
UnitZoneW place named Z (Ignore p) = Z

-- One layer of a specification, where it is given which words its parts speak of.
module _ {X : Type 0} (part : X → WordSet) where
  abbrev pub LayerZoneW : Place → NamesW → SpecExpr-F X → WordSet
  LayerZoneW place names (Unit' zone m) w =
      UnitZoneW place names.paths (LangW place names.paths zone) m w
  LayerZoneW place names (Reference name at) w = names.zones name w
  LayerZoneW place names (Then parts) w = InOrder part parts w
  LayerZoneW place names (Else parts) w = OfSome part parts w

-- The specification speaks of the word, by recursion on it.
abbrev pub ZoneW : Place → NamesW → SpecExpr → WordSet
ZoneW place names = rec-SpecExpr WordSet (λ X _ part layer. LayerZoneW part place names layer)

-- the function with this set for the name
abbrev pub with_words : List ℕ → WordSet → (List ℕ → WordSet) → List ℕ → WordSet
with_words name X others other w = ((other ≡ name) × X w) ⊎ ((other ≢ name) × others other w)

-- one item more
abbrev pub with_item_w : Place → NamesW → Item → NamesW
with_item_w place names (Path name at body) =
    record names { paths = with_words name (LangW place names.paths body) names.paths }
with_item_w place names (Spec name at body) =
    record names { zones = with_words name (ZoneW place names body) names.zones }
with_item_w place names (Check at_most name at when body) = names

-- what the names of the items stand for, each by the items before it
abbrev pub names_from : Place → NamesW → List Item → NamesW
names_from place names [] = names
names_from place names (item ∷ others) = names_from place (with_item_w place names item) others

abbrev pub names_w : Place → List Item → NamesW
names_w place items = names_from place (record { paths = λ _ _. ⊥; zones = λ _ _. ⊥ }) items

-- a unit as it is written
pub record UnitW : Type 0 where
  pub zone : PathExpr
  pub modifier : Modifier PathExpr

abbrev pub layer_units_w : (List ℕ → List UnitW) → SpecExpr-F (List UnitW) → List UnitW
layer_units_w named (Unit' zone m) = record { zone = zone; modifier = m } ∷ []
layer_units_w named (Reference name at) = named name
layer_units_w named (Then parts) = flat_map (λ units. units) parts
layer_units_w named (Else parts) = flat_map (λ units. units) parts

-- the units of a specification from left to right, those that its references name too
abbrev pub units_w : (List ℕ → List UnitW) → SpecExpr → List UnitW
units_w named = fold-SpecExpr (List UnitW) (layer_units_w named)

abbrev pub with_item_units : (List ℕ → List UnitW) → Item → List ℕ → List UnitW
with_item_units named (Path name at body) = named
with_item_units named (Spec name at body) = λ other. if bytes_eq name other
    then units_w named body else named other
with_item_units named (Check at_most name at when body) = named

-- the units that the names of the items stand for
abbrev pub named_units : List Item → List ℕ → List UnitW
named_units items = fold with_item_units (λ _. []) items

-- the bodies of the checks, in their order
abbrev pub bodies_of : List Item → List SpecExpr
bodies_of [] = []
bodies_of (Path name at body ∷ others) = bodies_of others
bodies_of (Spec name at body ∷ others) = bodies_of others
bodies_of (Check at_most name at when body ∷ others) = body ∷ bodies_of others
