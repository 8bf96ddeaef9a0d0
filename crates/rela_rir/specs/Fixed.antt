-- Terms that name neither of the two path sets.
use Rattle.std.specs.Prelude.{◌≡◌, ℕ, ◌↔◌}
use Rattle.rela_rir.specs.Meaning.{Setting}
use Rattle.rela_rir.specs.declared.term.PathTerm.{PathTerm}
use Rattle.rela_rir.specs.declared.term.RelTerm.{RelTerm}
use Rattle.rela_rir.specs.declared.term.PathTerm.TheVariants as P
use Rattle.rela_rir.specs.declared.term.RelTerm.TheVariants as R
use Rattle.rela_rir.specs.declared.term.PathTerm.TheOpen.{PathTerm-F, PathTerm::Union, PathTerm::Concat, PathTerm::Star, Meet, Complement, Pre, Post, Image, RelTerm-F, Identity, Product, RelTerm::Union, RelTerm::Concat, RelTerm::Star, Compose}
use Rattle.rela_rir.specs.declared.term.PathTerm.TheFolds.{rec-PathTerm, rec-RelTerm}

-- One layer of a term, where it is given which of its parts name neither path set.
module _ {X Y : Type 0} (part : X → Type 0) (part_r : Y → Type 0) where
  abbrev pub LayerIsFixed : PathTerm-F X Y → Type 0
  LayerIsFixed (PathTerm::Union x y) = part x × part y
  LayerIsFixed (PathTerm::Concat x y) = part x × part y
  LayerIsFixed (PathTerm::Star x) = part x
  LayerIsFixed (Meet x y) = part x × part y
  LayerIsFixed (Complement x) = part x
  LayerIsFixed (Image x r) = part x × part_r r
  LayerIsFixed Pre = ⊥
  LayerIsFixed Post = ⊥
  LayerIsFixed _ = Unit {0}

  abbrev pub LayerIsFixedR : RelTerm-F X Y → Type 0
  LayerIsFixedR (Identity x) = part x
  LayerIsFixedR (Product x y) = part x × part y
  LayerIsFixedR (RelTerm::Union r s) = part_r r × part_r s
  LayerIsFixedR (RelTerm::Concat r s) = part_r r × part_r s
  LayerIsFixedR (RelTerm::Star r) = part_r r
  LayerIsFixedR (Compose r s) = part_r r × part_r s

-- The path term names neither path set, at any depth.
abbrev pub IsFixed : PathTerm → Type 0
IsFixed =
    rec-PathTerm (Type 0) (Type 0)
    (λ X Y _ _ part part_r layer. LayerIsFixed part part_r layer)
    (λ X Y _ _ part part_r layer. LayerIsFixedR part part_r layer)

-- The relation term names neither path set, at any depth.
abbrev pub IsFixedR : RelTerm → Type 0
IsFixedR =
    rec-RelTerm (Type 0) (Type 0)
    (λ X Y _ _ part part_r layer. LayerIsFixed part part_r layer)
    (λ X Y _ _ part part_r layer. LayerIsFixedR part part_r layer)

-- settings with one class table and one number of path symbols
pub record Alike (m n : Setting) : Type 0 where
  pub classes : m.classes ≡ n.classes
  pub path_symbols : m.path_symbols ≡ n.path_symbols

-- Which terms name neither path set, by their form and which of their parts do.
pub record FixedForms : Type 0 where
  pub none : IsFixed P.None
  pub empty : IsFixed P.Empty
  pub class : (entry : ℕ) → IsFixed (P.Class entry)
  pub one : (s : ℕ) → IsFixed (P.One s)
  pub union : (x y : PathTerm) → IsFixed (P.Union x y) ↔ (IsFixed x × IsFixed y)
  pub concat : (x y : PathTerm) → IsFixed (P.Concat x y) ↔ (IsFixed x × IsFixed y)
  pub star : (x : PathTerm) → IsFixed (P.Star x) ↔ IsFixed x
  pub meet : (x y : PathTerm) → IsFixed (P.Meet x y) ↔ (IsFixed x × IsFixed y)
  pub complement : (x : PathTerm) → IsFixed (P.Complement x) ↔ IsFixed x
  pub before : ¬ IsFixed P.Pre
  pub after : ¬ IsFixed P.Post
  pub image : (x : PathTerm) (r : RelTerm) → IsFixed (P.Image x r) ↔ (IsFixed x × IsFixedR r)
  pub identity : (x : PathTerm) → IsFixedR (R.Identity x) ↔ IsFixed x
  pub product : (x y : PathTerm) → IsFixedR (R.Product x y) ↔ (IsFixed x × IsFixed y)
  pub either : (r s : RelTerm) → IsFixedR (R.Union r s) ↔ (IsFixedR r × IsFixedR s)
  pub joined : (r s : RelTerm) → IsFixedR (R.Concat r s) ↔ (IsFixedR r × IsFixedR s)
  pub repeated : (r : RelTerm) → IsFixedR (R.Star r) ↔ IsFixedR r
  pub compose : (r s : RelTerm) → IsFixedR (R.Compose r s) ↔ (IsFixedR r × IsFixedR s)
