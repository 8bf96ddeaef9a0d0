-- The symbols that a term names one by one, and not by a class.
use Rattle.std.specs.Prelude.{ℕ, ◌↔◌}
use Rattle.rela_rir.specs.declared.term.PathTerm.{PathTerm}
use Rattle.rela_rir.specs.declared.term.RelTerm.{RelTerm}
use Rattle.rela_rir.specs.declared.term.PathTerm.TheVariants as P
use Rattle.rela_rir.specs.declared.term.RelTerm.TheVariants as R
use Rattle.rela_rir.specs.declared.term.PathTerm.TheOpen.{PathTerm-F, One, PathTerm::Union, PathTerm::Concat, PathTerm::Star, Meet, Complement, Image, RelTerm-F, Identity, Product, RelTerm::Union, RelTerm::Concat, RelTerm::Star, Compose}
use Rattle.rela_rir.specs.declared.term.PathTerm.TheFolds.{rec-PathTerm, rec-RelTerm}

-- One layer of a term, where it is given whether the symbols that its parts name have P.
module _ {X Y : Type 0} (P : ℕ → Type 0) (part : X → Type 0) (part_r : Y → Type 0) where
  abbrev pub LayerNames : PathTerm-F X Y → Type 0
  LayerNames (One s) = P s
  LayerNames (PathTerm::Union x y) = part x × part y
  LayerNames (PathTerm::Concat x y) = part x × part y
  LayerNames (PathTerm::Star x) = part x
  LayerNames (Meet x y) = part x × part y
  LayerNames (Complement x) = part x
  LayerNames (Image x r) = part x × part_r r
  LayerNames _ = Unit {0}

  abbrev pub LayerNamesR : RelTerm-F X Y → Type 0
  LayerNamesR (Identity x) = part x
  LayerNamesR (Product x y) = part x × part y
  LayerNamesR (RelTerm::Union r s) = part_r r × part_r s
  LayerNamesR (RelTerm::Concat r s) = part_r r × part_r s
  LayerNamesR (RelTerm::Star r) = part_r r
  LayerNamesR (Compose r s) = part_r r × part_r s

-- Each symbol that the path term names, at any depth, has P.
unfoldable pub Names : (ℕ → Type 0) → PathTerm → Type 0
Names P =
    rec-PathTerm (Type 0) (Type 0)
    (λ X Y _ _ part part_r layer. LayerNames P part part_r layer)
    (λ X Y _ _ part part_r layer. LayerNamesR P part part_r layer)

-- Each symbol that the relation term names, at any depth, has P.
unfoldable pub NamesR : (ℕ → Type 0) → RelTerm → Type 0
NamesR P =
    rec-RelTerm (Type 0) (Type 0)
    (λ X Y _ _ part part_r layer. LayerNames P part part_r layer)
    (λ X Y _ _ part part_r layer. LayerNamesR P part part_r layer)

-- Whether each symbol that a term names has Q, by the term's form and whether those that its parts name have.
pub record NamedForms (Q : ℕ → Type 0) : Type 0 where
  pub none : Names Q P.None
  pub empty : Names Q P.Empty
  pub class : (entry : ℕ) → Names Q (P.Class entry)
  pub one : (s : ℕ) → Names Q (P.One s) ↔ Q s
  pub union : (x y : PathTerm) → Names Q (P.Union x y) ↔ (Names Q x × Names Q y)
  pub concat : (x y : PathTerm) → Names Q (P.Concat x y) ↔ (Names Q x × Names Q y)
  pub star : (x : PathTerm) → Names Q (P.Star x) ↔ Names Q x
  pub meet : (x y : PathTerm) → Names Q (P.Meet x y) ↔ (Names Q x × Names Q y)
  pub complement : (x : PathTerm) → Names Q (P.Complement x) ↔ Names Q x
  pub before : Names Q P.Pre
  pub after : Names Q P.Post
  pub image : (x : PathTerm) (r : RelTerm) → Names Q (P.Image x r) ↔ (Names Q x × NamesR Q r)
  pub identity : (x : PathTerm) → NamesR Q (R.Identity x) ↔ Names Q x
  pub product : (x y : PathTerm) → NamesR Q (R.Product x y) ↔ (Names Q x × Names Q y)
  pub either : (r s : RelTerm) → NamesR Q (R.Union r s) ↔ (NamesR Q r × NamesR Q s)
  pub joined : (r s : RelTerm) → NamesR Q (R.Concat r s) ↔ (NamesR Q r × NamesR Q s)
  pub repeated : (r : RelTerm) → NamesR Q (R.Star r) ↔ NamesR Q r
  pub compose : (r s : RelTerm) → NamesR Q (R.Compose r s) ↔ (NamesR Q r × NamesR Q s)
