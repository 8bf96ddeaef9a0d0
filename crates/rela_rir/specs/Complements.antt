-- The parts of a term that are complemented, in the order in which complements are numbered: parts
-- before wholes, left before right, each as often as it is written out.
use Rattle.std.specs.Prelude.{List, [], ◌∷◌, ◌++◌}
use Rattle.rela_rir.specs.declared.term.PathTerm.{PathTerm}
use Rattle.rela_rir.specs.declared.term.RelTerm.{RelTerm}
use Rattle.rela_rir.specs.declared.term.PathTerm.TheOpen.{PathTerm-F, PathTerm::Union, PathTerm::Concat, PathTerm::Star, Meet, Complement, Image, RelTerm-F, Identity, Product, RelTerm::Union, RelTerm::Concat, RelTerm::Star, Compose}
use Rattle.rela_rir.specs.declared.term.PathTerm.TheFolds.{rec-PathTerm, rec-RelTerm}

-- One layer of a term, where it is given which terms its parts are, and what is complemented in these.
module _ {X Y : Type 0} (term : X → PathTerm)
    (inside : X → List PathTerm) (inside_r : Y → List PathTerm) where
  abbrev pub layer_parts : PathTerm-F X Y → List PathTerm
  layer_parts (PathTerm::Union x y) = inside x ++ inside y
  layer_parts (PathTerm::Concat x y) = inside x ++ inside y
  layer_parts (PathTerm::Star x) = inside x
  layer_parts (Meet x y) = inside x ++ inside y
  layer_parts (Complement x) = inside x ++ term x ∷ []
  layer_parts (Image x r) = inside x ++ inside_r r
  layer_parts _ = []

  abbrev pub layer_parts_r : RelTerm-F X Y → List PathTerm
  layer_parts_r (Identity x) = inside x
  layer_parts_r (Product x y) = inside x ++ inside y
  layer_parts_r (RelTerm::Union r s) = inside_r r ++ inside_r s
  layer_parts_r (RelTerm::Concat r s) = inside_r r ++ inside_r s
  layer_parts_r (RelTerm::Star r) = inside_r r
  layer_parts_r (Compose r s) = inside_r r ++ inside_r s

-- a list of parts, as a value that a recursion on terms may have
pub record Parts : Type 1 where
  pub parts : List PathTerm

module _ (X Y : Type 0) (term : X → PathTerm) (inside : X → Parts) (inside_r : Y → Parts) where
  abbrev pub parts_of_layer : PathTerm-F X Y → Parts
  parts_of_layer layer = record {
    parts = layer_parts term (λ x. (inside x).parts) (λ r.
        (inside_r r).parts) layer;
  }

  abbrev pub parts_of_layer_r : RelTerm-F X Y → Parts
  parts_of_layer_r layer = record {
    parts = layer_parts_r term (λ x. (inside x).parts) (λ r.
        (inside_r r).parts) layer;
  }

-- The parts that are complemented in the path term, those inside its relation terms too, in order: the
-- complement of number k is that of the part at k.
abbrev pub complemented_parts : PathTerm → List PathTerm
complemented_parts x =
    (rec-PathTerm Parts Parts
    (λ X Y term _ inside inside_r layer. parts_of_layer X Y term inside inside_r layer)
    (λ X Y term _ inside inside_r layer. parts_of_layer_r X Y term inside inside_r layer) x).parts

-- The parts that are complemented in the relation term, likewise.
abbrev pub complemented_parts_r : RelTerm → List PathTerm
complemented_parts_r r =
    (rec-RelTerm Parts Parts
    (λ X Y term _ inside inside_r layer. parts_of_layer X Y term inside inside_r layer)
    (λ X Y term _ inside inside_r layer. parts_of_layer_r X Y term inside inside_r layer) r).parts
