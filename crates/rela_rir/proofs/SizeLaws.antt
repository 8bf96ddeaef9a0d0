-- A term has at least as many nodes as it is deep, by induction on terms.
use Rattle.std.proofs.Common.{◌≤◌, subst, arith}
use Rattle.rela_rir.specs.Size.{nodes_of_path, nodes_of_rel, depth_of_path, depth_of_rel}
use Rattle.rela_rir.proofs.SizeForms.{nodes_roll, nodes_roll_r, depth_roll, depth_roll_r}
use Rattle.rela_rir.specs.declared.term.PathTerm.{PathTerm}
use Rattle.rela_rir.specs.declared.term.RelTerm.{RelTerm}
use Rattle.rela_rir.specs.declared.term.PathTerm.TheOpen as F
use Rattle.rela_rir.specs.declared.term.PathTerm.TheViews.{roll-PathTerm, roll-RelTerm}
use Rattle.rela_rir.specs.declared.term.PathTerm.TheFolds.{map-PathTerm, map-RelTerm, ind-PathTerm, ind-RelTerm}

abbrev Fits : PathTerm → Type 0
Fits x = depth_of_path x ≤ nodes_of_path x

abbrev FitsR : RelTerm → Type 0
FitsR r = depth_of_rel r ≤ nodes_of_rel r

abbrev Path : Type 0
Path = (x : PathTerm) × Fits x

abbrev Relation : Type 0
Relation = (r : RelTerm) × FitsR r

abbrev plain : F.PathTerm-F Path Relation → F.PathTerm-F PathTerm RelTerm
plain y = map-PathTerm Path Relation PathTerm RelTerm (λ e. e.0) (λ e. e.0) y

abbrev plain_r : F.RelTerm-F Path Relation → F.RelTerm-F PathTerm RelTerm
plain_r y = map-RelTerm Path Relation PathTerm RelTerm (λ e. e.0) (λ e. e.0) y

layer_fits : (y : F.PathTerm-F Path Relation) → Fits (roll-PathTerm (plain y))
layer_fits F.None = omega (arith, depth_roll F.None, nodes_roll F.None)
layer_fits F.Empty = omega (arith, depth_roll F.Empty, nodes_roll F.Empty)
layer_fits (F.Class k) = omega (arith, depth_roll (F.Class k), nodes_roll (F.Class k))
layer_fits (F.One s) = omega (arith, depth_roll (F.One s), nodes_roll (F.One s))
layer_fits (F.PathTerm::Union a b) = omega (arith, depth_roll (F.PathTerm::Union a.0 b.0), nodes_roll (F.PathTerm::Union a.0 b.0), a.1, b.1)
layer_fits (F.PathTerm::Concat a b) = omega (arith, depth_roll (F.PathTerm::Concat a.0 b.0), nodes_roll (F.PathTerm::Concat a.0 b.0), a.1, b.1)
layer_fits (F.PathTerm::Star a) = omega (arith, depth_roll (F.PathTerm::Star a.0), nodes_roll (F.PathTerm::Star a.0), a.1)
layer_fits (F.Meet a b) = omega (arith, depth_roll (F.Meet a.0 b.0), nodes_roll (F.Meet a.0 b.0), a.1, b.1)
layer_fits (F.Complement a) = omega (arith, depth_roll (F.Complement a.0), nodes_roll (F.Complement a.0), a.1)
layer_fits F.Pre = omega (arith, depth_roll F.Pre, nodes_roll F.Pre)
layer_fits F.Post = omega (arith, depth_roll F.Post, nodes_roll F.Post)
layer_fits (F.Image a r) = omega (arith, depth_roll (F.Image a.0 r.0), nodes_roll (F.Image a.0 r.0), a.1, r.1)

layer_fits_r : (y : F.RelTerm-F Path Relation) → FitsR (roll-RelTerm (plain_r y))
layer_fits_r (F.Identity a) = omega (arith, depth_roll_r (F.Identity a.0), nodes_roll_r (F.Identity a.0), a.1)
layer_fits_r (F.Product a b) = omega (arith, depth_roll_r (F.Product a.0 b.0), nodes_roll_r (F.Product a.0 b.0), a.1, b.1)
layer_fits_r (F.RelTerm::Union r s) = omega (arith, depth_roll_r (F.RelTerm::Union r.0 s.0), nodes_roll_r (F.RelTerm::Union r.0 s.0), r.1, s.1)
layer_fits_r (F.RelTerm::Concat r s) = omega (arith, depth_roll_r (F.RelTerm::Concat r.0 s.0), nodes_roll_r (F.RelTerm::Concat r.0 s.0), r.1, s.1)
layer_fits_r (F.RelTerm::Star r) = omega (arith, depth_roll_r (F.RelTerm::Star r.0), nodes_roll_r (F.RelTerm::Star r.0), r.1)
layer_fits_r (F.Compose r s) = omega (arith, depth_roll_r (F.Compose r.0 s.0), nodes_roll_r (F.Compose r.0 s.0), r.1, s.1)

pub fits : (x : PathTerm) → depth_of_path x ≤ nodes_of_path x
fits = ind-PathTerm Fits FitsR (λ x y is. subst (λ z. Fits (roll-PathTerm z)) is (layer_fits y)) (λ x y is. subst (λ z. FitsR (roll-RelTerm z)) is (layer_fits_r y))

pub fits_r : (r : RelTerm) → depth_of_rel r ≤ nodes_of_rel r
fits_r = ind-RelTerm Fits FitsR (λ x y is. subst (λ z. Fits (roll-PathTerm z)) is (layer_fits y)) (λ x y is. subst (λ z. FitsR (roll-RelTerm z)) is (layer_fits_r y))
