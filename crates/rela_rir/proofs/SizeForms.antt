-- How many nodes each form of term has and how deep it is.
use Rattle.std.proofs.Common.{◌≡◌, ◌∙◌, ℕ, ◌+◌, max, sym, ap}
use Rattle.rela_rir.specs.Size.{nodes_of_path, nodes_of_rel, depth_of_path, depth_of_rel, layer_nodes, layer_nodes_rel, layer_depth, layer_depth_rel}
use Rattle.rela_rir.specs.declared.term.PathTerm.{PathTerm}
use Rattle.rela_rir.specs.declared.term.RelTerm.{RelTerm}
use Rattle.rela_rir.specs.declared.term.PathTerm.TheOpen as F
use Rattle.rela_rir.specs.declared.term.PathTerm.TheVariants as P
use Rattle.rela_rir.specs.declared.term.RelTerm.TheVariants as R
use Rattle.rela_rir.specs.declared.term.PathTerm.TheViews.{roll-PathTerm, roll-RelTerm}
use Rattle.rela_rir.specs.declared.term.PathTerm.TheFolds.{map-PathTerm, map-RelTerm, fold-roll-PathTerm, fold-roll-RelTerm}

pub nodes_roll : (x : F.PathTerm-F PathTerm RelTerm) → nodes_of_path (roll-PathTerm x) ≡ layer_nodes (map-PathTerm PathTerm RelTerm ℕ ℕ nodes_of_path nodes_of_rel x)
nodes_roll x = fold-roll-PathTerm ℕ ℕ layer_nodes layer_nodes_rel x

pub nodes_roll_r : (x : F.RelTerm-F PathTerm RelTerm) → nodes_of_rel (roll-RelTerm x) ≡ layer_nodes_rel (map-RelTerm PathTerm RelTerm ℕ ℕ nodes_of_path nodes_of_rel x)
nodes_roll_r x = fold-roll-RelTerm ℕ ℕ layer_nodes layer_nodes_rel x

pub depth_roll : (x : F.PathTerm-F PathTerm RelTerm) → depth_of_path (roll-PathTerm x) ≡ layer_depth (map-PathTerm PathTerm RelTerm ℕ ℕ depth_of_path depth_of_rel x)
depth_roll x = fold-roll-PathTerm ℕ ℕ layer_depth layer_depth_rel x

pub depth_roll_r : (x : F.RelTerm-F PathTerm RelTerm) → depth_of_rel (roll-RelTerm x) ≡ layer_depth_rel (map-RelTerm PathTerm RelTerm ℕ ℕ depth_of_path depth_of_rel x)
depth_roll_r x = fold-roll-RelTerm ℕ ℕ layer_depth layer_depth_rel x

pub nodes_none : nodes_of_path P.None ≡ 1
nodes_none = ap nodes_of_path (sym P.rolls-None) ∙ nodes_roll F.None

pub depth_none : depth_of_path P.None ≡ 1
depth_none = ap depth_of_path (sym P.rolls-None) ∙ depth_roll F.None

pub nodes_empty : nodes_of_path P.Empty ≡ 1
nodes_empty = ap nodes_of_path (sym P.rolls-Empty) ∙ nodes_roll F.Empty

pub depth_empty : depth_of_path P.Empty ≡ 1
depth_empty = ap depth_of_path (sym P.rolls-Empty) ∙ depth_roll F.Empty

pub nodes_class : (k : ℕ) → nodes_of_path (P.Class k) ≡ 1
nodes_class k = ap nodes_of_path (sym (P.rolls-Class k)) ∙ nodes_roll (F.Class k)

pub depth_class : (k : ℕ) → depth_of_path (P.Class k) ≡ 1
depth_class k = ap depth_of_path (sym (P.rolls-Class k)) ∙ depth_roll (F.Class k)

pub nodes_one : (s : ℕ) → nodes_of_path (P.One s) ≡ 1
nodes_one s = ap nodes_of_path (sym (P.rolls-One s)) ∙ nodes_roll (F.One s)

pub depth_one : (s : ℕ) → depth_of_path (P.One s) ≡ 1
depth_one s = ap depth_of_path (sym (P.rolls-One s)) ∙ depth_roll (F.One s)

pub nodes_union : (x y : PathTerm) → nodes_of_path (P.Union x y) ≡ nodes_of_path x + nodes_of_path y + 1
nodes_union x y = ap nodes_of_path (sym (P.rolls-Union x y)) ∙ nodes_roll (F.PathTerm::Union x y)

pub depth_union : (x y : PathTerm) → depth_of_path (P.Union x y) ≡ max (depth_of_path x) (depth_of_path y) + 1
depth_union x y = ap depth_of_path (sym (P.rolls-Union x y)) ∙ depth_roll (F.PathTerm::Union x y)

pub nodes_concat : (x y : PathTerm) → nodes_of_path (P.Concat x y) ≡ nodes_of_path x + nodes_of_path y + 1
nodes_concat x y = ap nodes_of_path (sym (P.rolls-Concat x y)) ∙ nodes_roll (F.PathTerm::Concat x y)

pub depth_concat : (x y : PathTerm) → depth_of_path (P.Concat x y) ≡ max (depth_of_path x) (depth_of_path y) + 1
depth_concat x y = ap depth_of_path (sym (P.rolls-Concat x y)) ∙ depth_roll (F.PathTerm::Concat x y)

pub nodes_star : (x : PathTerm) → nodes_of_path (P.Star x) ≡ nodes_of_path x + 1
nodes_star x = ap nodes_of_path (sym (P.rolls-Star x)) ∙ nodes_roll (F.PathTerm::Star x)

pub depth_star : (x : PathTerm) → depth_of_path (P.Star x) ≡ depth_of_path x + 1
depth_star x = ap depth_of_path (sym (P.rolls-Star x)) ∙ depth_roll (F.PathTerm::Star x)

pub nodes_meet : (x y : PathTerm) → nodes_of_path (P.Meet x y) ≡ nodes_of_path x + nodes_of_path y + 1
nodes_meet x y = ap nodes_of_path (sym (P.rolls-Meet x y)) ∙ nodes_roll (F.Meet x y)

pub depth_meet : (x y : PathTerm) → depth_of_path (P.Meet x y) ≡ max (depth_of_path x) (depth_of_path y) + 1
depth_meet x y = ap depth_of_path (sym (P.rolls-Meet x y)) ∙ depth_roll (F.Meet x y)

pub nodes_complement : (x : PathTerm) → nodes_of_path (P.Complement x) ≡ nodes_of_path x + 1
nodes_complement x = ap nodes_of_path (sym (P.rolls-Complement x)) ∙ nodes_roll (F.Complement x)

pub depth_complement : (x : PathTerm) → depth_of_path (P.Complement x) ≡ depth_of_path x + 1
depth_complement x = ap depth_of_path (sym (P.rolls-Complement x)) ∙ depth_roll (F.Complement x)

pub nodes_pre : nodes_of_path P.Pre ≡ 1
nodes_pre = ap nodes_of_path (sym P.rolls-Pre) ∙ nodes_roll F.Pre

pub depth_pre : depth_of_path P.Pre ≡ 1
depth_pre = ap depth_of_path (sym P.rolls-Pre) ∙ depth_roll F.Pre

pub nodes_post : nodes_of_path P.Post ≡ 1
nodes_post = ap nodes_of_path (sym P.rolls-Post) ∙ nodes_roll F.Post

pub depth_post : depth_of_path P.Post ≡ 1
depth_post = ap depth_of_path (sym P.rolls-Post) ∙ depth_roll F.Post

pub nodes_image : (x : PathTerm) (r : RelTerm) → nodes_of_path (P.Image x r) ≡ nodes_of_path x + nodes_of_rel r + 1
nodes_image x r = ap nodes_of_path (sym (P.rolls-Image x r)) ∙ nodes_roll (F.Image x r)

pub depth_image : (x : PathTerm) (r : RelTerm) → depth_of_path (P.Image x r) ≡ max (depth_of_path x) (depth_of_rel r) + 1
depth_image x r = ap depth_of_path (sym (P.rolls-Image x r)) ∙ depth_roll (F.Image x r)

pub nodes_identity_r : (x : PathTerm) → nodes_of_rel (R.Identity x) ≡ nodes_of_path x + 1
nodes_identity_r x = ap nodes_of_rel (sym (R.rolls-Identity x)) ∙ nodes_roll_r (F.Identity x)

pub depth_identity_r : (x : PathTerm) → depth_of_rel (R.Identity x) ≡ depth_of_path x + 1
depth_identity_r x = ap depth_of_rel (sym (R.rolls-Identity x)) ∙ depth_roll_r (F.Identity x)

pub nodes_product_r : (x y : PathTerm) → nodes_of_rel (R.Product x y) ≡ nodes_of_path x + nodes_of_path y + 1
nodes_product_r x y = ap nodes_of_rel (sym (R.rolls-Product x y)) ∙ nodes_roll_r (F.Product x y)

pub depth_product_r : (x y : PathTerm) → depth_of_rel (R.Product x y) ≡ max (depth_of_path x) (depth_of_path y) + 1
depth_product_r x y = ap depth_of_rel (sym (R.rolls-Product x y)) ∙ depth_roll_r (F.Product x y)

pub nodes_union_r : (r s : RelTerm) → nodes_of_rel (R.Union r s) ≡ nodes_of_rel r + nodes_of_rel s + 1
nodes_union_r r s = ap nodes_of_rel (sym (R.rolls-Union r s)) ∙ nodes_roll_r (F.RelTerm::Union r s)

pub depth_union_r : (r s : RelTerm) → depth_of_rel (R.Union r s) ≡ max (depth_of_rel r) (depth_of_rel s) + 1
depth_union_r r s = ap depth_of_rel (sym (R.rolls-Union r s)) ∙ depth_roll_r (F.RelTerm::Union r s)

pub nodes_concat_r : (r s : RelTerm) → nodes_of_rel (R.Concat r s) ≡ nodes_of_rel r + nodes_of_rel s + 1
nodes_concat_r r s = ap nodes_of_rel (sym (R.rolls-Concat r s)) ∙ nodes_roll_r (F.RelTerm::Concat r s)

pub depth_concat_r : (r s : RelTerm) → depth_of_rel (R.Concat r s) ≡ max (depth_of_rel r) (depth_of_rel s) + 1
depth_concat_r r s = ap depth_of_rel (sym (R.rolls-Concat r s)) ∙ depth_roll_r (F.RelTerm::Concat r s)

pub nodes_star_r : (r : RelTerm) → nodes_of_rel (R.Star r) ≡ nodes_of_rel r + 1
nodes_star_r r = ap nodes_of_rel (sym (R.rolls-Star r)) ∙ nodes_roll_r (F.RelTerm::Star r)

pub depth_star_r : (r : RelTerm) → depth_of_rel (R.Star r) ≡ depth_of_rel r + 1
depth_star_r r = ap depth_of_rel (sym (R.rolls-Star r)) ∙ depth_roll_r (F.RelTerm::Star r)

pub nodes_compose_r : (r s : RelTerm) → nodes_of_rel (R.Compose r s) ≡ nodes_of_rel r + nodes_of_rel s + 1
nodes_compose_r r s = ap nodes_of_rel (sym (R.rolls-Compose r s)) ∙ nodes_roll_r (F.Compose r s)

pub depth_compose_r : (r s : RelTerm) → depth_of_rel (R.Compose r s) ≡ max (depth_of_rel r) (depth_of_rel s) + 1
depth_compose_r r s = ap depth_of_rel (sym (R.rolls-Compose r s)) ∙ depth_roll_r (F.Compose r s)

pub ruleset size_forms = (nodes_none, nodes_empty, nodes_class, nodes_one, nodes_union, nodes_concat, nodes_star, nodes_meet, nodes_complement, nodes_pre, nodes_post, nodes_image, nodes_identity_r, nodes_product_r, nodes_union_r, nodes_concat_r, nodes_star_r, nodes_compose_r, depth_none, depth_empty, depth_class, depth_one, depth_union, depth_concat, depth_star, depth_meet, depth_complement, depth_pre, depth_post, depth_image, depth_identity_r, depth_product_r, depth_union_r, depth_concat_r, depth_star_r, depth_compose_r)

pub ruleset depth_forms = (depth_none, depth_empty, depth_class, depth_one, depth_union, depth_concat, depth_star, depth_meet, depth_complement, depth_pre, depth_post, depth_image, depth_identity_r, depth_product_r, depth_union_r, depth_concat_r, depth_star_r, depth_compose_r)
