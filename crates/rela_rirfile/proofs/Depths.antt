-- How deep each form of set, relation and assertion is.
use Rattle.std.proofs.Common.{◌≡◌, ◌∙◌, ℕ, ◌+◌, max, sym, ap}
use Rattle.rela_spec.specs.declared.tree.Member.{Member}
use Rattle.rela_rirfile.specs.Depth.{set_depth, rel_depth, deepest, set_layer_depth, rel_layer_depth, tree_layer_depth}
use Rattle.rela_rirfile.specs.declared.written.AssertExpr.{AssertExpr}
use Rattle.rela_rirfile.specs.declared.written.AssertExpr.TheOpen as B
use Rattle.rela_rirfile.specs.declared.written.AssertExpr.TheVariants as A
use Rattle.rela_rirfile.specs.declared.written.AssertExpr.TheFolds.{fold-roll-AssertExpr}
use Rattle.rela_rirfile.specs.declared.written.RelExpr.{RelExpr}
use Rattle.rela_rirfile.specs.declared.written.RelExpr.TheVariants as R
use Rattle.rela_rirfile.specs.declared.written.PathExpr.{PathExpr}
use Rattle.rela_rirfile.specs.declared.written.PathExpr.TheOpen as F
use Rattle.rela_rirfile.specs.declared.written.PathExpr.TheVariants as S
use Rattle.rela_rirfile.specs.declared.written.PathExpr.TheFolds.{fold-roll-PathExpr, fold-roll-RelExpr}

pub depth_none : set_depth S.None ≡ 1
depth_none = ap set_depth (sym S.rolls-None) ∙ fold-roll-PathExpr ℕ ℕ set_layer_depth rel_layer_depth F.None

pub depth_empty : set_depth S.Empty ≡ 1
depth_empty = ap set_depth (sym S.rolls-Empty) ∙ fold-roll-PathExpr ℕ ℕ set_layer_depth rel_layer_depth F.Empty

pub depth_pre : set_depth S.Pre ≡ 1
depth_pre = ap set_depth (sym S.rolls-Pre) ∙ fold-roll-PathExpr ℕ ℕ set_layer_depth rel_layer_depth F.Pre

pub depth_post : set_depth S.Post ≡ 1
depth_post = ap set_depth (sym S.rolls-Post) ∙ fold-roll-PathExpr ℕ ℕ set_layer_depth rel_layer_depth F.Post

pub depth_all : set_depth S.All ≡ 1
depth_all = ap set_depth (sym S.rolls-All) ∙ fold-roll-PathExpr ℕ ℕ set_layer_depth rel_layer_depth F.All

pub depth_member : (m : Member) → set_depth (S.Member m) ≡ 1
depth_member m = ap set_depth (sym (S.rolls-Member m)) ∙ fold-roll-PathExpr ℕ ℕ set_layer_depth rel_layer_depth (F.Member m)

pub depth_union : (x : PathExpr) (y : PathExpr) → set_depth (S.Union x y) ≡ max (set_depth x) (set_depth y) + 1
depth_union x y = ap set_depth (sym (S.rolls-Union x y)) ∙ fold-roll-PathExpr ℕ ℕ set_layer_depth rel_layer_depth (F.PathExpr::Union x y)

pub depth_concat : (x : PathExpr) (y : PathExpr) → set_depth (S.Concat x y) ≡ max (set_depth x) (set_depth y) + 1
depth_concat x y = ap set_depth (sym (S.rolls-Concat x y)) ∙ fold-roll-PathExpr ℕ ℕ set_layer_depth rel_layer_depth (F.PathExpr::Concat x y)

pub depth_meet : (x : PathExpr) (y : PathExpr) → set_depth (S.Meet x y) ≡ max (set_depth x) (set_depth y) + 1
depth_meet x y = ap set_depth (sym (S.rolls-Meet x y)) ∙ fold-roll-PathExpr ℕ ℕ set_layer_depth rel_layer_depth (F.Meet x y)

pub depth_star : (x : PathExpr) → set_depth (S.Star x) ≡ set_depth x + 1
depth_star x = ap set_depth (sym (S.rolls-Star x)) ∙ fold-roll-PathExpr ℕ ℕ set_layer_depth rel_layer_depth (F.PathExpr::Star x)

pub depth_complement : (x : PathExpr) → set_depth (S.Complement x) ≡ set_depth x + 1
depth_complement x = ap set_depth (sym (S.rolls-Complement x)) ∙ fold-roll-PathExpr ℕ ℕ set_layer_depth rel_layer_depth (F.Complement x)

pub depth_image : (x : PathExpr) (r : RelExpr) → set_depth (S.Image x r) ≡ max (set_depth x) (rel_depth r) + 1
depth_image x r = ap set_depth (sym (S.rolls-Image x r)) ∙ fold-roll-PathExpr ℕ ℕ set_layer_depth rel_layer_depth (F.Image x r)

pub depth_identity : (x : PathExpr) → rel_depth (R.Identity x) ≡ set_depth x + 1
depth_identity x = ap rel_depth (sym (R.rolls-Identity x)) ∙ fold-roll-RelExpr ℕ ℕ set_layer_depth rel_layer_depth (F.Identity x)

pub depth_product : (x : PathExpr) (y : PathExpr) → rel_depth (R.Product x y) ≡ max (set_depth x) (set_depth y) + 1
depth_product x y = ap rel_depth (sym (R.rolls-Product x y)) ∙ fold-roll-RelExpr ℕ ℕ set_layer_depth rel_layer_depth (F.Product x y)

pub depth_rel_star : (r : RelExpr) → rel_depth (R.Star r) ≡ rel_depth r + 1
depth_rel_star r = ap rel_depth (sym (R.rolls-Star r)) ∙ fold-roll-RelExpr ℕ ℕ set_layer_depth rel_layer_depth (F.RelExpr::Star r)

pub depth_rel_union : (r : RelExpr) (s : RelExpr) → rel_depth (R.Union r s) ≡ max (rel_depth r) (rel_depth s) + 1
depth_rel_union r s = ap rel_depth (sym (R.rolls-Union r s)) ∙ fold-roll-RelExpr ℕ ℕ set_layer_depth rel_layer_depth (F.RelExpr::Union r s)

pub depth_rel_concat : (r : RelExpr) (s : RelExpr) → rel_depth (R.Concat r s) ≡ max (rel_depth r) (rel_depth s) + 1
depth_rel_concat r s = ap rel_depth (sym (R.rolls-Concat r s)) ∙ fold-roll-RelExpr ℕ ℕ set_layer_depth rel_layer_depth (F.RelExpr::Concat r s)

pub depth_rel_compose : (r : RelExpr) (s : RelExpr) → rel_depth (R.Compose r s) ≡ max (rel_depth r) (rel_depth s) + 1
depth_rel_compose r s = ap rel_depth (sym (R.rolls-Compose r s)) ∙ fold-roll-RelExpr ℕ ℕ set_layer_depth rel_layer_depth (F.Compose r s)

pub deepest_equal : (x : PathExpr) (y : PathExpr) → deepest (A.Equal x y) ≡ max (set_depth x) (set_depth y)
deepest_equal x y = ap deepest (sym (A.rolls-Equal x y)) ∙ fold-roll-AssertExpr ℕ tree_layer_depth (B.Equal x y)

pub deepest_included : (x : PathExpr) (y : PathExpr) → deepest (A.Included x y) ≡ max (set_depth x) (set_depth y)
deepest_included x y = ap deepest (sym (A.rolls-Included x y)) ∙ fold-roll-AssertExpr ℕ tree_layer_depth (B.Included x y)

pub deepest_and : (m : AssertExpr) (n : AssertExpr) → deepest (A.And m n) ≡ max (deepest m) (deepest n)
deepest_and m n = ap deepest (sym (A.rolls-And m n)) ∙ fold-roll-AssertExpr ℕ tree_layer_depth (B.And m n)

pub deepest_or : (m : AssertExpr) (n : AssertExpr) → deepest (A.Or m n) ≡ max (deepest m) (deepest n)
deepest_or m n = ap deepest (sym (A.rolls-Or m n)) ∙ fold-roll-AssertExpr ℕ tree_layer_depth (B.Or m n)

pub deepest_not : (m : AssertExpr) → deepest (A.Not m) ≡ deepest m
deepest_not m = ap deepest (sym (A.rolls-Not m)) ∙ fold-roll-AssertExpr ℕ tree_layer_depth (B.Not m)

pub ruleset depth_forms = (depth_none, depth_empty, depth_pre, depth_post, depth_all, depth_member, depth_union, depth_concat, depth_meet, depth_star, depth_complement, depth_image, depth_identity, depth_product, depth_rel_star, depth_rel_union, depth_rel_concat, depth_rel_compose, deepest_equal, deepest_included, deepest_and, deepest_or, deepest_not)
