-- How large what each form of set, relation and assertion becomes is.
use Rattle.std.proofs.Common.{◌≡◌, ◌∙◌, ℕ, ◌+◌, sym, ap}
use Rattle.rela_spec.specs.declared.tree.Member.{Member}
use Rattle.rela_rirfile.specs.declared.written.AssertExpr.{AssertExpr}
use Rattle.rela_rirfile.specs.declared.written.AssertExpr.TheOpen as B
use Rattle.rela_rirfile.specs.declared.written.AssertExpr.TheVariants as A
use Rattle.rela_rirfile.specs.declared.written.AssertExpr.TheFolds.{fold-roll-AssertExpr}
use Rattle.rela_rirfile.specs.declared.written.RelExpr.{RelExpr}
use Rattle.rela_rirfile.specs.declared.written.RelExpr.TheVariants as R
use Rattle.rela_rirfile.specs.declared.written.PathExpr.{PathExpr}
use Rattle.rela_rirfile.specs.declared.written.PathExpr.TheOpen as F
use Rattle.rela_rirfile.specs.declared.written.PathExpr.TheVariants as S
use Rattle.rela_rirfile.specs.declared.written.PathExpr.TheFolds.{fold-roll-PathExpr, fold-roll-RelExpr}
use Rattle.rela_claims.specs.Sizes.{rel_layer_size, set_layer_size, size_of_rel, size_of_set, size_of_tree, tree_layer_size}

pub count_none : size_of_set S.None ≡ 1
count_none = ap size_of_set (sym S.rolls-None) ∙ fold-roll-PathExpr ℕ ℕ set_layer_size rel_layer_size F.None

pub count_empty : size_of_set S.Empty ≡ 1
count_empty = ap size_of_set (sym S.rolls-Empty) ∙ fold-roll-PathExpr ℕ ℕ set_layer_size rel_layer_size F.Empty

pub count_pre : size_of_set S.Pre ≡ 1
count_pre = ap size_of_set (sym S.rolls-Pre) ∙ fold-roll-PathExpr ℕ ℕ set_layer_size rel_layer_size F.Pre

pub count_post : size_of_set S.Post ≡ 1
count_post = ap size_of_set (sym S.rolls-Post) ∙ fold-roll-PathExpr ℕ ℕ set_layer_size rel_layer_size F.Post

pub count_all : size_of_set S.All ≡ 1
count_all = ap size_of_set (sym S.rolls-All) ∙ fold-roll-PathExpr ℕ ℕ set_layer_size rel_layer_size F.All

pub count_member : (m : Member) → size_of_set (S.Member m) ≡ 1
count_member m = ap size_of_set (sym (S.rolls-Member m)) ∙ fold-roll-PathExpr ℕ ℕ set_layer_size rel_layer_size (F.Member m)

pub count_union : (x : PathExpr) (y : PathExpr) → size_of_set (S.Union x y) ≡ size_of_set x + size_of_set y + 1
count_union x y = ap size_of_set (sym (S.rolls-Union x y)) ∙ fold-roll-PathExpr ℕ ℕ set_layer_size rel_layer_size (F.PathExpr::Union x y)

pub count_concat : (x : PathExpr) (y : PathExpr) → size_of_set (S.Concat x y) ≡ size_of_set x + size_of_set y + 1
count_concat x y = ap size_of_set (sym (S.rolls-Concat x y)) ∙ fold-roll-PathExpr ℕ ℕ set_layer_size rel_layer_size (F.PathExpr::Concat x y)

pub count_meet : (x : PathExpr) (y : PathExpr) → size_of_set (S.Meet x y) ≡ size_of_set x + size_of_set y + 1
count_meet x y = ap size_of_set (sym (S.rolls-Meet x y)) ∙ fold-roll-PathExpr ℕ ℕ set_layer_size rel_layer_size (F.Meet x y)

pub count_star : (x : PathExpr) → size_of_set (S.Star x) ≡ size_of_set x + 1
count_star x = ap size_of_set (sym (S.rolls-Star x)) ∙ fold-roll-PathExpr ℕ ℕ set_layer_size rel_layer_size (F.PathExpr::Star x)

pub count_complement : (x : PathExpr) → size_of_set (S.Complement x) ≡ size_of_set x + 1
count_complement x = ap size_of_set (sym (S.rolls-Complement x)) ∙ fold-roll-PathExpr ℕ ℕ set_layer_size rel_layer_size (F.Complement x)

pub count_image : (x : PathExpr) (r : RelExpr) → size_of_set (S.Image x r) ≡ size_of_set x + size_of_rel r + 1
count_image x r = ap size_of_set (sym (S.rolls-Image x r)) ∙ fold-roll-PathExpr ℕ ℕ set_layer_size rel_layer_size (F.Image x r)

pub count_identity : (x : PathExpr) → size_of_rel (R.Identity x) ≡ size_of_set x + 1
count_identity x = ap size_of_rel (sym (R.rolls-Identity x)) ∙ fold-roll-RelExpr ℕ ℕ set_layer_size rel_layer_size (F.Identity x)

pub count_product : (x : PathExpr) (y : PathExpr) → size_of_rel (R.Product x y) ≡ size_of_set x + size_of_set y + 1
count_product x y = ap size_of_rel (sym (R.rolls-Product x y)) ∙ fold-roll-RelExpr ℕ ℕ set_layer_size rel_layer_size (F.Product x y)

pub count_rel_star : (r : RelExpr) → size_of_rel (R.Star r) ≡ size_of_rel r + 1
count_rel_star r = ap size_of_rel (sym (R.rolls-Star r)) ∙ fold-roll-RelExpr ℕ ℕ set_layer_size rel_layer_size (F.RelExpr::Star r)

pub count_rel_union : (r : RelExpr) (s : RelExpr) → size_of_rel (R.Union r s) ≡ size_of_rel r + size_of_rel s + 1
count_rel_union r s = ap size_of_rel (sym (R.rolls-Union r s)) ∙ fold-roll-RelExpr ℕ ℕ set_layer_size rel_layer_size (F.RelExpr::Union r s)

pub count_rel_concat : (r : RelExpr) (s : RelExpr) → size_of_rel (R.Concat r s) ≡ size_of_rel r + size_of_rel s + 1
count_rel_concat r s = ap size_of_rel (sym (R.rolls-Concat r s)) ∙ fold-roll-RelExpr ℕ ℕ set_layer_size rel_layer_size (F.RelExpr::Concat r s)

pub count_compose : (r : RelExpr) (s : RelExpr) → size_of_rel (R.Compose r s) ≡ size_of_rel r + size_of_rel s + 1
count_compose r s = ap size_of_rel (sym (R.rolls-Compose r s)) ∙ fold-roll-RelExpr ℕ ℕ set_layer_size rel_layer_size (F.Compose r s)

pub count_equal : (x : PathExpr) (y : PathExpr) → size_of_tree (A.Equal x y) ≡ size_of_set x + size_of_set y
count_equal x y = ap size_of_tree (sym (A.rolls-Equal x y)) ∙ fold-roll-AssertExpr ℕ tree_layer_size (B.Equal x y)

pub count_included : (x : PathExpr) (y : PathExpr) → size_of_tree (A.Included x y) ≡ size_of_set x + size_of_set y
count_included x y = ap size_of_tree (sym (A.rolls-Included x y)) ∙ fold-roll-AssertExpr ℕ tree_layer_size (B.Included x y)

pub count_and : (a : AssertExpr) (b : AssertExpr) → size_of_tree (A.And a b) ≡ size_of_tree a + size_of_tree b
count_and a b = ap size_of_tree (sym (A.rolls-And a b)) ∙ fold-roll-AssertExpr ℕ tree_layer_size (B.And a b)

pub count_or : (a : AssertExpr) (b : AssertExpr) → size_of_tree (A.Or a b) ≡ size_of_tree a + size_of_tree b
count_or a b = ap size_of_tree (sym (A.rolls-Or a b)) ∙ fold-roll-AssertExpr ℕ tree_layer_size (B.Or a b)

pub count_not : (a : AssertExpr) → size_of_tree (A.Not a) ≡ size_of_tree a
count_not a = ap size_of_tree (sym (A.rolls-Not a)) ∙ fold-roll-AssertExpr ℕ tree_layer_size (B.Not a)

pub ruleset count_forms = (count_none, count_empty, count_pre, count_post, count_all, count_member, count_union, count_concat, count_meet, count_star, count_complement, count_image, count_identity, count_product, count_rel_star, count_rel_union, count_rel_concat, count_compose, count_equal, count_included, count_and, count_or, count_not)
