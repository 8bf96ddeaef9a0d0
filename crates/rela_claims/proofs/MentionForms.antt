-- Which classes each form of set, relation and assertion mentions.
use Rattle.std.proofs.Common.{◌≡◌, ◌∙◌, List, [], ◌∷◌, ◌++◌, sym, ap}
use Rattle.rela_names.specs.declared.level.Level.{Level}
use Rattle.rela_spec.specs.declared.tree.Member.{Member}
use Rattle.rela_rirfile.specs.declared.written.AssertExpr.{AssertExpr}
use Rattle.rela_rirfile.specs.declared.written.AssertExpr.TheOpen as B
use Rattle.rela_rirfile.specs.declared.written.AssertExpr.TheVariants as A
use Rattle.rela_rirfile.specs.declared.written.AssertExpr.TheFolds.{fold-roll-AssertExpr}
use Rattle.rela_rirfile.specs.declared.written.RelExpr.{RelExpr}
use Rattle.rela_rirfile.specs.declared.written.RelExpr.TheVariants as R
use Rattle.rela_rirfile.specs.declared.written.PathExpr.{PathExpr}
use Rattle.rela_rirfile.specs.declared.written.PathExpr.TheOpen as F
use Rattle.rela_rirfile.specs.declared.written.PathExpr.TheVariants as S
use Rattle.rela_rirfile.specs.declared.written.PathExpr.TheFolds.{fold-roll-PathExpr, fold-roll-RelExpr}
use Rattle.rela_claims.specs.Classes.{Mention, mention_of, mention_of_all}
use Rattle.rela_claims.specs.Terms.{mentions_in, mentions_in_set, mentions_in_rel, set_layer_mentions, rel_layer_mentions, tree_layer_mentions}

pub mentions_of_none : (level : Level) → mentions_in_set level S.None ≡ []
mentions_of_none level = ap (mentions_in_set level) (sym S.rolls-None) ∙ fold-roll-PathExpr (List Mention) (List Mention) (set_layer_mentions level) rel_layer_mentions F.None

pub mentions_of_empty : (level : Level) → mentions_in_set level S.Empty ≡ []
mentions_of_empty level = ap (mentions_in_set level) (sym S.rolls-Empty) ∙ fold-roll-PathExpr (List Mention) (List Mention) (set_layer_mentions level) rel_layer_mentions F.Empty

pub mentions_of_pre : (level : Level) → mentions_in_set level S.Pre ≡ []
mentions_of_pre level = ap (mentions_in_set level) (sym S.rolls-Pre) ∙ fold-roll-PathExpr (List Mention) (List Mention) (set_layer_mentions level) rel_layer_mentions F.Pre

pub mentions_of_post : (level : Level) → mentions_in_set level S.Post ≡ []
mentions_of_post level = ap (mentions_in_set level) (sym S.rolls-Post) ∙ fold-roll-PathExpr (List Mention) (List Mention) (set_layer_mentions level) rel_layer_mentions F.Post

pub mentions_of_all : (level : Level) → mentions_in_set level S.All ≡ mention_of_all ∷ []
mentions_of_all level = ap (mentions_in_set level) (sym S.rolls-All) ∙ fold-roll-PathExpr (List Mention) (List Mention) (set_layer_mentions level) rel_layer_mentions F.All

pub mentions_of_member : (level : Level) (m : Member) → mentions_in_set level (S.Member m) ≡ mention_of level m ∷ []
mentions_of_member level m = ap (mentions_in_set level) (sym (S.rolls-Member m)) ∙ fold-roll-PathExpr (List Mention) (List Mention) (set_layer_mentions level) rel_layer_mentions (F.Member m)

pub mentions_of_union : (level : Level) (x : PathExpr) (y : PathExpr) → mentions_in_set level (S.Union x y) ≡ mentions_in_set level x ++ mentions_in_set level y
mentions_of_union level x y = ap (mentions_in_set level) (sym (S.rolls-Union x y)) ∙ fold-roll-PathExpr (List Mention) (List Mention) (set_layer_mentions level) rel_layer_mentions (F.PathExpr::Union x y)

pub mentions_of_concat : (level : Level) (x : PathExpr) (y : PathExpr) → mentions_in_set level (S.Concat x y) ≡ mentions_in_set level x ++ mentions_in_set level y
mentions_of_concat level x y = ap (mentions_in_set level) (sym (S.rolls-Concat x y)) ∙ fold-roll-PathExpr (List Mention) (List Mention) (set_layer_mentions level) rel_layer_mentions (F.PathExpr::Concat x y)

pub mentions_of_meet : (level : Level) (x : PathExpr) (y : PathExpr) → mentions_in_set level (S.Meet x y) ≡ mentions_in_set level x ++ mentions_in_set level y
mentions_of_meet level x y = ap (mentions_in_set level) (sym (S.rolls-Meet x y)) ∙ fold-roll-PathExpr (List Mention) (List Mention) (set_layer_mentions level) rel_layer_mentions (F.Meet x y)

pub mentions_of_star : (level : Level) (x : PathExpr) → mentions_in_set level (S.Star x) ≡ mentions_in_set level x
mentions_of_star level x = ap (mentions_in_set level) (sym (S.rolls-Star x)) ∙ fold-roll-PathExpr (List Mention) (List Mention) (set_layer_mentions level) rel_layer_mentions (F.PathExpr::Star x)

pub mentions_of_complement : (level : Level) (x : PathExpr) → mentions_in_set level (S.Complement x) ≡ mentions_in_set level x
mentions_of_complement level x = ap (mentions_in_set level) (sym (S.rolls-Complement x)) ∙ fold-roll-PathExpr (List Mention) (List Mention) (set_layer_mentions level) rel_layer_mentions (F.Complement x)

pub mentions_of_image : (level : Level) (x : PathExpr) (r : RelExpr) → mentions_in_set level (S.Image x r) ≡ mentions_in_set level x ++ mentions_in_rel level r
mentions_of_image level x r = ap (mentions_in_set level) (sym (S.rolls-Image x r)) ∙ fold-roll-PathExpr (List Mention) (List Mention) (set_layer_mentions level) rel_layer_mentions (F.Image x r)

pub mentions_of_identity : (level : Level) (x : PathExpr) → mentions_in_rel level (R.Identity x) ≡ mentions_in_set level x
mentions_of_identity level x = ap (mentions_in_rel level) (sym (R.rolls-Identity x)) ∙ fold-roll-RelExpr (List Mention) (List Mention) (set_layer_mentions level) rel_layer_mentions (F.Identity x)

pub mentions_of_product : (level : Level) (x : PathExpr) (y : PathExpr) → mentions_in_rel level (R.Product x y) ≡ mentions_in_set level x ++ mentions_in_set level y
mentions_of_product level x y = ap (mentions_in_rel level) (sym (R.rolls-Product x y)) ∙ fold-roll-RelExpr (List Mention) (List Mention) (set_layer_mentions level) rel_layer_mentions (F.Product x y)

pub mentions_of_rel_star : (level : Level) (r : RelExpr) → mentions_in_rel level (R.Star r) ≡ mentions_in_rel level r
mentions_of_rel_star level r = ap (mentions_in_rel level) (sym (R.rolls-Star r)) ∙ fold-roll-RelExpr (List Mention) (List Mention) (set_layer_mentions level) rel_layer_mentions (F.RelExpr::Star r)

pub mentions_of_rel_union : (level : Level) (r : RelExpr) (s : RelExpr) → mentions_in_rel level (R.Union r s) ≡ mentions_in_rel level r ++ mentions_in_rel level s
mentions_of_rel_union level r s = ap (mentions_in_rel level) (sym (R.rolls-Union r s)) ∙ fold-roll-RelExpr (List Mention) (List Mention) (set_layer_mentions level) rel_layer_mentions (F.RelExpr::Union r s)

pub mentions_of_rel_concat : (level : Level) (r : RelExpr) (s : RelExpr) → mentions_in_rel level (R.Concat r s) ≡ mentions_in_rel level r ++ mentions_in_rel level s
mentions_of_rel_concat level r s = ap (mentions_in_rel level) (sym (R.rolls-Concat r s)) ∙ fold-roll-RelExpr (List Mention) (List Mention) (set_layer_mentions level) rel_layer_mentions (F.RelExpr::Concat r s)

pub mentions_of_compose : (level : Level) (r : RelExpr) (s : RelExpr) → mentions_in_rel level (R.Compose r s) ≡ mentions_in_rel level r ++ mentions_in_rel level s
mentions_of_compose level r s = ap (mentions_in_rel level) (sym (R.rolls-Compose r s)) ∙ fold-roll-RelExpr (List Mention) (List Mention) (set_layer_mentions level) rel_layer_mentions (F.Compose r s)

pub mentions_of_equal : (level : Level) (x : PathExpr) (y : PathExpr) → mentions_in level (A.Equal x y) ≡ mentions_in_set level x ++ mentions_in_set level y
mentions_of_equal level x y = ap (mentions_in level) (sym (A.rolls-Equal x y)) ∙ fold-roll-AssertExpr (List Mention) (tree_layer_mentions level) (B.Equal x y)

pub mentions_of_included : (level : Level) (x : PathExpr) (y : PathExpr) → mentions_in level (A.Included x y) ≡ mentions_in_set level x ++ mentions_in_set level y
mentions_of_included level x y = ap (mentions_in level) (sym (A.rolls-Included x y)) ∙ fold-roll-AssertExpr (List Mention) (tree_layer_mentions level) (B.Included x y)

pub mentions_of_and : (level : Level) (a : AssertExpr) (b : AssertExpr) → mentions_in level (A.And a b) ≡ mentions_in level a ++ mentions_in level b
mentions_of_and level a b = ap (mentions_in level) (sym (A.rolls-And a b)) ∙ fold-roll-AssertExpr (List Mention) (tree_layer_mentions level) (B.And a b)

pub mentions_of_or : (level : Level) (a : AssertExpr) (b : AssertExpr) → mentions_in level (A.Or a b) ≡ mentions_in level a ++ mentions_in level b
mentions_of_or level a b = ap (mentions_in level) (sym (A.rolls-Or a b)) ∙ fold-roll-AssertExpr (List Mention) (tree_layer_mentions level) (B.Or a b)

pub mentions_of_not : (level : Level) (a : AssertExpr) → mentions_in level (A.Not a) ≡ mentions_in level a
mentions_of_not level a = ap (mentions_in level) (sym (A.rolls-Not a)) ∙ fold-roll-AssertExpr (List Mention) (tree_layer_mentions level) (B.Not a)

pub ruleset mention_forms = (mentions_of_none, mentions_of_empty, mentions_of_pre, mentions_of_post, mentions_of_all, mentions_of_member, mentions_of_union, mentions_of_concat, mentions_of_meet, mentions_of_star, mentions_of_complement, mentions_of_image, mentions_of_identity, mentions_of_product, mentions_of_rel_star, mentions_of_rel_union, mentions_of_rel_concat, mentions_of_compose, mentions_of_equal, mentions_of_included, mentions_of_and, mentions_of_or, mentions_of_not)
