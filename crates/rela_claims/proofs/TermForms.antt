-- What each form of set and relation becomes.
use Rattle.std.proofs.Common.{◌≡◌, ◌∙◌, ℕ, sym, ap}
use Rattle.rela_names.specs.declared.level.Level.{Level}
use Rattle.rela_spec.specs.declared.tree.Member.{Member}
use Rattle.rela_rirfile.specs.declared.written.RelExpr.{RelExpr}
use Rattle.rela_rirfile.specs.declared.written.RelExpr.TheVariants as R
use Rattle.rela_rirfile.specs.declared.written.PathExpr.{PathExpr}
use Rattle.rela_rirfile.specs.declared.written.PathExpr.TheOpen as F
use Rattle.rela_rirfile.specs.declared.written.PathExpr.TheVariants as S
use Rattle.rela_rirfile.specs.declared.written.PathExpr.TheFolds.{fold-roll-PathExpr, fold-roll-RelExpr}
use Rattle.rela_rir.specs.declared.term.PathTerm.{PathTerm}
use Rattle.rela_rir.specs.declared.term.PathTerm.TheVariants as P
use Rattle.rela_rir.specs.declared.term.RelTerm.{RelTerm}
use Rattle.rela_rir.specs.declared.term.RelTerm.TheVariants as T
use Rattle.rela_claims.specs.Classes.{Class, All, mention_of}
use Rattle.rela_claims.specs.Terms.{term_of, rel_term_of, set_layer_term, rel_layer_term}

pub term_of_none : (level : Level) (number : Class → ℕ) → term_of level number S.None ≡ P.None
term_of_none level number = ap (term_of level number) (sym S.rolls-None) ∙ fold-roll-PathExpr PathTerm RelTerm (set_layer_term level number) rel_layer_term F.None

pub term_of_empty : (level : Level) (number : Class → ℕ) → term_of level number S.Empty ≡ P.Empty
term_of_empty level number = ap (term_of level number) (sym S.rolls-Empty) ∙ fold-roll-PathExpr PathTerm RelTerm (set_layer_term level number) rel_layer_term F.Empty

pub term_of_pre : (level : Level) (number : Class → ℕ) → term_of level number S.Pre ≡ P.Pre
term_of_pre level number = ap (term_of level number) (sym S.rolls-Pre) ∙ fold-roll-PathExpr PathTerm RelTerm (set_layer_term level number) rel_layer_term F.Pre

pub term_of_post : (level : Level) (number : Class → ℕ) → term_of level number S.Post ≡ P.Post
term_of_post level number = ap (term_of level number) (sym S.rolls-Post) ∙ fold-roll-PathExpr PathTerm RelTerm (set_layer_term level number) rel_layer_term F.Post

pub term_of_all : (level : Level) (number : Class → ℕ) → term_of level number S.All ≡ P.Class (number All)
term_of_all level number = ap (term_of level number) (sym S.rolls-All) ∙ fold-roll-PathExpr PathTerm RelTerm (set_layer_term level number) rel_layer_term F.All

pub term_of_member : (level : Level) (number : Class → ℕ) (m : Member) → term_of level number (S.Member m) ≡ P.Class (number (mention_of level m).class)
term_of_member level number m = ap (term_of level number) (sym (S.rolls-Member m)) ∙ fold-roll-PathExpr PathTerm RelTerm (set_layer_term level number) rel_layer_term (F.Member m)

pub term_of_union : (level : Level) (number : Class → ℕ) (x : PathExpr) (y : PathExpr) → term_of level number (S.Union x y) ≡ P.Union (term_of level number x) (term_of level number y)
term_of_union level number x y = ap (term_of level number) (sym (S.rolls-Union x y)) ∙ fold-roll-PathExpr PathTerm RelTerm (set_layer_term level number) rel_layer_term (F.PathExpr::Union x y)

pub term_of_concat : (level : Level) (number : Class → ℕ) (x : PathExpr) (y : PathExpr) → term_of level number (S.Concat x y) ≡ P.Concat (term_of level number x) (term_of level number y)
term_of_concat level number x y = ap (term_of level number) (sym (S.rolls-Concat x y)) ∙ fold-roll-PathExpr PathTerm RelTerm (set_layer_term level number) rel_layer_term (F.PathExpr::Concat x y)

pub term_of_meet : (level : Level) (number : Class → ℕ) (x : PathExpr) (y : PathExpr) → term_of level number (S.Meet x y) ≡ P.Meet (term_of level number x) (term_of level number y)
term_of_meet level number x y = ap (term_of level number) (sym (S.rolls-Meet x y)) ∙ fold-roll-PathExpr PathTerm RelTerm (set_layer_term level number) rel_layer_term (F.Meet x y)

pub term_of_star : (level : Level) (number : Class → ℕ) (x : PathExpr) → term_of level number (S.Star x) ≡ P.Star (term_of level number x)
term_of_star level number x = ap (term_of level number) (sym (S.rolls-Star x)) ∙ fold-roll-PathExpr PathTerm RelTerm (set_layer_term level number) rel_layer_term (F.PathExpr::Star x)

pub term_of_complement : (level : Level) (number : Class → ℕ) (x : PathExpr) → term_of level number (S.Complement x) ≡ P.Complement (term_of level number x)
term_of_complement level number x = ap (term_of level number) (sym (S.rolls-Complement x)) ∙ fold-roll-PathExpr PathTerm RelTerm (set_layer_term level number) rel_layer_term (F.Complement x)

pub term_of_image : (level : Level) (number : Class → ℕ) (x : PathExpr) (r : RelExpr) → term_of level number (S.Image x r) ≡ P.Image (term_of level number x) (rel_term_of level number r)
term_of_image level number x r = ap (term_of level number) (sym (S.rolls-Image x r)) ∙ fold-roll-PathExpr PathTerm RelTerm (set_layer_term level number) rel_layer_term (F.Image x r)

pub term_of_identity : (level : Level) (number : Class → ℕ) (x : PathExpr) → rel_term_of level number (R.Identity x) ≡ T.Identity (term_of level number x)
term_of_identity level number x = ap (rel_term_of level number) (sym (R.rolls-Identity x)) ∙ fold-roll-RelExpr PathTerm RelTerm (set_layer_term level number) rel_layer_term (F.Identity x)

pub term_of_product : (level : Level) (number : Class → ℕ) (x : PathExpr) (y : PathExpr) → rel_term_of level number (R.Product x y) ≡ T.Product (term_of level number x) (term_of level number y)
term_of_product level number x y = ap (rel_term_of level number) (sym (R.rolls-Product x y)) ∙ fold-roll-RelExpr PathTerm RelTerm (set_layer_term level number) rel_layer_term (F.Product x y)

pub term_of_rel_star : (level : Level) (number : Class → ℕ) (r : RelExpr) → rel_term_of level number (R.Star r) ≡ T.Star (rel_term_of level number r)
term_of_rel_star level number r = ap (rel_term_of level number) (sym (R.rolls-Star r)) ∙ fold-roll-RelExpr PathTerm RelTerm (set_layer_term level number) rel_layer_term (F.RelExpr::Star r)

pub term_of_rel_union : (level : Level) (number : Class → ℕ) (r : RelExpr) (s : RelExpr) → rel_term_of level number (R.Union r s) ≡ T.Union (rel_term_of level number r) (rel_term_of level number s)
term_of_rel_union level number r s = ap (rel_term_of level number) (sym (R.rolls-Union r s)) ∙ fold-roll-RelExpr PathTerm RelTerm (set_layer_term level number) rel_layer_term (F.RelExpr::Union r s)

pub term_of_rel_concat : (level : Level) (number : Class → ℕ) (r : RelExpr) (s : RelExpr) → rel_term_of level number (R.Concat r s) ≡ T.Concat (rel_term_of level number r) (rel_term_of level number s)
term_of_rel_concat level number r s = ap (rel_term_of level number) (sym (R.rolls-Concat r s)) ∙ fold-roll-RelExpr PathTerm RelTerm (set_layer_term level number) rel_layer_term (F.RelExpr::Concat r s)

pub term_of_compose : (level : Level) (number : Class → ℕ) (r : RelExpr) (s : RelExpr) → rel_term_of level number (R.Compose r s) ≡ T.Compose (rel_term_of level number r) (rel_term_of level number s)
term_of_compose level number r s = ap (rel_term_of level number) (sym (R.rolls-Compose r s)) ∙ fold-roll-RelExpr PathTerm RelTerm (set_layer_term level number) rel_layer_term (F.Compose r s)

pub ruleset term_forms = (term_of_none, term_of_empty, term_of_pre, term_of_post, term_of_all, term_of_member, term_of_union, term_of_concat, term_of_meet, term_of_star, term_of_complement, term_of_image, term_of_identity, term_of_product, term_of_rel_star, term_of_rel_union, term_of_rel_concat, term_of_compose)
