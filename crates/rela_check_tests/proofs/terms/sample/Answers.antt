use Rattle.std.proofs.Common.{◌≡◌, ◌∙◌, ℕ, ◌+◌, Result, Ok, Err, IfOk, ap, subst}
use Rattle.std.specs.Prelude.{max}
use Rattle.rela_rir.specs.Size.{depth_of_path, depth_of_rel}
use Rattle.rela_rir.specs.declared.term.RelTerm.{RelTerm}
use Rattle.rela_rir.specs.declared.term.PathTerm.TheVariants as P
use Rattle.rela_rir.specs.declared.term.RelTerm.TheVariants as R
use Rattle.rela_check_tests.proofs.terms.sample.Goals as goal

-- what is made is a term of that depth
deep : {E : Type 0} (made : Result RelTerm E) (t : RelTerm) → IfOk made (λ r. r ≡ t) → depth_of_rel t ≡ 3 → IfOk made (λ r. depth_of_rel r ≡ 3)
deep (Ok r) t is three = ap depth_of_rel is ∙ three
deep (Err e) t is three = tt

pub returns : goal.returns
returns c =
    let paths = c.sizes_of_path_terms.ensures in
    let relations = c.sizes_of_rel_terms.ensures in
    let kept = c.in_ok-kept.kept in
    let changed = c.in_ok-kept.changed in
    let kept_is : kept ≡ R.Identity (P.Class 0) = subst (λ made. IfOk made (λ r. r ≡ R.Identity (P.Class 0))) c.in_ok-kept.ensures.first c.identity.ensures in
    let changed_is : changed ≡ R.Product (P.Class 0) (P.One 7) = subst (λ made. IfOk made (λ r. r ≡ R.Product (P.Class 0) (P.One 7))) c.in_ok-kept.ensures.second c.product.ensures in
    let kept_two : depth_of_rel kept ≡ 2 = ap depth_of_rel kept_is ∙ (relations.depth_of_identity (P.Class 0) ∙ ap (λ (n : ℕ). n + 1) (paths.depth_of_class 0)) in
    let changed_two : depth_of_rel changed ≡ 2 =
    ap depth_of_rel changed_is ∙ (relations.depth_of_product (P.Class 0) (P.One 7)
    ∙ (ap (λ (n : ℕ). max n (depth_of_path (P.One 7)) + 1) (paths.depth_of_class 0) ∙ ap (λ (n : ℕ). max 1 n + 1) (paths.depth_of_one 7))) in
    deep c.union.result (R.Union kept changed) c.union.ensures
    (relations.depth_of_union kept changed ∙ (ap (λ (n : ℕ). max n (depth_of_rel changed) + 1) kept_two ∙ ap (λ (n : ℕ). max 2 n + 1) changed_two))
