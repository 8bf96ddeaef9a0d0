-- What a set, a relation or an assertion becomes has as many nodes as was told, no symbol by itself, and mentions no more
-- classes than that.
use Rattle.std.proofs.Common.{◌≡◌, ◌∙◌, ℕ, ◌≤◌, [], length, sym, ap, subst, arith, length-append}
use Rattle.rela_names.specs.declared.level.Level.{Level}
use Rattle.rela_rir.specs.Size.{nodes_of_path, nodes_of_rel}
use Rattle.rela_rirfile.specs.declared.written.AssertExpr.{AssertExpr}
use Rattle.rela_rirfile.specs.declared.written.AssertExpr.TheOpen as B
use Rattle.rela_rirfile.specs.declared.written.AssertExpr.TheVariants as A
use Rattle.rela_rirfile.specs.declared.written.AssertExpr.TheViews.{roll-AssertExpr}
use Rattle.rela_rirfile.specs.declared.written.AssertExpr.TheFolds.{map-AssertExpr, ind-AssertExpr}
use Rattle.rela_rirfile.specs.declared.written.RelExpr.{RelExpr}
use Rattle.rela_rirfile.specs.declared.written.RelExpr.TheVariants as R
use Rattle.rela_rirfile.specs.declared.written.PathExpr.{PathExpr}
use Rattle.rela_rirfile.specs.declared.written.PathExpr.TheOpen as F
use Rattle.rela_rirfile.specs.declared.written.PathExpr.TheVariants as S
use Rattle.rela_rirfile.specs.declared.written.PathExpr.TheViews.{roll-PathExpr, roll-RelExpr}
use Rattle.rela_rirfile.specs.declared.written.PathExpr.TheFolds.{map-PathExpr, map-RelExpr, ind-PathExpr}
use Rattle.rela_claims.specs.Classes.{Class}
use Rattle.rela_rir.specs.NamedSymbols.{symbols_in, symbols_in_rel}
use Rattle.rela_claims.specs.Named.{symbols_in_tree}
use Rattle.rela_claims.specs.Sizes.{size_of_rel, size_of_set, size_of_tree}
use Rattle.rela_claims.specs.Terms.{mentions_in, mentions_in_rel, mentions_in_set, nodes_in, rel_term_of, term_of, tree_of}
use Rattle.rela_claims.proofs.CountForms.{count_none, count_empty, count_pre, count_post, count_all, count_member, count_union, count_concat, count_meet, count_star, count_complement, count_image, count_identity, count_product, count_rel_star, count_rel_union, count_rel_concat, count_compose, count_equal, count_included, count_and, count_or, count_not}
use Rattle.rela_claims.proofs.MentionForms.{mentions_of_none, mentions_of_empty, mentions_of_pre, mentions_of_post, mentions_of_all, mentions_of_member, mentions_of_union, mentions_of_concat, mentions_of_meet, mentions_of_star, mentions_of_complement, mentions_of_image, mentions_of_identity, mentions_of_product, mentions_of_rel_star, mentions_of_rel_union, mentions_of_rel_concat, mentions_of_compose, mentions_of_equal, mentions_of_included, mentions_of_and, mentions_of_or, mentions_of_not}
use Rattle.rela_claims.proofs.PlainForms.{plain_none, plain_empty, plain_class, plain_union, plain_concat, plain_star, plain_meet, plain_complement, plain_pre, plain_post, plain_image, plain_identity, plain_product, plain_rel_star, plain_rel_union, plain_rel_concat, plain_compose, plain_leaf, plain_and, plain_or, plain_not}
use Rattle.rela_claims.proofs.SizeForms.{size_none, size_empty, size_pre, size_post, size_all, size_member, size_union, size_concat, size_meet, size_star, size_complement, size_image, size_identity, size_product, size_rel_star, size_rel_union, size_rel_concat, size_compose, size_equal, size_included, size_and, size_or, size_not}
use Rattle.rela_claims.proofs.TermForms.{term_of_none, term_of_empty, term_of_pre, term_of_post, term_of_all, term_of_member, term_of_union, term_of_concat, term_of_meet, term_of_star, term_of_complement, term_of_image, term_of_identity, term_of_product, term_of_rel_star, term_of_rel_union, term_of_rel_concat, term_of_compose}
use Rattle.rela_claims.proofs.TreeForms.{tree_of_equal, tree_of_included, tree_of_and, tree_of_or, tree_of_not}

module _ (level : Level) (number : Class → ℕ) where
  pub record Fits (x : PathExpr) : Type 0 where
    pub sized : nodes_of_path (term_of level number x) ≡ size_of_set x
    pub few : length (mentions_in_set level x) ≤ size_of_set x
    pub plain : symbols_in (term_of level number x) ≡ []

  pub record FitsRel (r : RelExpr) : Type 0 where
    pub sized : nodes_of_rel (rel_term_of level number r) ≡ size_of_rel r
    pub few : length (mentions_in_rel level r) ≤ size_of_rel r
    pub plain : symbols_in_rel (rel_term_of level number r) ≡ []

  pub record FitsTree (a : AssertExpr) : Type 0 where
    pub sized : nodes_in (tree_of level number a) ≡ size_of_tree a
    pub few : length (mentions_in level a) ≤ size_of_tree a
    pub plain : symbols_in_tree (tree_of level number a) ≡ []

  abbrev Set : Type 0
  Set = (x : PathExpr) × Fits x

  abbrev Relation : Type 0
  Relation = (r : RelExpr) × FitsRel r

  abbrev Tree : Type 0
  Tree = (a : AssertExpr) × FitsTree a

  abbrev bare : F.PathExpr-F Set Relation → F.PathExpr-F PathExpr RelExpr
  bare y = map-PathExpr Set Relation PathExpr RelExpr (λ e. e.0) (λ e. e.0) y

  abbrev bare_rel : F.RelExpr-F Set Relation → F.RelExpr-F PathExpr RelExpr
  bare_rel y = map-RelExpr Set Relation PathExpr RelExpr (λ e. e.0) (λ e. e.0) y

  abbrev bare_tree : B.AssertExpr-F Tree → B.AssertExpr-F AssertExpr
  bare_tree y = map-AssertExpr Tree AssertExpr (λ e. e.0) y

  layer_fits : (y : F.PathExpr-F Set Relation) → Fits (roll-PathExpr (bare y))
  layer_fits F.None = subst Fits (sym S.rolls-None) (record {
    sized = omega (arith, size_none level number, count_none);
    few = omega (arith, ap length (mentions_of_none level), count_none);
    plain = ap symbols_in (term_of_none level number) ∙ plain_none;
  })
  layer_fits F.Empty = subst Fits (sym S.rolls-Empty) (record {
    sized = omega (arith, size_empty level number, count_empty);
    few = omega (arith, ap length (mentions_of_empty level), count_empty);
    plain = ap symbols_in (term_of_empty level number) ∙ plain_empty;
  })
  layer_fits F.Pre = subst Fits (sym S.rolls-Pre) (record {
    sized = omega (arith, size_pre level number, count_pre);
    few = omega (arith, ap length (mentions_of_pre level), count_pre);
    plain = ap symbols_in (term_of_pre level number) ∙ plain_pre;
  })
  layer_fits F.Post = subst Fits (sym S.rolls-Post) (record {
    sized = omega (arith, size_post level number, count_post);
    few = omega (arith, ap length (mentions_of_post level), count_post);
    plain = ap symbols_in (term_of_post level number) ∙ plain_post;
  })
  layer_fits F.All = subst Fits (sym S.rolls-All) (record {
    sized = omega (arith, size_all level number, count_all);
    few = omega (arith, ap length (mentions_of_all level), count_all);
    plain = ap symbols_in (term_of_all level number) ∙ plain_class _;
  })
  layer_fits (F.Member m) = subst Fits (sym (S.rolls-Member m)) (record {
    sized = omega (arith, size_member level number m, count_member m);
    few = omega (arith, ap length (mentions_of_member level m), count_member m);
    plain = ap symbols_in (term_of_member level number m) ∙ plain_class _;
  })
  layer_fits (F.PathExpr::Union x y) = subst Fits (sym (S.rolls-Union x.0 y.0)) (record {
    sized = omega (arith, size_union level number x.0 y.0, count_union x.0 y.0, x.1.sized, y.1.sized);
    few = omega (arith, ap length (mentions_of_union level x.0 y.0), length-append (mentions_in_set level x.0) (mentions_in_set level y.0), count_union x.0 y.0, x.1.few, y.1.few);
    plain = ap symbols_in (term_of_union level number x.0 y.0) ∙ plain_union _ _ x.1.plain y.1.plain;
  })
  layer_fits (F.PathExpr::Concat x y) = subst Fits (sym (S.rolls-Concat x.0 y.0)) (record {
    sized = omega (arith, size_concat level number x.0 y.0, count_concat x.0 y.0, x.1.sized, y.1.sized);
    few = omega (arith, ap length (mentions_of_concat level x.0 y.0), length-append (mentions_in_set level x.0) (mentions_in_set level y.0), count_concat x.0 y.0, x.1.few, y.1.few);
    plain = ap symbols_in (term_of_concat level number x.0 y.0) ∙ plain_concat _ _ x.1.plain y.1.plain;
  })
  layer_fits (F.Meet x y) = subst Fits (sym (S.rolls-Meet x.0 y.0)) (record {
    sized = omega (arith, size_meet level number x.0 y.0, count_meet x.0 y.0, x.1.sized, y.1.sized);
    few = omega (arith, ap length (mentions_of_meet level x.0 y.0), length-append (mentions_in_set level x.0) (mentions_in_set level y.0), count_meet x.0 y.0, x.1.few, y.1.few);
    plain = ap symbols_in (term_of_meet level number x.0 y.0) ∙ plain_meet _ _ x.1.plain y.1.plain;
  })
  layer_fits (F.PathExpr::Star x) = subst Fits (sym (S.rolls-Star x.0)) (record {
    sized = omega (arith, size_star level number x.0, count_star x.0, x.1.sized);
    few = omega (arith, ap length (mentions_of_star level x.0), count_star x.0, x.1.few);
    plain = ap symbols_in (term_of_star level number x.0) ∙ plain_star _ x.1.plain;
  })
  layer_fits (F.Complement x) = subst Fits (sym (S.rolls-Complement x.0)) (record {
    sized = omega (arith, size_complement level number x.0, count_complement x.0, x.1.sized);
    few = omega (arith, ap length (mentions_of_complement level x.0), count_complement x.0, x.1.few);
    plain = ap symbols_in (term_of_complement level number x.0) ∙ plain_complement _ x.1.plain;
  })
  layer_fits (F.Image x r) = subst Fits (sym (S.rolls-Image x.0 r.0)) (record {
    sized = omega (arith, size_image level number x.0 r.0, count_image x.0 r.0, x.1.sized, r.1.sized);
    few = omega (arith, ap length (mentions_of_image level x.0 r.0), length-append (mentions_in_set level x.0) (mentions_in_rel level r.0), count_image x.0 r.0, x.1.few, r.1.few);
    plain = ap symbols_in (term_of_image level number x.0 r.0) ∙ plain_image _ _ x.1.plain r.1.plain;
  })

  layer_fits_rel : (y : F.RelExpr-F Set Relation) → FitsRel (roll-RelExpr (bare_rel y))
  layer_fits_rel (F.Identity x) = subst FitsRel (sym (R.rolls-Identity x.0)) (record {
    sized = omega (arith, size_identity level number x.0, count_identity x.0, x.1.sized);
    few = omega (arith, ap length (mentions_of_identity level x.0), count_identity x.0, x.1.few);
    plain = ap symbols_in_rel (term_of_identity level number x.0) ∙ plain_identity _ x.1.plain;
  })
  layer_fits_rel (F.Product x y) = subst FitsRel (sym (R.rolls-Product x.0 y.0)) (record {
    sized = omega (arith, size_product level number x.0 y.0, count_product x.0 y.0, x.1.sized, y.1.sized);
    few = omega (arith, ap length (mentions_of_product level x.0 y.0), length-append (mentions_in_set level x.0) (mentions_in_set level y.0), count_product x.0 y.0, x.1.few, y.1.few);
    plain = ap symbols_in_rel (term_of_product level number x.0 y.0) ∙ plain_product _ _ x.1.plain y.1.plain;
  })
  layer_fits_rel (F.RelExpr::Star r) = subst FitsRel (sym (R.rolls-Star r.0)) (record {
    sized = omega (arith, size_rel_star level number r.0, count_rel_star r.0, r.1.sized);
    few = omega (arith, ap length (mentions_of_rel_star level r.0), count_rel_star r.0, r.1.few);
    plain = ap symbols_in_rel (term_of_rel_star level number r.0) ∙ plain_rel_star _ r.1.plain;
  })
  layer_fits_rel (F.RelExpr::Union r s) = subst FitsRel (sym (R.rolls-Union r.0 s.0)) (record {
    sized = omega (arith, size_rel_union level number r.0 s.0, count_rel_union r.0 s.0, r.1.sized, s.1.sized);
    few = omega (arith, ap length (mentions_of_rel_union level r.0 s.0), length-append (mentions_in_rel level r.0) (mentions_in_rel level s.0), count_rel_union r.0 s.0, r.1.few, s.1.few);
    plain = ap symbols_in_rel (term_of_rel_union level number r.0 s.0) ∙ plain_rel_union _ _ r.1.plain s.1.plain;
  })
  layer_fits_rel (F.RelExpr::Concat r s) = subst FitsRel (sym (R.rolls-Concat r.0 s.0)) (record {
    sized = omega (arith, size_rel_concat level number r.0 s.0, count_rel_concat r.0 s.0, r.1.sized, s.1.sized);
    few = omega (arith, ap length (mentions_of_rel_concat level r.0 s.0), length-append (mentions_in_rel level r.0) (mentions_in_rel level s.0), count_rel_concat r.0 s.0, r.1.few, s.1.few);
    plain = ap symbols_in_rel (term_of_rel_concat level number r.0 s.0) ∙ plain_rel_concat _ _ r.1.plain s.1.plain;
  })
  layer_fits_rel (F.Compose r s) = subst FitsRel (sym (R.rolls-Compose r.0 s.0)) (record {
    sized = omega (arith, size_compose level number r.0 s.0, count_compose r.0 s.0, r.1.sized, s.1.sized);
    few = omega (arith, ap length (mentions_of_compose level r.0 s.0), length-append (mentions_in_rel level r.0) (mentions_in_rel level s.0), count_compose r.0 s.0, r.1.few, s.1.few);
    plain = ap symbols_in_rel (term_of_compose level number r.0 s.0) ∙ plain_compose _ _ r.1.plain s.1.plain;
  })

  fits : (x : PathExpr) → Fits x
  fits = ind-PathExpr Fits FitsRel (λ x y is. subst (λ z. Fits (roll-PathExpr z)) is (layer_fits y)) (λ x y is. subst (λ z. FitsRel (roll-RelExpr z)) is (layer_fits_rel y))

  layer_fits_tree : (y : B.AssertExpr-F Tree) → FitsTree (roll-AssertExpr (bare_tree y))
  layer_fits_tree (B.Equal x y) = subst FitsTree (sym (A.rolls-Equal x y)) (record {
    sized = omega (arith, size_equal level number x y, count_equal x y, (fits x).sized, (fits y).sized);
    few = omega (arith, ap length (mentions_of_equal level x y), length-append (mentions_in_set level x) (mentions_in_set level y), count_equal x y, (fits x).few, (fits y).few);
    plain = ap symbols_in_tree (tree_of_equal level number x y) ∙ plain_leaf _ (fits x).plain (fits y).plain;
  })
  layer_fits_tree (B.Included x y) = subst FitsTree (sym (A.rolls-Included x y)) (record {
    sized = omega (arith, size_included level number x y, count_included x y, (fits x).sized, (fits y).sized);
    few = omega (arith, ap length (mentions_of_included level x y), length-append (mentions_in_set level x) (mentions_in_set level y), count_included x y, (fits x).few, (fits y).few);
    plain = ap symbols_in_tree (tree_of_included level number x y) ∙ plain_leaf _ (fits x).plain (fits y).plain;
  })
  layer_fits_tree (B.And a b) = subst FitsTree (sym (A.rolls-And a.0 b.0)) (record {
    sized = omega (arith, size_and level number a.0 b.0, count_and a.0 b.0, a.1.sized, b.1.sized);
    few = omega (arith, ap length (mentions_of_and level a.0 b.0), length-append (mentions_in level a.0) (mentions_in level b.0), count_and a.0 b.0, a.1.few, b.1.few);
    plain = ap symbols_in_tree (tree_of_and level number a.0 b.0) ∙ plain_and _ _ a.1.plain b.1.plain;
  })
  layer_fits_tree (B.Or a b) = subst FitsTree (sym (A.rolls-Or a.0 b.0)) (record {
    sized = omega (arith, size_or level number a.0 b.0, count_or a.0 b.0, a.1.sized, b.1.sized);
    few = omega (arith, ap length (mentions_of_or level a.0 b.0), length-append (mentions_in level a.0) (mentions_in level b.0), count_or a.0 b.0, a.1.few, b.1.few);
    plain = ap symbols_in_tree (tree_of_or level number a.0 b.0) ∙ plain_or _ _ a.1.plain b.1.plain;
  })
  layer_fits_tree (B.Not a) = subst FitsTree (sym (A.rolls-Not a.0)) (record {
    sized = omega (arith, size_not level number a.0, count_not a.0, a.1.sized);
    few = omega (arith, ap length (mentions_of_not level a.0), count_not a.0, a.1.few);
    plain = ap symbols_in_tree (tree_of_not level number a.0) ∙ plain_not _ a.1.plain;
  })

  pub fits_tree : (a : AssertExpr) → FitsTree a
  fits_tree = ind-AssertExpr FitsTree (λ x y is. subst (λ z. FitsTree (roll-AssertExpr z)) is (layer_fits_tree y))
