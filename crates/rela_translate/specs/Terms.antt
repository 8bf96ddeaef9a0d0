-- The terms that a body is translated to.
use Rattle.std.specs.Prelude.{ℕ}
use Rattle.rela_rir.specs.declared.term.PathTerm.{PathTerm}
use Rattle.rela_rir.specs.declared.term.RelTerm.{RelTerm}
use Rattle.rela_rir.specs.declared.term.PathTerm.TheVariants as P
use Rattle.rela_rir.specs.declared.term.RelTerm.TheVariants as R
use Rattle.rela_translate.specs.Zones.{drop_symbol, marker_symbol}
use Rattle.rela_translate.specs.declared.body.Expr.{Expr}
use Rattle.rela_translate.specs.declared.body.Expr.TheOpen.{Expr-F, Empty, Class, Seq, Alt, Meet, Not, Star}
use Rattle.rela_translate.specs.declared.body.Expr.TheFolds.{fold-Expr}
use Rattle.rela_translate.specs.declared.body.Change.{Change}
use Rattle.rela_translate.specs.declared.body.Change.TheVariants.{Preserve, Add, Remove, Replace, Drop, AnyOf, Ignore}
use Rattle.rela_translate.specs.declared.body.Core.{Core}
use Rattle.rela_translate.specs.declared.body.Core.TheOpen.{Core-F, Unit, Then, Else}
use Rattle.rela_translate.specs.declared.body.Core.TheFolds.{fold-Core}

abbrev pub layer_path : Expr-F PathTerm → PathTerm
layer_path Empty = P.Empty
layer_path (Class k) = P.Class k
layer_path (Seq a b) = P.Concat a b
layer_path (Alt a b) = P.Union a b
layer_path (Meet a b) = P.Meet a b
layer_path (Not a) = P.Complement a
layer_path (Star a) = P.Star a

-- the term of a path expression
abbrev pub path_of : Expr → PathTerm
path_of = fold-Expr PathTerm layer_path

-- the terms of a body's zone and of its two relations
pub record Terms : Type 0 where
  pub zone : PathTerm
  pub before : RelTerm
  pub after : RelTerm

-- the words of the first term that are not in the second
abbrev pub without : PathTerm → PathTerm → PathTerm
without x y = P.Meet x (P.Complement y)

-- one unit, by its modifier, for the term z of its zone
abbrev pub unit_terms : ℕ → PathTerm → Change → Terms
unit_terms locations z Preserve = record {
  zone = z;
  before = R.Identity z;
  after = R.Identity z;
}
unit_terms locations z (Add p) = record {
  zone = P.Union z (path_of p);
  before = R.Union (R.Identity (P.Union z (path_of p))) (R.Product z (path_of p));
  after = R.Identity (P.Union z (path_of p));
}
unit_terms locations z (Remove p) = record {
  zone = z;
  before = R.Identity (without z (path_of p));
  after = R.Identity z;
}
unit_terms locations z (Replace p q) = record {
  zone = P.Union z (path_of q);
  before = R.Union (R.Identity (without (P.Union z (path_of q)) (P.Meet (path_of p) z)))
      (R.Product (P.Meet (path_of p) z) (path_of q));
  after = R.Identity (P.Union z (path_of q));
}
unit_terms locations z Drop = record {
  zone = P.Union z (P.One (drop_symbol locations));
  before = R.Product (P.Union z (P.One (drop_symbol locations))) (P.One (drop_symbol locations));
  after = R.Identity (P.Union z (P.One (drop_symbol locations)));
}
unit_terms locations z (AnyOf p k) = record {
  zone = P.Union z (path_of p);
  before = R.Product (P.Union z (path_of p)) (P.One (marker_symbol locations k));
  after = R.Union (R.Product (path_of p) (P.One (marker_symbol locations k)))
      (R.Identity (without z (path_of p)));
}
unit_terms locations z (Ignore p) = record {
  zone = z;
  before = R.Identity (without z (path_of p));
  after = R.Identity (without z (path_of p));
}

-- the pairs of the relation whose first word is of path symbols and not in the set
abbrev pub outside : PathTerm → RelTerm → RelTerm
outside x r = R.Compose (R.Identity (P.Complement x)) r

abbrev pub layer_terms : ℕ → Core-F Terms → Terms
layer_terms locations (Unit z c) = unit_terms locations (path_of z) c
layer_terms locations (Then s t) = record {
  zone = P.Concat s.zone t.zone;
  before = R.Concat s.before t.before;
  after = R.Concat s.after t.after;
}
layer_terms locations (Else s t) = record {
  zone = P.Union s.zone t.zone;
  before = R.Union s.before (outside s.zone t.before);
  after = R.Union s.after (outside s.zone t.after);
}

-- the terms of a body, under a number of locations
abbrev pub terms_of : ℕ → Core → Terms
terms_of locations = fold-Core Terms (layer_terms locations)

abbrev pub zone_of : ℕ → Core → PathTerm
zone_of locations body = (terms_of locations body).zone

abbrev pub before_of : ℕ → Core → RelTerm
before_of locations body = (terms_of locations body).before

abbrev pub after_of : ℕ → Core → RelTerm
after_of locations body = (terms_of locations body).after
