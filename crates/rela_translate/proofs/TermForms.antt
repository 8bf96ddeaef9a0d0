-- The terms of each form of expression and of body, as equations.
use Rattle.std.proofs.Common.{◌≡◌, ◌∙◌, ℕ, sym, ap}
use Rattle.rela_rir.specs.declared.term.PathTerm.{PathTerm}
use Rattle.rela_rir.specs.declared.term.PathTerm.TheVariants as P
use Rattle.rela_rir.specs.declared.term.RelTerm.TheVariants as R
use Rattle.rela_translate.specs.Terms.{layer_path, path_of, Terms, unit_terms, layer_terms, terms_of, zone_of, before_of, after_of, outside}
use Rattle.rela_translate.specs.declared.body.Expr.{Expr}
use Rattle.rela_translate.specs.declared.body.Expr.TheOpen as E
use Rattle.rela_translate.specs.declared.body.Expr.TheVariants as V
use Rattle.rela_translate.specs.declared.body.Expr.TheViews.{roll-Expr}
use Rattle.rela_translate.specs.declared.body.Expr.TheFolds.{map-Expr, fold-roll-Expr}
use Rattle.rela_translate.specs.declared.body.Change.{Change}
use Rattle.rela_translate.specs.declared.body.Core.{Core}
use Rattle.rela_translate.specs.declared.body.Core.TheOpen as C
use Rattle.rela_translate.specs.declared.body.Core.TheVariants as B
use Rattle.rela_translate.specs.declared.body.Core.TheViews.{roll-Core}
use Rattle.rela_translate.specs.declared.body.Core.TheFolds.{map-Core, fold-roll-Core}

pub path_roll : (x : E.Expr-F Expr) → path_of (roll-Expr x) ≡ layer_path (map-Expr Expr PathTerm path_of x)
path_roll x = fold-roll-Expr PathTerm layer_path x

pub path_empty : path_of V.Empty ≡ P.Empty
path_empty = ap path_of (sym V.rolls-Empty) ∙ path_roll E.Empty

pub path_class : (k : ℕ) → path_of (V.Class k) ≡ P.Class k
path_class k = ap path_of (sym (V.rolls-Class k)) ∙ path_roll (E.Class k)

pub path_seq : (a b : Expr) → path_of (V.Seq a b) ≡ P.Concat (path_of a) (path_of b)
path_seq a b = ap path_of (sym (V.rolls-Seq a b)) ∙ path_roll (E.Seq a b)

pub path_alt : (a b : Expr) → path_of (V.Alt a b) ≡ P.Union (path_of a) (path_of b)
path_alt a b = ap path_of (sym (V.rolls-Alt a b)) ∙ path_roll (E.Alt a b)

pub path_meet : (a b : Expr) → path_of (V.Meet a b) ≡ P.Meet (path_of a) (path_of b)
path_meet a b = ap path_of (sym (V.rolls-Meet a b)) ∙ path_roll (E.Meet a b)

pub path_not : (a : Expr) → path_of (V.Not a) ≡ P.Complement (path_of a)
path_not a = ap path_of (sym (V.rolls-Not a)) ∙ path_roll (E.Not a)

pub path_star : (a : Expr) → path_of (V.Star a) ≡ P.Star (path_of a)
path_star a = ap path_of (sym (V.rolls-Star a)) ∙ path_roll (E.Star a)

pub ruleset path_forms = (path_empty, path_class, path_seq, path_alt, path_meet, path_not, path_star)

pub terms_roll : (n : ℕ) (x : C.Core-F Core) → terms_of n (roll-Core x) ≡ layer_terms n (map-Core Core Terms (terms_of n) x)
terms_roll n x = fold-roll-Core Terms (layer_terms n) x

pub terms_unit : (n : ℕ) (z : Expr) (c : Change) → terms_of n (B.Unit z c) ≡ unit_terms n (path_of z) c
terms_unit n z c = ap (terms_of n) (sym (B.rolls-Unit z c)) ∙ terms_roll n (C.Unit z c)

pub terms_then : (n : ℕ) (s t : Core) → terms_of n (B.Then s t) ≡ layer_terms n (C.Then (terms_of n s) (terms_of n t))
terms_then n s t = ap (terms_of n) (sym (B.rolls-Then s t)) ∙ terms_roll n (C.Then s t)

pub terms_else : (n : ℕ) (s t : Core) → terms_of n (B.Else s t) ≡ layer_terms n (C.Else (terms_of n s) (terms_of n t))
terms_else n s t = ap (terms_of n) (sym (B.rolls-Else s t)) ∙ terms_roll n (C.Else s t)

pub zone_unit : (n : ℕ) (z : Expr) (c : Change) → zone_of n (B.Unit z c) ≡ (unit_terms n (path_of z) c).zone
zone_unit n z c = ap (λ (terms : Terms). terms.zone) (terms_unit n z c)

pub before_unit : (n : ℕ) (z : Expr) (c : Change) → before_of n (B.Unit z c) ≡ (unit_terms n (path_of z) c).before
before_unit n z c = ap (λ (terms : Terms). terms.before) (terms_unit n z c)

pub after_unit : (n : ℕ) (z : Expr) (c : Change) → after_of n (B.Unit z c) ≡ (unit_terms n (path_of z) c).after
after_unit n z c = ap (λ (terms : Terms). terms.after) (terms_unit n z c)

pub zone_then : (n : ℕ) (s t : Core) → zone_of n (B.Then s t) ≡ P.Concat (zone_of n s) (zone_of n t)
zone_then n s t = ap (λ (terms : Terms). terms.zone) (terms_then n s t)

pub before_then : (n : ℕ) (s t : Core) → before_of n (B.Then s t) ≡ R.Concat (before_of n s) (before_of n t)
before_then n s t = ap (λ (terms : Terms). terms.before) (terms_then n s t)

pub after_then : (n : ℕ) (s t : Core) → after_of n (B.Then s t) ≡ R.Concat (after_of n s) (after_of n t)
after_then n s t = ap (λ (terms : Terms). terms.after) (terms_then n s t)

pub zone_else : (n : ℕ) (s t : Core) → zone_of n (B.Else s t) ≡ P.Union (zone_of n s) (zone_of n t)
zone_else n s t = ap (λ (terms : Terms). terms.zone) (terms_else n s t)

pub before_else : (n : ℕ) (s t : Core) → before_of n (B.Else s t) ≡ R.Union (before_of n s) (outside (zone_of n s) (before_of n t))
before_else n s t = ap (λ (terms : Terms). terms.before) (terms_else n s t)

pub after_else : (n : ℕ) (s t : Core) → after_of n (B.Else s t) ≡ R.Union (after_of n s) (outside (zone_of n s) (after_of n t))
after_else n s t = ap (λ (terms : Terms). terms.after) (terms_else n s t)

pub ruleset body_forms = (zone_unit, before_unit, after_unit, zone_then, before_then, after_then, zone_else, before_else, after_else)
