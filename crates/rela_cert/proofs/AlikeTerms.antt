-- The two relations of a body have one term where those of its parts do.
use Rattle.std.proofs.Common.{◌≡◌, ◌∙◌, ℕ, sym, ap}
use Rattle.rela_rir.specs.declared.term.PathTerm.{PathTerm}
use Rattle.rela_rir.specs.declared.term.RelTerm.TheVariants as R
use Rattle.rela_translate.specs.Terms.{Terms, after_of, before_of, layer_terms, outside, path_of, terms_of, unit_terms, zone_of}
use Rattle.rela_translate.specs.declared.body.Expr.{Expr}
use Rattle.rela_translate.specs.declared.body.Change.{Change}
use Rattle.rela_translate.specs.declared.body.Core.{Core}
use Rattle.rela_translate.specs.declared.body.Core.TheFolds.{fold-roll-Core}
use Rattle.rela_translate.specs.declared.body.Core.TheOpen as C
use Rattle.rela_translate.specs.declared.body.Core.TheVariants as B

abbrev HasOneTerm : Core → Type 0
HasOneTerm body = (n : ℕ) → before_of n body ≡ after_of n body

by_terms : (n : ℕ) (body : Core) (terms : Terms) → terms_of n body ≡ terms → terms.before ≡ terms.after → before_of n body ≡ after_of n body
by_terms n body terms is one = ap (λ (t : Terms). t.before) is ∙ (one ∙ sym (ap (λ (t : Terms). t.after) is))

pub of_unit : (body : Core) (z : Expr) (c : Change) → body ≡ B.Unit z c → ((n : ℕ) (x : PathTerm) → (unit_terms n x c).before ≡ (unit_terms n x c).after) → HasOneTerm body
of_unit body z c is one n =
    by_terms n body (unit_terms n (path_of z) c) (ap (terms_of n) (is ∙ sym (B.rolls-Unit z c)) ∙ fold-roll-Core Terms (layer_terms n) (C.Unit z c)) (one n (path_of z))

module _ (body s t x y : Core) (first : x ≡ s) (second : y ≡ t) (one : HasOneTerm x) (two : HasOneTerm y) where
  of_first : HasOneTerm s
  of_first n = sym (ap (before_of n) first) ∙ (one n ∙ ap (after_of n) first)

  of_second : HasOneTerm t
  of_second n = sym (ap (before_of n) second) ∙ (two n ∙ ap (after_of n) second)

  pub of_then : body ≡ B.Then s t → HasOneTerm body
  of_then is n =
      by_terms n body (layer_terms n (C.Then (terms_of n s) (terms_of n t)))
      (ap (terms_of n) (is ∙ sym (B.rolls-Then s t)) ∙ fold-roll-Core Terms (layer_terms n) (C.Then s t)) (λ i. R.Concat (of_first n i) (of_second n i))

  pub of_else : body ≡ B.Else s t → HasOneTerm body
  of_else is n =
      by_terms n body (layer_terms n (C.Else (terms_of n s) (terms_of n t)))
      (ap (terms_of n) (is ∙ sym (B.rolls-Else s t)) ∙ fold-roll-Core Terms (layer_terms n) (C.Else s t))
      (λ i. R.Union (of_first n i) (outside (zone_of n s) (of_second n i)))
