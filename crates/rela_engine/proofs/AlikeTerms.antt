-- Bodies that treat both sides of a change alike have one term for both relations.
use Rattle.std.proofs.Common.{◌≡◌, ◌∙◌, ℕ, sym, ap, subst}
use Rattle.rela_rir.specs.declared.term.RelTerm.{RelTerm}
use Rattle.rela_rir.specs.declared.term.RelTerm.TheVariants as R
use Rattle.rela_translate.specs.Terms.{Terms, unit_terms, layer_terms, path_of, terms_of, zone_of, before_of, after_of, outside}
use Rattle.rela_translate.specs.declared.body.Change.{Change}
use Rattle.rela_translate.specs.declared.body.Change.TheVariants.{Preserve, Add, Remove, Replace, Drop, AnyOf, Ignore}
use Rattle.rela_rir.specs.declared.term.PathTerm.{PathTerm}
use Rattle.rela_translate.specs.declared.body.Core.{Core}
use Rattle.rela_translate.specs.declared.body.Core.TheOpen as C
use Rattle.rela_translate.specs.declared.body.Core.TheVariants as B
use Rattle.rela_translate.specs.declared.body.Core.TheViews.{roll-Core}
use Rattle.rela_translate.specs.declared.body.Core.TheFolds.{map-Core, fold-roll-Core, ind-Core}
use Rattle.rela_engine.specs.Sides.{AsksNoChange, TreatsSidesAlike}
use Rattle.rela_engine.proofs.AlikeBodies.{alike_unit, alike_then, alike_else}
use Rattle.std.proofs.Common.{refl}

module _ (n : ℕ) where
  terms_roll : (x : C.Core-F Core) → terms_of n (roll-Core x) ≡ layer_terms n (map-Core Core Terms (terms_of n) x)
  terms_roll x = fold-roll-Core Terms (layer_terms n) x

  unit_alike : (z : PathTerm) (c : Change) → AsksNoChange c → (unit_terms n z c).before ≡ (unit_terms n z c).after
  unit_alike z Preserve alike = refl
  unit_alike z (Add p) alike = absurd alike
  unit_alike z (Remove p) alike = absurd alike
  unit_alike z (Replace p q) alike = absurd alike
  unit_alike z Drop alike = absurd alike
  unit_alike z (AnyOf p k) alike = absurd alike
  unit_alike z (Ignore p) alike = refl

  abbrev HasOneTerm : Core → Type 0
  HasOneTerm body = TreatsSidesAlike body → before_of n body ≡ after_of n body

  by_terms : (t u : Terms) → t ≡ u → u.before ≡ u.after → t.before ≡ t.after
  by_terms t u is same = subst (λ (v : Terms). v.before ≡ v.after) (sym is) same

  layer : (y : C.Core-F ((body : Core) × HasOneTerm body)) → HasOneTerm (roll-Core (map-Core ((body : Core) × HasOneTerm body) Core (λ e. e.0) y))
  layer (C.Unit z c) alike =
      by_terms _ (unit_terms n (path_of z) c) (terms_roll (C.Unit z c)) (unit_alike (path_of z) c ((alike_unit _ z c (B.rolls-Unit z c)).0 alike))
  layer (C.Then s t) alike =
      let both = (alike_then _ s.0 t.0 (B.rolls-Then s.0 t.0)).0 alike in
      by_terms _ (layer_terms n (C.Then (terms_of n s.0) (terms_of n t.0))) (terms_roll (C.Then s.0 t.0))
      (ap (λ (r : RelTerm). R.Concat r (before_of n t.0)) (s.1 both.0) ∙ ap (λ (r : RelTerm). R.Concat (after_of n s.0) r) (t.1 both.1))
  layer (C.Else s t) alike =
      let both = (alike_else _ s.0 t.0 (B.rolls-Else s.0 t.0)).0 alike in
      by_terms _ (layer_terms n (C.Else (terms_of n s.0) (terms_of n t.0))) (terms_roll (C.Else s.0 t.0))
      (ap (λ (r : RelTerm). R.Union r (outside (zone_of n s.0) (before_of n t.0))) (s.1 both.0)
      ∙ ap (λ (r : RelTerm). R.Union (after_of n s.0) (outside (zone_of n s.0) r)) (t.1 both.1))

  pub one_term : (body : Core) → TreatsSidesAlike body → before_of n body ≡ after_of n body
  one_term = ind-Core HasOneTerm (λ x y is. subst (λ z. HasOneTerm (roll-Core z)) is (layer y))
