-- What each form of expression and of body means, as equations.
use Rattle.std.proofs.Common.{◌≡◌, ◌∙◌, ℕ, List, [], ◌∷◌, ◌++◌, ap, refl, sym}
use Rattle.std.specs.Prelude.{◌⊎◌}
use Rattle.rela_rir.specs.Meaning.{IsPathWord}
use Rattle.rela_rir.specs.Words.{Concatenation, Star}
use Rattle.rela_rir.specs.declared.set.SymbolSet.{SymbolSet}
use Rattle.rela_translate.specs.Lang.{IsMember, Lang, LayerLang}
use Rattle.rela_translate.specs.Zones.{Either, Meaning, Paths, Zone, layer_meaning, meaning_of, unit_meaning}
use Rattle.rela_translate.specs.declared.body.Expr.{Expr}
use Rattle.rela_translate.specs.declared.body.Expr.TheOpen as E
use Rattle.rela_translate.specs.declared.body.Expr.TheVariants as V
use Rattle.rela_translate.specs.declared.body.Expr.TheViews.{roll-Expr}
use Rattle.rela_translate.specs.declared.body.Expr.TheFolds.{map-Expr, rec-roll-Expr}
use Rattle.rela_translate.specs.declared.body.Change.{Change}
use Rattle.rela_translate.specs.declared.body.Core.{Core}
use Rattle.rela_translate.specs.declared.body.Core.TheOpen as C
use Rattle.rela_translate.specs.declared.body.Core.TheVariants as B
use Rattle.rela_translate.specs.declared.body.Core.TheViews.{roll-Core}
use Rattle.rela_translate.specs.declared.body.Core.TheFolds.{map-Core, para-roll-Core, rec-roll-Core}
use Rattle.rela_branches.specs.Alternatives.{alternatives_of, layer_alternatives}
use Rattle.rela_branches.proofs.Led.{WordSet}

module _ (classes : List SymbolSet) (n : ℕ) where
  natural : (X : Type 0) (v : X → Expr) (k : Expr → WordSet) (x : E.Expr-F X) →
      LayerLang classes n (λ p. k (v p)) x ≡ LayerLang classes n k (map-Expr X Expr v x)
  natural X v k E.Empty = refl
  natural X v k (E.Class j) = refl
  natural X v k (E.Seq a b) = refl
  natural X v k (E.Alt a b) = refl
  natural X v k (E.Meet a b) = refl
  natural X v k (E.Not a) = refl
  natural X v k (E.Star a) = refl

  rolled : (x : E.Expr-F Expr) → Lang classes n (roll-Expr x) ≡ LayerLang classes n (Lang classes n) x
  rolled x = rec-roll-Expr WordSet (λ X _ part layer. LayerLang classes n part layer) natural x

  abbrev words : Expr → WordSet
  words = Lang classes n

  pub lang_empty : words V.Empty ≡ (λ w. w ≡ [])
  lang_empty = ap words (sym V.rolls-Empty) ∙ rolled E.Empty

  pub lang_class : (k : ℕ) → words (V.Class k) ≡ (λ w. (s : ℕ) × (w ≡ s ∷ []) × IsMember classes n k s)
  lang_class k = ap words (sym (V.rolls-Class k)) ∙ rolled (E.Class k)

  pub lang_seq : (a b : Expr) → words (V.Seq a b) ≡ Concatenation (words a) (words b)
  lang_seq a b = ap words (sym (V.rolls-Seq a b)) ∙ rolled (E.Seq a b)

  pub lang_alt : (a b : Expr) → words (V.Alt a b) ≡ (λ w. words a w ⊎ words b w)
  lang_alt a b = ap words (sym (V.rolls-Alt a b)) ∙ rolled (E.Alt a b)

  pub lang_meet : (a b : Expr) → words (V.Meet a b) ≡ (λ w. words a w × words b w)
  lang_meet a b = ap words (sym (V.rolls-Meet a b)) ∙ rolled (E.Meet a b)

  pub lang_not : (a : Expr) → words (V.Not a) ≡ (λ w. IsPathWord n w × (¬ words a w))
  lang_not a = ap words (sym (V.rolls-Not a)) ∙ rolled (E.Not a)

  pub lang_star : (a : Expr) → words (V.Star a) ≡ Star (words a)
  lang_star a = ap words (sym (V.rolls-Star a)) ∙ rolled (E.Star a)

  -- the same, of what a match on an expression has found
  pub class_is : (path : Expr) (k : ℕ) → path ≡ V.Class k → words path ≡ (λ w. (s : ℕ) × (w ≡ s ∷ []) × IsMember classes n k s)
  class_is path k is = ap words is ∙ lang_class k

  pub seq_is : (path a b a' b' : Expr) → path ≡ V.Seq a b → a' ≡ a → b' ≡ b → words path ≡ Concatenation (words a') (words b')
  seq_is path a b a' b' is one two = ap words (is ∙ ap (λ (x : Expr). V.Seq x b) (sym one) ∙ ap (λ (y : Expr). V.Seq a' y) (sym two)) ∙ lang_seq a' b'

  pub alt_is : (path a b a' b' : Expr) → path ≡ V.Alt a b → a' ≡ a → b' ≡ b → words path ≡ (λ w. words a' w ⊎ words b' w)
  alt_is path a b a' b' is one two = ap words (is ∙ ap (λ (x : Expr). V.Alt x b) (sym one) ∙ ap (λ (y : Expr). V.Alt a' y) (sym two)) ∙ lang_alt a' b'

  pub meet_is : (path a b a' b' : Expr) → path ≡ V.Meet a b → a' ≡ a → b' ≡ b → words path ≡ (λ w. words a' w × words b' w)
  meet_is path a b a' b' is one two = ap words (is ∙ ap (λ (x : Expr). V.Meet x b) (sym one) ∙ ap (λ (y : Expr). V.Meet a' y) (sym two)) ∙ lang_meet a' b'

  pub not_is : (path a a' : Expr) → path ≡ V.Not a → a' ≡ a → words path ≡ (λ w. IsPathWord n w × (¬ words a' w))
  not_is path a a' is one = ap words (is ∙ ap (λ (x : Expr). V.Not x) (sym one)) ∙ lang_not a'

  pub star_is : (path a a' : Expr) → path ≡ V.Star a → a' ≡ a → words path ≡ Star (words a')
  star_is path a a' is one = ap words (is ∙ ap (λ (x : Expr). V.Star x) (sym one)) ∙ lang_star a'

module _ (classes : List SymbolSet) (n : ℕ) where
  natural_body : (X : Type 0) (v : X → Core) (k : Core → Meaning) (x : C.Core-F X) →
      layer_meaning classes n (λ p. k (v p)) x ≡ layer_meaning classes n k (map-Core X Core v x)
  natural_body X v k (C.Unit z c) = refl
  natural_body X v k (C.Then s t) = refl
  natural_body X v k (C.Else s t) = refl

  rolled_body : (x : C.Core-F Core) → meaning_of classes n (roll-Core x) ≡ layer_meaning classes n (meaning_of classes n) x
  rolled_body x = rec-roll-Core Meaning (λ X _ part layer. layer_meaning classes n part layer) natural_body x

  zone : Meaning → WordSet
  zone meaning = meaning.zone

  pub zone_unit : (z : Expr) (c : Change) → Zone classes n (B.Unit z c) ≡ (unit_meaning classes n (Paths classes n z) c).zone
  unfolding zone
  zone_unit z c = ap zone (ap (meaning_of classes n) (sym (B.rolls-Unit z c)) ∙ rolled_body (C.Unit z c))

  pub zone_then : (s t : Core) → Zone classes n (B.Then s t) ≡ Concatenation (Zone classes n s) (Zone classes n t)
  unfolding zone
  zone_then s t = ap zone (ap (meaning_of classes n) (sym (B.rolls-Then s t)) ∙ rolled_body (C.Then s t))

  pub zone_else : (s t : Core) → Zone classes n (B.Else s t) ≡ Either (Zone classes n s) (Zone classes n t)
  unfolding zone
  zone_else s t = ap zone (ap (meaning_of classes n) (sym (B.rolls-Else s t)) ∙ rolled_body (C.Else s t))

  pub then_is : (body s t s' t' : Core) → body ≡ B.Then s t → s' ≡ s → t' ≡ t → Zone classes n body ≡ Concatenation (Zone classes n s') (Zone classes n t')
  then_is body s t s' t' is one two =
      ap (Zone classes n) (is ∙ ap (λ (x : Core). B.Then x t) (sym one) ∙ ap (λ (y : Core). B.Then s' y) (sym two)) ∙ zone_then s' t'

  pub else_is : (body s t s' t' : Core) → body ≡ B.Else s t → s' ≡ s → t' ≡ t → Zone classes n body ≡ Either (Zone classes n s') (Zone classes n t')
  else_is body s t s' t' is one two =
      ap (Zone classes n) (is ∙ ap (λ (x : Core). B.Else x t) (sym one) ∙ ap (λ (y : Core). B.Else s' y) (sym two)) ∙ zone_else s' t'

rolled_list : (x : C.Core-F Core) → alternatives_of (roll-Core x) ≡ layer_alternatives (map-Core Core (Core × List Core) (λ body. (body, alternatives_of body)) x)
rolled_list x = para-roll-Core (List Core) layer_alternatives x

pub alternatives_unit : (z : Expr) (c : Change) → alternatives_of (B.Unit z c) ≡ B.Unit z c ∷ []
alternatives_unit z c = ap alternatives_of (sym (B.rolls-Unit z c)) ∙ rolled_list (C.Unit z c)

pub alternatives_then : (s t : Core) → alternatives_of (B.Then s t) ≡ B.Then s t ∷ []
alternatives_then s t = ap alternatives_of (sym (B.rolls-Then s t)) ∙ rolled_list (C.Then s t)

pub alternatives_else : (s t : Core) → alternatives_of (B.Else s t) ≡ alternatives_of s ++ alternatives_of t
alternatives_else s t = ap alternatives_of (sym (B.rolls-Else s t)) ∙ rolled_list (C.Else s t)
