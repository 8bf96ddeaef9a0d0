-- What each form of expression and of body means, as equations.
use Rattle.std.proofs.Common.{◌≡◌, ℕ, List, refl}
use Rattle.rela_rir.specs.Words.{WordSet}
use Rattle.rela_rir.specs.declared.set.SymbolSet.{SymbolSet}
use Rattle.rela_translate.specs.Lang.{Lang, LayerLang}
use Rattle.rela_translate.specs.Zones.{Meaning, layer_meaning, meaning_of}
use Rattle.rela_translate.specs.declared.body.Expr.{Expr}
use Rattle.rela_translate.specs.declared.body.Expr.TheOpen as E
use Rattle.rela_translate.specs.declared.body.Expr.TheViews.{roll-Expr}
use Rattle.rela_translate.specs.declared.body.Expr.TheFolds.{map-Expr, rec-roll-Expr}
use Rattle.rela_translate.specs.declared.body.Core.{Core}
use Rattle.rela_translate.specs.declared.body.Core.TheOpen as C
use Rattle.rela_translate.specs.declared.body.Core.TheViews.{roll-Core}
use Rattle.rela_translate.specs.declared.body.Core.TheFolds.{map-Core, rec-roll-Core}

natural : (classes : List SymbolSet) (n : ℕ) (X : Type 0) (v : X → Expr) (k : Expr → WordSet) (x : E.Expr-F X) →
    LayerLang classes n (λ p. k (v p)) x ≡ LayerLang classes n k (map-Expr X Expr v x)
natural classes n X v k E.Empty = refl
natural classes n X v k (E.Class j) = refl
natural classes n X v k (E.Seq a b) = refl
natural classes n X v k (E.Alt a b) = refl
natural classes n X v k (E.Meet a b) = refl
natural classes n X v k (E.Not a) = refl
natural classes n X v k (E.Star a) = refl

pub lang_roll : (classes : List SymbolSet) (n : ℕ) (x : E.Expr-F Expr) →
    Lang classes n (roll-Expr x) ≡ LayerLang classes n (Lang classes n) x
lang_roll classes n x = rec-roll-Expr WordSet (λ X _ part layer. LayerLang classes n part layer) (natural classes n) x

natural_body : (classes : List SymbolSet) (n : ℕ) (X : Type 0) (v : X → Core) (k : Core → Meaning) (x : C.Core-F X) →
    layer_meaning classes n (λ p. k (v p)) x ≡ layer_meaning classes n k (map-Core X Core v x)
natural_body classes n X v k (C.Unit z c) = refl
natural_body classes n X v k (C.Then s t) = refl
natural_body classes n X v k (C.Else s t) = refl

pub meaning_roll : (classes : List SymbolSet) (n : ℕ) (x : C.Core-F Core) →
    meaning_of classes n (roll-Core x) ≡ layer_meaning classes n (meaning_of classes n) x
meaning_roll classes n x = rec-roll-Core Meaning (λ X _ part layer. layer_meaning classes n part layer) (natural_body classes n) x
