-- What the terms, the markers and the meaning of an expression and of a body are, by its outermost layer: as equations,
-- from their definitions.
use Rattle.std.proofs.Common.{◌≡◌, ◌∙◌, ℕ, List, ◌++◌, refl, sym, ap}
use Rattle.rela_rir.specs.Words.{WordSet}
use Rattle.rela_rir.specs.declared.set.SymbolSet.{SymbolSet}
use Rattle.rela_rir.specs.declared.term.PathTerm.{PathTerm}
use Rattle.rela_rir.specs.declared.term.PathTerm.TheVariants as P
use Rattle.rela_translate.specs.Checked.{change_markers, layer_markers, markers_of}
use Rattle.rela_translate.specs.Lang.{Lang, LayerLang}
use Rattle.rela_translate.specs.Terms.{layer_path, path_of, Terms, unit_terms, layer_terms, terms_of}
use Rattle.rela_translate.specs.Zones.{Meaning, layer_meaning, meaning_of}
use Rattle.rela_translate.specs.declared.body.Expr.{Expr}
use Rattle.rela_translate.specs.declared.body.Expr.TheOpen as E
use Rattle.rela_translate.specs.declared.body.Expr.TheVariants as V
use Rattle.rela_translate.specs.declared.body.Expr.TheViews.{roll-Expr}
use Rattle.rela_translate.specs.declared.body.Expr.TheFolds.{map-Expr, fold-roll-Expr, rec-roll-Expr}
use Rattle.rela_translate.specs.declared.body.Change.{Change}
use Rattle.rela_translate.specs.declared.body.Core.{Core}
use Rattle.rela_translate.specs.declared.body.Core.TheOpen as C
use Rattle.rela_translate.specs.declared.body.Core.TheVariants as B
use Rattle.rela_translate.specs.declared.body.Core.TheViews.{roll-Core}
use Rattle.rela_translate.specs.declared.body.Core.TheFolds.{map-Core, fold-roll-Core, rec-roll-Core}

path_by : (v : Expr) (x : E.Expr-F Expr) → v ≡ roll-Expr x → path_of v ≡ layer_path (map-Expr Expr PathTerm path_of x)
path_by v x is = ap path_of is ∙ fold-roll-Expr PathTerm layer_path x

pub path_empty : path_of V.Empty ≡ P.Empty
path_empty = path_by V.Empty E.Empty (sym V.rolls-Empty)

pub path_class : (k : ℕ) → path_of (V.Class k) ≡ P.Class k
path_class k = path_by (V.Class k) (E.Class k) (sym (V.rolls-Class k))

pub path_seq : (a b : Expr) → path_of (V.Seq a b) ≡ P.Concat (path_of a) (path_of b)
path_seq a b = path_by (V.Seq a b) (E.Seq a b) (sym (V.rolls-Seq a b))

pub path_alt : (a b : Expr) → path_of (V.Alt a b) ≡ P.Union (path_of a) (path_of b)
path_alt a b = path_by (V.Alt a b) (E.Alt a b) (sym (V.rolls-Alt a b))

pub path_meet : (a b : Expr) → path_of (V.Meet a b) ≡ P.Meet (path_of a) (path_of b)
path_meet a b = path_by (V.Meet a b) (E.Meet a b) (sym (V.rolls-Meet a b))

pub path_not : (a : Expr) → path_of (V.Not a) ≡ P.Complement (path_of a)
path_not a = path_by (V.Not a) (E.Not a) (sym (V.rolls-Not a))

pub path_star : (a : Expr) → path_of (V.Star a) ≡ P.Star (path_of a)
path_star a = path_by (V.Star a) (E.Star a) (sym (V.rolls-Star a))

terms_by : (n : ℕ) (body : Core) (x : C.Core-F Core) → body ≡ roll-Core x → terms_of n body ≡ layer_terms n (map-Core Core Terms (terms_of n) x)
terms_by n body x is = ap (terms_of n) is ∙ fold-roll-Core Terms (layer_terms n) x

pub terms_unit : (n : ℕ) (z : Expr) (c : Change) → terms_of n (B.Unit z c) ≡ unit_terms n (path_of z) c
terms_unit n z c = terms_by n (B.Unit z c) (C.Unit z c) (sym (B.rolls-Unit z c))

pub terms_then : (n : ℕ) (s t : Core) → terms_of n (B.Then s t) ≡ layer_terms n (C.Then (terms_of n s) (terms_of n t))
terms_then n s t = terms_by n (B.Then s t) (C.Then s t) (sym (B.rolls-Then s t))

pub terms_else : (n : ℕ) (s t : Core) → terms_of n (B.Else s t) ≡ layer_terms n (C.Else (terms_of n s) (terms_of n t))
terms_else n s t = terms_by n (B.Else s t) (C.Else s t) (sym (B.rolls-Else s t))

markers_by : (body : Core) (x : C.Core-F Core) → body ≡ roll-Core x → markers_of body ≡ layer_markers (map-Core Core (List ℕ) markers_of x)
markers_by body x is = ap markers_of is ∙ fold-roll-Core (List ℕ) layer_markers x

pub markers_unit : (z : Expr) (c : Change) → markers_of (B.Unit z c) ≡ change_markers c
markers_unit z c = markers_by (B.Unit z c) (C.Unit z c) (sym (B.rolls-Unit z c))

pub markers_then : (s t : Core) → markers_of (B.Then s t) ≡ markers_of s ++ markers_of t
markers_then s t = markers_by (B.Then s t) (C.Then s t) (sym (B.rolls-Then s t))

pub markers_else : (s t : Core) → markers_of (B.Else s t) ≡ markers_of s ++ markers_of t
markers_else s t = markers_by (B.Else s t) (C.Else s t) (sym (B.rolls-Else s t))

natural : (classes : List SymbolSet) (n : ℕ) (X : Type 0) (v : X → Expr) (k : Expr → WordSet) (x : E.Expr-F X) →
    LayerLang classes n (λ p. k (v p)) x ≡ LayerLang classes n k (map-Expr X Expr v x)
natural classes n X v k E.Empty = refl
natural classes n X v k (E.Class j) = refl
natural classes n X v k (E.Seq a b) = refl
natural classes n X v k (E.Alt a b) = refl
natural classes n X v k (E.Meet a b) = refl
natural classes n X v k (E.Not a) = refl
natural classes n X v k (E.Star a) = refl

pub lang_roll : (classes : List SymbolSet) (n : ℕ) (x : E.Expr-F Expr) →
    Lang classes n (roll-Expr x) ≡ LayerLang classes n (Lang classes n) x
lang_roll classes n x = rec-roll-Expr WordSet (λ X _ part layer. LayerLang classes n part layer) (natural classes n) x

natural_body : (classes : List SymbolSet) (n : ℕ) (X : Type 0) (v : X → Core) (k : Core → Meaning) (x : C.Core-F X) →
    layer_meaning classes n (λ p. k (v p)) x ≡ layer_meaning classes n k (map-Core X Core v x)
natural_body classes n X v k (C.Unit z c) = refl
natural_body classes n X v k (C.Then s t) = refl
natural_body classes n X v k (C.Else s t) = refl

pub meaning_roll : (classes : List SymbolSet) (n : ℕ) (x : C.Core-F Core) →
    meaning_of classes n (roll-Core x) ≡ layer_meaning classes n (meaning_of classes n) x
meaning_roll classes n x = rec-roll-Core Meaning (λ X _ part layer. layer_meaning classes n part layer) (natural_body classes n) x
