-- The words of a path expression are words of path symbols.
use Rattle.std.proofs.Common.{◌≡◌, ℕ, ◌<◌, inl, inr, List, [], ◌∷◌, refl, sym, subst}
use Rattle.std.specs.List.{All, concat}
use Rattle.std.proofs.lemmas.List.Elements.{All-nil, All-cons, All-append, All-head, All-tail, All-weaker}
use Rattle.rela_rir.specs.Words.{WordSet}
use Rattle.rela_rir.specs.Meaning.{IsPathWord}
use Rattle.rela_rir.specs.declared.set.SymbolSet.{SymbolSet}
use Rattle.rela_translate.specs.Lang.{Lang, LayerLang}
use Rattle.rela_translate.specs.declared.body.Expr.{Expr}
use Rattle.rela_translate.specs.declared.body.Expr.TheOpen as E
use Rattle.rela_translate.specs.declared.body.Expr.TheViews.{roll-Expr}
use Rattle.rela_translate.specs.declared.body.Expr.TheFolds.{map-Expr, ind-Expr, rec-roll-Expr}

module _ (classes : List SymbolSet) (n : ℕ) where
  abbrev IsSymbol : ℕ → Type 0
  IsSymbol s = s < n

  -- the expression has words of path symbols only
  abbrev OfPaths : Expr → Type 0
  OfPaths e = (w : List ℕ) → Lang classes n e w → IsPathWord n w

  natural : (X : Type 0) (v : X → Expr) (k : Expr → WordSet) (x : E.Expr-F X) → LayerLang classes n (λ p. k (v p)) x ≡ LayerLang classes n k (map-Expr X Expr v x)
  natural X v k E.Empty = refl
  natural X v k (E.Class j) = refl
  natural X v k (E.Seq a b) = refl
  natural X v k (E.Alt a b) = refl
  natural X v k (E.Meet a b) = refl
  natural X v k (E.Not a) = refl
  natural X v k (E.Star a) = refl

  lang_roll : (x : E.Expr-F Expr) → Lang classes n (roll-Expr x) ≡ LayerLang classes n (Lang classes n) x
  lang_roll x = rec-roll-Expr WordSet (λ X _ part layer. LayerLang classes n part layer) natural x

  joined : (pieces : List (List ℕ)) → All (IsPathWord n) pieces → IsPathWord n (concat pieces)
  joined [] each = All-nil IsSymbol
  joined (x ∷ xs) each = All-append IsSymbol x (concat xs) (All-head (IsPathWord n) x xs each) (joined xs (All-tail (IsPathWord n) x xs each))

  layer : (y : E.Expr-F ((e : Expr) × OfPaths e)) (w : List ℕ) → LayerLang classes n (Lang classes n) (map-Expr ((e : Expr) × OfPaths e) Expr (λ e. e.0) y) w → IsPathWord n w
  layer E.Empty w is = subst (IsPathWord n) (sym is) (All-nil IsSymbol)
  layer (E.Class k) w has = subst (IsPathWord n) (sym has.1) (All-cons IsSymbol has.0 [] has.2.2.path (All-nil IsSymbol))
  layer (E.Seq a b) w has = subst (IsPathWord n) (sym has.split) (All-append IsSymbol has.front has.rest (a.1 has.front has.in_front) (b.1 has.rest has.in_rest))
  layer (E.Alt a b) w (inl has) = a.1 w has
  layer (E.Alt a b) w (inr has) = b.1 w has
  layer (E.Meet a b) w has = a.1 w has.0
  layer (E.Not a) w has = has.0
  layer (E.Star a) w has = subst (IsPathWord n) (sym has.joined) (joined has.pieces (All-weaker (Lang classes n a.0) (IsPathWord n) a.1 has.pieces has.each))

  pub of_paths : (e : Expr) → OfPaths e
  of_paths =
      ind-Expr OfPaths
      (λ x y is w has. layer y w
      (subst (λ (z : E.Expr-F Expr). LayerLang classes n (Lang classes n) z w) (sym is) (subst (λ (X : WordSet). X w) (lang_roll x) has)))
