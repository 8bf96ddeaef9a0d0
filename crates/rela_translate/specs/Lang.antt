-- The words of a path expression.
use Rattle.std.specs.Prelude.{◌≡◌, ℕ, ◌⊎◌, List, [], ◌∷◌, Some, slice_get}
use Rattle.rela_rir.specs.Words.{WordSet, Concatenation, Star as SomeOf}
use Rattle.rela_rir.specs.Meaning.{HasSymbol, IsPathWord}
use Rattle.rela_rir.specs.declared.set.SymbolSet.{SymbolSet}
use Rattle.rela_translate.specs.declared.body.Expr.{Expr}
use Rattle.rela_translate.specs.declared.body.Expr.TheOpen.{Expr-F, Empty, Class, Seq, Alt, Meet, Not, Star}
use Rattle.rela_translate.specs.declared.body.Expr.TheFolds.{rec-Expr}

-- the path symbol is in the entry k of the class table
abbrev pub IsMember : List SymbolSet → ℕ → ℕ → ℕ → Type 0
IsMember classes path_symbols k s = (set : SymbolSet) × (slice_get classes k ≡ Some set)
    × HasSymbol path_symbols set s

-- One layer of an expression, where it is given which words its parts have.
module _ {X : Type 0} (classes : List SymbolSet) (path_symbols : ℕ) (part : X → WordSet) where
  abbrev pub LayerLang : Expr-F X → WordSet
  LayerLang Empty w = w ≡ []
  LayerLang (Class k) w = (s : ℕ) × (w ≡ s ∷ []) × IsMember classes path_symbols k s
  LayerLang (Seq a b) w = Concatenation (part a) (part b) w
  LayerLang (Alt a b) w = part a w ⊎ part b w
  LayerLang (Meet a b) w = part a w × part b w
  LayerLang (Not a) w = IsPathWord path_symbols w × (¬ part a w)
  LayerLang (Star a) w = SomeOf (part a) w

-- The word is in the expression, by recursion on the expression, under a class table and a number of path
-- symbols.
abbrev pub Lang : List SymbolSet → ℕ → Expr → WordSet
Lang classes path_symbols = rec-Expr WordSet (λ X _ part layer.
    LayerLang classes path_symbols part layer)
