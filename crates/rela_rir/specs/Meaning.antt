-- The words of a path term and the pairs of words of a relation term.
use Rattle.std.specs.Prelude.{◌≡◌, ℕ, ◌<◌, ◌⊎◌, ◌↔◌, List, [], ◌∷◌, Some, slice_get, MatchBool, All, Contains}
use Rattle.rela_rir.specs.Words.{WordSet, Relation, Concatenation, Star, ImageOf, PairConcatenation, PairStar, Composition}
use Rattle.rela_rir.specs.declared.set.SymbolSet.{SymbolSet}
use Rattle.rela_rir.specs.declared.assertion.Assertion.{Assertion}
use Rattle.rela_rir.specs.declared.assertion.Assertion.TheVariants.{Equal, Included}
use Rattle.rela_rir.specs.declared.term.PathTerm.{PathTerm}
use Rattle.rela_rir.specs.declared.term.RelTerm.{RelTerm}
use Rattle.rela_rir.specs.declared.term.PathTerm.TheOpen.{PathTerm-F, None, Empty, Class, One, PathTerm::Union, PathTerm::Concat, PathTerm::Star, Meet, Complement, Pre, Post, Image, RelTerm-F, Identity, Product, RelTerm::Union, RelTerm::Concat, RelTerm::Star, Compose}
use Rattle.rela_rir.specs.declared.term.PathTerm.TheFolds.{rec-PathTerm, rec-RelTerm}

-- what a term is read in: the class table, the number of path symbols, and the path sets that `Pre` and
-- `Post` stand for. The path symbols are the numbers below their number.
pub record Setting : Type 1 where
  pub classes : List SymbolSet
  pub path_symbols : ℕ
  pub pre : List ℕ → Type 0
  pub post : List ℕ → Type 0

-- the path symbol is one of the members, or none of them where the set is negated
pub record HasSymbol (path_symbols : ℕ) (set : SymbolSet) (s : ℕ) : Type 0 where
  pub path : s < path_symbols
  pub chosen : MatchBool set.negated (¬ Contains set.members s) (Contains set.members s)

-- the symbol is in the entry k of the class table
abbrev pub IsInClass : Setting → ℕ → ℕ → Type 0
IsInClass m k s = (set : SymbolSet) × (slice_get m.classes k ≡ Some set)
    × HasSymbol m.path_symbols set s

-- a word of path symbols
abbrev pub IsPathWord : ℕ → List ℕ → Type 0
IsPathWord path_symbols w = All (λ s. s < path_symbols) w

-- One layer of a term, where it is given which words its parts have and which pairs they relate.
module _ {X Y : Type 0} (m : Setting) (set : X → WordSet) (relation : Y → Relation) where
  abbrev pub LayerIn : PathTerm-F X Y → WordSet
  LayerIn None w = ⊥
  LayerIn Empty w = w ≡ []
  LayerIn (Class k) w = (s : ℕ) × (w ≡ s ∷ []) × IsInClass m k s
  LayerIn (One s) w = w ≡ s ∷ []
  LayerIn (PathTerm::Union x y) w = set x w ⊎ set y w
  LayerIn (PathTerm::Concat x y) w = Concatenation (set x) (set y) w
  LayerIn (PathTerm::Star x) w = Star (set x) w
  LayerIn (Meet x y) w = set x w × set y w
  LayerIn (Complement x) w = IsPathWord m.path_symbols w × (¬ set x w)
  LayerIn Pre w = m.pre w
  LayerIn Post w = m.post w
  LayerIn (Image x r) w = ImageOf (set x) (relation r) w

  abbrev pub LayerInR : RelTerm-F X Y → Relation
  LayerInR (Identity x) u v = (u ≡ v) × set x u
  LayerInR (Product x y) u v = set x u × set y v
  LayerInR (RelTerm::Union r s) u v = relation r u v ⊎ relation s u v
  LayerInR (RelTerm::Concat r s) u v = PairConcatenation (relation r) (relation s) u v
  LayerInR (RelTerm::Star r) u v = PairStar (relation r) u v
  LayerInR (Compose r s) u v = Composition (relation r) (relation s) u v

-- The word is in the path term, by recursion on the term.
abbrev pub In : Setting → PathTerm → WordSet
In m =
    rec-PathTerm WordSet Relation
    (λ X Y _ _ set relation layer. LayerIn m set relation layer)
    (λ X Y _ _ set relation layer. LayerInR m set relation layer)

-- The pair of words is in the relation term, likewise.
abbrev pub InR : Setting → RelTerm → Relation
InR m =
    rec-RelTerm WordSet Relation
    (λ X Y _ _ set relation layer. LayerIn m set relation layer)
    (λ X Y _ _ set relation layer. LayerInR m set relation layer)

-- The assertion holds: the two terms have the same words, or each word of the one is in the other.
abbrev pub Holds : Setting → Assertion → Type 0
Holds m (Equal x y) = (w : List ℕ) → In m x w ↔ In m y w
Holds m (Included x y) = (w : List ℕ) → In m x w → In m y w
