-- The words of a path expression as it is written.
use Rattle.std.specs.Prelude.{◌≡◌, ℕ, ◌<◌, ◌⊎◌, Bool, true, false, List, [], ◌∷◌, length, Contains, MatchBool, Ok}
use Rattle.std.specs.List.{All, concat}
use Rattle.rela_rir.specs.Words.{WordSet, Concatenation, Star as SomeOf}
use Rattle.rela_rir.specs.Meaning.{IsPathWord}
use Rattle.rela_spec.specs.declared.tree.Member.{Member}
use Rattle.rela_spec.specs.declared.tree.PathExpr.{PathExpr}
use Rattle.rela_spec.specs.declared.tree.PathExpr.TheOpen.{PathExpr-F, Any, Empty, One, Class, Reference, Seq, Alt, And, Not, Star, Plus, Maybe, Times}
use Rattle.rela_spec.specs.declared.tree.PathExpr.TheFolds.{rec-PathExpr}
use Rattle.rela_expand.specs.Places.{Place, path_symbols_at, symbols_of}

-- the symbol is one of those that the member names
abbrev pub IsOf : Place → ℕ → Member → Type 0
IsOf place s member = (symbols : List ℕ) × (symbols_of place member ≡ Ok symbols)
    × Contains symbols s

-- one of the members names the symbol
abbrev pub IsNamed : Place → List Member → ℕ → Type 0
IsNamed place members s = (member : Member) × Contains members member × IsOf place s member

-- the word is one path symbol that a member names, or, where negated, that none names
pub record IsLetter (place : Place) (negated : Bool) (members : List Member)
    (w : List ℕ) : Type 0 where
  pub symbol : ℕ
  pub only : w ≡ symbol ∷ []
  pub path : symbol < path_symbols_at place
  pub chosen : MatchBool negated (¬ IsNamed place members symbol) (IsNamed place members symbol)

-- n words of the set, one after another
pub record Repeated (n : ℕ) (X : List ℕ → Type 0) (w : List ℕ) : Type 0 where
  pub pieces : List (List ℕ)
  pub many : length pieces ≡ n
  pub joined : w ≡ concat pieces
  pub each : All X pieces

-- One layer of an expression, where it is given which words its parts have, and which the names stand for.
module _ {X : Type 0} (part : X → WordSet) where
  -- a word of each part, one after another
  abbrev pub InOrder : List X → WordSet
  InOrder [] w = w ≡ []
  InOrder (x ∷ others) w = Concatenation (part x) (InOrder others) w

  -- a word of some part
  abbrev pub OfSome : List X → WordSet
  OfSome [] w = ⊥
  OfSome (x ∷ others) w = part x w ⊎ OfSome others w

  -- a word of each part
  abbrev pub OfEach : List X → WordSet
  OfEach [] w = Unit {0}
  OfEach (x ∷ others) w = part x w × OfEach others w

  abbrev pub LayerLangW : Place → (List ℕ → WordSet) → PathExpr-F X → WordSet
  LayerLangW place named Any w = IsLetter place true [] w
  LayerLangW place named Empty w = w ≡ []
  LayerLangW place named (One member) w = IsLetter place false (member ∷ []) w
  LayerLangW place named (Class negated members) w = IsLetter place negated members w
  LayerLangW place named (Reference name at) w = named name w
  LayerLangW place named (Seq parts) w = InOrder parts w
  LayerLangW place named (Alt parts) w = OfSome parts w
  LayerLangW place named (And parts) w = OfEach parts w
  LayerLangW place named (Not x) w = IsPathWord (path_symbols_at place) w × (¬ part x w)
  LayerLangW place named (Star x) w = SomeOf (part x) w
  LayerLangW place named (Plus x) w = Concatenation (part x) (SomeOf (part x)) w
  LayerLangW place named (Maybe x) w = (w ≡ []) ⊎ part x w
  LayerLangW place named (Times x n) w = Repeated n (part x) w

-- The word is in the expression, by recursion on it, where `named` says which words a name stands for.
abbrev pub LangW : Place → (List ℕ → WordSet) → PathExpr → WordSet
LangW place named = rec-PathExpr WordSet (λ X _ part layer. LayerLangW part place named layer)
