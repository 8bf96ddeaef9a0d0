-- What a body of a check speaks of, and how it relates the paths before and after the change.
use Rattle.std.specs.Prelude.{◌≡◌, ℕ, ◌+◌, ◌⊎◌, List, [], ◌∷◌}
use Rattle.rela_rir.specs.Words.{WordSet, Relation, Concatenation, PairConcatenation}
use Rattle.rela_rir.specs.declared.set.SymbolSet.{SymbolSet}
use Rattle.rela_translate.specs.Lang.{Lang}
use Rattle.rela_translate.specs.declared.body.Expr.{Expr}
use Rattle.rela_translate.specs.declared.body.Change.{Change}
use Rattle.rela_translate.specs.declared.body.Change.TheVariants.{Preserve, Add, Remove, Replace, Drop, AnyOf, Ignore}
use Rattle.rela_translate.specs.declared.body.Core.{Core}
use Rattle.rela_translate.specs.declared.body.Core.TheOpen.{Core-F, Unit, Then, Else}
use Rattle.rela_translate.specs.declared.body.Core.TheFolds.{rec-Core}

-- The symbols are numbered from 0: the locations, then drop, loop, and the markers from #1 on.
abbrev pub path_symbols : ℕ → ℕ
path_symbols locations = locations + 2

abbrev pub drop_symbol : ℕ → ℕ
drop_symbol locations = locations

abbrev pub marker_symbol : ℕ → ℕ → ℕ
marker_symbol locations k = locations + 1 + k

-- the word of one symbol
abbrev pub Single : ℕ → WordSet
Single s w = w ≡ s ∷ []

-- the words of either set
abbrev pub Either : WordSet → WordSet → WordSet
Either X Y w = X w ⊎ Y w

-- the words that are in both sets
abbrev pub Common : WordSet → WordSet → WordSet
Common X Y w = X w × Y w

-- the words of the first set that are not in the second
abbrev pub Without : WordSet → WordSet → WordSet
Without X Y w = X w × (¬ Y w)

-- each word of the set with itself
abbrev pub Same : WordSet → Relation
Same X u v = (u ≡ v) × X u

-- each word of the first set with each of the second
abbrev pub Pairs : WordSet → WordSet → Relation
Pairs X Y u v = X u × Y v

-- the pairs of either relation
abbrev pub EitherPair : Relation → Relation → Relation
EitherPair R S u v = R u v ⊎ S u v

-- the pairs whose first word is not in the set
abbrev pub Outside : WordSet → Relation → Relation
Outside X R u v = R u v × (¬ X u)

-- what a body means: its zone, and the relations that the paths before and after the change are seen through
pub record Meaning : Type 1 where
  pub zone : List ℕ → Type 0
  pub before : List ℕ → List ℕ → Type 0
  pub after : List ℕ → List ℕ → Type 0

module _ (classes : List SymbolSet) (locations : ℕ) where
  -- the words of a path expression
  abbrev pub Paths : Expr → WordSet
  Paths e = Lang classes (path_symbols locations) e

  -- one unit, by its modifier, for the words Z of its zone
  abbrev pub unit_meaning : WordSet → Change → Meaning
  unit_meaning Z Preserve = record {
    zone = Z;
    before = Same Z;
    after = Same Z;
  }
  unit_meaning Z (Add p) = record {
    zone = Either Z (Paths p);
    before = EitherPair (Same (Either Z (Paths p))) (Pairs Z (Paths p));
    after = Same (Either Z (Paths p));
  }
  unit_meaning Z (Remove p) = record {
    zone = Z;
    before = Same (Without Z (Paths p));
    after = Same Z;
  }
  unit_meaning Z (Replace p q) = record {
    zone = Either Z (Paths q);
    before = EitherPair (Same (Without (Either Z (Paths q)) (Common (Paths p) Z)))
        (Pairs (Common (Paths p) Z) (Paths q));
    after = Same (Either Z (Paths q));
  }
  unit_meaning Z Drop = record {
    zone = Either Z (Single (drop_symbol locations));
    before = Pairs (Either Z (Single (drop_symbol locations))) (Single (drop_symbol locations));
    after = Same (Either Z (Single (drop_symbol locations)));
  }
  unit_meaning Z (AnyOf p k) = record {
    zone = Either Z (Paths p);
    before = Pairs (Either Z (Paths p)) (Single (marker_symbol locations k));
    after = EitherPair (Pairs (Paths p) (Single (marker_symbol locations k)))
        (Same (Without Z (Paths p)));
  }
  unit_meaning Z (Ignore p) = record {
    zone = Z;
    before = Same (Without Z (Paths p));
    after = Same (Without Z (Paths p));
  }

-- One layer of a body, where it is given what its parts mean.
module _ {X : Type 0} (classes : List SymbolSet) (locations : ℕ) (part : X → Meaning) where
  abbrev pub layer_meaning : Core-F X → Meaning
  layer_meaning (Unit z c) = unit_meaning classes locations (Paths classes locations z) c
  layer_meaning (Then s t) = record {
    zone = Concatenation (part s).zone (part t).zone;
    before = PairConcatenation (part s).before (part t).before;
    after = PairConcatenation (part s).after (part t).after;
  }
  layer_meaning (Else s t) = record {
    zone = Either (part s).zone (part t).zone;
    before = EitherPair (part s).before (Outside (part s).zone (part t).before);
    after = EitherPair (part s).after (Outside (part s).zone (part t).after);
  }

-- What a body means, by recursion on the body, under a class table and a number of locations.
abbrev pub meaning_of : List SymbolSet → ℕ → Core → Meaning
meaning_of classes locations = rec-Core Meaning (λ X _ part layer.
    layer_meaning classes locations part layer)

-- the word is in the zone of the body
abbrev pub Zone : List SymbolSet → ℕ → Core → WordSet
Zone classes locations body = (meaning_of classes locations body).zone

-- the before relation has the pair of words
abbrev pub Before : List SymbolSet → ℕ → Core → Relation
Before classes locations body = (meaning_of classes locations body).before

-- the after relation has the pair of words
abbrev pub After : List SymbolSet → ℕ → Core → Relation
After classes locations body = (meaning_of classes locations body).after
