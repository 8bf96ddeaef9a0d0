-- The alternatives of a body, and the one that claims a word.
use Rattle.std.specs.Prelude.{◌≡◌, ℕ, ◌+◌, ◌<◌, List, [], ◌∷◌, ◌++◌, Some, slice_get}
use Rattle.rela_rir.specs.declared.set.SymbolSet.{SymbolSet}
use Rattle.rela_translate.specs.Zones.{Zone}
use Rattle.rela_translate.specs.declared.body.Core.{Core}
use Rattle.rela_translate.specs.declared.body.Core.TheOpen.{Core-F, Unit, Then, Else}
use Rattle.rela_translate.specs.declared.body.Core.TheFolds.{para-Core}
use Rattle.rela_translate.specs.declared.body.Core.TheVariants as body

-- One layer of a body, where each part comes with its alternatives.
abbrev pub layer_alternatives : Core-F (Core × List Core) → List Core
layer_alternatives (Unit z c) = body.Unit z c ∷ []
layer_alternatives (Then s t) = body.Then s.0 t.0 ∷ []
layer_alternatives (Else s t) = s.1 ++ t.1

-- The alternatives of a body, from left to right: those of each part of an `else`, in order. A unit,
-- or a `then`, is one alternative.
abbrev pub alternatives_of : Core → List Core
alternatives_of = para-Core (List Core) layer_alternatives

module _ (classes : List SymbolSet) (locations : ℕ) (asked : Core) (word : List ℕ) where
  -- the word is in the zone of the alternative before which so many stand
  abbrev pub Claims : ℕ → Type 0
  Claims before = (alternative : Core) × (slice_get (alternatives_of asked) before ≡ Some alternative)
      × Zone classes locations alternative word

  -- the word is in the zone of the alternative of number k, counted from 1, and in that of no
  -- earlier one
  pub record IsBlame (k : ℕ) : Type 0 where
    pub before : ℕ
    pub number : k ≡ before + 1
    pub claims : Claims before
    pub first : (earlier : ℕ) → earlier < before → ¬ Claims earlier
