-- Checks that treat both sides of a change alike.
use Rattle.std.specs.Prelude.{ℕ, ◌↔◌, List, ◌∷◌, [], ◌++◌, All}
use Rattle.rela_rir.specs.Words.{Relation}
use Rattle.rela_translate.specs.declared.body.Change.{Change}
use Rattle.rela_translate.specs.declared.body.Change.TheVariants.{Preserve, Add, Remove, Replace, Drop, AnyOf, Ignore}
use Rattle.rela_translate.specs.declared.body.Core.{Core}
use Rattle.rela_translate.specs.declared.body.Core.TheOpen.{Core-F, Unit as Unit', Then, Else}
use Rattle.rela_translate.specs.declared.body.Core.TheFolds.{fold-Core}

abbrev pub layer_modifiers : Core-F (List Change) → List Change
layer_modifiers (Unit' z c) = c ∷ []
layer_modifiers (Then s t) = s ++ t
layer_modifiers (Else s t) = s ++ t

-- the modifiers of the body's units, from left to right
abbrev pub modifiers_of : Core → List Change
modifiers_of = fold-Core (List Change) layer_modifiers

-- the modifier asks for no change: the paths of its zone stay, all of them or but for some of which nothing is said
abbrev pub AsksNoChange : Change → Type 0
AsksNoChange Preserve = Unit {0}
AsksNoChange (Add p) = ⊥
AsksNoChange (Remove p) = ⊥
AsksNoChange (Replace p q) = ⊥
AsksNoChange Drop = ⊥
AsksNoChange (AnyOf p k) = ⊥
AsksNoChange (Ignore p) = Unit {0}

-- no unit of the body asks for a change
abbrev pub TreatsSidesAlike : Core → Type 0
TreatsSidesAlike body = All AsksNoChange (modifiers_of body)

-- the two relations have the same pairs
abbrev pub SamePairs : Relation → Relation → Type 0
SamePairs R S = (u v : List ℕ) → R u v ↔ S u v
