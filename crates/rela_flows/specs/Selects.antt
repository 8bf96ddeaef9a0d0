-- Which flow classes a predicate selects, and how deep it is.
use Rattle.std.specs.Prelude.{◌≡◌, ℕ, ◌+◌, ◌⊎◌, max, List, [], ◌∷◌}
use Rattle.std.specs.List.{AllByRecursion}
use Rattle.rela_flows.specs.Address.{IsWithin, Overlap}
use Rattle.rela_flows.specs.declared.predicate.FlowClass.{FlowClass}
use Rattle.rela_flows.specs.declared.predicate.Predicate.{Predicate}
use Rattle.rela_flows.specs.declared.predicate.Predicate.TheOpen.{Predicate-F, All, DstIn, DstOverlaps, SrcIn, SrcOverlaps, Flow, Class, Not, And, Or}
use Rattle.rela_flows.specs.declared.predicate.Predicate.TheFolds.{fold-Predicate, rec-Predicate}

-- some element has it
abbrev pub SomeByRecursion : {X : Type 0} → (X → Type 0) → List X → Type 0
SomeByRecursion P [] = ⊥
SomeByRecursion P (x ∷ xs) = P x ⊎ SomeByRecursion P xs

-- One layer of a predicate selects the class, where it is given which parts do.
abbrev pub LayerSelects : {X : Type 0} → FlowClass → (X → Type 0) → Predicate-F X → Type 0
LayerSelects c part All = Unit {0}
LayerSelects c part (DstIn q) = IsWithin c.dst q
LayerSelects c part (DstOverlaps q) = Overlap c.dst q
LayerSelects c part (SrcIn q) = IsWithin c.src q
LayerSelects c part (SrcOverlaps q) = Overlap c.src q
LayerSelects c part (Flow name) = c.name ≡ name
LayerSelects c part (Class name) = c.class ≡ name
LayerSelects c part (Not p) = ¬ part p
LayerSelects c part (And ps) = AllByRecursion part ps
LayerSelects c part (Or ps) = SomeByRecursion part ps

-- The predicate selects the flow class, by recursion on the predicate.
abbrev pub Selects : Predicate → FlowClass → Type 0
Selects p c = rec-Predicate (Type 0) (λ X _ part layer. LayerSelects c part layer) p

-- the greatest of the numbers, or 0
abbrev pub greatest : List ℕ → ℕ
greatest [] = 0
greatest (n ∷ ns) = max n (greatest ns)

abbrev pub layer_depth : Predicate-F ℕ → ℕ
layer_depth (Not n) = n + 1
layer_depth (And ns) = greatest ns + 1
layer_depth (Or ns) = greatest ns + 1
layer_depth _ = 1

-- 1 for a predicate without parts, and 1 more than the deepest part else
abbrev pub depth : Predicate → ℕ
depth = fold-Predicate ℕ layer_depth
