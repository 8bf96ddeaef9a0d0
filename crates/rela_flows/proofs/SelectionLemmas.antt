-- What predicates select, form by form.
use Rattle.std.proofs.Common.{◌≡◌, ◌∙◌, subst, Bool, true, false, not, ℕ, ◌+◌, ◌≤◌, zero, suc, arith, refl, sym, ap, List, [], ◌∷◌, ◌⊎◌, map}
use Rattle.std.specs.Prelude.{IsTrue, ◌↔◌}
use Rattle.std.specs.Bool.{Decides}
use Rattle.std.specs.Str.{bytes_eq}
use Rattle.std.proofs.lemmas.Slice.Eq.{bytes_eq-Decides}
use Rattle.std.specs.List.{AllByRecursion, All as EachHas}
use Rattle.rela_flows.specs.Address.{IsWithin, Overlap}
use Rattle.rela_flows.specs.Selects.{Selects, LayerSelects, SomeByRecursion, depth, layer_depth, greatest}
use Rattle.rela_flows.specs.declared.prefix.Prefix.{Prefix}
use Rattle.rela_flows.specs.declared.predicate.FlowClass.{FlowClass}
use Rattle.rela_flows.specs.declared.predicate.Predicate.{Predicate}
use Rattle.rela_flows.specs.declared.predicate.Predicate.TheVariants as V
use Rattle.rela_flows.specs.declared.predicate.Predicate.TheOpen.{Predicate-F, All, DstIn, DstOverlaps, SrcIn, SrcOverlaps, Flow, Class, Not, And, Or}
use Rattle.rela_flows.specs.declared.predicate.Predicate.TheViews.{roll-Predicate}
use Rattle.rela_flows.specs.declared.predicate.Predicate.TheFolds.{rec-roll-Predicate, map-Predicate, fold-roll-Predicate}

all_map : {X Y : Type 0} (v : X → Y) (k : Y → Type 0) (xs : List X) → AllByRecursion (λ x. k (v x)) xs ≡ AllByRecursion k (map v xs)
all_map v k [] = refl
all_map v k (x ∷ xs) = ap (λ T. k (v x) × T) (all_map v k xs)

some_map : {X Y : Type 0} (v : X → Y) (k : Y → Type 0) (xs : List X) → SomeByRecursion (λ x. k (v x)) xs ≡ SomeByRecursion k (map v xs)
some_map v k [] = refl
some_map v k (x ∷ xs) = ap (λ T. k (v x) ⊎ T) (some_map v k xs)

natural : (c : FlowClass) (X : Type 0) (v : X → Predicate) (k : Predicate → Type 0) (x : Predicate-F X) → LayerSelects c (λ p. k (v p)) x ≡ LayerSelects c k (map-Predicate X Predicate v x)
natural c X v k All = refl
natural c X v k (DstIn q) = refl
natural c X v k (DstOverlaps q) = refl
natural c X v k (SrcIn q) = refl
natural c X v k (SrcOverlaps q) = refl
natural c X v k (Flow name) = refl
natural c X v k (Class name) = refl
natural c X v k (Not p) = refl
natural c X v k (And ps) = all_map v k ps
natural c X v k (Or ps) = some_map v k ps

selects_roll : (x : Predicate-F Predicate) (c : FlowClass) → Selects (roll-Predicate x) c ≡ LayerSelects c (λ p. Selects p c) x
selects_roll x c = rec-roll-Predicate (Type 0) (λ X v part layer. LayerSelects c part layer) (natural c) x

pub selects_all : (c : FlowClass) → Selects V.All c ≡ Unit {0}
selects_all c = ap (λ p. Selects p c) (sym V.rolls-All) ∙ selects_roll All c

pub selects_dst_in : (q : Prefix) (c : FlowClass) → Selects (V.DstIn q) c ≡ IsWithin c.dst q
selects_dst_in q c = ap (λ p. Selects p c) (sym (V.rolls-DstIn q)) ∙ selects_roll (DstIn q) c

pub selects_dst_overlaps : (q : Prefix) (c : FlowClass) → Selects (V.DstOverlaps q) c ≡ Overlap c.dst q
selects_dst_overlaps q c = ap (λ p. Selects p c) (sym (V.rolls-DstOverlaps q)) ∙ selects_roll (DstOverlaps q) c

pub selects_src_in : (q : Prefix) (c : FlowClass) → Selects (V.SrcIn q) c ≡ IsWithin c.src q
selects_src_in q c = ap (λ p. Selects p c) (sym (V.rolls-SrcIn q)) ∙ selects_roll (SrcIn q) c

pub selects_src_overlaps : (q : Prefix) (c : FlowClass) → Selects (V.SrcOverlaps q) c ≡ Overlap c.src q
selects_src_overlaps q c = ap (λ p. Selects p c) (sym (V.rolls-SrcOverlaps q)) ∙ selects_roll (SrcOverlaps q) c

pub selects_flow : (name : List ℕ) (c : FlowClass) → Selects (V.Flow name) c ≡ (c.name ≡ name)
selects_flow name c = ap (λ p. Selects p c) (sym (V.rolls-Flow name)) ∙ selects_roll (Flow name) c

pub selects_class : (name : List ℕ) (c : FlowClass) → Selects (V.Class name) c ≡ (c.class ≡ name)
selects_class name c = ap (λ p. Selects p c) (sym (V.rolls-Class name)) ∙ selects_roll (Class name) c

pub selects_not : (p : Predicate) (c : FlowClass) → Selects (V.Not p) c ≡ (¬ Selects p c)
selects_not p c = ap (λ p. Selects p c) (sym (V.rolls-Not p)) ∙ selects_roll (Not p) c

pub selects_and : (ps : List Predicate) (c : FlowClass) → Selects (V.And ps) c ≡ AllByRecursion (λ p. Selects p c) ps
selects_and ps c = ap (λ p. Selects p c) (sym (V.rolls-And ps)) ∙ selects_roll (And ps) c

pub selects_or : (ps : List Predicate) (c : FlowClass) → Selects (V.Or ps) c ≡ SomeByRecursion (λ p. Selects p c) ps
selects_or ps c = ap (λ p. Selects p c) (sym (V.rolls-Or ps)) ∙ selects_roll (Or ps) c

depth_roll : (x : Predicate-F Predicate) → depth (roll-Predicate x) ≡ layer_depth (map-Predicate Predicate ℕ depth x)
depth_roll x = fold-roll-Predicate ℕ layer_depth x

pub depth_not : (p : Predicate) → depth (V.Not p) ≡ depth p + 1
depth_not p = ap depth (sym (V.rolls-Not p)) ∙ depth_roll (Not p)

pub depth_and : (ps : List Predicate) → depth (V.And ps) ≡ greatest (map depth ps) + 1
depth_and ps = ap depth (sym (V.rolls-And ps)) ∙ depth_roll (And ps)

pub depth_or : (ps : List Predicate) → depth (V.Or ps) ≡ greatest (map depth ps) + 1
depth_or ps = ap depth (sym (V.rolls-Or ps)) ∙ depth_roll (Or ps)

-- no part is deeper than the deepest
parts_depth : (n : ℕ) (ps : List Predicate) → greatest (map depth ps) ≤ n → EachHas (λ p. depth p ≤ n) ps
parts_depth n [] fits k d inside = absurd (omega arith)
parts_depth n (p ∷ ps) fits zero d inside = omega arith
parts_depth n (p ∷ ps) fits (suc k) d inside = parts_depth n ps (omega arith) k d (omega arith)

pub parts_of_and : (p : Predicate) (ps : List Predicate) → depth p ≤ 1000 → p ≡ V.And ps → EachHas (λ q. depth q ≤ 1000) ps
parts_of_and p ps fits is = parts_depth 1000 ps (omega (arith, ap depth is, depth_and ps, fits))

pub parts_of_or : (p : Predicate) (ps : List Predicate) → depth p ≤ 1000 → p ≡ V.Or ps → EachHas (λ q. depth q ≤ 1000) ps
parts_of_or p ps fits is = parts_depth 1000 ps (omega (arith, ap depth is, depth_or ps, fits))

-- a test of what a predicate of this form selects
pub test_of : (r : Bool) (p q : Predicate) (c : FlowClass) (T : Type 0) → p ≡ q → Selects q c ≡ T → IsTrue r ↔ T → IsTrue r ↔ Selects p c
test_of r p q c T is form test = subst (λ S. IsTrue r ↔ S) (sym form ∙ ap (λ s. Selects s c) (sym is)) test

pub not_test : (r : Bool) (T : Type 0) → IsTrue r ↔ T → IsTrue (not r) ↔ (¬ T)
not_test true T test = ((λ yes. cc), λ never. absurd (never (test.0 refl)))
not_test false T test = ((λ _ holds. let yes : IsTrue false = test.1 holds in cc), λ _. refl)

pub name_test : (r : Bool) (one two : List ℕ) → r ≡ bytes_eq one two → IsTrue r ↔ (one ≡ two)
name_test r one two is =
    let decides : Decides (bytes_eq one two) (one ≡ two) = bytes_eq-Decides one two in
    ((λ yes. decides.0 (sym is ∙ yes)), λ same. is ∙ decides.1 same)
