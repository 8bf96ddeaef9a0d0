-- What predicates select, form by form.
use Rattle.std.proofs.Common.{◌≡◌, ◌∙◌, ℕ, ◌+◌, ◌≤◌, zero, suc, arith, refl, sym, ap, subst, List, [], ◌∷◌, ◌⊎◌, ◌↔◌, map}
use Rattle.std.specs.List.{AllByRecursion, All as EachHas}
use Rattle.rela_flows.specs.Address.{Address, Ipv4, Ipv6, AgreeInFirst, HasAddress, IsWithin, Overlap}
use Rattle.rela_flows.specs.Selects.{Selects, LayerSelects, SomeByRecursion, depth, layer_depth, greatest}
use Rattle.rela_flows.specs.declared.prefix.Ipv4Prefix.{Ipv4Prefix}
use Rattle.rela_flows.specs.declared.prefix.Ipv6Prefix.{Ipv6Prefix}
use Rattle.rela_flows.specs.declared.prefix.Prefix.{Prefix}
use Rattle.rela_flows.specs.declared.prefix.Prefix.TheVariants.{V4, V6}
use Rattle.rela_flows.specs.declared.predicate.FlowClass.{FlowClass}
use Rattle.rela_flows.specs.declared.predicate.Predicate.{Predicate}
use Rattle.rela_flows.specs.declared.predicate.Predicate.TheVariants as V
use Rattle.rela_flows.specs.declared.predicate.Predicate.TheOpen.{Predicate-F, All, DstIn, DstOverlaps, SrcIn, SrcOverlaps, Flow, Class, Not, And, Or}
use Rattle.rela_flows.specs.declared.predicate.Predicate.TheViews.{roll-Predicate}
use Rattle.rela_flows.specs.declared.predicate.Predicate.TheFolds.{rec-roll-Predicate, map-Predicate, fold-roll-Predicate}

all_map : {X Y : Type 0} (v : X → Y) (k : Y → Type 0) (xs : List X) → AllByRecursion (λ x. k (v x)) xs ≡ AllByRecursion k (map v xs)
all_map v k [] = refl
all_map v k (x ∷ xs) = ap (λ T. k (v x) × T) (all_map v k xs)

some_map : {X Y : Type 0} (v : X → Y) (k : Y → Type 0) (xs : List X) → SomeByRecursion (λ x. k (v x)) xs ≡ SomeByRecursion k (map v xs)
some_map v k [] = refl
some_map v k (x ∷ xs) = ap (λ T. k (v x) ⊎ T) (some_map v k xs)

natural : (c : FlowClass) (X : Type 0) (v : X → Predicate) (k : Predicate → Type 0) (x : Predicate-F X) → LayerSelects c (λ p. k (v p)) x ≡ LayerSelects c k (map-Predicate X Predicate v x)
natural c X v k All = refl
natural c X v k (DstIn q) = refl
natural c X v k (DstOverlaps q) = refl
natural c X v k (SrcIn q) = refl
natural c X v k (SrcOverlaps q) = refl
natural c X v k (Flow name) = refl
natural c X v k (Class name) = refl
natural c X v k (Not p) = refl
natural c X v k (And ps) = all_map v k ps
natural c X v k (Or ps) = some_map v k ps

selects_roll : (x : Predicate-F Predicate) (c : FlowClass) → Selects (roll-Predicate x) c ≡ LayerSelects c (λ p. Selects p c) x
selects_roll x c = rec-roll-Predicate (Type 0) (λ X v part layer. LayerSelects c part layer) (natural c) x

selects_dst_in : (q : Prefix) (c : FlowClass) → Selects (V.DstIn q) c ≡ IsWithin c.dst q
selects_dst_in q c = ap (λ p. Selects p c) (sym (V.rolls-DstIn q)) ∙ selects_roll (DstIn q) c

selects_dst_overlaps : (q : Prefix) (c : FlowClass) → Selects (V.DstOverlaps q) c ≡ Overlap c.dst q
selects_dst_overlaps q c = ap (λ p. Selects p c) (sym (V.rolls-DstOverlaps q)) ∙ selects_roll (DstOverlaps q) c

selects_src_in : (q : Prefix) (c : FlowClass) → Selects (V.SrcIn q) c ≡ IsWithin c.src q
selects_src_in q c = ap (λ p. Selects p c) (sym (V.rolls-SrcIn q)) ∙ selects_roll (SrcIn q) c

selects_src_overlaps : (q : Prefix) (c : FlowClass) → Selects (V.SrcOverlaps q) c ≡ Overlap c.src q
selects_src_overlaps q c = ap (λ p. Selects p c) (sym (V.rolls-SrcOverlaps q)) ∙ selects_roll (SrcOverlaps q) c

pub selects_not : (p : Predicate) (c : FlowClass) → Selects (V.Not p) c ≡ (¬ Selects p c)
selects_not p c = ap (λ p. Selects p c) (sym (V.rolls-Not p)) ∙ selects_roll (Not p) c

pub selects_and : (ps : List Predicate) (c : FlowClass) → Selects (V.And ps) c ≡ AllByRecursion (λ p. Selects p c) ps
selects_and ps c = ap (λ p. Selects p c) (sym (V.rolls-And ps)) ∙ selects_roll (And ps) c

pub selects_or : (ps : List Predicate) (c : FlowClass) → Selects (V.Or ps) c ≡ SomeByRecursion (λ p. Selects p c) ps
selects_or ps c = ap (λ p. Selects p c) (sym (V.rolls-Or ps)) ∙ selects_roll (Or ps) c

depth_roll : (x : Predicate-F Predicate) → depth (roll-Predicate x) ≡ layer_depth (map-Predicate Predicate ℕ depth x)
depth_roll x = fold-roll-Predicate ℕ layer_depth x

depth_and : (ps : List Predicate) → depth (V.And ps) ≡ greatest (map depth ps) + 1
depth_and ps = ap depth (sym (V.rolls-And ps)) ∙ depth_roll (And ps)

depth_or : (ps : List Predicate) → depth (V.Or ps) ≡ greatest (map depth ps) + 1
depth_or ps = ap depth (sym (V.rolls-Or ps)) ∙ depth_roll (Or ps)

-- no part is deeper than the deepest
parts_depth : (n : ℕ) (ps : List Predicate) → greatest (map depth ps) ≤ n → EachHas (λ p. depth p ≤ n) ps
parts_depth n [] fits k d inside = absurd (omega arith)
parts_depth n (p ∷ ps) fits zero d inside = omega arith
parts_depth n (p ∷ ps) fits (suc k) d inside = parts_depth n ps (omega arith) k d (omega arith)

pub parts_of_and : (p : Predicate) (ps : List Predicate) → depth p ≤ 1000 → p ≡ V.And ps → EachHas (λ q. depth q ≤ 1000) ps
parts_of_and p ps fits is = parts_depth 1000 ps (omega (arith, ap depth is, depth_and ps, fits))

pub parts_of_or : (p : Predicate) (ps : List Predicate) → depth p ≤ 1000 → p ≡ V.Or ps → EachHas (λ q. depth q ≤ 1000) ps
parts_of_or p ps fits is = parts_depth 1000 ps (omega (arith, ap depth is, depth_or ps, fits))

-- ---- leaves that are the same

-- prefixes with the same addresses
abbrev pub Same : Prefix → Prefix → Type 0
Same p q = (a : Address) → HasAddress p a ↔ HasAddress q a

agree : (w l m n a b : ℕ) → a ≡ b → l ≡ m → AgreeInFirst w l n a ↔ AgreeInFirst w m n b
agree w l m n a b e f =
    subst (λ (k : ℕ). AgreeInFirst w l n a ↔ AgreeInFirst w k n b) f
    (subst (λ (k : ℕ). AgreeInFirst w l n a ↔ AgreeInFirst w l n k) e ((λ h. h), (λ h. h)))

pub same_v4 : (p q : Ipv4Prefix) → p.address ≡ q.address → p.length ≡ q.length → Same (V4 p) (V4 q)
same_v4 p q address length (Ipv4 n) = agree 32 p.length q.length n p.address q.address address length
same_v4 p q address length (Ipv6 n) = ((λ h. h), (λ h. h))

pub same_v6 : (p q : Ipv6Prefix) → p.address ≡ q.address → p.length ≡ q.length → Same (V6 p) (V6 q)
same_v6 p q address length (Ipv4 n) = ((λ h. h), (λ h. h))
same_v6 p q address length (Ipv6 n) = agree 128 p.length q.length n p.address q.address address length

-- predicates that select the same
abbrev pub SelectSame : Predicate → Predicate → Type 0
SelectSame x y = (c : FlowClass) → Selects x c ↔ Selects y c

through : (S T A B : Type 0) → S ≡ A → T ≡ B → A ↔ B → S ↔ T
through S T A B s t h = subst (λ (X : Type 0). X ↔ T) (sym s) (subst (λ (Y : Type 0). A ↔ Y) (sym t) h)

forms_same : (x y p q : Predicate) → x ≡ p → y ≡ q → SelectSame p q → SelectSame x y
forms_same x y p q e f same =
    subst (λ (z : Predicate). SelectSame z y) (sym e) (subst (λ (z : Predicate). SelectSame p z) (sym f) same)

within_same : (c p q : Prefix) → Same p q → IsWithin c p ↔ IsWithin c q
within_same c p q same = ((λ h a has. (same a).0 (h a has)), (λ h a has. (same a).1 (h a has)))

overlap_same : (c p q : Prefix) → Same p q → Overlap c p ↔ Overlap c q
overlap_same c p q same = (
  (λ h. (h.0, h.1, (same h.0).0 h.2)),
  (λ h. (h.0, h.1, (same h.0).1 h.2)),
)

pub same_dst_in : (x y : Predicate) (p q : Prefix) → x ≡ V.DstIn p → y ≡ V.DstIn q → Same p q → SelectSame x y
same_dst_in x y p q e f same =
    forms_same x y (V.DstIn p) (V.DstIn q) e f (λ c. through _ _ _ _ (selects_dst_in p c) (selects_dst_in q c) (within_same c.dst p q same))

pub same_dst_overlaps : (x y : Predicate) (p q : Prefix) → x ≡ V.DstOverlaps p → y ≡ V.DstOverlaps q → Same p q → SelectSame x y
same_dst_overlaps x y p q e f same =
    forms_same x y (V.DstOverlaps p) (V.DstOverlaps q) e f (λ c. through _ _ _ _ (selects_dst_overlaps p c) (selects_dst_overlaps q c) (overlap_same c.dst p q same))

pub same_src_in : (x y : Predicate) (p q : Prefix) → x ≡ V.SrcIn p → y ≡ V.SrcIn q → Same p q → SelectSame x y
same_src_in x y p q e f same =
    forms_same x y (V.SrcIn p) (V.SrcIn q) e f (λ c. through _ _ _ _ (selects_src_in p c) (selects_src_in q c) (within_same c.src p q same))

pub same_src_overlaps : (x y : Predicate) (p q : Prefix) → x ≡ V.SrcOverlaps p → y ≡ V.SrcOverlaps q → Same p q → SelectSame x y
same_src_overlaps x y p q e f same =
    forms_same x y (V.SrcOverlaps p) (V.SrcOverlaps q) e f (λ c. through _ _ _ _ (selects_src_overlaps p c) (selects_src_overlaps q c) (overlap_same c.src p q same))
