-- How deep a predicate is, form by form.
use Rattle.std.proofs.Common.{◌≡◌, ◌≤◌, ℕ, ◌+◌, max, List, [], ◌∷◌, ◌++◌, map, arith, ap, ◌∙◌, sym}
use Rattle.rela_flows.specs.Selects.{depth, layer_depth, greatest}
use Rattle.rela_flows.specs.declared.prefix.Prefix.{Prefix}
use Rattle.rela_flows.specs.declared.predicate.Predicate.{Predicate}
use Rattle.rela_flows.specs.declared.predicate.Predicate.TheVariants as V
use Rattle.rela_flows.specs.declared.predicate.Predicate.TheOpen as layer
use Rattle.rela_flows.specs.declared.predicate.Predicate.TheFolds.{fold-roll-Predicate}

pub depth_all : depth V.All ≡ 1
depth_all = ap depth (sym V.rolls-All) ∙ fold-roll-Predicate ℕ layer_depth layer.All

pub depth_dst_in : (q : Prefix) → depth (V.DstIn q) ≡ 1
depth_dst_in q = ap depth (sym (V.rolls-DstIn q)) ∙ fold-roll-Predicate ℕ layer_depth (layer.DstIn q)

pub depth_dst_overlaps : (q : Prefix) → depth (V.DstOverlaps q) ≡ 1
depth_dst_overlaps q = ap depth (sym (V.rolls-DstOverlaps q)) ∙ fold-roll-Predicate ℕ layer_depth (layer.DstOverlaps q)

pub depth_src_in : (q : Prefix) → depth (V.SrcIn q) ≡ 1
depth_src_in q = ap depth (sym (V.rolls-SrcIn q)) ∙ fold-roll-Predicate ℕ layer_depth (layer.SrcIn q)

pub depth_src_overlaps : (q : Prefix) → depth (V.SrcOverlaps q) ≡ 1
depth_src_overlaps q = ap depth (sym (V.rolls-SrcOverlaps q)) ∙ fold-roll-Predicate ℕ layer_depth (layer.SrcOverlaps q)

pub depth_flow : (name : List ℕ) → depth (V.Flow name) ≡ 1
depth_flow name = ap depth (sym (V.rolls-Flow name)) ∙ fold-roll-Predicate ℕ layer_depth (layer.Flow name)

pub depth_class : (name : List ℕ) → depth (V.Class name) ≡ 1
depth_class name = ap depth (sym (V.rolls-Class name)) ∙ fold-roll-Predicate ℕ layer_depth (layer.Class name)

pub depth_not : (p : Predicate) → depth (V.Not p) ≡ depth p + 1
depth_not p = ap depth (sym (V.rolls-Not p)) ∙ fold-roll-Predicate ℕ layer_depth (layer.Not p)

pub depth_and : (ps : List Predicate) → depth (V.And ps) ≡ greatest (map depth ps) + 1
depth_and ps = ap depth (sym (V.rolls-And ps)) ∙ fold-roll-Predicate ℕ layer_depth (layer.And ps)

pub depth_or : (ps : List Predicate) → depth (V.Or ps) ≡ greatest (map depth ps) + 1
depth_or ps = ap depth (sym (V.rolls-Or ps)) ∙ fold-roll-Predicate ℕ layer_depth (layer.Or ps)

pub greatest_append : (parts : List Predicate) (part : Predicate) → greatest (map depth (parts ++ part ∷ [])) ≡ max (greatest (map depth parts)) (depth part)
greatest_append [] part = omega arith
greatest_append (first ∷ parts) part = omega (arith, greatest_append parts part)

pub greatest_push : (parts : List Predicate) (part : Predicate) (pushed : List Predicate) (n : ℕ) → pushed ≡ parts ++ part ∷ [] → greatest (map depth parts) ≤ n → depth part ≤ n → greatest (map depth pushed) ≤ n
greatest_push parts part pushed n items all last = omega (arith, greatest_append parts part, ap (λ (x : List Predicate). greatest (map depth x)) items)
