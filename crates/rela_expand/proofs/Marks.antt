-- The markers of a numbered body are counted from left to right.
use Rattle.std.proofs.Common.{zero, suc, ◌≡◌, ℕ, ◌+◌, List, [], ◌∷◌, ◌++◌, length, refl, ap, ap₂, sym, ◌∙◌, arith}
use Rattle.std.proofs.lemmas.List.FromFn.{length-range_with_len}
use Rattle.std.specs.List.{range_with_len}
use Rattle.rela_spec.specs.declared.tree.Modifier.{Modifier}
use Rattle.rela_spec.specs.declared.tree.Modifier.TheVariants as m
use Rattle.rela_translate.specs.Checked.{change_markers, markers_of}
use Rattle.rela_expand.specs.Numbered.{numbered, numbered_change, numbered_body}
use Rattle.rela_expand.specs.Numbering.{Numbering, nothing_numbered}
use Rattle.rela_expand.specs.Places.{Place}
use Rattle.rela_expand.specs.Shapes.{Shape, BodyShape, Unit as Unit', Then, Else}
use Rattle.rela_expand.proofs.BodyUnfolding.{same_markers}
use Rattle.rela_expand.proofs.Layers.{markers_unit, markers_then, markers_else}

-- how many markers a modifier and a body have
abbrev marks_in_change : Modifier Shape → ℕ
marks_in_change m.Preserve = 0
marks_in_change (m.Add p) = 0
marks_in_change (m.Remove p) = 0
marks_in_change (m.Replace p q) = 0
marks_in_change m.Drop = 0
marks_in_change (m.AnyOf p) = 1
marks_in_change (m.Ignore p) = 0

abbrev marks_in : BodyShape → ℕ
marks_in (Unit' z c) = marks_in_change c
marks_in (Then a b) = marks_in a + marks_in b
marks_in (Else a b) = marks_in a + marks_in b

range_append : (a m k : ℕ) → range_with_len a (m + k) ≡ range_with_len a m ++ range_with_len (a + m) k
range_append a zero k =
    let e : a ≡ a + 0 = omega arith in
    let f : 0 + k ≡ k = omega arith in
    ap₂ range_with_len e f
range_append a (suc m) k =
    let e : suc m + k ≡ suc (m + k) = omega arith in
    let f : (a + 1) + m ≡ a + suc m = omega arith in
    ap (range_with_len a) e
    ∙ ap (λ (ks : List ℕ). a ∷ ks) (range_append (a + 1) m k ∙ ap (λ (b : ℕ). range_with_len (a + 1) m ++ range_with_len b k) f)

change_after : (place : Place) (c : Modifier Shape) (n : Numbering) → (numbered_change place c n).after.markers ≡ n.markers + marks_in_change c
change_after place m.Preserve n = omega arith
change_after place (m.Add p) n = let h = same_markers place p n in omega arith
change_after place (m.Remove p) n = let h = same_markers place p n in omega arith
change_after place (m.Replace p q) n = let h = same_markers place p n in let k = same_markers place q (numbered place p n).after in omega arith
change_after place m.Drop n = omega arith
change_after place (m.AnyOf p) n = let h = same_markers place p n in omega arith
change_after place (m.Ignore p) n = let h = same_markers place p n in omega arith

change_counted : (place : Place) (c : Modifier Shape) (n : Numbering) → change_markers (numbered_change place c n).value ≡ range_with_len (n.markers + 1) (marks_in_change c)
change_counted place m.Preserve n = refl
change_counted place (m.Add p) n = refl
change_counted place (m.Remove p) n = refl
change_counted place (m.Replace p q) n = refl
change_counted place m.Drop n = refl
change_counted place (m.AnyOf p) n = ap (λ (k : ℕ). (k + 1) ∷ []) (same_markers place p n)
change_counted place (m.Ignore p) n = refl

body_after : (place : Place) (s : BodyShape) (n : Numbering) → (numbered_body place s n).after.markers ≡ n.markers + marks_in s
body_after place (Unit' z c) n = let h = same_markers place z n in let k = change_after place c (numbered place z n).after in omega arith
body_after place (Then a b) n = let h = body_after place a n in let k = body_after place b (numbered_body place a n).after in omega arith
body_after place (Else a b) n = let h = body_after place a n in let k = body_after place b (numbered_body place a n).after in omega arith

body_counted : (place : Place) (s : BodyShape) (n : Numbering) → markers_of (numbered_body place s n).value ≡ range_with_len (n.markers + 1) (marks_in s)
body_counted place (Unit' z c) n =
    markers_unit (numbered place z n).value (numbered_change place c (numbered place z n).after).value
    ∙ change_counted place c (numbered place z n).after
    ∙ ap (λ (k : ℕ). range_with_len (k + 1) (marks_in_change c)) (same_markers place z n)
body_counted place (Then a b) n =
    let e : (numbered_body place a n).after.markers + 1 ≡ (n.markers + 1) + marks_in a = let h = body_after place a n in omega arith in
    markers_then (numbered_body place a n).value (numbered_body place b (numbered_body place a n).after).value
    ∙ ap₂ (λ (x y : List ℕ). x ++ y) (body_counted place a n) (body_counted place b (numbered_body place a n).after ∙ ap (λ (k : ℕ). range_with_len k (marks_in b)) e)
    ∙ sym (range_append (n.markers + 1) (marks_in a) (marks_in b))
body_counted place (Else a b) n =
    let e : (numbered_body place a n).after.markers + 1 ≡ (n.markers + 1) + marks_in a = let h = body_after place a n in omega arith in
    markers_else (numbered_body place a n).value (numbered_body place b (numbered_body place a n).after).value
    ∙ ap₂ (λ (x y : List ℕ). x ++ y) (body_counted place a n) (body_counted place b (numbered_body place a n).after ∙ ap (λ (k : ℕ). range_with_len k (marks_in b)) e)
    ∙ sym (range_append (n.markers + 1) (marks_in a) (marks_in b))

-- the markers of a check's body are 1, 2 and so on from left to right
pub markers_counted : (place : Place) (s : BodyShape)
    → markers_of (numbered_body place s nothing_numbered).value ≡ range_with_len 1 (length (markers_of (numbered_body place s nothing_numbered).value))
markers_counted place s =
    let whole : markers_of (numbered_body place s nothing_numbered).value ≡ range_with_len 1 (marks_in s) = body_counted place s nothing_numbered in
    whole ∙ ap (range_with_len 1) (sym (ap length whole ∙ length-range_with_len 1 (marks_in s)))
