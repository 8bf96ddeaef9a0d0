-- What unfolding a body does, step by step.
use Rattle.std.proofs.Common.{◌≡◌, ◌+◌, ◌≤◌, ◌<◌, length, refl, ap, sym, subst, ◌∙◌, arith}
use Rattle.rela_spec.specs.declared.tree.Modifier.{Modifier}
use Rattle.rela_spec.specs.declared.tree.Modifier.TheVariants as m
use Rattle.std.proofs.lemmas.List.{length-map}
use Rattle.rela_expand.specs.Bodies.{body_joined}
use Rattle.rela_expand.specs.Expand.{symbols_in}
use Rattle.rela_expand.specs.Numbered.{core_joined, two_parts, marked, numbered, numbered_change, numbered_body}
use Rattle.rela_expand.specs.Numbering.{Numbering, Step}
use Rattle.rela_expand.specs.Places.{Place}
use Rattle.rela_expand.specs.Measures.{weight_of, weight_of_modifier}
use Rattle.rela_expand.specs.Shapes.{Shape, Empty, Class, Seq, Alt, Meet, Not, Star, BodyShape, Unit as Unit', Then, Else, nodes_of_shape}
use Rattle.rela_expand.specs.Tables.{entry_of, numbering_of}
use Rattle.rela_translate.specs.declared.body.Change.{Change}
use Rattle.rela_translate.specs.declared.body.Core.{Core}
use Rattle.rela_translate.specs.declared.body.Core.TheVariants as core
use Rattle.rela_translate.specs.declared.body.Expr.{Expr}
use Rattle.rela_expand.specs.declared.bodies.BodyJoint.{BodyJoint}
use Rattle.rela_expand.specs.declared.bodies.BodyJoint.TheVariants as body_joint
use Rattle.rela_expand.specs.declared.numbers.Numbers.{Numbers}
use Rattle.rela_expand.proofs.Numberings.{Grown, grown_same, grown_twice, numbered_grows}
use Rattle.rela_expand.proofs.PathUnfolding.{classes_add, symbols_grow}

pub replace_large : (place : Place) (p q : Shape) (n : Numbering) → 4000000 < symbols_in (numbered place p n).after.classes
    → 4000000 < symbols_in (numbered_change place (m.Replace p q) n).after.classes
replace_large place p q n large =
    let more = symbols_grow (numbered place p n).after (numbered place q (numbered place p n).after).after (numbered_grows place q (numbered place p n).after) in
    omega arith

pub ruleset modifier_steps = (replace_large)

pub any_numbered : (place : Place) (p : Shape) (c : Modifier Shape) (n after : Numbering) (path : Expr) → c ≡ m.AnyOf p
    → numbered place p n ≡ record { value = path; after = after } → numbered_change place c n ≡ marked (record { value = path; after = after })
any_numbered place p c n after path is step = ap (λ (x : Modifier Shape). numbered_change place x n) is ∙ ap marked step

pub same_markers : (place : Place) (s : Shape) (n : Numbering) → (numbered place s n).after.markers ≡ n.markers
same_markers place Empty n = refl
same_markers place (Class negated members) n = refl
same_markers place (Seq a b) n = same_markers place b (numbered place a n).after ∙ same_markers place a n
same_markers place (Alt a b) n = same_markers place b (numbered place a n).after ∙ same_markers place a n
same_markers place (Meet a b) n = same_markers place b (numbered place a n).after ∙ same_markers place a n
same_markers place (Not a) n = same_markers place a n
same_markers place (Star a) n = same_markers place a n

pub kept_markers : (place : Place) (s : Shape) (old new : Numbers) (value : Expr) → numbered place s (numbering_of old) ≡ record { value = value; after = numbering_of new } → new.markers ≡ old.markers
kept_markers place s old new value is = sym (ap (λ (step : Step Expr). step.after.markers) is) ∙ same_markers place s (numbering_of old)

pub some_nodes : (s : Shape) → 1 ≤ nodes_of_shape s
some_nodes Empty = omega arith
some_nodes (Class negated members) = omega arith
some_nodes (Seq a b) = omega arith
some_nodes (Alt a b) = omega arith
some_nodes (Meet a b) = omega arith
some_nodes (Not a) = omega arith
some_nodes (Star a) = omega arith

-- a modifier and a body add to the table and to the markers no more than their weight
change_adds : (place : Place) (c : Modifier Shape) (n : Numbering) → length (numbered_change place c n).after.classes ≤ length n.classes + weight_of_modifier c
change_adds place m.Preserve n = omega arith
change_adds place (m.Add p) n = classes_add place p n
change_adds place (m.Remove p) n = classes_add place p n
change_adds place (m.Replace p q) n = let one = classes_add place p n in let two = classes_add place q (numbered place p n).after in omega arith
change_adds place m.Drop n = omega arith
change_adds place (m.AnyOf p) n = let one = classes_add place p n in omega arith
change_adds place (m.Ignore p) n = classes_add place p n

body_adds : (place : Place) (s : BodyShape) (n : Numbering) → length (numbered_body place s n).after.classes ≤ length n.classes + weight_of s
body_adds place (Unit' z c) n = let one = classes_add place z n in let two = change_adds place c (numbered place z n).after in omega arith
body_adds place (Then a b) n = let one = body_adds place a n in let two = body_adds place b (numbered_body place a n).after in omega arith
body_adds place (Else a b) n = let one = body_adds place a n in let two = body_adds place b (numbered_body place a n).after in omega arith

change_marks : (place : Place) (c : Modifier Shape) (n : Numbering) → (numbered_change place c n).after.markers ≤ n.markers + weight_of_modifier c
change_marks place m.Preserve n = omega arith
change_marks place (m.Add p) n = let one = same_markers place p n in omega arith
change_marks place (m.Remove p) n = let one = same_markers place p n in omega arith
change_marks place (m.Replace p q) n = let one = same_markers place p n in let two = same_markers place q (numbered place p n).after in omega arith
change_marks place m.Drop n = omega arith
change_marks place (m.AnyOf p) n = let one = same_markers place p n in omega arith
change_marks place (m.Ignore p) n = let one = same_markers place p n in omega arith

body_marks : (place : Place) (s : BodyShape) (n : Numbering) → (numbered_body place s n).after.markers ≤ n.markers + weight_of s
body_marks place (Unit' z c) n = let one = same_markers place z n in let two = change_marks place c (numbered place z n).after in omega arith
body_marks place (Then a b) n = let one = body_marks place a n in let two = body_marks place b (numbered_body place a n).after in omega arith
body_marks place (Else a b) n = let one = body_marks place a n in let two = body_marks place b (numbered_body place a n).after in omega arith

pub body_room_left : (place : Place) (s : BodyShape) (old new : Numbers) (value : Core) → numbered_body place s (numbering_of old) ≡ record { value = value; after = numbering_of new }
    → (length new.classes.keys ≤ length old.classes.keys + weight_of s) × (new.markers ≤ old.markers + weight_of s)
body_room_left place s old new value is = (
  omega (arith, body_adds place s (numbering_of old), ap (λ (step : Step Core). length step.after.classes) is, length-map old.classes.keys entry_of, length-map new.classes.keys entry_of),
  omega (arith, body_marks place s (numbering_of old), ap (λ (step : Step Core). step.after.markers) is),
)

-- the table only grows at its end
pub change_grows : (place : Place) (c : Modifier Shape) (n : Numbering) → Grown n (numbered_change place c n).after
change_grows place m.Preserve n = grown_same n
change_grows place (m.Add p) n = numbered_grows place p n
change_grows place (m.Remove p) n = numbered_grows place p n
change_grows place (m.Replace p q) n = grown_twice (numbered_grows place p n) (numbered_grows place q (numbered place p n).after)
change_grows place m.Drop n = grown_same n
change_grows place (m.AnyOf p) n = let g = numbered_grows place p n in record { more = g.more; is = g.is }
change_grows place (m.Ignore p) n = numbered_grows place p n

pub body_grows : (place : Place) (s : BodyShape) (n : Numbering) → Grown n (numbered_body place s n).after
body_grows place (Unit' z c) n = grown_twice (numbered_grows place z n) (change_grows place c (numbered place z n).after)
body_grows place (Then a b) n = grown_twice (body_grows place a n) (body_grows place b (numbered_body place a n).after)
body_grows place (Else a b) n = grown_twice (body_grows place a n) (body_grows place b (numbered_body place a n).after)

pub unit_large : (place : Place) (whole : BodyShape) (z : Shape) (c : Modifier Shape) (n : Numbering) → whole ≡ Unit' z c
    → 4000000 < symbols_in (numbered place z n).after.classes → 4000000 < symbols_in (numbered_body place whole n).after.classes
unit_large place whole z c n is large =
    let more = symbols_grow (numbered place z n).after (numbered_change place c (numbered place z n).after).after (change_grows place c (numbered place z n).after) in
    subst (λ (s : BodyShape). 4000000 < symbols_in (numbered_body place s n).after.classes) (sym is) (omega arith)

pub body_numbered_joined : (place : Place) (by : BodyJoint) (a b : BodyShape) (n : Numbering)
    → numbered_body place (body_joined by a b) n ≡ two_parts (core_joined by) (numbered_body place a n) (numbered_body place b)
body_numbered_joined place body_joint.Then a b n = refl
body_numbered_joined place body_joint.Else a b n = refl

pub weight_joined : (by : BodyJoint) (a b : BodyShape) → weight_of (body_joined by a b) ≡ weight_of a + weight_of b
weight_joined body_joint.Then a b = refl
weight_joined body_joint.Else a b = refl

pub body_join_large : (place : Place) (by : BodyJoint) (whole a b : BodyShape) (n : Numbering) → whole ≡ body_joined by a b
    → 4000000 < symbols_in (numbered_body place a n).after.classes → 4000000 < symbols_in (numbered_body place whole n).after.classes
body_join_large place by whole a b n is large =
    let more = symbols_grow (numbered_body place a n).after (numbered_body place b (numbered_body place a n).after).after (body_grows place b (numbered_body place a n).after) in
    subst (λ (step : Step Core). 4000000 < symbols_in step.after.classes) (sym (ap (λ (s : BodyShape). numbered_body place s n) is ∙ body_numbered_joined place by a b n)) (omega arith)

pub same_change_large : (place : Place) (c d : Modifier Shape) (n : Numbering) → c ≡ d → 4000000 < symbols_in (numbered_change place d n).after.classes
    → 4000000 < symbols_in (numbered_change place c n).after.classes
same_change_large place c d n is large = subst (λ (x : Modifier Shape). 4000000 < symbols_in (numbered_change place x n).after.classes) (sym is) large

pub replace_behind_large : (place : Place) (p q : Shape) (n mid : Numbering) (v : Expr) → numbered place p n ≡ record { value = v; after = mid }
    → 4000000 < symbols_in (numbered place q mid).after.classes → 4000000 < symbols_in (numbered_change place (m.Replace p q) n).after.classes
replace_behind_large place p q n mid v first large = subst (λ (step : Step Expr). 4000000 < symbols_in (numbered place q step.after).after.classes) (sym first) large

pub unit_behind_large : (place : Place) (whole : BodyShape) (z : Shape) (c : Modifier Shape) (n mid : Numbering) (v : Expr) → whole ≡ Unit' z c
    → numbered place z n ≡ record { value = v; after = mid } → 4000000 < symbols_in (numbered_change place c mid).after.classes
    → 4000000 < symbols_in (numbered_body place whole n).after.classes
unit_behind_large place whole z c n mid v is first large =
    subst (λ (s : BodyShape). 4000000 < symbols_in (numbered_body place s n).after.classes) (sym is)
    (subst (λ (step : Step Expr). 4000000 < symbols_in (numbered_change place c step.after).after.classes) (sym first) large)

pub body_behind_large : (place : Place) (by : BodyJoint) (whole a b : BodyShape) (n mid : Numbering) (v : Core) → whole ≡ body_joined by a b
    → numbered_body place a n ≡ record { value = v; after = mid } → 4000000 < symbols_in (numbered_body place b mid).after.classes
    → 4000000 < symbols_in (numbered_body place whole n).after.classes
body_behind_large place by whole a b n mid v is first large =
    subst (λ (step : Step Core). 4000000 < symbols_in step.after.classes) (sym (ap (λ (s : BodyShape). numbered_body place s n) is ∙ body_numbered_joined place by a b n))
    (subst (λ (step : Step Core). 4000000 < symbols_in (numbered_body place b step.after).after.classes) (sym first) large)

pub unit_numbered : (place : Place) (whole : BodyShape) (z : Shape) (c : Modifier Shape) (n mid end : Numbering) (v : Expr) (w : Change) → whole ≡ Unit' z c
    → numbered place z n ≡ record { value = v; after = mid } → numbered_change place c mid ≡ record { value = w; after = end }
    → numbered_body place whole n ≡ record { value = core.Unit v w; after = end }
unit_numbered place whole z c n mid end v w is first second =
    ap (λ (s : BodyShape). numbered_body place s n) is ∙ ap (λ (step : Step Expr). two_parts core.Unit step (numbered_change place c)) first
    ∙ ap (λ (step : Step Change). record { value = core.Unit v step.value; after = step.after }) second

pub body_join_numbered : (place : Place) (by : BodyJoint) (whole a b : BodyShape) (n mid end : Numbering) (v w v′ w′ e : Core) → whole ≡ body_joined by a b
    → numbered_body place a n ≡ record { value = v; after = mid } → numbered_body place b mid ≡ record { value = w; after = end }
    → v′ ≡ v → w′ ≡ w → e ≡ core_joined by v′ w′ → numbered_body place whole n ≡ record { value = e; after = end }
body_join_numbered place by whole a b n mid end v w v′ w′ e is first second one two joined =
    ap (λ (s : BodyShape). numbered_body place s n) is ∙ body_numbered_joined place by a b n
    ∙ ap (λ (step : Step Core). two_parts (core_joined by) step (numbered_body place b)) first
    ∙ ap (λ (step : Step Core). record { value = core_joined by v step.value; after = step.after }) second
    ∙ ap (λ (u : Core). record { value = u; after = end }) (sym (joined ∙ ap (λ (u : Core). core_joined by u w′) one ∙ ap (core_joined by v) two))

pub ruleset body_steps = (body_numbered_joined, weight_joined, some_nodes)
