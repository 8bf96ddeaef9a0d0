-- What unfolding does, step by step.
use Rattle.std.proofs.Common.{◌≡◌, ℕ, ◌+◌, ◌≤◌, ◌<◌, Bool, true, false, ◌||◌, cond, List, [], ◌∷◌, ◌++◌, length, map, refl, ap, sym, subst, ◌∙◌, arith, length-append}
use Rattle.std.proofs.lemmas.List.{length-map, map-append}
use Rattle.std.proofs.lemmas.List.Sums.{sum_by-append}
use Rattle.std.specs.Prelude.{sum, not, if◌then◌else◌}
use Rattle.std.specs.List.{list_any, position_or_len}
use Rattle.rela_spec.specs.declared.tree.Member.{Member}
use Rattle.rela_expand.specs.Expand.{symbols_in}
use Rattle.rela_expand.specs.Forms.{joined}
use Rattle.rela_expand.specs.Numbered.{expr_joined, listing, placed, one_part, two_parts, numbered}
use Rattle.rela_expand.specs.Numbering.{Listing, Numbering, Step, same_listing, with_class}
use Rattle.rela_expand.specs.Places.{Place}
use Rattle.rela_expand.specs.Shapes.{Shape, Empty, Class, Seq, Alt, Meet, Not, Star, nodes_of_shape}
use Rattle.rela_expand.specs.Tables.{entry_of, numbering_of}
use Rattle.rela_translate.specs.declared.body.Expr.{Expr}
use Rattle.rela_translate.specs.declared.body.Expr.TheVariants as x
use Rattle.rela_expand.specs.declared.entry.Entry.{Entry}
use Rattle.rela_expand.specs.declared.forms.Joint.{Joint}
use Rattle.rela_expand.specs.declared.forms.Joint.TheVariants as joint
use Rattle.rela_expand.specs.declared.numbers.Numbers.{Numbers}
use Rattle.rela_expand.proofs.Numberings.{Grown, numbered_grows}

pub numbered_joined : (place : Place) (by : Joint) (a b : Shape) (n : Numbering) → numbered place (joined by a b) n ≡ two_parts (expr_joined by) (numbered place a n) (numbered place b)
numbered_joined place joint.Seq a b n = refl
numbered_joined place joint.Alt a b n = refl
numbered_joined place joint.Meet a b n = refl

pub nodes_joined : (by : Joint) (a b : Shape) → nodes_of_shape (joined by a b) ≡ nodes_of_shape a + nodes_of_shape b + 1
nodes_joined joint.Seq a b = refl
nodes_joined joint.Alt a b = refl
nodes_joined joint.Meet a b = refl

pub ruleset unfolding_steps = (numbered_joined)

symbols_append : (cs ds : List Listing) → symbols_in cs ≤ symbols_in (cs ++ ds)
symbols_append cs ds =
    let f = λ (c : Listing). length c.members in
    let both : sum (map f (cs ++ ds)) ≡ sum (map f cs) + sum (map f ds) = ap sum (map-append f cs ds) ∙ sum_by-append (λ n. n) (map f cs) (map f ds) in
    omega arith

pub symbols_grow : (n m : Numbering) → Grown n m → symbols_in n.classes ≤ symbols_in m.classes
symbols_grow n m g = subst (λ (cs : List Listing). symbols_in n.classes ≤ symbols_in cs) (sym g.is) (symbols_append n.classes g.more)

pub one_numbered : (place : Place) (shape : Shape) (members : List Member) (member : Member) (n m : Numbering) (k : ℕ)
    → shape ≡ Class false (member ∷ []) → members ≡ member ∷ [] → placed (listing place false members) n ≡ record { value = k; after = m }
    → numbered place shape n ≡ record { value = x.Class k; after = m }
one_numbered place shape members member n m k is are step =
    ap (λ (s : Shape). numbered place s n) is
    ∙ ap (λ (ms : List Member). one_part x.Class (placed (listing place false ms) n)) (sym are)
    ∙ ap (one_part x.Class) step

pub one_large : (place : Place) (shape : Shape) (members : List Member) (member : Member) (n : Numbering)
    → shape ≡ Class false (member ∷ []) → members ≡ member ∷ [] → 4000000 < symbols_in (placed (listing place false members) n).after.classes
    → 4000000 < symbols_in (numbered place shape n).after.classes
one_large place shape members member n is are large =
    subst (λ (s : Shape). 4000000 < symbols_in (numbered place s n).after.classes) (sym is)
    (subst (λ (ms : List Member). 4000000 < symbols_in (placed (listing place false ms) n).after.classes) are large)

pub join_large : (place : Place) (by : Joint) (shape a b : Shape) (n : Numbering) → shape ≡ joined by a b
    → 4000000 < symbols_in (numbered place a n).after.classes → 4000000 < symbols_in (numbered place shape n).after.classes
join_large place by shape a b n is large =
    let more = symbols_grow (numbered place a n).after (numbered place b (numbered place a n).after).after (numbered_grows place b (numbered place a n).after) in
    subst (λ (step : Step Expr). 4000000 < symbols_in step.after.classes) (sym (ap (λ (s : Shape). numbered place s n) is ∙ numbered_joined place by a b n)) (omega arith)

pub class_large : (place : Place) (shape : Shape) (negated : Bool) (members : List Member) (n : Numbering) → shape ≡ Class negated members
    → 4000000 < symbols_in (placed (listing place negated members) n).after.classes → 4000000 < symbols_in (numbered place shape n).after.classes
class_large place shape negated members n is large = subst (λ (s : Shape). 4000000 < symbols_in (numbered place s n).after.classes) (sym is) large

pub not_large : (place : Place) (shape a : Shape) (n : Numbering) → shape ≡ Not a
    → 4000000 < symbols_in (numbered place a n).after.classes → 4000000 < symbols_in (numbered place shape n).after.classes
not_large place shape a n is large = subst (λ (s : Shape). 4000000 < symbols_in (numbered place s n).after.classes) (sym is) large

pub star_large : (place : Place) (shape a : Shape) (n : Numbering) → shape ≡ Star a
    → 4000000 < symbols_in (numbered place a n).after.classes → 4000000 < symbols_in (numbered place shape n).after.classes
star_large place shape a n is large = subst (λ (s : Shape). 4000000 < symbols_in (numbered place s n).after.classes) (sym is) large

pub behind_large : (place : Place) (by : Joint) (shape a b : Shape) (n m : Numbering) (v : Expr) → shape ≡ joined by a b
    → numbered place a n ≡ record { value = v; after = m } → 4000000 < symbols_in (numbered place b m).after.classes
    → 4000000 < symbols_in (numbered place shape n).after.classes
behind_large place by shape a b n m v is first large =
    subst (λ (step : Step Expr). 4000000 < symbols_in step.after.classes) (sym (ap (λ (s : Shape). numbered place s n) is ∙ numbered_joined place by a b n))
    (subst (λ (step : Step Expr). 4000000 < symbols_in (numbered place b step.after).after.classes) (sym first) large)

pub not_numbered : (place : Place) (shape a : Shape) (n m : Numbering) (v w : Expr) → shape ≡ Not a → w ≡ v
    → numbered place a n ≡ record { value = v; after = m } → numbered place shape n ≡ record { value = x.Not w; after = m }
not_numbered place shape a n m v w is same step =
    ap (λ (s : Shape). numbered place s n) is ∙ ap (one_part x.Not) step ∙ ap (λ (e : Expr). record { value = x.Not e; after = m }) (sym same)

pub star_numbered : (place : Place) (shape a : Shape) (n m : Numbering) (v w : Expr) → shape ≡ Star a → w ≡ v
    → numbered place a n ≡ record { value = v; after = m } → numbered place shape n ≡ record { value = x.Star w; after = m }
star_numbered place shape a n m v w is same step =
    ap (λ (s : Shape). numbered place s n) is ∙ ap (one_part x.Star) step ∙ ap (λ (e : Expr). record { value = x.Star e; after = m }) (sym same)

pub join_numbered : (place : Place) (by : Joint) (shape a b : Shape) (n m k : Numbering) (v w v′ w′ e : Expr) → shape ≡ joined by a b
    → numbered place a n ≡ record { value = v; after = m } → numbered place b m ≡ record { value = w; after = k }
    → v′ ≡ v → w′ ≡ w → e ≡ expr_joined by v′ w′ → numbered place shape n ≡ record { value = e; after = k }
join_numbered place by shape a b n m k v w v′ w′ e is first second one two whole =
    ap (λ (s : Shape). numbered place s n) is ∙ numbered_joined place by a b n ∙ ap (λ (step : Step Expr). two_parts (expr_joined by) step (numbered place b)) first
    ∙ ap (λ (step : Step Expr). record { value = expr_joined by v step.value; after = step.after }) second
    ∙ ap (λ (u : Expr). record { value = u; after = k }) (sym (whole ∙ ap (λ (u : Expr). expr_joined by u w′) one ∙ ap (expr_joined by v) two))

table_adds : (cs : List Listing) (c : Listing) → length (with_class cs c) ≤ length cs + 1
table_adds cs c = by_test (list_any (same_listing c) cs)
  where
    by_test : (b : Bool) → length (if b then cs else cs ++ c ∷ []) ≤ length cs + 1
    by_test true = omega arith
    by_test false = omega (arith, length-append cs (c ∷ []))

pub classes_add : (place : Place) (s : Shape) (n : Numbering) → length (numbered place s n).after.classes ≤ length n.classes + nodes_of_shape s
classes_add place Empty n = omega arith
classes_add place (Class negated members) n = table_adds n.classes (listing place negated members)
classes_add place (Seq a b) n = let one = classes_add place a n in let two = classes_add place b (numbered place a n).after in omega arith
classes_add place (Alt a b) n = let one = classes_add place a n in let two = classes_add place b (numbered place a n).after in omega arith
classes_add place (Meet a b) n = let one = classes_add place a n in let two = classes_add place b (numbered place a n).after in omega arith
classes_add place (Not a) n = let one = classes_add place a n in omega arith
classes_add place (Star a) n = let one = classes_add place a n in omega arith

pub room_left : (place : Place) (s : Shape) (old new : Numbers) (value : Expr) → numbered place s (numbering_of old) ≡ record { value = value; after = numbering_of new }
    → length new.classes.keys ≤ length old.classes.keys + nodes_of_shape s
room_left place s old new value is =
    omega (arith, classes_add place s (numbering_of old), ap (λ (step : Step Expr). length step.after.classes) is, length-map old.classes.keys entry_of, length-map new.classes.keys entry_of)

-- an entry of the table, by its number
position_of_map : (c : Listing) (ks : List Entry) → position_or_len (same_listing c) (map entry_of ks) ≡ position_or_len (λ k. same_listing c (entry_of k)) ks
position_of_map c [] = refl
position_of_map c (k ∷ ks) = ap (λ (n : ℕ). cond (not (same_listing c (entry_of k))) (1 + n) 0) (position_of_map c ks)

any_of_map : (c : Listing) (ks : List Entry) → list_any (same_listing c) (map entry_of ks) ≡ list_any (λ k. same_listing c (entry_of k)) ks
any_of_map c [] = refl
any_of_map c (k ∷ ks) = ap (λ (b : Bool). same_listing c (entry_of k) || b) (any_of_map c ks)

map_last : (ks : List Entry) (k : Entry) → map entry_of (ks ++ k ∷ []) ≡ map entry_of ks ++ entry_of k ∷ []
map_last [] k = refl
map_last (l ∷ ks) k = ap (λ (cs : List Listing). entry_of l ∷ cs) (map_last ks k)

map_if : (b : Bool) (ks : List Entry) (k : Entry) → map entry_of (if b then ks else ks ++ k ∷ []) ≡ (if b then map entry_of ks else map entry_of ks ++ entry_of k ∷ [])
map_if true ks k = refl
map_if false ks k = map_last ks k

pub placed_is : (ks new : List Entry) (k : Entry) (markers number : ℕ)
    → new ≡ (if list_any (λ l. same_listing (entry_of k) (entry_of l)) ks then ks else ks ++ k ∷ [])
    → number ≡ position_or_len (λ l. same_listing (entry_of k) (entry_of l)) ks
    → placed (entry_of k) (record { classes = map entry_of ks; markers = markers }) ≡ record { value = number; after = record { classes = map entry_of new; markers = markers } }
placed_is ks new k markers number is at =
    let c = entry_of k in
    let table : with_class (map entry_of ks) c ≡ map entry_of new =
    ap (λ (b : Bool). if b then map entry_of ks else map entry_of ks ++ c ∷ []) (any_of_map c ks)
    ∙ sym (map_if (list_any (λ l. same_listing c (entry_of l)) ks) ks k) ∙ ap (map entry_of) (sym is) in
    let place : position_or_len (same_listing c) (map entry_of ks) ≡ number = position_of_map c ks ∙ sym at in
    λ i. record { value = place i; after = record { classes = table i; markers = markers } }
