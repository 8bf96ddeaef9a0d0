-- Trees of bodies.
use Rattle.std.proofs.Common.{zero, suc, ◌≡◌, ℕ, ◌-◌, ◌/◌, ◌<◌, ◌≤◌, List, [], ◌∷◌, ◌++◌, length, map, take, drop, get_or, refl, ap, ap₂, sym, subst, ◌∙◌, arith, length-drop}
use Rattle.std.specs.List.{All}
use Rattle.std.proofs.lemmas.List.{length-map, length-take-le, take-append-drop, take-map}
use Rattle.rela_spec.specs.declared.tree.Modifier.{Modifier}
use Rattle.rela_spec.specs.declared.tree.Modifier.TheVariants as m
use Rattle.rela_expand.specs.Bodies.{body_joined, body_at, modifier_at, body_in, bodies_of, behind_modifier, behind_paths, Grows, StandsFor}
use Rattle.rela_expand.specs.Expansions.{half, tree_of}
use Rattle.rela_expand.specs.Forms.{Extends}
use Rattle.rela_expand.specs.Shapes.{Shape, BodyShape, Unit as Unit', no_body}
use Rattle.rela_expand.specs.declared.bodies.BodyForm.{BodyForm}
use Rattle.rela_expand.specs.declared.bodies.BodyJoint.{BodyJoint}
use Rattle.rela_expand.specs.declared.bodies.BodyLayer.{BodyLayer}
use Rattle.rela_expand.specs.declared.bodies.BodyLayer.TheVariants as layer
use Rattle.rela_expand.proofs.BodyLaws.{as_many}
use Rattle.rela_expand.proofs.TreeForms.{all_front, all_rest}
use Rattle.rela_expand.proofs.HalvedTrees.{tree_of_halves}

-- the bodies at places stay
pub bodies_stay : (old new : List BodyShape) (ks : List ℕ) → Grows old new → All (λ k. k < length old) ks → map (body_at new) ks ≡ map (body_at old) ks
bodies_stay old new [] more all = refl
bodies_stay old new (k ∷ ks) more all =
    ap₂ (λ (s : BodyShape) (ss : List BodyShape). s ∷ ss) (more.same k (all 0 0 (omega arith)))
    (bodies_stay old new ks more (all_rest (λ (n : ℕ). n < length old) (k ∷ []) ks all))

pub halves_inside : (bound : ℕ) (places front rest : List ℕ) (n : ℕ) → front ≡ take n places → rest ≡ drop n places
    → All (λ k. k < bound) places → All (λ k. k < bound) front × All (λ k. k < bound) rest
halves_inside bound places front rest n is is' all =
    let whole : All (λ k. k < bound) (take n places ++ drop n places) = subst (All (λ k. k < bound)) (sym (take-append-drop n places)) all in (
      subst (All (λ k. k < bound)) (sym is) (all_front (λ (k : ℕ). k < bound) (take n places) (drop n places) whole),
      subst (All (λ k. k < bound)) (sym is') (all_rest (λ (k : ℕ). k < bound) (take n places) (drop n places) whole),
    )

pub inside_more : (a b : ℕ) (ks : List ℕ) → a ≤ b → All (λ k. k < a) ks → All (λ k. k < b) ks
inside_more a b ks more all k d h = let x = all k d h in omega arith

-- as many forms at least
pub longer_forms : (paths : List Shape) (old new : List BodyForm) → Grows (bodies_of paths old) (bodies_of paths new) → length old ≤ length new
longer_forms paths old new more = let h = more.longer in omega (arith, as_many paths old, as_many paths new)

pub some_front : (places : List ℕ) (front : List ℕ) → 2 ≤ length places → front ≡ take (length places - length places / 2) places → 1 ≤ length front
some_front places front two is =
    let h : length places - length places / 2 ≤ length places = omega arith in
    omega (arith, ap length is, length-take-le (length places - length places / 2) places h)

pub some_rest : (places : List ℕ) (rest : List ℕ) → 2 ≤ length places → rest ≡ drop (length places - length places / 2) places → 1 ≤ length rest
some_rest places rest two is = omega (arith, ap length is, length-drop (length places - length places / 2) places)

drop_map : {X Y : Type 0} (f : X → Y) (n : ℕ) (xs : List X) → drop n (map f xs) ≡ map f (drop n xs)
drop_map f zero xs = refl
drop_map f (suc n) [] = refl
drop_map f (suc n) (x ∷ xs) = drop_map f n xs

pub tree_made : (by : BodyJoint) (old mid all new : List BodyShape) (places front rest : List ℕ) (n a b k : ℕ)
    → 2 ≤ length places → n ≡ length places - length places / 2 → front ≡ take n places → rest ≡ drop n places → All (λ k. k < length old) places
    → Grows old mid → StandsFor mid (tree_of (body_joined by) no_body (map (body_at old) front)) a
    → Grows mid all → StandsFor all (tree_of (body_joined by) no_body (map (body_at mid) rest)) b
    → StandsFor new (body_joined by (body_at all a) (body_at all b)) k
    → StandsFor new (tree_of (body_joined by) no_body (map (body_at old) places)) k
tree_made by old mid all new places front rest n a b k two middle is is' inside more first more' second last =
    let xs = map (body_at old) places in
    let many : length xs ≡ length places = length-map places (body_at old) in
    let two' : 2 ≤ length xs = omega arith in
    let at : half (length xs) ≡ n = omega arith in
    let head : take (half (length xs)) xs ≡ map (body_at old) front =
    ap (λ (m : ℕ). take m xs) at ∙ take-map (body_at old) n places ∙ ap (map (body_at old)) (sym is) in
    let tail : drop (half (length xs)) xs ≡ map (body_at mid) rest =
    ap (λ (m : ℕ). drop m xs) at ∙ drop_map (body_at old) n places ∙ ap (map (body_at old)) (sym is')
    ∙ sym (bodies_stay old mid rest more (halves_inside (length old) places front rest n is is' inside).1) in
    record {
      inside = last.inside;
      is =
          last.is
          ∙ ap₂ (body_joined by) (more'.same a first.inside ∙ first.is ∙ ap (tree_of (body_joined by) no_body) (sym head)) (second.is ∙ ap (tree_of (body_joined by) no_body) (sym tail))
          ∙ sym (tree_of_halves (body_joined by) no_body xs two');
    }

pub one_stands : (by : BodyJoint) (bodies : List BodyShape) (places : List ℕ) (d : ℕ) → length places ≡ 1 → All (λ k. k < length bodies) places
    → StandsFor bodies (tree_of (body_joined by) no_body (map (body_at bodies) places)) (get_or places 0 d)
one_stands by bodies [] d one all = absurd (omega arith)
one_stands by bodies (k ∷ []) d one all = record { inside = all 0 0 (omega arith); is = refl }
one_stands by bodies (k ∷ l ∷ ks) d one all = absurd (omega arith)

-- the paths of bodies stay as more paths come
modifier_stays : (old new : List Shape) (c : Modifier ℕ) → behind_modifier c ≤ length old → Extends old new → modifier_at new c ≡ modifier_at old c
modifier_stays old new m.Preserve h more = refl
modifier_stays old new (m.Add p) h more = ap (λ (s : Shape). m.Add s) (more.same p (omega arith))
modifier_stays old new (m.Remove p) h more = ap (λ (s : Shape). m.Remove s) (more.same p (omega arith))
modifier_stays old new (m.Replace p q) h more = ap₂ (λ (s t : Shape). m.Replace s t) (more.same p (omega arith)) (more.same q (omega arith))
modifier_stays old new m.Drop h more = refl
modifier_stays old new (m.AnyOf p) h more = ap (λ (s : Shape). m.AnyOf s) (more.same p (omega arith))
modifier_stays old new (m.Ignore p) h more = ap (λ (s : Shape). m.Ignore s) (more.same p (omega arith))

pub layer_stays : (old new : List Shape) (bodies : List BodyShape) (l : BodyLayer) → behind_paths l ≤ length old → Extends old new → body_in new bodies l ≡ body_in old bodies l
layer_stays old new bodies (layer.Unit zone c) h more = ap₂ Unit' (more.same zone (omega arith)) (modifier_stays old new c (omega arith) more)
layer_stays old new bodies (layer.Join by a b) h more = refl
