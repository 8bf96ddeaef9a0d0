-- Trees and rows of forms.
use Rattle.std.proofs.Common.{zero, suc, ◌≡◌, ℕ, ◌+◌, ◌-◌, ◌/◌, ◌<◌, ◌≤◌, List, [], ◌∷◌, ◌++◌, length, map, replicate, take, drop, get_or, ◌⊎◌, false, ◌==◌, refl, ap, ap₂, sym, subst, ◌∙◌, arith, length-append}
use Rattle.std.specs.List.{All}
use Rattle.std.proofs.lemmas.List.{length-replicate, get_or_append_left, get_or-append-add, take-append-drop, take-map}
use Rattle.rela_expand.specs.Expansions.{half, tree_of}
use Rattle.rela_expand.specs.Forms.{joined, shape_at, Extends, StandsAt}
use Rattle.rela_expand.specs.Shapes.{Shape, Empty, Seq, sequence_shape}
use Rattle.rela_expand.specs.declared.forms.Joint.{Joint}
use Rattle.rela_expand.proofs.HalvedTrees.{tree_of_halves}

pub stays : (old new : List Shape) (s : Shape) (k : ℕ) → StandsAt old s k → Extends old new → StandsAt new s k
stays old new s k stands more = record {
  inside = let a = stands.inside in let b = more.longer in omega arith;
  is = more.same k stands.inside ∙ stands.is;
}

pub all_front : {X : Type 0} (P : X → Type 0) (xs ys : List X) → All P (xs ++ ys) → All P xs
all_front P xs ys all k d h = subst P (get_or_append_left xs ys d k h) (all k d (omega (arith, length-append xs ys)))

pub all_rest : {X : Type 0} (P : X → Type 0) (xs ys : List X) → All P (xs ++ ys) → All P ys
all_rest P xs ys all k d h = subst P (get_or-append-add xs ys k d) (all (length xs + k) d (omega (arith, length-append xs ys)))

-- the shapes at places stay
pub shapes_stay : (old new : List Shape) (ks : List ℕ) → Extends old new → All (λ k. k < length old) ks → map (shape_at new) ks ≡ map (shape_at old) ks
shapes_stay old new [] more all = refl
shapes_stay old new (k ∷ ks) more all =
    ap₂ (λ (s : Shape) (ss : List Shape). s ∷ ss) (more.same k (all 0 0 (omega arith)))
    (shapes_stay old new ks more (all_rest (λ (n : ℕ). n < length old) (k ∷ []) ks all))

pub inside_longer : (old new : List Shape) (ks : List ℕ) → Extends old new → All (λ k. k < length old) ks → All (λ k. k < length new) ks
inside_longer old new ks more all k d h = let a = all k d h in let b = more.longer in omega arith

map_length : {X Y : Type 0} (f : X → Y) (xs : List X) → length (map f xs) ≡ length xs
map_length f [] = refl
map_length f (x ∷ xs) = ap suc (map_length f xs)

drop_map : {X Y : Type 0} (f : X → Y) (n : ℕ) (xs : List X) → drop n (map f xs) ≡ map f (drop n xs)
drop_map f zero xs = refl
drop_map f (suc n) [] = refl
drop_map f (suc n) (x ∷ xs) = drop_map f n xs

pub halves_inside : (old : List Shape) (places front rest : List ℕ) (n : ℕ) → front ≡ take n places → rest ≡ drop n places
    → All (λ k. k < length old) places → All (λ k. k < length old) front × All (λ k. k < length old) rest
halves_inside old places front rest n is is' all =
    let whole : All (λ k. k < length old) (take n places ++ drop n places) = subst (All (λ k. k < length old)) (sym (take-append-drop n places)) all in (
      subst (All (λ k. k < length old)) (sym is) (all_front (λ (k : ℕ). k < length old) (take n places) (drop n places) whole),
      subst (All (λ k. k < length old)) (sym is') (all_rest (λ (k : ℕ). k < length old) (take n places) (drop n places) whole),
    )

pub tree_made : (by : Joint) (old mid all new : List Shape) (places front rest : List ℕ) (n a b k : ℕ)
    → 2 ≤ length places → n ≡ length places - length places / 2 → front ≡ take n places → rest ≡ drop n places → All (λ k. k < length old) places
    → Extends old mid → StandsAt mid (tree_of (joined by) Empty (map (shape_at old) front)) a
    → Extends mid all → StandsAt all (tree_of (joined by) Empty (map (shape_at mid) rest)) b
    → StandsAt new (joined by (shape_at all a) (shape_at all b)) k
    → StandsAt new (tree_of (joined by) Empty (map (shape_at old) places)) k
tree_made by old mid all new places front rest n a b k two middle is is' inside more first more' second last =
    let xs = map (shape_at old) places in
    let many : length xs ≡ length places = map_length (shape_at old) places in
    let two' : 2 ≤ length xs = omega arith in
    let at : half (length xs) ≡ n = omega arith in
    let head : take (half (length xs)) xs ≡ map (shape_at old) front =
    ap (λ (m : ℕ). take m xs) at ∙ take-map (shape_at old) n places ∙ ap (map (shape_at old)) (sym is) in
    let tail : drop (half (length xs)) xs ≡ map (shape_at mid) rest =
    ap (λ (m : ℕ). drop m xs) at ∙ drop_map (shape_at old) n places ∙ ap (map (shape_at old)) (sym is')
    ∙ sym (shapes_stay old mid rest more (halves_inside old places front rest n is is' inside).1) in
    record {
      inside = last.inside;
      is =
          last.is
          ∙ ap₂ (joined by) (more'.same a first.inside ∙ first.is ∙ ap (tree_of (joined by) Empty) (sym head)) (second.is ∙ ap (tree_of (joined by) Empty) (sym tail))
          ∙ sym (tree_of_halves (joined by) Empty xs two');
    }

pub one_stands : (by : Joint) (shapes : List Shape) (places : List ℕ) (d : ℕ) → length places ≡ 1 → All (λ k. k < length shapes) places
    → StandsAt shapes (tree_of (joined by) Empty (map (shape_at shapes) places)) (get_or places 0 d)
one_stands by shapes [] d one all = absurd (omega arith)
one_stands by shapes (k ∷ []) d one all = record { inside = all 0 0 (omega arith); is = refl }
one_stands by shapes (k ∷ l ∷ ks) d one all = absurd (omega arith)

pub none_stands : (by : Joint) (old new : List Shape) (places : List ℕ) (k : ℕ) → length places ≡ 0 → StandsAt new Empty k
    → StandsAt new (tree_of (joined by) Empty (map (shape_at old) places)) k
none_stands by old new [] k none stands = stands
none_stands by old new (p ∷ ps) k none stands = absurd (omega arith)

-- rows of one shape
front_row : (k n : ℕ) (s : Shape) → k ≤ n → take k (replicate n s) ≡ replicate k s
front_row zero n s h = refl
front_row (suc k) zero s h = absurd (omega arith)
front_row (suc k) (suc n) s h = ap (λ (ss : List Shape). s ∷ ss) (front_row k n s (omega arith))

rest_row : (k n : ℕ) (s : Shape) → drop k (replicate n s) ≡ replicate (n - k) s
rest_row zero n s = let e : n - 0 ≡ n = omega arith in ap (λ (m : ℕ). replicate m s) (sym e)
rest_row (suc k) zero s = let e : 0 - suc k ≡ 0 = omega arith in ap (λ (m : ℕ). replicate m s) (sym e)
rest_row (suc k) (suc n) s = let e : n - k ≡ suc n - suc k = omega arith in rest_row k n s ∙ ap (λ (m : ℕ). replicate m s) e

abbrev pub row : ℕ → Shape → Shape
row n s = sequence_shape (replicate n s)

row_halves : (n : ℕ) (s : Shape) → 2 ≤ n → row n s ≡ Seq (row (half n) s) (row (n - half n) s)
row_halves n s two =
    let many : length (replicate n s) ≡ n = length-replicate n s in
    let few : half n ≤ n = omega arith in
    tree_of_halves Seq Empty (replicate n s) (omega arith)
    ∙ ap (λ (m : ℕ). Seq (sequence_shape (take (half m) (replicate n s))) (sequence_shape (drop (half m) (replicate n s)))) many
    ∙ ap₂ (λ (a b : List Shape). Seq (sequence_shape a) (sequence_shape b)) (front_row (half n) n s few) (rest_row (half n) n s)

-- two rows one after another
pub rows_join : (n h r : ℕ) (s : Shape) (all new : List Shape) (a b k : ℕ) → 2 ≤ n → h + r ≡ n → (h ≡ r) ⊎ (h ≡ r + 1)
    → StandsAt all (row h s) a → StandsAt all (row r s) b → StandsAt new (Seq (shape_at all a) (shape_at all b)) k → StandsAt new (row n s) k
rows_join n h r s all new a b k two sum halves first second last =
    let front : h ≡ half n = grind arith in
    let rest : r ≡ n - half n = grind arith in
    record {
      inside = last.inside;
      is =
          last.is
          ∙ ap₂ Seq (first.is ∙ ap (λ (m : ℕ). row m s) front) (second.is ∙ ap (λ (m : ℕ). row m s) rest)
          ∙ sym (row_halves n s two);
    }

pub some_parts : {X : Type 0} (xs : List X) → false ≡ (length xs == 0) → 1 ≤ length xs
some_parts [] h = absurd (cc)
some_parts (x ∷ xs) h = omega arith
