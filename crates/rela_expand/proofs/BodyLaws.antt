-- What one body more does to a graph of bodies.
use Rattle.std.proofs.Common.{zero, suc, ◌≡◌, ℕ, ◌+◌, ◌<◌, ◌≤◌, List, [], ◌∷◌, ◌++◌, length, map, get_or, refl, ap, ap₂, sym, subst, ◌∙◌, arith, length-append, append_assoc, take, drop, drop-cons, ◌⊎◌, inl, inr}
use Rattle.std.proofs.lemmas.List.{append-nil, get_or_append_left, length-take-le, take-append-drop}
use Rattle.std.proofs.Math.Seq.{get_or-append_seam}
use Rattle.std.specs.List.{fold}
use Rattle.std.specs.Prelude.{Bool, true, false, if◌then◌else◌}
use Rattle.rela_expand.specs.Bodies.{body_joined, body_at, body_in, bodies_of, behind_parts, behind_paths, size_of_body, AreBodies, Grows, StandsFor}
use Rattle.rela_expand.specs.Shapes.{Shape, BodyShape, no_body}
use Rattle.rela_expand.specs.declared.bodies.BodyForm.{BodyForm}
use Rattle.rela_expand.specs.declared.bodies.BodyLayer.{BodyLayer}
use Rattle.rela_expand.specs.declared.bodies.BodyLayer.TheVariants as layer
use Rattle.rela_expand.specs.declared.bodies.BodySize.{BodySize}

fold_last : {A B : Type 0} (f : B → A → B) (b : B) (xs : List A) (x : A) → fold f b (xs ++ x ∷ []) ≡ f (fold f b xs) x
fold_last f b [] x = refl
fold_last f b (y ∷ xs) x = fold_last f (f b y) xs x

map_last : {A B : Type 0} (f : A → B) (xs : List A) (x : A) → map f (xs ++ x ∷ []) ≡ map f xs ++ f x ∷ []
map_last f [] x = refl
map_last {A} {B} f (y ∷ xs) x = ap (λ (zs : List B). f y ∷ zs) (map_last f xs x)

get_or-map : {A B : Type 0} (f : A → B) (xs : List A) (k : ℕ) (a : A) (b : B) → k < length xs → get_or (map f xs) k b ≡ f (get_or xs k a)
get_or-map f [] k a b h = absurd (omega arith)
get_or-map f (x ∷ xs) zero a b h = refl
get_or-map f (x ∷ xs) (suc k) a b h = get_or-map f xs k a b (omega arith)

pub grows_itself : (bodies : List BodyShape) → Grows bodies bodies
grows_itself bodies = record { longer = omega arith; same = λ k h. refl }

pub grows_twice : (a b c : List BodyShape) → Grows a b → Grows b c → Grows a c
grows_twice a b c one two = record {
  longer = let x = one.longer in let y = two.longer in omega arith;
  same = λ k h. let inside : k < length b = let x = one.longer in omega arith in two.same k inside ∙ one.same k h;
}

grows_last : (bodies : List BodyShape) (shape : BodyShape) → Grows bodies (bodies ++ shape ∷ [])
grows_last bodies shape = record {
  longer = omega (arith, length-append bodies (shape ∷ []));
  same = λ k h. get_or_append_left bodies (shape ∷ []) no_body k h;
}

stands_last : (bodies : List BodyShape) (shape : BodyShape) → StandsFor (bodies ++ shape ∷ []) shape (length bodies)
stands_last bodies shape = record {
  inside = omega (arith, length-append bodies (shape ∷ []));
  is = get_or-append_seam bodies shape [] no_body;
}

module _ (paths : List Shape) where
  bodies_last : (forms : List BodyForm) (form : BodyForm) → bodies_of paths (forms ++ form ∷ []) ≡ bodies_of paths forms ++ body_in paths (bodies_of paths forms) form.layer ∷ []
  unfolding bodies_of
  bodies_last forms form = fold_last (λ bodies f. bodies ++ body_in paths bodies f.layer ∷ []) [] forms form

  fold_length : (bodies : List BodyShape) (forms : List BodyForm)
      → length (fold (λ (seen : List BodyShape) (f : BodyForm). seen ++ body_in paths seen f.layer ∷ []) bodies forms) ≡ length bodies + length forms
  fold_length bodies [] = omega arith
  fold_length bodies (f ∷ forms) =
      omega (arith, fold_length (bodies ++ body_in paths bodies f.layer ∷ []) forms, length-append bodies (body_in paths bodies f.layer ∷ []))

  pub as_many : (forms : List BodyForm) → length (bodies_of paths forms) ≡ length forms
  unfolding bodies_of
  as_many forms = let h = fold_length [] forms in omega (arith, h)

  pub no_bodies : AreBodies paths []
  unfolding bodies_of
  no_bodies = record { below = λ k d h. absurd (omega arith); zoned = λ k d h. absurd (omega arith); sizes = refl }

  -- the shape of a layer stays as long as its parts do
  layer_stays : (old new : List BodyShape) (l : BodyLayer) → behind_parts l ≤ length old → Grows old new → body_in paths new l ≡ body_in paths old l
  layer_stays old new (layer.Unit zone c) below more = refl
  layer_stays old new (layer.Join by a b) below more = ap₂ (body_joined by) (more.same a (omega arith)) (more.same b (omega arith))

  more_bodies : (xs ys : List BodyForm) → Grows (bodies_of paths xs) (bodies_of paths (xs ++ ys))
  more_bodies xs [] = subst (λ (zs : List BodyForm). Grows (bodies_of paths xs) (bodies_of paths zs)) (sym (append-nil xs)) (grows_itself (bodies_of paths xs))
  more_bodies xs (y ∷ ys) =
      subst (λ (zs : List BodyForm). Grows (bodies_of paths xs) (bodies_of paths zs)) (append_assoc xs (y ∷ []) ys)
      (grows_twice (bodies_of paths xs) (bodies_of paths (xs ++ y ∷ [])) (bodies_of paths ((xs ++ y ∷ []) ++ ys))
      (subst (Grows (bodies_of paths xs)) (sym (bodies_last xs y)) (grows_last (bodies_of paths xs) (body_in paths (bodies_of paths xs) y.layer)))
      (more_bodies (xs ++ y ∷ []) ys))

  body_at_seam : (xs ys : List BodyForm) (f : BodyForm) → behind_parts f.layer ≤ length xs
      → body_at (bodies_of paths ((xs ++ f ∷ []) ++ ys)) (length xs) ≡ body_in paths (bodies_of paths ((xs ++ f ∷ []) ++ ys)) f.layer
  body_at_seam xs ys f below =
      let all = bodies_of paths ((xs ++ f ∷ []) ++ ys) in
      let more : Grows (bodies_of paths (xs ++ f ∷ [])) all = more_bodies (xs ++ f ∷ []) ys in
      let inside : length xs < length (bodies_of paths (xs ++ f ∷ [])) = omega (arith, as_many (xs ++ f ∷ []), length-append xs (f ∷ [])) in
      let here : behind_parts f.layer ≤ length (bodies_of paths xs) = omega (arith, as_many xs) in
      let from : Grows (bodies_of paths xs) all = subst (λ (zs : List BodyForm). Grows (bodies_of paths xs) (bodies_of paths zs)) (sym (append_assoc xs (f ∷ []) ys)) (more_bodies xs (f ∷ ys)) in
      more.same (length xs) inside
      ∙ ap₂ body_at (bodies_last xs f) (sym (as_many xs))
      ∙ (stands_last (bodies_of paths xs) (body_in paths (bodies_of paths xs) f.layer)).is
      ∙ sym (layer_stays (bodies_of paths xs) all f.layer here from)

  -- the shape at a place is that of the layer there
  pub body_there : (forms : List BodyForm) (k : ℕ) (d : BodyForm) → AreBodies paths forms → k < length forms
      → body_at (bodies_of paths forms) k ≡ body_in paths (bodies_of paths forms) (get_or forms k d).layer
  body_there forms k d sound h =
      let f = get_or forms k d in
      let first : length (take k forms) ≡ k = length-take-le k forms (omega arith) in
      let whole : (take k forms ++ f ∷ []) ++ drop (suc k) forms ≡ forms =
      append_assoc (take k forms) (f ∷ []) (drop (suc k) forms)
      ∙ ap (λ (zs : List BodyForm). take k forms ++ zs) (sym (drop-cons forms k d h))
      ∙ take-append-drop k forms in
      let below : behind_parts f.layer ≤ length (take k forms) = let b = sound.below k d h in omega arith in
      subst (λ (zs : List BodyForm). body_at (bodies_of paths zs) k ≡ body_in paths (bodies_of paths zs) f.layer) whole
      (subst (λ (n : ℕ). body_at (bodies_of paths ((take k forms ++ f ∷ []) ++ drop (suc k) forms)) n ≡ body_in paths (bodies_of paths ((take k forms ++ f ∷ []) ++ drop (suc k) forms)) f.layer) first
      (body_at_seam (take k forms) (drop (suc k) forms) f below))

  pub size_there : (forms : List BodyForm) (k : ℕ) (d : BodyForm) → AreBodies paths forms → k < length forms → (get_or forms k d).size ≡ size_of_body (body_at (bodies_of paths forms) k)
  size_there forms k d sound h =
      let many = as_many forms in
      let inside : k < length (bodies_of paths forms) = omega arith in
      sym (get_or-map (λ (f : BodyForm). f.size) forms k d (size_of_body no_body) h)
      ∙ ap (λ (sizes : List BodySize). get_or sizes k (size_of_body no_body)) sound.sizes
      ∙ get_or-map size_of_body (bodies_of paths forms) k no_body (size_of_body no_body) inside

  at_most : {X : Type 0} (xs : List X) (x : X) (k : ℕ) → k < length (xs ++ x ∷ []) → (k < length xs) ⊎ (k ≡ length xs)
  at_most xs x k h = let n = length-append xs (x ∷ []) in grind arith

  module _ (forms : List BodyForm) (l : BodyLayer) (size : BodySize) where
    abbrev form : BodyForm
    form = record { layer = l; size = size }

    abbrev all : List BodyForm
    all = forms ++ form ∷ []

    by_place : (P : ℕ → BodyLayer → Type 0) → ((k : ℕ) (d : BodyForm) → k < length forms → P k (get_or forms k d).layer) → P (length forms) l
        → (k : ℕ) (d : BodyForm) → (k < length forms) ⊎ (k ≡ length forms) → P k (get_or all k d).layer
    by_place P others here k d (inl old) = subst (λ (f : BodyForm). P k f.layer) (sym (get_or_append_left forms (form ∷ []) d k old)) (others k d old)
    by_place P others here k d (inr last) =
        subst (λ (n : ℕ). P n (get_or all n d).layer) (sym last) (subst (λ (f : BodyForm). P (length forms) f.layer) (sym (get_or-append_seam forms form [] d)) here)

    pub one_more : AreBodies paths forms → behind_parts l ≤ length forms → behind_paths l ≤ length paths → size ≡ size_of_body (body_in paths (bodies_of paths forms) l) → AreBodies paths all
    one_more sound below zoned is = record {
      below = λ k d h. by_place (λ n x. behind_parts x ≤ n) sound.below below k d (at_most forms form k h);
      zoned = λ k d h. by_place (λ n x. behind_paths x ≤ length paths) sound.zoned zoned k d (at_most forms form k h);
      sizes =
          map_last (λ (f : BodyForm). f.size) forms form
          ∙ ap₂ (λ (xs : List BodySize) (x : BodySize). xs ++ x ∷ []) sound.sizes is
          ∙ sym (map_last size_of_body (bodies_of paths forms) (body_in paths (bodies_of paths forms) l))
          ∙ sym (ap (map size_of_body) (bodies_last forms form));
    }

    pub grown : Grows (bodies_of paths forms) (bodies_of paths all)
    grown = more_bodies forms (form ∷ [])

    pub stands : StandsFor (bodies_of paths all) (body_in paths (bodies_of paths forms) l) (length forms)
    stands =
        subst (λ (bodies : List BodyShape). StandsFor bodies (body_in paths (bodies_of paths forms) l) (length forms)) (sym (bodies_last forms form))
        (subst (StandsFor (bodies_of paths forms ++ body_in paths (bodies_of paths forms) l ∷ []) (body_in paths (bodies_of paths forms) l)) (as_many forms)
        (stands_last (bodies_of paths forms) (body_in paths (bodies_of paths forms) l)))

  pub in_either : (b : Bool) (xs ys : List BodyForm) → AreBodies paths xs → AreBodies paths ys → AreBodies paths (if b then xs else ys)
  in_either true xs ys one two = one
  in_either false xs ys one two = two

  pub grows_either : (b : Bool) (old xs : List BodyForm) → Grows (bodies_of paths old) (bodies_of paths xs) → Grows (bodies_of paths old) (bodies_of paths (if b then xs else old))
  grows_either true old xs more = more
  grows_either false old xs more = grows_itself (bodies_of paths old)
