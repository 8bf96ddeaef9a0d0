-- What one form more does to a graph of forms.
use Rattle.std.proofs.Common.{zero, suc, ◌≡◌, ℕ, ◌+◌, ◌<◌, ◌≤◌, max, List, [], ◌∷◌, ◌++◌, length, map, get_or, refl, ap, ap₂, sym, subst, ◌∙◌, arith, length-append, append_assoc, take, drop, drop-cons, ◌⊎◌, inl, inr}
use Rattle.std.proofs.lemmas.List.{append-nil, get_or_append_left, length-take-le, take-append-drop}
use Rattle.std.proofs.Math.Seq.{get_or-append_seam}
use Rattle.std.specs.List.{fold}
use Rattle.std.specs.Prelude.{Bool, true, false, if◌then◌else◌}
use Rattle.rela_expand.specs.Forms.{joined, shape_at, shape_in, shapes_of, behind, capped, size_of, AreForms, Extends, StandsAt}
use Rattle.rela_expand.specs.Shapes.{Shape, Empty, Not, Star}
use Rattle.rela_expand.specs.declared.forms.Layer.{Layer}
use Rattle.rela_expand.specs.declared.forms.Layer.TheVariants as layer
use Rattle.rela_expand.specs.declared.forms.Form.{Form}
use Rattle.rela_expand.specs.declared.forms.Size.{Size}

fold_last : {A B : Type 0} (f : B → A → B) (b : B) (xs : List A) (x : A) → fold f b (xs ++ x ∷ []) ≡ f (fold f b xs) x
fold_last f b [] x = refl
fold_last f b (y ∷ xs) x = fold_last f (f b y) xs x

pub shapes_last : (forms : List Form) (form : Form) → shapes_of (forms ++ form ∷ []) ≡ shapes_of forms ++ shape_in (shapes_of forms) form.layer ∷ []
unfolding shapes_of
shapes_last forms form = fold_last (λ shapes f. shapes ++ shape_in shapes f.layer ∷ []) [] forms form

fold_length : (shapes : List Shape) (forms : List Form) → length (fold (λ (seen : List Shape) (f : Form). seen ++ shape_in seen f.layer ∷ []) shapes forms) ≡ length shapes + length forms
fold_length shapes [] = omega arith
fold_length shapes (f ∷ forms) =
    omega (arith, fold_length (shapes ++ shape_in shapes f.layer ∷ []) forms, length-append shapes (shape_in shapes f.layer ∷ []))

pub as_many : (forms : List Form) → length (shapes_of forms) ≡ length forms
unfolding shapes_of
as_many forms = let h = fold_length [] forms in omega (arith, h)

pub shapes_none : shapes_of [] ≡ []
unfolding shapes_of
shapes_none = refl

pub extends_itself : (shapes : List Shape) → Extends shapes shapes
extends_itself shapes = record { longer = omega arith; same = λ k h. refl }

pub extends_twice : (a b c : List Shape) → Extends a b → Extends b c → Extends a c
extends_twice a b c one two = record {
  longer = let x = one.longer in let y = two.longer in omega arith;
  same = λ k h. let inside : k < length b = let x = one.longer in omega arith in two.same k inside ∙ one.same k h;
}

pub extends_last : (shapes : List Shape) (shape : Shape) → Extends shapes (shapes ++ shape ∷ [])
extends_last shapes shape = record {
  longer = omega (arith, length-append shapes (shape ∷ []));
  same = λ k h. get_or_append_left shapes (shape ∷ []) Empty k h;
}

pub stands_last : (shapes : List Shape) (shape : Shape) → StandsAt (shapes ++ shape ∷ []) shape (length shapes)
stands_last shapes shape = record {
  inside = omega (arith, length-append shapes (shape ∷ []));
  is = get_or-append_seam shapes shape [] Empty;
}

-- the shape of a layer stays as long as its parts do
pub layer_stays : (old new : List Shape) (l : Layer) → behind l ≤ length old → Extends old new → shape_in new l ≡ shape_in old l
layer_stays old new layer.Empty below more = refl
layer_stays old new layer.Any below more = refl
layer_stays old new (layer.One member) below more = refl
layer_stays old new (layer.Class negated members) below more = refl
layer_stays old new (layer.Join by a b) below more = ap₂ (joined by) (more.same a (omega arith)) (more.same b (omega arith))
layer_stays old new (layer.Not a) below more = ap Not (more.same a (omega arith))
layer_stays old new (layer.Star a) below more = ap Star (more.same a (omega arith))

more_forms : (xs ys : List Form) → Extends (shapes_of xs) (shapes_of (xs ++ ys))
more_forms xs [] = subst (λ (zs : List Form). Extends (shapes_of xs) (shapes_of zs)) (sym (append-nil xs)) (extends_itself (shapes_of xs))
more_forms xs (y ∷ ys) =
    subst (λ (zs : List Form). Extends (shapes_of xs) (shapes_of zs)) (append_assoc xs (y ∷ []) ys)
    (extends_twice (shapes_of xs) (shapes_of (xs ++ y ∷ [])) (shapes_of ((xs ++ y ∷ []) ++ ys))
    (subst (Extends (shapes_of xs)) (sym (shapes_last xs y)) (extends_last (shapes_of xs) (shape_in (shapes_of xs) y.layer)))
    (more_forms (xs ++ y ∷ []) ys))

shape_at_seam : (xs ys : List Form) (f : Form) → behind f.layer ≤ length xs → shape_at (shapes_of ((xs ++ f ∷ []) ++ ys)) (length xs) ≡ shape_in (shapes_of ((xs ++ f ∷ []) ++ ys)) f.layer
shape_at_seam xs ys f below =
    let all = shapes_of ((xs ++ f ∷ []) ++ ys) in
    let more : Extends (shapes_of (xs ++ f ∷ [])) all = more_forms (xs ++ f ∷ []) ys in
    let inside : length xs < length (shapes_of (xs ++ f ∷ [])) = omega (arith, as_many (xs ++ f ∷ []), length-append xs (f ∷ [])) in
    let here : behind f.layer ≤ length (shapes_of xs) = omega (arith, as_many xs) in
    let from : Extends (shapes_of xs) all = subst (λ (zs : List Form). Extends (shapes_of xs) (shapes_of zs)) (sym (append_assoc xs (f ∷ []) ys)) (more_forms xs (f ∷ ys)) in
    more.same (length xs) inside
    ∙ ap₂ shape_at (shapes_last xs f) (sym (as_many xs))
    ∙ (stands_last (shapes_of xs) (shape_in (shapes_of xs) f.layer)).is
    ∙ sym (layer_stays (shapes_of xs) all f.layer here from)

-- the shape at a place is that of the layer there
pub shape_there : (forms : List Form) (k : ℕ) (d : Form) → AreForms forms → k < length forms
    → shape_at (shapes_of forms) k ≡ shape_in (shapes_of forms) (get_or forms k d).layer
shape_there forms k d sound h =
    let f = get_or forms k d in
    let first : length (take k forms) ≡ k = length-take-le k forms (omega arith) in
    let whole : (take k forms ++ f ∷ []) ++ drop (suc k) forms ≡ forms =
    append_assoc (take k forms) (f ∷ []) (drop (suc k) forms)
    ∙ ap (λ (zs : List Form). take k forms ++ zs) (sym (drop-cons forms k d h))
    ∙ take-append-drop k forms in
    let below : behind f.layer ≤ length (take k forms) = let b = sound.below k d h in omega arith in
    subst (λ (zs : List Form). shape_at (shapes_of zs) k ≡ shape_in (shapes_of zs) f.layer) whole
    (subst (λ (n : ℕ). shape_at (shapes_of ((take k forms ++ f ∷ []) ++ drop (suc k) forms)) n ≡ shape_in (shapes_of ((take k forms ++ f ∷ []) ++ drop (suc k) forms)) f.layer) first
    (shape_at_seam (take k forms) (drop (suc k) forms) f below))

map_last : {A B : Type 0} (f : A → B) (xs : List A) (x : A) → map f (xs ++ x ∷ []) ≡ map f xs ++ f x ∷ []
map_last f [] x = refl
map_last f (y ∷ xs) x = ap (λ (zs : List _). f y ∷ zs) (map_last f xs x)

pub no_forms : AreForms []
unfolding shapes_of
no_forms = record { below = λ k d h. absurd (omega arith); sizes = refl }

module _ (forms : List Form) (l : Layer) (size : Size) where
  abbrev form : Form
  form = record { layer = l; size = size }

  at_most : (k : ℕ) → k < length (forms ++ form ∷ []) → (k < length forms) ⊎ (k ≡ length forms)
  at_most k h = let n = length-append forms (form ∷ []) in grind arith

  by_place : AreForms forms → behind l ≤ length (shapes_of forms) → (k : ℕ) (d : Form) → (k < length forms) ⊎ (k ≡ length forms) → behind (get_or (forms ++ form ∷ []) k d).layer ≤ k
  by_place sound below k d (inl old) = rw (get_or_append_left forms (form ∷ []) d k old) (sound.below k d old)
  by_place sound below k d (inr last) =
      subst (λ (n : ℕ). behind (get_or (forms ++ form ∷ []) n d).layer ≤ n) (sym last)
      (rw (get_or-append_seam forms form [] d) (rw (as_many forms) at below))

  pub one_more : AreForms forms → behind l ≤ length (shapes_of forms) → size ≡ size_of (shape_in (shapes_of forms) l) → AreForms (forms ++ form ∷ [])
  one_more sound below is = record {
    below = λ k d h. by_place sound below k d (at_most k h);
    sizes =
        map_last (λ (f : Form). f.size) forms form
        ∙ ap₂ (λ (xs : List Size) (x : Size). xs ++ x ∷ []) sound.sizes is
        ∙ sym (map_last size_of (shapes_of forms) (shape_in (shapes_of forms) l))
        ∙ sym (ap (map size_of) (shapes_last forms form));
  }

-- the size at a place is that of the shape there
pub size_there : (forms : List Form) (k : ℕ) (d : Form) → AreForms forms → k < length forms → (get_or forms k d).size ≡ size_of (shape_at (shapes_of forms) k)
size_there forms k d sound h =
    let many = as_many forms in
    let inside : k < length (shapes_of forms) = omega arith in
    sym (get_or-map (λ (f : Form). f.size) forms k d (size_of Empty) h)
    ∙ ap (λ (sizes : List Size). get_or sizes k (size_of Empty)) sound.sizes
    ∙ get_or-map size_of (shapes_of forms) k Empty (size_of Empty) inside
  where
    get_or-map : {A B : Type 0} (f : A → B) (xs : List A) (k : ℕ) (a : A) (b : B) → k < length xs → get_or (map f xs) k b ≡ f (get_or xs k a)
    get_or-map f [] k a b h = absurd (omega arith)
    get_or-map f (x ∷ xs) zero a b h = refl
    get_or-map f (x ∷ xs) (suc k) a b h = get_or-map f xs k a b (omega arith)

pub cap_one : (n : ℕ) → capped (capped n + 1) ≡ capped (n + 1)
cap_one n = omega arith

pub cap_two : (n m : ℕ) → capped (capped n + capped m + 1) ≡ capped (n + m + 1)
cap_two n m = omega arith

pub cap_max : (n m : ℕ) → capped (max (capped n) (capped m) + 1) ≡ capped (max n m + 1)
cap_max n m = omega arith

pub in_either : (b : Bool) (xs ys : List Form) → AreForms xs → AreForms ys → AreForms (if b then xs else ys)
in_either true xs ys one two = one
in_either false xs ys one two = two
