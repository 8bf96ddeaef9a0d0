-- Steps over a list of which the first refusal is the answer.
use Rattle.std.proofs.Common.{◌≡◌, ℕ, ◌+◌, ◌<◌, ◌≤◌, List, [], ◌∷◌, length, drop, get_or, map, Result, Ok, Err, refl, ap, sym, ◌∙◌}
use Rattle.std.proofs.lemmas.List.{drop_all, drop_more}
use Rattle.rela_json.specs.Results.{◌>>=◌, try_fold, try_map}

-- the rest of a list begins with what stands at its place
pub rest_is : {A : Type 0} (xs : List A) (i : ℕ) (x : A) → i < length xs → x ≡ get_or xs i x → drop i xs ≡ x ∷ drop (i + 1) xs
rest_is {A} xs i x within is = drop_more xs i x within ∙ ap (λ (y : A). y ∷ drop (i + 1) xs) (sym is)

module _ {A B E : Type 0} (f : A → Result B E) (g : A → B) (xs : List A) where
  -- what comes of the rest comes of all
  pub record IsTried (i : ℕ) : Type 0 where
    pub all : try_map f (drop i xs) ≡ Ok (map g (drop i xs)) → try_map f xs ≡ Ok (map g xs)
    pub refused : (e : E) → try_map f (drop i xs) ≡ Err e → try_map f xs ≡ Err e

  pub none_tried : IsTried 0
  none_tried = record { all = λ is. is; refused = λ e is. is }

  module _ (i : ℕ) (x : A) (within : i < length xs) (is : x ≡ get_or xs i x) (tried : IsTried i) where
    pub one_tried : f x ≡ Ok (g x) → IsTried (i + 1)
    one_tried here = record {
      all = λ rest. tried.all
          (ap (try_map f) (rest_is xs i x within is)
          ∙ ap (λ (r : Result B E). r >>= (λ y. try_map f (drop (i + 1) xs) >>= (λ ys. Ok (y ∷ ys)))) here
          ∙ ap (λ (r : Result (List B) E). r >>= (λ ys. Ok (g x ∷ ys))) rest
          ∙ sym (ap (λ (ys : List A). let r : Result (List B) E = Ok (map g ys) in r) (rest_is xs i x within is)));
      refused = λ e rest. tried.refused e
          (ap (try_map f) (rest_is xs i x within is)
          ∙ ap (λ (r : Result B E). r >>= (λ y. try_map f (drop (i + 1) xs) >>= (λ ys. Ok (y ∷ ys)))) here
          ∙ ap (λ (r : Result (List B) E). r >>= (λ ys. Ok (g x ∷ ys))) rest);
    }

    pub one_stops : (e : E) → f x ≡ Err e → try_map f xs ≡ Err e
    one_stops e here = tried.refused e
        (ap (try_map f) (rest_is xs i x within is)
        ∙ ap (λ (r : Result B E). r >>= (λ y. try_map f (drop (i + 1) xs) >>= (λ ys. Ok (y ∷ ys)))) here)

  pub all_tried : (i : ℕ) → length xs ≤ i → IsTried i → try_map f xs ≡ Ok (map g xs)
  all_tried i past tried = tried.all
      (ap (try_map f) (drop_all i xs past) ∙ sym (ap (λ (ys : List A). let r : Result (List B) E = Ok (map g ys) in r) (drop_all i xs past)))

-- trying what a view shows is trying through the view
pub try_of_view : {A B C E : Type 0} (f : B → Result C E) (view : A → B) (xs : List A) → try_map f (map view xs) ≡ try_map (λ x. f (view x)) xs
try_of_view f view [] = refl
try_of_view {A} {B} {C} {E} f view (x ∷ xs) =
    ap (λ (rs : Result (List C) E). f (view x) >>= (λ y. rs >>= (λ ys. Ok (y ∷ ys)))) (try_of_view f view xs)

module _ {S A E : Type 0} (f : S → A → Result S E) (s : S) (xs : List A) (i : ℕ) (x : A) (within : i < length xs) (is : x ≡ get_or xs i x) where
  pub fold_goes_on : (t : S) → f s x ≡ Ok t → try_fold f t (drop (i + 1) xs) ≡ try_fold f s (drop i xs)
  fold_goes_on t here = sym
      (ap (try_fold f s) (rest_is xs i x within is) ∙ ap (λ (r : Result S E). r >>= (λ t. try_fold f t (drop (i + 1) xs))) here)

  pub fold_stops : (e : E) → f s x ≡ Err e → try_fold f s (drop i xs) ≡ Err e
  fold_stops e here =
      ap (try_fold f s) (rest_is xs i x within is) ∙ ap (λ (r : Result S E). r >>= (λ t. try_fold f t (drop (i + 1) xs))) here
