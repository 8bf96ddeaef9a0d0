-- Lists that go together place by place.
use Rattle.std.proofs.Common.{◌≡◌, ℕ, suc, ◌+◌, ◌<◌, List, [], ◌∷◌, ◌++◌, length, get_or, take, refl, sym, ap, subst}
use Rattle.std.specs.List.{AllZip}
use Rattle.std.proofs.lemmas.List.{take_more}

module _ {A B : Type 0} (R : A → B → Type 0) where
  pub zip_push : (xs : List A) (ys : List B) (x : A) (y : B) → AllZip R xs ys → R x y → AllZip R (xs ++ x ∷ []) (ys ++ y ∷ [])
  zip_push [] [] x y zip more = (more, tt)
  zip_push [] (b ∷ ys) x y zip more = absurd zip
  zip_push (a ∷ xs) [] x y zip more = absurd zip
  zip_push (a ∷ xs) (b ∷ ys) x y zip more = (zip.0, zip_push xs ys x y zip.1 more)

  -- one place more of a longer list
  pub zip_more : (xs : List A) (ys : List B) (i : ℕ) (d : A) (y : B) → i < length xs → AllZip R (take i xs) ys → R (get_or xs i d) y
      → AllZip R (take (i + 1) xs) (ys ++ y ∷ [])
  zip_more xs ys i d y below zip more =
      subst (λ (zs : List A). AllZip R zs (ys ++ y ∷ [])) (sym (take_more xs i d below)) (zip_push (take i xs) ys (get_or xs i d) y zip more)

  pub zip_length : (xs : List A) (ys : List B) → AllZip R xs ys → length ys ≡ length xs
  zip_length [] [] zip = refl
  zip_length [] (b ∷ ys) zip = absurd zip
  zip_length (a ∷ xs) [] zip = absurd zip
  zip_length (a ∷ xs) (b ∷ ys) zip = ap suc (zip_length xs ys zip.1)
