-- Sets that are numbered as they are found.
use Rattle.std.proofs.Common.{◌≡◌, ◌≢◌, ℕ, ◌+◌, ◌<◌, ◌⊎◌, Bool, true, false, cond, ◌&&◌, nat_eq, List, [], ◌∷◌, ◌++◌, length, get_or, map, Option, None, Some, IfNone, IfSome, refl, sym, ap, subst, ◌∙◌, inl, inr, arith}
use Rattle.std.specs.Cmp.Lexicographic.{pointwise}
use Rattle.std.specs.declared.vec.Vec.{Vec}
use Rattle.std.specs.List.{IsDistinct, list_any, position, slice_get}
use Rattle.std.specs.Option.{is_some}
use Rattle.indexmap.specs.IndexSet.{insert_key}
use Rattle.std.proofs.lemmas.Bool.{cases_Bool, cases_lt, false≢true}
use Rattle.std.proofs.lemmas.List.{get_or-map, get_or_append_left, get_or_push, length_push, map_push, length-map}
use Rattle.std.proofs.lemmas.List.Folds.{list_any_at}
use Rattle.std.proofs.lemmas.List.Quantifiers.{position-Some}
use Rattle.std.proofs.lemmas.Map.Keys.{apart_from_distinct}
use Rattle.std.proofs.lemmas.Map.Views.{exact_unsigned_eq}
use Rattle.std.proofs.lemmas.Option.{get_or_from_slice_get}
use Rattle.rela_subset.specs.Sets.{AreDistinct}

same_numbers : (n : ℕ) → nat_eq n n ≡ true
same_numbers n = grind arith

pointwise_same : (xs : List ℕ) → pointwise nat_eq xs xs ≡ true
pointwise_same [] = refl
pointwise_same (x ∷ xs) = ap (λ b. b && pointwise nat_eq xs xs) (same_numbers x) ∙ pointwise_same xs

same_from_pointwise : (xs ys : List ℕ) → pointwise nat_eq xs ys ≡ true → xs ≡ ys
same_from_pointwise [] [] e = refl
same_from_pointwise [] (y ∷ ys) e = absurd (false≢true e)
same_from_pointwise (x ∷ xs) [] e = absurd (false≢true e)
same_from_pointwise (x ∷ xs) (y ∷ ys) e = elim (cases_Bool (nat_eq x y)) [
  | inl first ↦
      ap (λ n. n ∷ xs) (exact_unsigned_eq x y first)
      ∙ ap (λ l. y ∷ l) (same_from_pointwise xs ys (sym (ap (λ b. b && pointwise nat_eq xs ys) first) ∙ e))
  | inr differ ↦ absurd (false≢true (sym (ap (λ b. b && pointwise nat_eq xs ys) differ) ∙ e))
]

module _ {A : Type 0} where
  -- two keys have the same items
  abbrev pub same_items : Vec ℕ A → Vec ℕ A → Bool
  same_items v w = pointwise nat_eq v.items w.items

  abbrev pub sets_of : List (Vec ℕ A) → List (List ℕ)
  sets_of keys = map (λ v. v.items) keys

  pub distinct_sets : (keys : List (Vec ℕ A)) → IsDistinct same_items keys → AreDistinct (sets_of keys)
  distinct_sets [] distinct i j below within same = absurd (omega (arith, within))
  distinct_sets (k ∷ ks) distinct i j below within same =
      let in_keys : j < length (k ∷ ks) = omega (arith, within, length-map (k ∷ ks) (λ (v : Vec ℕ A). v.items)) in
      let apart = apart_from_distinct same_items (k ∷ ks) i j k distinct below in_keys in
      let at_i = get_or-map (λ (v : Vec ℕ A). v.items) (k ∷ ks) i k [] (omega (arith, below, in_keys)) in
      let at_j = get_or-map (λ (v : Vec ℕ A). v.items) (k ∷ ks) j k [] in_keys in
      let equal : (get_or (k ∷ ks) i k).items ≡ (get_or (k ∷ ks) j k).items = sym at_i ∙ same ∙ at_j in
      false≢true (sym apart ∙ ap (pointwise nat_eq (get_or (k ∷ ks) i k).items) (sym equal) ∙ pointwise_same (get_or (k ∷ ks) i k).items)

  pub number_at : (keys : List (Vec ℕ A)) (n : ℕ) (value : Vec ℕ A) → n < length keys → (k : Vec ℕ A) × (slice_get keys n ≡ Some k) × (same_items value k ≡ true)
      → get_or (sets_of keys) n [] ≡ value.items
  number_at keys n value within (k, at, same) =
      get_or-map (λ (v : Vec ℕ A). v.items) keys n k [] within
      ∙ ap (λ v. v.items) (get_or_from_slice_get keys n k k at) ∙ sym (same_from_pointwise value.items k.items same)

  pub number_grown : (keys new : List (Vec ℕ A)) (n : ℕ) (value : Vec ℕ A) → new ≡ insert_key same_items keys value → IsDistinct same_items new → n < length new
      → get_or (sets_of new) n [] ≡ value.items → (sets_of new ≡ sets_of keys) ⊎ ((sets_of new ≡ sets_of keys ++ value.items ∷ []) × (n ≡ length (sets_of keys)))
  number_grown keys new n value is distinct within at = elim (cases_Bool (list_any (same_items value) keys)) [
    | inl among ↦ inl (ap sets_of (is ∙ ap (λ b. cond b keys (keys ++ value ∷ [])) among))
    | inr absent ↦
        let pushed : sets_of new ≡ sets_of keys ++ value.items ∷ [] =
        ap sets_of (is ∙ ap (λ b. cond b keys (keys ++ value ∷ [])) absent) ∙ map_push (λ (v : Vec ℕ A). v.items) keys value in
        let len : length (sets_of new) ≡ length (sets_of keys) + 1 = ap length pushed ∙ length_push (sets_of keys) value.items in
        let last : get_or (sets_of new) (length (sets_of keys)) [] ≡ value.items =
        ap (λ l. get_or l (length (sets_of keys)) []) pushed ∙ get_or_push (sets_of keys) value.items [] (length (sets_of keys)) refl in
        let all = length-map new (λ (v : Vec ℕ A). v.items) in
        inr (
          pushed,
          elim (cases_lt n (length (sets_of keys))) [
            | inl below ↦ absurd (distinct_sets new distinct n (length (sets_of keys)) below (omega arith) (at ∙ sym last))
            | inr above ↦ omega arith
          ],
        )
  ]

  -- a set that is found by its states
  found_at : (keys : List (Vec ℕ A)) (n : ℕ) (set : List ℕ) → position (λ k. pointwise nat_eq set k.items) keys ≡ Some n → get_or (sets_of keys) n [] ≡ set
  found_at [] n set e = absurd (let none : None ≡ Some n = e in cc)
  found_at (k ∷ ks) n set e =
      let at = position-Some (λ (v : Vec ℕ A). pointwise nat_eq set v.items) (k ∷ ks) n k e in
      get_or-map (λ (v : Vec ℕ A). v.items) (k ∷ ks) n k [] at.0 ∙ sym (same_from_pointwise set (get_or (k ∷ ks) n k).items at.1)

  -- a set that isn't
  lacking : (keys : List (Vec ℕ A)) (set : List ℕ) → list_any (λ k. pointwise nat_eq set k.items) keys ≡ false → (i : ℕ) → i < length (sets_of keys) → get_or (sets_of keys) i [] ≢ set
  lacking [] set none i below same = absurd (omega (arith, below))
  lacking (k ∷ ks) set none i below same =
      let within : i < length (k ∷ ks) = omega (arith, below, length-map (k ∷ ks) (λ (v : Vec ℕ A). v.items)) in
      let is : set ≡ (get_or (k ∷ ks) i k).items = sym same ∙ get_or-map (λ (v : Vec ℕ A). v.items) (k ∷ ks) i k [] within in
      false≢true (sym none ∙ list_any_at (λ (v : Vec ℕ A). pointwise nat_eq set v.items) (k ∷ ks) i k within (subst (λ s. pointwise nat_eq set s ≡ true) is (pointwise_same set)))

  distinct_more : (keys : List (Vec ℕ A)) (sets : List (List ℕ)) (set : List ℕ) → sets_of keys ≡ sets → AreDistinct sets → false ≡ list_any (λ k. pointwise nat_eq set k.items) keys
      → AreDistinct (sets ++ set ∷ [])
  distinct_more keys sets set are distinct known i j below within = elim (cases_lt j (length sets)) [
    | inl old ↦ λ same. distinct i j below old
        (sym (get_or_append_left sets (set ∷ []) [] i (omega (arith, below, old))) ∙ same ∙ get_or_append_left sets (set ∷ []) [] j old)
    | inr last ↦
        let here : j ≡ length sets = let len = length_push sets set in omega (arith, within, last, len) in
        let first : i < length sets = omega (arith, below, here) in
        λ same. lacking keys set (sym known) i (omega (arith, first, ap length are))
        (ap (λ l. get_or l i []) are ∙ sym (get_or_append_left sets (set ∷ []) [] i first) ∙ same ∙ get_or_push sets set [] j (sym here))
  ]

  -- what a look for a set by its states finds
  pub found_if : (keys : List (Vec ℕ A)) (sets : List (List ℕ)) (set : List ℕ) (found : Option ℕ) → sets_of keys ≡ sets → found ≡ position (λ k. pointwise nat_eq set k.items) keys
      → IfSome found (λ n. get_or sets n [] ≡ set)
  found_if keys sets set (Some n) are is = subst (λ s. get_or s n [] ≡ set) are (found_at keys n set (sym is))
  found_if keys sets set None are is = tt

  pub lacking_if : (keys : List (Vec ℕ A)) (sets : List (List ℕ)) (set : List ℕ) (found : Option ℕ) → sets_of keys ≡ sets → AreDistinct sets
      → is_some found ≡ list_any (λ k. pointwise nat_eq set k.items) keys → IfNone found (AreDistinct (sets ++ set ∷ []))
  lacking_if keys sets set (Some n) are distinct known = tt
  lacking_if keys sets set None are distinct known = distinct_more keys sets set are distinct known

  -- a set that is read at its number
  pub read_at : (keys : List (Vec ℕ A)) (n : ℕ) (key : Vec ℕ A) (items set : List ℕ) → n < length keys → key ≡ get_or keys n key → items ≡ key.items → pointwise nat_eq items set ≡ true
      → get_or (sets_of keys) n [] ≡ set
  read_at keys n key items set within at are same =
      get_or-map (λ (v : Vec ℕ A). v.items) keys n key [] within ∙ ap (λ v. v.items) (sym at) ∙ sym are ∙ same_from_pointwise items set same
