-- Lists of sets that are numbered as they are found.
use Rattle.std.proofs.Common.{◌≡◌, ℕ, ◌+◌, ◌<◌, Bool, true, cond, ◌&&◌, nat_eq, List, [], ◌∷◌, ◌++◌, length, get_or, map, Some, refl, sym, ap, ◌∙◌, inl, inr, arith}
use Rattle.std.specs.Cmp.Lexicographic.{pointwise}
use Rattle.std.specs.declared.vec.Vec.{Vec}
use Rattle.std.specs.List.{IsDistinct, list_any, slice_get}
use Rattle.indexmap.specs.IndexSet.{insert_key}
use Rattle.std.proofs.lemmas.Bool.{cases_Bool, cases_lt, false≢true}
use Rattle.std.proofs.lemmas.List.{get_or-map, get_or_push, length_push, map_push, length-map}
use Rattle.std.proofs.lemmas.Map.Keys.{apart_from_distinct}
use Rattle.std.proofs.lemmas.Map.Views.{exact_unsigned_eq}
use Rattle.std.proofs.lemmas.Option.{get_or_from_slice_get}
use Rattle.rela_closed.specs.Sets.{AreDistinct, AreNumbered}

same_numbers : (n : ℕ) → nat_eq n n ≡ true
same_numbers n = grind arith

pointwise_same : (xs : List ℕ) → pointwise nat_eq xs xs ≡ true
pointwise_same [] = refl
pointwise_same (x ∷ xs) = ap (λ b. b && pointwise nat_eq xs xs) (same_numbers x) ∙ pointwise_same xs

same_from_pointwise : (xs ys : List ℕ) → pointwise nat_eq xs ys ≡ true → xs ≡ ys
same_from_pointwise [] [] e = refl
same_from_pointwise [] (y ∷ ys) e = absurd (false≢true e)
same_from_pointwise (x ∷ xs) [] e = absurd (false≢true e)
same_from_pointwise (x ∷ xs) (y ∷ ys) e = elim (cases_Bool (nat_eq x y)) [
  | inl first ↦
      ap (λ n. n ∷ xs) (exact_unsigned_eq x y first)
      ∙ ap (λ l. y ∷ l) (same_from_pointwise xs ys (sym (ap (λ b. b && pointwise nat_eq xs ys) first) ∙ e))
  | inr differ ↦ absurd (false≢true (sym (ap (λ b. b && pointwise nat_eq xs ys) differ) ∙ e))
]

module _ {A : Type 0} where
  -- two sets have the same items
  abbrev pub same_items : Vec ℕ A → Vec ℕ A → Bool
  same_items v w = pointwise nat_eq v.items w.items

  abbrev pub sets_in : List (Vec ℕ A) → List (List ℕ)
  sets_in sets = map (λ v. v.items) sets

  sets_same_items : (xs ys : List (Vec ℕ A)) → sets_in xs ≡ sets_in ys → pointwise same_items xs ys ≡ true
  sets_same_items [] [] e = refl
  sets_same_items [] (y ∷ ys) e = absurd (omega (arith, ap length e))
  sets_same_items (x ∷ xs) [] e = absurd (omega (arith, ap length e))
  sets_same_items (x ∷ xs) (y ∷ ys) e =
      let first : x.items ≡ y.items = cc in
      let rest : sets_in xs ≡ sets_in ys = cc in
      ap (λ b. b && pointwise same_items xs ys) (ap (pointwise nat_eq x.items) (sym first) ∙ pointwise_same x.items) ∙ sets_same_items xs ys rest

  items_from_pointwise : (xs ys : List (Vec ℕ A)) → pointwise same_items xs ys ≡ true → sets_in xs ≡ sets_in ys
  items_from_pointwise [] [] e = refl
  items_from_pointwise [] (y ∷ ys) e = absurd (false≢true e)
  items_from_pointwise (x ∷ xs) [] e = absurd (false≢true e)
  items_from_pointwise (x ∷ xs) (y ∷ ys) e = elim (cases_Bool (same_items x y)) [
    | inl first ↦
        ap (λ l. l ∷ sets_in xs) (same_from_pointwise x.items y.items first)
        ∙ ap (λ l. y.items ∷ l) (items_from_pointwise xs ys (sym (ap (λ b. b && pointwise same_items xs ys) first) ∙ e))
    | inr differ ↦ absurd (false≢true (sym (ap (λ b. b && pointwise same_items xs ys) differ) ∙ e))
  ]

module _ {A B : Type 0} where
  -- two keys have the same sets
  abbrev pub same_sets : Vec (Vec ℕ A) B → Vec (Vec ℕ A) B → Bool
  same_sets v w = pointwise same_items v.items w.items

  abbrev pub sets_of : Vec (Vec ℕ A) B → List (List ℕ)
  sets_of v = sets_in v.items

  abbrev pub all_sets : List (Vec (Vec ℕ A) B) → List (List (List ℕ))
  all_sets keys = map (λ v. sets_of v) keys

  pub distinct_sets : (keys : List (Vec (Vec ℕ A) B)) → IsDistinct same_sets keys → AreDistinct (all_sets keys)
  distinct_sets [] distinct i j below within same = absurd (omega (arith, within))
  distinct_sets (k ∷ ks) distinct i j below within same =
      let in_keys : j < length (k ∷ ks) = omega (arith, within, length-map (k ∷ ks) (λ (v : Vec (Vec ℕ A) B). sets_of v)) in
      let apart = apart_from_distinct same_sets (k ∷ ks) i j k distinct below in_keys in
      let at_i = get_or-map (λ (v : Vec (Vec ℕ A) B). sets_of v) (k ∷ ks) i k [] (omega (arith, below, in_keys)) in
      let at_j = get_or-map (λ (v : Vec (Vec ℕ A) B). sets_of v) (k ∷ ks) j k [] in_keys in
      let equal : sets_of (get_or (k ∷ ks) i k) ≡ sets_of (get_or (k ∷ ks) j k) = sym at_i ∙ same ∙ at_j in
      false≢true (sym apart ∙ sets_same_items (get_or (k ∷ ks) i k).items (get_or (k ∷ ks) j k).items equal)

  number_at : (keys : List (Vec (Vec ℕ A) B)) (n : ℕ) (value : Vec (Vec ℕ A) B) → n < length keys → (k : Vec (Vec ℕ A) B) × (slice_get keys n ≡ Some k) × (same_sets value k ≡ true)
      → get_or (all_sets keys) n [] ≡ sets_of value
  number_at keys n value within (k, at, same) =
      get_or-map (λ (v : Vec (Vec ℕ A) B). sets_of v) keys n k [] within
      ∙ ap (λ v. sets_of v) (get_or_from_slice_get keys n k k at) ∙ sym (items_from_pointwise value.items k.items same)

  pub numbered : (keys new : List (Vec (Vec ℕ A) B)) (n : ℕ) (value : Vec (Vec ℕ A) B) → new ≡ insert_key same_sets keys value → IsDistinct same_sets new → n < length new
      → (k : Vec (Vec ℕ A) B) × (slice_get new n ≡ Some k) × (same_sets value k ≡ true)
      → AreNumbered (sets_of value) (all_sets keys) (all_sets new) n
  numbered keys new n value is distinct within stored =
      let at : get_or (all_sets new) n [] ≡ sets_of value = number_at new n value within stored in
      let all = length-map new (λ (v : Vec (Vec ℕ A) B). sets_of v) in
      record {
        within = omega arith;
        at = at;
        grown = elim (cases_Bool (list_any (same_sets value) keys)) [
          | inl among ↦
              let same : all_sets new ≡ all_sets keys = ap all_sets (is ∙ ap (λ b. cond b keys (keys ++ value ∷ [])) among) in
              inl (same, let len = ap length same in omega arith)
          | inr absent ↦
              let pushed : all_sets new ≡ all_sets keys ++ sets_of value ∷ [] =
              ap all_sets (is ∙ ap (λ b. cond b keys (keys ++ value ∷ [])) absent) ∙ map_push (λ (v : Vec (Vec ℕ A) B). sets_of v) keys value in
              let len : length (all_sets new) ≡ length (all_sets keys) + 1 = ap length pushed ∙ length_push (all_sets keys) (sets_of value) in
              let last : get_or (all_sets new) (length (all_sets keys)) [] ≡ sets_of value =
              ap (λ l. get_or l (length (all_sets keys)) []) pushed ∙ get_or_push (all_sets keys) (sets_of value) [] (length (all_sets keys)) refl in
              inr (
                pushed,
                elim (cases_lt n (length (all_sets keys))) [
                  | inl below ↦ absurd (distinct_sets new distinct n (length (all_sets keys)) below (omega arith) (at ∙ sym last))
                  | inr above ↦ omega arith
                ],
              )
        ];
      }
