-- Lists of numbers that are numbered as they are found.
use Rattle.std.proofs.Common.{◌≡◌, ℕ, ◌+◌, ◌<◌, ◌⊎◌, Bool, true, cond, nat_eq, List, [], ◌∷◌, ◌++◌, length, get_or, Some, refl, sym, ap, ◌∙◌, inl, inr, arith}
use Rattle.std.specs.Cmp.Lexicographic.{other_text, pointwise, same_text}
use Rattle.std.specs.declared.vec.Vec.{Vec}
use Rattle.std.specs.List.{IsDistinct, list_any, slice_get}
use Rattle.indexmap.specs.IndexSet.{insert_key}
use Rattle.std.proofs.lemmas.Bool.{cases_Bool, cases_lt}
use Rattle.std.proofs.lemmas.List.{get_or-map, get_or_push, length-map, length_push, map_push}
use Rattle.std.proofs.lemmas.Map.Keys.{apart_from_distinct}
use Rattle.std.proofs.lemmas.Option.{get_or_from_slice_get}
use Rattle.rela_subset.specs.Sets.{AreDistinct}
use Rattle.rela_minimise.specs.Stored.{lists_of}

module _ {A : Type 0} where
  -- two keys have the same items
  abbrev same_items : Vec ℕ A → Vec ℕ A → Bool
  same_items v w = pointwise nat_eq v.items w.items

  pub distinct_lists : (keys : List (Vec ℕ A)) → IsDistinct same_items keys → AreDistinct (lists_of keys)
  distinct_lists [] distinct i j below within same = absurd (omega (arith, within))
  distinct_lists (k ∷ ks) distinct i j below within same =
      let in_keys : j < length (k ∷ ks) = omega (arith, within, length-map (k ∷ ks) (λ (v : Vec ℕ A). v.items)) in
      let apart = apart_from_distinct same_items (k ∷ ks) i j k distinct below in_keys in
      let at_i = get_or-map (λ (v : Vec ℕ A). v.items) (k ∷ ks) i k [] (omega (arith, below, in_keys)) in
      let at_j = get_or-map (λ (v : Vec ℕ A). v.items) (k ∷ ks) j k [] in_keys in
      other_text (get_or (k ∷ ks) i k).items (get_or (k ∷ ks) j k).items (sym apart) (sym at_i ∙ same ∙ at_j)

  pub number_at : (keys : List (Vec ℕ A)) (n : ℕ) (value : Vec ℕ A) → n < length keys → (k : Vec ℕ A) × (slice_get keys n ≡ Some k) × (same_items value k ≡ true)
      → get_or (lists_of keys) n [] ≡ value.items
  number_at keys n value within (k, at, same) =
      get_or-map (λ (v : Vec ℕ A). v.items) keys n k [] within
      ∙ ap (λ v. v.items) (get_or_from_slice_get keys n k k at) ∙ sym (same_text value.items k.items (sym same))

  pub number_grown : (keys new : List (Vec ℕ A)) (n : ℕ) (value : Vec ℕ A) → new ≡ insert_key same_items keys value → IsDistinct same_items new → n < length new
      → get_or (lists_of new) n [] ≡ value.items → (lists_of new ≡ lists_of keys) ⊎ ((lists_of new ≡ lists_of keys ++ value.items ∷ []) × (n ≡ length (lists_of keys)))
  number_grown keys new n value is distinct within at = elim (cases_Bool (list_any (same_items value) keys)) [
    | inl among ↦ inl (ap lists_of (is ∙ ap (λ b. cond b keys (keys ++ value ∷ [])) among))
    | inr absent ↦
        let pushed : lists_of new ≡ lists_of keys ++ value.items ∷ [] =
        ap lists_of (is ∙ ap (λ b. cond b keys (keys ++ value ∷ [])) absent) ∙ map_push (λ (v : Vec ℕ A). v.items) keys value in
        let len : length (lists_of new) ≡ length (lists_of keys) + 1 = ap length pushed ∙ length_push (lists_of keys) value.items in
        let last : get_or (lists_of new) (length (lists_of keys)) [] ≡ value.items =
        ap (λ l. get_or l (length (lists_of keys)) []) pushed ∙ get_or_push (lists_of keys) value.items [] (length (lists_of keys)) refl in
        let all = length-map new (λ (v : Vec ℕ A). v.items) in
        inr (
          pushed,
          elim (cases_lt n (length (lists_of keys))) [
            | inl below ↦ absurd (distinct_lists new distinct n (length (lists_of keys)) below (omega arith) (at ∙ sym last))
            | inr above ↦ omega arith
          ],
        )
  ]
