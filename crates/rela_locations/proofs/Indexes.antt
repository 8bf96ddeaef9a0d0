-- Where names stand in a list.
use Rattle.std.proofs.Common.{suc, ◌≡◌, ℕ, ◌+◌, ◌<◌, Bool, true, false, cond, not, ◌||◌, List, [], ◌∷◌, get_or, Some, slice_get, refl, ap, sym, ◌∙◌, arith, inl, inr}
use Rattle.std.specs.Str.{bytes_eq}
use Rattle.std.specs.declared.cmp.Ordering.TheVariants.{Less}
use Rattle.std.specs.Ordering.{is_eq}
use Rattle.std.proofs.lemmas.Bool.{cases_lt}
use Rattle.std.proofs.lemmas.Map.Text.{is_eq-slice_cmp}
use Rattle.std.proofs.lemmas.Option.{slice_get_within, get_or_from_slice_get}
use Rattle.rela_names.specs.Name.{IsAscending, bytes_cmp}
use Rattle.rela_locations.specs.Names.{has_name}
use Rattle.rela_locations.specs.Tables.{index_of, IsOnce}
use Rattle.rela_locations.proofs.Bools.{any_of_place}
use Rattle.rela_locations.proofs.NameSets.{same_name, name_is_itself}

stands_by_test : (n name : List ℕ) (names : List (List ℕ)) (b : Bool) → bytes_eq name n ≡ b → (b || has_name names name) ≡ true
    → (has_name names name ≡ true → slice_get names (index_of names name) ≡ Some name)
    → slice_get (n ∷ names) (cond (not b) (1 + index_of names name) 0) ≡ Some name
stands_by_test n name names true is known later = let same : name ≡ n = same_name name n is in ap Some (sym same)
stands_by_test n name names false is known later =
    let next : 1 + index_of names name ≡ suc (index_of names name) = omega arith in
    rw next (later known)

-- a name that is there stands at its index
pub index_of_known : (names : List (List ℕ)) (name : List ℕ) → has_name names name ≡ true → slice_get names (index_of names name) ≡ Some name
index_of_known [] name known = cc
index_of_known (n ∷ names) name known = stands_by_test n name names (bytes_eq name n) refl known (index_of_known names name)

pub known_at : (names : List (List ℕ)) (name : List ℕ) (k : ℕ) → slice_get names k ≡ Some name → has_name names name ≡ true
known_at names name k at = any_of_place (bytes_eq name) names k name at (name_is_itself name)

pub index_of_place : (names : List (List ℕ)) (name : List ℕ) (k : ℕ) → IsOnce names → slice_get names k ≡ Some name → index_of names name ≡ k
index_of_place names name k once at = once (index_of names name) k name (index_of_known names name (known_at names name k at)) at

not_before_itself : (a : List ℕ) → bytes_cmp a a ≡ Less → ⊥
not_before_itself a less =
    let tied : is_eq (bytes_cmp a a) ≡ true = is_eq-slice_cmp a a ∙ name_is_itself a in
    let apart : is_eq (bytes_cmp a a) ≡ false = rw less refl in
    cc

apart_when_below : (names : List (List ℕ)) (k l : ℕ) (n : List ℕ) → IsAscending names → k < l → slice_get names k ≡ Some n → slice_get names l ≡ Some n → ⊥
apart_when_below names k l n ascending below at_k at_l =
    let less : bytes_cmp (get_or names k n) (get_or names l n) ≡ Less = ascending k l n below (slice_get_within names l n at_l) in
    not_before_itself n (rw (get_or_from_slice_get names k n n at_k, get_or_from_slice_get names l n n at_l) at less)

pub once_when_ascending : (names : List (List ℕ)) → IsAscending names → IsOnce names
once_when_ascending names ascending k l n at_k at_l =
    elim (cases_lt k l) [
      | inl below ↦ absurd (apart_when_below names k l n ascending below at_k at_l)
      | inr above ↦ elim (cases_lt l k) [
        | inl below ↦ absurd (apart_when_below names l k n ascending below at_l at_k)
        | inr same ↦ omega arith
      ]
    ]
