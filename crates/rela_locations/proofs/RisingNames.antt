-- Names each of which comes after the one before it.
use Rattle.std.proofs.Common.{◌≡◌, ℕ, ◌+◌, ◌-◌, ◌<◌, ◌≤◌, List, [], ◌∷◌, ◌++◌, length, arith, refl, sym, ap, ◌∙◌, false, Some, slice_get, get_or, inl, inr}
use Rattle.std.specs.declared.cmp.Ordering.TheVariants.{Less, Equal, Greater}
use Rattle.std.specs.declared.cmp.Ordering.{Ordering}
use Rattle.std.specs.Bool.{IsTrue}
use Rattle.std.specs.BTreeMap.{is_at}
use Rattle.std.specs.Ordering.{is_eq, is_gt, ordering_reverse}
use Rattle.std.specs.List.{All}
use Rattle.std.proofs.lemmas.Bool.{cases_lt}
use Rattle.std.proofs.lemmas.Cmp.{nat_list_cmp_total}
use Rattle.std.proofs.lemmas.List.{append-nil, get_or_append_left, length-append}
use Rattle.std.proofs.lemmas.List.Elements.{All-head, All-tail}
use Rattle.std.proofs.lemmas.List.Folds.{list_any_none}
use Rattle.std.proofs.lemmas.List.Quantifiers.{all_pairs_push}
use Rattle.std.proofs.lemmas.Option.{get_or_from_slice_get}
use Rattle.std.proofs.Math.Seq.{get_or-append_seam}
use Rattle.rela_names.specs.Name.{bytes_cmp, IsAscending, IsBytesBefore, IsLocationName}
use Rattle.rela_locations.specs.Names.{AreLocationNames, with_name, has_name}
use Rattle.rela_locations.proofs.NameOrder.{has_name-contains, more_location_names}

-- the name comes after all of these
abbrev pub IsAfterAll : List ℕ → List (List ℕ) → Type 0
IsAfterAll name names = All (λ other. bytes_cmp name other ≡ Greater) names

-- what `>` tells
pub greater_when : (o : Ordering) → IsTrue (is_gt o) → o ≡ Greater
greater_when Less more = cc
greater_when Equal more = cc
greater_when Greater more = refl

below_from_above : (x y : List ℕ) → bytes_cmp x y ≡ Greater → bytes_cmp y x ≡ Less
below_from_above x y above = nat_list_cmp_total.antisymm y x ∙ ap ordering_reverse above

above_from_below : (x y : List ℕ) → bytes_cmp y x ≡ Less → bytes_cmp x y ≡ Greater
above_from_below x y below = nat_list_cmp_total.antisymm x y ∙ ap ordering_reverse below

-- what comes after the last comes after all
pub after_all : (names : List (List ℕ)) (name last : List ℕ) → IsAscending names
    → slice_get names (length names - 1) ≡ Some last → bytes_cmp name last ≡ Greater → IsAfterAll name names
after_all names name last ascending there above k d within =
    let end : ℕ = length names - 1 in
    let at_end : get_or names end d ≡ last = get_or_from_slice_get names end last d there in
    elim (cases_lt k end) [
      | inl before ↦
          let low : bytes_cmp (get_or names k d) last ≡ Less = rw (← at_end) (ascending k end d before (omega arith)) in
          let high : bytes_cmp last name ≡ Less = below_from_above name last above in
          above_from_below name (get_or names k d) (nat_list_cmp_total.trans (get_or names k d) last name low high)
      | inr behind ↦
          let is_end : k ≡ end = omega arith in
          rw is_end (rw at_end above)
    ]

-- each name comes after all that stand before it
pub after_those_before : (names front rest : List (List ℕ)) (name : List ℕ) → IsAscending names → front ++ name ∷ rest ≡ names
    → IsAfterAll name front
after_those_before names front rest name ascending is k d within =
    let longer : length names ≡ length front + length (name ∷ rest) = ap length (sym is) ∙ length-append front (name ∷ rest) in
    let at_k : get_or names k d ≡ get_or front k d = rw (← is) (get_or_append_left front (name ∷ rest) d k within) in
    let at_name : get_or names (length front) d ≡ name = rw (← is) (get_or-append_seam front name rest d) in
    let below : IsBytesBefore (get_or names k d) (get_or names (length front) d) = ascending k (length front) d within (omega arith) in
    above_from_below name (get_or front k d) (rw (← at_k) (rw (← at_name) below))

-- a name that comes after all stands at their end
pub with_last : (names : List (List ℕ)) (name : List ℕ) → IsAfterAll name names → with_name names name ≡ names ++ name ∷ []
with_last [] name after = refl
with_last (n ∷ names) name after =
    rw (All-head (λ other. bytes_cmp name other ≡ Greater) n names after)
    (ap (λ ns. n ∷ ns) (with_last names name (All-tail (λ other. bytes_cmp name other ≡ Greater) n names after)))

pub ascending_with_last : (names : List (List ℕ)) (name : List ℕ) → IsAscending names → IsAfterAll name names
    → IsAscending (names ++ name ∷ [])
ascending_with_last names name ascending after =
    all_pairs_push IsBytesBefore names name ascending (λ k d within. below_from_above name (get_or names k d) (after k d within))

-- none of them is the name
pub new_behind : (names : List (List ℕ)) (name : List ℕ) → IsAfterAll name names → has_name names name ≡ false
new_behind names name after = sym (has_name-contains names name)
    ∙ list_any_none (is_at (bytes_cmp name)) names (λ k d within. ap is_eq (after k d within))

-- what stands behind all others is put there
pub pushed_is : (rising mixed pushed : List (List ℕ)) (name : List ℕ) → mixed ≡ [] → pushed ≡ rising ++ name ∷ [] → IsAfterAll name rising
    → pushed ++ mixed ≡ with_name (rising ++ mixed) name
pushed_is rising mixed pushed name none is after =
    let left : pushed ++ mixed ≡ rising ++ name ∷ [] = rw none (append-nil pushed ∙ is) in
    let right : with_name (rising ++ mixed) name ≡ rising ++ name ∷ [] = rw none (rw (append-nil rising) (with_last rising name after)) in
    left ∙ sym right

pub pushed_location_names : (rising mixed pushed : List (List ℕ)) (name : List ℕ) → mixed ≡ [] → pushed ≡ rising ++ name ∷ [] → IsAfterAll name rising
    → AreLocationNames (rising ++ mixed) → IsLocationName name → length (rising ++ mixed) < 100000 → AreLocationNames (pushed ++ mixed)
pushed_location_names rising mixed pushed name none is after old named room =
    let made : pushed ++ mixed ≡ with_name (rising ++ mixed) name = pushed_is rising mixed pushed name none is after in
    let short : rising ++ mixed ≡ rising = rw none (append-nil rising) in
    let before : length rising < 100000 = rw (← short) room in
    let all : pushed ++ mixed ≡ rising ++ name ∷ [] = rw none (append-nil pushed ∙ is) in
    let count : length (pushed ++ mixed) ≡ length rising + 1 = ap length all ∙ length-append rising (name ∷ []) in
    let few : length (pushed ++ mixed) ≤ 100000 = omega arith in
    rw made (more_location_names (rising ++ mixed) name old named (rw (← made) few))
