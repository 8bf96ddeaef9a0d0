-- What a class lists.
use Rattle.std.proofs.Common.{◌≡◌, ℕ, ◌+◌, Bool, true, false, ◌||◌, ◌==◌, List, [], ◌∷◌, length, map, refl, ap, ap₂, sym, ◌∙◌, arith, eqb}
use Rattle.std.specs.Prelude.{nat_lt, nat_eq}
use Rattle.std.specs.List.{Contains, list_any, dedup, filter, range_with_len}
use Rattle.std.specs.List.Sorted.{IsStrictlyIncreasing, IsSorted}
use Rattle.std.specs.Ordering.{nat_cmp}
use Rattle.std.proofs.lemmas.Bool.Decides.{nat_tests}
use Rattle.std.proofs.lemmas.Cmp.{nat_eq_equiv}
use Rattle.std.proofs.lemmas.List.Kept.{Contains-dedup_nat, Contains-from_dedup}
use Rattle.std.proofs.lemmas.Map.Keys.{IsStrictlyIncreasing-dedup, sorted_from_strictly_increasing}
use Rattle.std.proofs.lemmas.Map.Views.{Contains-from_any, exact_unsigned_eq, list_any-from_Contains}
use Rattle.rela_locations.specs.Names.{has_name}
use Rattle.rela_locations.specs.Network.{alphabet_of, is_finer, members_of, names_at, names_by, name_of, within}
use Rattle.rela_locations.specs.Tables.{has_number}
use Rattle.rela_locations.specs.declared.members.By.{By}
use Rattle.rela_expand.specs.Known.{picked}
use Rattle.rela_expand.specs.Numbered.{or_none}
use Rattle.rela_expand.specs.Places.{Place, in_some, locations_at, path_symbols_at, located}
use Rattle.rela_expand.specs.declared.written.Pick.{Pick}
use Rattle.rela_expand.specs.declared.written.Pick.TheVariants as pick
use Rattle.rela_expand.proofs.RisingLists.{kept_passes, kept_rise, passes_kept, same_rising}

turned : (s k : ℕ) → (k == s) ≡ nat_eq s k
turned s k = grind (arith, nat_tests)

any_turned : (s : ℕ) (list : List ℕ) → has_number list s ≡ list_any (nat_eq s) list
any_turned s [] = refl
any_turned s (k ∷ list) = ap₂ (λ (a b : Bool). a || b) (turned s k) (any_turned s list)

any_list_turned : (s : ℕ) (lists : List (List ℕ)) → list_any (λ list. has_number list s) lists ≡ list_any (λ list. list_any (nat_eq s) list) lists
any_list_turned s [] = refl
any_list_turned s (list ∷ lists) = ap₂ (λ (a b : Bool). a || b) (any_turned s list) (any_list_turned s lists)

listed : (list : List ℕ) (n : ℕ) → has_number list n ≡ true → Contains list n
listed list n has = Contains-from_any exact_unsigned_eq n list (sym (any_turned n list) ∙ has)

has_listed : (list : List ℕ) (n : ℕ) → Contains list n → has_number list n ≡ true
has_listed list n among = any_turned n list ∙ list_any-from_Contains nat_eq_equiv n list among

below_more : (n k : ℕ) → nat_lt n k ≡ true → nat_lt n (k + 2) ≡ true
below_more n k h = grind (arith, nat_tests)

located_below : (place : Place) (by : By) (name : List ℕ) (at n : ℕ) → has_number (or_none (located place by name at)) n ≡ true → nat_lt n (path_symbols_at place) ≡ true
located_below place by name at n h = by_finer (is_finer by place.level) refl
  where
    by_there : is_finer by place.level ≡ false → (b : Bool) → has_name (names_by by place.network) name ≡ b → nat_lt n (path_symbols_at place) ≡ true
    by_there same true is =
        let there : has_number (members_of place.level by name place.network) n ≡ true = rw (same, is) at h in
        let kept = kept_passes (λ symbol. has_name (names_at place.level (within by name place.network)) (name_of place.level place.network symbol)) (length (alphabet_of place.level place.network)) n
        (listed (members_of place.level by name place.network) n there) in
        below_more n (locations_at place) kept.0
    by_there same false is = let none : false ≡ true = rw (same, is) at h in absurd (cc)

    by_finer : (b : Bool) → is_finer by place.level ≡ b → nat_lt n (path_symbols_at place) ≡ true
    by_finer true is = let none : false ≡ true = rw is at h in absurd (cc)
    by_finer false is = by_there is (has_name (names_by by place.network) name) refl

picked_below : (place : Place) (p : Pick) (n : ℕ) → has_number (picked place p) n ≡ true → nat_lt n (path_symbols_at place) ≡ true
picked_below place (pick.Within by name) n h = located_below place by name.now 0 n h
picked_below place pick.Drop n h = let k = locations_at place in grind (arith, nat_tests)
picked_below place pick.Loop n h = let k = locations_at place in grind (arith, nat_tests)

in_first : (a b below : Bool) → (a ≡ true → below ≡ true) → (b ≡ true → below ≡ true) → (a || b) ≡ true → below ≡ true
in_first true b below one others h = one refl
in_first false b below one others h = others h

some_below : (place : Place) (picks : List Pick) (n : ℕ) → list_any (λ list. has_number list n) (map (picked place) picks) ≡ true → nat_lt n (path_symbols_at place) ≡ true
some_below place [] n h = absurd (cc)
some_below place (p ∷ picks) n h =
    in_first (has_number (picked place p) n) (list_any (λ list. has_number list n) (map (picked place) picks)) (nat_lt n (path_symbols_at place))
    (picked_below place p n) (some_below place picks n) h

pub found_rises : (place : Place) (lists : List (List ℕ)) → IsStrictlyIncreasing (in_some place lists)
found_rises place lists = kept_rise (λ s. list_any (λ list. list_any (nat_eq s) list) lists) (path_symbols_at place)

-- what is listed, sorted and each once, is what is picked
pub listed_is_found : (place : Place) (picks some : List Pick) (symbols sorted : List ℕ) → some ≡ picks
    → ((n : ℕ) → has_number symbols n ≡ list_any (λ list. has_number list n) (map (picked place) some))
    → IsSorted nat_cmp sorted → ((n : ℕ) → has_number sorted n ≡ has_number symbols n)
    → dedup eqb sorted ≡ in_some place (map (picked place) picks)
listed_is_found place picks some symbols sorted all named rising same =
    same_rising (dedup eqb sorted) (in_some place (map (picked place) picks)) (sorted_from_strictly_increasing (dedup eqb sorted) (IsStrictlyIncreasing-dedup sorted rising))
    (sorted_from_strictly_increasing (in_some place (map (picked place) picks)) (found_rises place (map (picked place) picks))) (λ n. (
      λ among.
          let picks_it : list_any (λ list. list_any (nat_eq n) list) (map (picked place) picks) ≡ true = sym (told n) ∙ has_listed sorted n (Contains-from_dedup eqb sorted n among) in
          passes_kept (λ s. list_any (λ list. list_any (nat_eq s) list) (map (picked place) picks)) (path_symbols_at place) n (some_below place picks n (any_list_turned n (map (picked place) picks) ∙ picks_it)) picks_it,
      λ among. Contains-dedup_nat sorted n (listed sorted n (told n ∙ (kept_passes (λ s. list_any (λ list. list_any (nat_eq s) list) (map (picked place) picks)) (path_symbols_at place) n among).1)),
    ))
  where
    told : (n : ℕ) → has_number sorted n ≡ list_any (λ list. list_any (nat_eq n) list) (map (picked place) picks)
    told n =
        same n ∙ named n ∙ ap (λ (ps : List Pick). list_any (λ list. has_number list n) (map (picked place) ps)) all
        ∙ any_list_turned n (map (picked place) picks)

-- lists that have the same symbols
pub same_found : (place : Place) (xs ys : List (List ℕ)) → ((n : ℕ) → list_any (λ list. has_number list n) xs ≡ list_any (λ list. has_number list n) ys) → in_some place xs ≡ in_some place ys
same_found place xs ys same i =
    filter (λ s. (sym (any_list_turned s xs) ∙ same s ∙ any_list_turned s ys) i) (range_with_len 0 (path_symbols_at place))
