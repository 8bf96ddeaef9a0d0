-- What a look-up of a name finds is its first place.
use Rattle.std.proofs.Common.{◌≡◌, ◌∙◌, refl, sym, ap, ℕ, ◌<◌, ◌≤◌, ◌↔◌, Bool, true, false, not, cond, nat_lt, List, [], length, get_or, Option, Some, None, IfSome, arith}
use Rattle.std.specs.List.{slice_get, position_or_len}
use Rattle.std.specs.Str.{bytes_eq}
use Rattle.std.specs.Cmp.Lexicographic.{bytes_decides}
use Rattle.std.proofs.lemmas.Bool.{not-true, not-false}
use Rattle.std.proofs.lemmas.List.Sums.{prefix_len_passes, prefix_len_stops}
use Rattle.std.proofs.lemmas.Option.{slice_get_within, slice_get-get_or}
use Rattle.rela_snapshot.specs.Names.{place_of}

stands_at : (names : List (List ℕ)) (name : List ℕ) → position_or_len (bytes_eq name) names < length names → slice_get names (position_or_len (bytes_eq name) names) ≡ Some name
stands_at names name h =
    let passes : bytes_eq name (get_or names (position_or_len (bytes_eq name) names) []) ≡ true = not-false _ (prefix_len_stops (λ x. not (bytes_eq name x)) names [] h) in
    let same : name ≡ get_or names (position_or_len (bytes_eq name) names) [] = (bytes_decides name _).0 passes in
    slice_get-get_or names (position_or_len (bytes_eq name) names) [] h ∙ ap (λ (x : List ℕ). Some x) (sym same)

none_before : (names : List (List ℕ)) (name : List ℕ) (s : ℕ) → length names ≤ position_or_len (bytes_eq name) names → slice_get names s ≡ Some name → ⊥
none_before names name s h e =
    let within : s < length names = slice_get_within names s name e in
    let before : s < position_or_len (bytes_eq name) names = omega arith in
    let fails : bytes_eq name (get_or names s []) ≡ false = not-true _ (prefix_len_passes (λ x. not (bytes_eq name x)) names s [] before) in
    let found : slice_get names s ≡ Some (get_or names s []) = slice_get-get_or names s [] within in
    let same : name ≡ get_or names s [] = cc in
    let passes : bytes_eq name (get_or names s []) ≡ true = (bytes_decides name (get_or names s [])).1 same in
    cc

by_test : (names : List (List ℕ)) (name : List ℕ) (r : Option ℕ) → ((s : ℕ) → (r ≡ Some s) ↔ (slice_get names s ≡ Some name))
    → (b : Bool) → nat_lt (position_or_len (bytes_eq name) names) (length names) ≡ b → r ≡ cond b (Some (position_or_len (bytes_eq name) names)) None
by_test names name r found true e =
    let within : position_or_len (bytes_eq name) names < length names = grind arith in
    (found _).1 (stands_at names name within)
by_test names name None found false e = refl
by_test names name (Some s) found false e =
    let past : length names ≤ position_or_len (bytes_eq name) names = grind arith in
    absurd (none_before names name s past ((found s).0 refl))

pub is_place : (names : List (List ℕ)) (name : List ℕ) (r : Option ℕ) → ((s : ℕ) → (r ≡ Some s) ↔ (slice_get names s ≡ Some name)) → r ≡ place_of names name
is_place names name r found = by_test names name r found (nat_lt (position_or_len (bytes_eq name) names) (length names)) refl

pub found_within : (names : List (List ℕ)) (name : List ℕ) (r : Option ℕ) → ((s : ℕ) → (r ≡ Some s) ↔ (slice_get names s ≡ Some name)) → IfSome r (λ s. s < length names)
found_within names name None found = tt
found_within names name (Some s) found = slice_get_within names s name ((found s).0 refl)
