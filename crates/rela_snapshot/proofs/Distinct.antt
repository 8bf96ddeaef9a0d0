-- Names of which none comes twice.
use Rattle.std.proofs.Common.{◌≡◌, ◌∙◌, refl, sym, ℕ, ◌+◌, ◌<◌, ◌≤◌, Bool, true, false, ◌||◌, cond, List, [], ◌∷◌, ◌++◌, length, arith}
use Rattle.std.specs.List.{AllByRecursion, IsDistinct}
use Rattle.std.specs.Str.{bytes_eq}
use Rattle.std.specs.Cmp.Lexicographic.{bytes_decides}
use Rattle.std.proofs.lemmas.List.{length-append}
use Rattle.rela_snapshot.specs.Names.{AreDistinct, AreTableNames, has_name, with_name}

-- ---- equal names

pub name_is_itself : (a : List ℕ) → bytes_eq a a ≡ true
name_is_itself a = (bytes_decides a a).1 refl

pub same_name : (a b : List ℕ) → bytes_eq a b ≡ true → a ≡ b
same_name a b e = (bytes_decides a b).0 e

turned_by : (a b : List ℕ) (r : Bool) → bytes_eq b a ≡ r → bytes_eq a b ≡ false → r ≡ false
turned_by a b true e differs = let same : bytes_eq a b ≡ true = (bytes_decides a b).1 (sym (same_name b a e)) in cc
turned_by a b false e differs = refl

pub other_turned : (a b : List ℕ) → bytes_eq a b ≡ false → bytes_eq b a ≡ false
other_turned a b differs = turned_by a b (bytes_eq b a) refl differs ∙ refl

-- ---- one more

or_first : (a b : Bool) → (a || b) ≡ false → a ≡ false
or_first true b e = e
or_first false b e = refl

or_second : (a b : Bool) → (a || b) ≡ false → b ≡ false
or_second true b e = absurd (cc)
or_second false b e = e

apart_more : (x : List ℕ) (names : List (List ℕ)) (name : List ℕ) → bytes_eq x name ≡ false → AllByRecursion (λ y. bytes_eq x y ≡ false) names → AllByRecursion (λ y. bytes_eq x y ≡ false) (names ++ name ∷ [])
apart_more x [] name apart each = (apart, tt)
apart_more x (y ∷ ys) name apart each = (each.0, apart_more x ys name apart each.1)

pub distinct_more : (names : List (List ℕ)) (name : List ℕ) → AreDistinct names → has_name names name ≡ false → AreDistinct (names ++ name ∷ [])
unfolding IsDistinct
distinct_more [] name distinct new = (tt, tt)
distinct_more (x ∷ xs) name distinct new = (
  apart_more x xs name (other_turned name x (or_first (bytes_eq name x) (has_name xs name) new)) distinct.0,
  distinct_more xs name distinct.1 (or_second (bytes_eq name x) (has_name xs name) new),
)

pub distinct_none : AreDistinct []
unfolding IsDistinct
distinct_none = tt

with_by : (names : List (List ℕ)) (name : List ℕ) (b : Bool) → has_name names name ≡ b → AreDistinct names → AreDistinct (cond b names (names ++ name ∷ []))
with_by names name true is distinct = distinct
with_by names name false is distinct = distinct_more names name distinct is

pub distinct_with : (names : List (List ℕ)) (name : List ℕ) → AreDistinct names → AreDistinct (with_name names name)
distinct_with names name distinct = with_by names name (has_name names name) refl distinct

-- ---- the names of a table

pub table_none : (names : List (List ℕ)) → names ≡ [] → AreTableNames names
table_none names none = rw none (record { few = omega arith; distinct = distinct_none })

length_by : (names : List (List ℕ)) (name : List ℕ) (b : Bool) → length (cond b names (names ++ name ∷ [])) ≤ length names + 1
length_by names name true = omega arith
length_by names name false = omega (arith, length-append names (name ∷ []))

pub table_more : (names new : List (List ℕ)) (name : List ℕ) → AreTableNames names → length names < 10000 → new ≡ with_name names name → AreTableNames new
table_more names new name table room more =
    rw more (record { few = let h = length_by names name (has_name names name) in omega (arith, h, room); distinct = distinct_with names name table.distinct })

apart_middle : (x : List ℕ) (xs : List (List ℕ)) (name : List ℕ) (rest : List (List ℕ)) → AllByRecursion (λ y. bytes_eq x y ≡ false) (xs ++ name ∷ rest) → bytes_eq x name ≡ false
apart_middle x [] name rest each = each.0
apart_middle x (y ∷ ys) name rest each = apart_middle x ys name rest each.1

-- the names that come are new to those that are there
pub distinct_apart : (names : List (List ℕ)) (name : List ℕ) (rest : List (List ℕ)) → AreDistinct (names ++ name ∷ rest) → has_name names name ≡ false
unfolding IsDistinct
distinct_apart [] name rest distinct = refl
distinct_apart (x ∷ xs) name rest distinct =
    rw (other_turned x name (apart_middle x xs name rest distinct.0), distinct_apart xs name rest distinct.1) refl
