-- Classes as keys of a table.
use Rattle.std.proofs.Common.{◌≡◌, ℕ, ◌+◌, ◌≤◌, Bool, true, false, cond, ◌&&◌, List, [], ◌∷◌, ◌++◌, length, map, None, Some, refl, ap, sym, ◌∙◌, arith, length-append}
use Rattle.std.specs.Prelude.{if◌then◌else◌, nat_lt}
use Rattle.std.specs.List.{list_any, position, position_or_len}
use Rattle.std.specs.Option.{unwrap_or}
use Rattle.std.specs.Str.{bytes_eq}
use Rattle.std.proofs.lemmas.Bool.Decides.{nat_tests}
use Rattle.std.proofs.lemmas.List.Sums.{prefix_len-le-length}
use Rattle.rela_locations.specs.declared.members.By.{By}
use Rattle.rela_locations.specs.declared.members.By.TheVariants as by
use Rattle.rela_locations.specs.contracts.members.By.{the_type as by_type}
use denote.Enum.Bare.{sameb}
use Rattle.rela_claims.specs.Classes.{same_class, same_way, with_class, number_in}
use Rattle.rela_claims.specs.Written.{class_of}
use Rattle.rela_claims.specs.contracts.classes.WrittenPartialEq.TheImpl.{eq-value as written_equal}
use Rattle.rela_claims.specs.declared.classes.Written.{Written}
use Rattle.rela_claims.specs.declared.classes.Written.TheVariants as w
use Rattle.rela_claims.proofs.Views.{any_of_view, map_last, position_of_view}

abbrev same_written : Written → Written → Bool
same_written = written_equal.it

same_ways : (a b : By) → sameb by_type a b ≡ same_way a b
same_ways by.Interface by.Interface = refl
same_ways by.Interface by.Device = refl
same_ways by.Interface by.Group = refl
same_ways by.Interface by.Tag = refl
same_ways by.Device by.Interface = refl
same_ways by.Device by.Device = refl
same_ways by.Device by.Group = refl
same_ways by.Device by.Tag = refl
same_ways by.Group by.Interface = refl
same_ways by.Group by.Device = refl
same_ways by.Group by.Group = refl
same_ways by.Group by.Tag = refl
same_ways by.Tag by.Interface = refl
same_ways by.Tag by.Device = refl
same_ways by.Tag by.Group = refl
same_ways by.Tag by.Tag = refl

-- keys are equal where their classes are written alike
same_keys : (a b : Written) → same_written a b ≡ same_class (class_of a) (class_of b)
same_keys w.All w.All = refl
same_keys w.All (w.Within c y) = refl
same_keys w.All w.Drop = refl
same_keys w.All w.Loop = refl
same_keys (w.Within a x) w.All = refl
same_keys (w.Within a x) (w.Within c y) = ap (λ (b : Bool). b && bytes_eq x.now y.now) (same_ways a c)
same_keys (w.Within a x) w.Drop = refl
same_keys (w.Within a x) w.Loop = refl
same_keys w.Drop w.All = refl
same_keys w.Drop (w.Within c y) = refl
same_keys w.Drop w.Drop = refl
same_keys w.Drop w.Loop = refl
same_keys w.Loop w.All = refl
same_keys w.Loop (w.Within c y) = refl
same_keys w.Loop w.Drop = refl
same_keys w.Loop w.Loop = refl

tests_are_same : (k : Written) → ◌≡◌ {A = Written → Bool} (same_written k) (λ l. same_class (class_of k) (class_of l))
tests_are_same k = λ i l. same_keys k l i

-- a key more
pub key_more : (ks new : List Written) (k : Written) → new ≡ (if list_any (same_written k) ks then ks else ks ++ k ∷ []) → map class_of new ≡ with_class (map class_of ks) (class_of k)
key_more ks new k is = ap (map class_of) is ∙ by_test (list_any (same_written k) ks) refl
  where
    has : list_any (same_class (class_of k)) (map class_of ks) ≡ list_any (same_written k) ks
    has = any_of_view class_of (same_class (class_of k)) ks ∙ sym (ap (λ (p : Written → Bool). list_any p ks) (tests_are_same k))

    by_test : (b : Bool) → list_any (same_written k) ks ≡ b → map class_of (if b then ks else ks ++ k ∷ []) ≡ with_class (map class_of ks) (class_of k)
    by_test true there = sym (ap (λ (b : Bool). if b then map class_of ks else map class_of ks ++ class_of k ∷ []) (has ∙ there))
    by_test false there = map_last class_of ks k ∙ sym (ap (λ (b : Bool). if b then map class_of ks else map class_of ks ++ class_of k ∷ []) (has ∙ there))

pub keys_are_few : (ks new : List Written) (k : Written) → new ≡ (if list_any (same_written k) ks then ks else ks ++ k ∷ []) → length new ≤ length ks + 1
keys_are_few ks new k is = by_test (list_any (same_written k) ks) is
  where
    by_test : (b : Bool) → new ≡ (if b then ks else ks ++ k ∷ []) → length new ≤ length ks + 1
    by_test true same = omega (arith, ap length same)
    by_test false same = omega (arith, ap length same, length-append ks (k ∷ []))

-- the place of a key, or how many there are
pub number_is : (ks : List Written) (k : Written) → unwrap_or (position (same_written k) ks) (length ks) ≡ number_in (map class_of ks) (class_of k)
number_is ks k = by_test (nat_lt n (length ks)) refl ∙ place
  where
    n : ℕ
    n = position_or_len (same_written k) ks

    place : n ≡ number_in (map class_of ks) (class_of k)
    place = ap (λ (p : Written → Bool). position_or_len p ks) (tests_are_same k) ∙ sym (position_of_view class_of (same_class (class_of k)) ks)

    by_test : (b : Bool) → nat_lt n (length ks) ≡ b → unwrap_or (cond b (Some n) None) (length ks) ≡ n
    by_test true is = refl
    by_test false is = grind (arith, nat_tests, prefix_len-le-length)
