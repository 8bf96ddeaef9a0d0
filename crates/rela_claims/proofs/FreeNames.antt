-- Whether a name may be taken.
use Rattle.std.proofs.Common.{◌≡◌, ℕ, ◌<◌, ◌≤◌, Bool, true, false, List, length, Result, Ok, Err, ap, ap₂, arith}
use Rattle.std.specs.Prelude.{nat_lt, not, if◌then◌else◌}
use Rattle.std.proofs.lemmas.Bool.Decides.{nat_tests}
use Rattle.rela_lex.specs.declared.error.SpecError.{SpecError}
use Rattle.rela_lex.specs.declared.error.SpecError.TheVariants.{RepeatedName, TooLarge}
use Rattle.rela_locations.specs.Names.{has_name}
use Rattle.rela_claims.specs.Claims.{free_name}

module _ (names : List (List ℕ)) (name : List ℕ) (at : ℕ) where
  by_tests : (taken room : Bool) → has_name names name ≡ taken → nat_lt (length names) 200 ≡ room
      → free_name names name at ≡ (if taken then Err (RepeatedName at) else if not room then Err (TooLarge at) else Ok name)
  by_tests taken room one two =
      ap₂ (λ (a b : Bool). let r : Result (List ℕ) SpecError = if a then Err (RepeatedName at) else if not b then Err (TooLarge at) else Ok name in r) one two

  pub name_is_taken : has_name names name ≡ true → free_name names name at ≡ Err (RepeatedName at)
  name_is_taken is = ap (λ (a : Bool). let r : Result (List ℕ) SpecError = if a then Err (RepeatedName at) else if not (nat_lt (length names) 200) then Err (TooLarge at) else Ok name in r) is

  pub names_are_full : has_name names name ≡ false → 200 ≤ length names → free_name names name at ≡ Err (TooLarge at)
  names_are_full is full = let test : nat_lt (length names) 200 ≡ false = grind (arith, nat_tests) in by_tests false false is test

  pub name_is_free : has_name names name ≡ false → length names < 200 → free_name names name at ≡ Ok name
  name_is_free is few = let test : nat_lt (length names) 200 ≡ true = grind (arith, nat_tests) in by_tests false true is test
