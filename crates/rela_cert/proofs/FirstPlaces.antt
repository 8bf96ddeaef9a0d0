-- The first place that is a symbol, where one more place comes.
use Rattle.std.proofs.Common.{◌≡◌, ◌∙◌, ℕ, ◌+◌, ◌<◌, ◌≤◌, ◌++◌, ◌∷◌, [], Bool, true, false, cond, Option, None, Some, List, length, nat_lt, eqb, nat_eq, not, is_some, inl, inr, sym, ap, subst, arith, length-append, take, get_or, append_assoc, map}
use Rattle.std.specs.HashMap.{HashMap, get}
use Rattle.std.specs.Map.{lookup}
use Rattle.std.specs.List.{position, position_or_len}
use Rattle.std.proofs.lemmas.Bool.{cases_Bool, cond-false, cond-true, eq-eqb, eqb-true}
use Rattle.std.proofs.lemmas.Bool.Decides.{nat_tests}
use Rattle.std.proofs.lemmas.List.{length-map, length-take, map-append, take_more}
use Rattle.std.proofs.lemmas.List.Folds.{position_or_len_push}
use Rattle.std.proofs.lemmas.List.Sums.{prefix_len-le-length}
use Rattle.rela_cert.specs.RenamedBlocks.{AreFirstPlaces, first_place}

-- by the number of the first place that passes, of which there are so many
at : ℕ → ℕ → Option ℕ
at n many = cond (nat_lt n many) (Some n) None

-- one more place, by numbers
passing : (n many : ℕ) → n ≤ many → at (cond (eqb n many) (many + 0) n) (many + 1) ≡ cond (nat_lt n many) (Some n) (Some many)
unfolding at
passing n many within = grind (arith, nat_tests)

failing : (n many : ℕ) → n ≤ many → at (cond (eqb n many) (many + 1) n) (many + 1) ≡ cond (nat_lt n many) (Some n) None
unfolding at
failing n many within = grind (arith, nat_tests)

module _ (p : ℕ → Bool) (xs : List ℕ) (y : ℕ) where
  within : position_or_len p xs ≤ length xs
  within = prefix_len-le-length (λ x. not (p x)) xs

  pushed : (b : Bool) → p y ≡ b → position p (xs ++ y ∷ []) ≡ at (cond (eqb (position_or_len p xs) (length xs)) (length xs + cond b 0 1) (position_or_len p xs)) (length xs + 1)
  unfolding at
  pushed b is =
      (λ i. cond (nat_lt (position_or_len_push p xs y i) (length-append xs (y ∷ []) i)) (Some (position_or_len_push p xs y i)) None)
      ∙ ap (λ (c : Bool).
      cond (nat_lt (cond (eqb (position_or_len p xs) (length xs)) (length xs + cond c 0 1) (position_or_len p xs)) (length xs + 1))
      (Some (cond (eqb (position_or_len p xs) (length xs)) (length xs + cond c 0 1) (position_or_len p xs))) None) is

  -- one that doesn't pass
  pub more_fails : p y ≡ false → position p (xs ++ y ∷ []) ≡ position p xs
  more_fails fails = pushed false fails ∙ failing (position_or_len p xs) (length xs) within

  -- one that passes, where one before it does, and where none does
  pub more_passes : p y ≡ true → position p (xs ++ y ∷ []) ≡ cond (nat_lt (position_or_len p xs) (length xs)) (Some (position_or_len p xs)) (Some (length xs))
  more_passes passes = pushed true passes ∙ passing (position_or_len p xs) (length xs) within

-- where none passes, and where one does
last_one : (n many : ℕ) → is_some (cond (nat_lt n many) (Some n) None) ≡ false → cond (nat_lt n many) (Some n) (Some many) ≡ Some many
last_one n many none = elim (cases_Bool (nat_lt n many)) [
  | inl below ↦ absurd (let e = none in grind (arith, nat_tests))
  | inr past ↦ cond-false (nat_lt n many) (Some n) (Some many) past
]

first_one : (n many : ℕ) → is_some (cond (nat_lt n many) (Some n) None) ≡ true → cond (nat_lt n many) (Some n) (Some many) ≡ cond (nat_lt n many) (Some n) None
first_one n many some = elim (cases_Bool (nat_lt n many)) [
  | inl below ↦ cond-true (nat_lt n many) (Some n) (Some many) below ∙ sym (cond-true (nat_lt n many) (Some n) None below)
  | inr past ↦ absurd (let e = some in grind (arith, nat_tests))
]

turned : (a b : ℕ) → nat_eq a b ≡ false → nat_eq b a ≡ false
turned a b apart = grind (arith, nat_tests)

module _ {S : Type 0} (places : List ℕ) (place : ℕ) (old new : HashMap ℕ ℕ S) (first : AreFirstPlaces places old) where
  -- a place where none was before
  pub noted : is_some (get nat_eq old place) ≡ false → ((q : ℕ) → get nat_eq new q ≡ cond (nat_eq place q) (Some (length places)) (get nat_eq old q))
      → AreFirstPlaces (places ++ place ∷ []) new
  noted none updates q = elim (cases_Bool (nat_eq place q)) [
    | inl same ↦
        let equal : place ≡ q = eqb-true place q same in
        let passes : nat_eq q place ≡ true = eq-eqb q place (sym equal) in
        let missing : is_some (first_place places q) ≡ false =
        subst (λ (s : ℕ). is_some (first_place places s) ≡ false) equal (subst (λ (o : Option ℕ). is_some o ≡ false) (first place) none) in
        updates q ∙ (cond-true (nat_eq place q) (Some (length places)) (get nat_eq old q) same
        ∙ (sym (last_one (position_or_len (nat_eq q) places) (length places) missing) ∙ sym (more_passes (nat_eq q) places place passes)))
    | inr apart ↦
        updates q ∙ (cond-false (nat_eq place q) (Some (length places)) (get nat_eq old q) apart ∙ (first q ∙ sym (more_fails (nat_eq q) places place (turned place q apart))))
  ]

  -- a place that was there before
  pub passed : is_some (get nat_eq old place) ≡ true → AreFirstPlaces (places ++ place ∷ []) old
  passed some q = elim (cases_Bool (nat_eq place q)) [
    | inl same ↦
        let equal : place ≡ q = eqb-true place q same in
        let passes : nat_eq q place ≡ true = eq-eqb q place (sym equal) in
        let there : is_some (first_place places q) ≡ true =
        subst (λ (s : ℕ). is_some (first_place places s) ≡ true) equal (subst (λ (o : Option ℕ). is_some o ≡ true) (first place) some) in
        first q ∙ (sym (first_one (position_or_len (nat_eq q) places) (length places) there) ∙ sym (more_passes (nat_eq q) places place passes))
    | inr apart ↦ first q ∙ sym (more_fails (nat_eq q) places place (turned place q apart))
  ]

-- the places behind the first ones, as far as a loop has come
module _ {X : Type 0} (f : X → ℕ) (places : List ℕ) (more : List X) (k : ℕ) where
  pub behind : (place : ℕ) (d : X) → k < length more → place ≡ f (get_or more k d) → (places ++ map f (take k more)) ++ place ∷ [] ≡ places ++ map f (take (k + 1) more)
  behind place d below is =
      append_assoc places (map f (take k more)) (place ∷ [])
      ∙ ap (λ (xs : List ℕ). places ++ xs)
      (ap (λ (x : ℕ). map f (take k more) ++ x ∷ []) is ∙ (sym (map-append f (take k more) (get_or more k d ∷ [])) ∙ ap (map f) (sym (take_more more k d below))))

  pub so_many : (passed : ℕ) → length places ≡ passed → k ≤ length more → passed + k ≡ length (places ++ map f (take k more))
  so_many passed count below =
      let a = length-append places (map f (take k more)) in
      let b = length-map (take k more) f in
      let c = length-take k more in
      omega (arith, a, b, c, count, below)

-- nothing is noted in an empty map
pub none_noted : {S : Type 0} (m : HashMap ℕ ℕ S) → m.entries ≡ [] → AreFirstPlaces [] m
none_noted m empty q = ap (λ (es : List (ℕ × ℕ)). lookup (nat_eq q) es) empty
