-- What members pick, each once.
use Rattle.std.proofs.Common.{◌≡◌, ℕ, ◌+◌, ◌<◌, Bool, true, false, ◌||◌, List, [], ◌∷◌, ◌++◌, length, get_or, take, map, Ok, Err, refl, ap, sym, ◌∙◌}
use Rattle.std.specs.List.{list_any}
use Rattle.std.proofs.lemmas.List.{take_more}
use Rattle.std.proofs.lemmas.List.Folds.{list_any-append}
use Rattle.std.specs.Prelude.{not, if◌then◌else◌}
use Rattle.indexmap.specs.IndexSet.{insert_key}
use Rattle.rela_locations.specs.Names.{has_name}
use Rattle.rela_locations.specs.Network.{by_level, is_finer, members_of, names_by}
use Rattle.rela_locations.specs.Tables.{has_number}
use Rattle.rela_locations.specs.declared.members.By.{By}
use Rattle.rela_lex.specs.declared.error.SpecError.TheVariants.{FinerLevel, UnknownLocation}
use Rattle.rela_spec.specs.declared.tree.Member.{Member}
use Rattle.rela_spec.specs.declared.tree.Member.TheVariants as m
use Rattle.rela_expand.specs.Numbered.{or_none, named_by}
use Rattle.rela_expand.specs.Places.{Place, located, symbols_of}

-- what is named is the same wherever it stands
told : (finer there : Bool) (symbols : List ℕ) (at other : ℕ)
    → or_none (if finer then Err (FinerLevel at) else if not there then Err (UnknownLocation at) else Ok symbols)
    ≡ or_none (if finer then Err (FinerLevel other) else if not there then Err (UnknownLocation other) else Ok symbols)
told true there symbols at other = refl
told false true symbols at other = refl
told false false symbols at other = refl

located_anywhere : (place : Place) (by : By) (name : List ℕ) (at other : ℕ) → or_none (located place by name at) ≡ or_none (located place by name other)
located_anywhere place by name at other = told (is_finer by place.level) (has_name (names_by by place.network) name) (members_of place.level by name place.network) at other

pub here_anywhere : (place : Place) (name : List ℕ) (at : ℕ) → or_none (located place (by_level place.level) name 0) ≡ named_by place (m.Here name at)
unfolding symbols_of
here_anywhere place name at = located_anywhere place (by_level place.level) name 0 at

pub within_anywhere : (place : Place) (by : By) (name : List ℕ) (at : ℕ) → or_none (located place by name 0) ≡ named_by place (m.Within by name at)
unfolding symbols_of
within_anywhere place by name at = located_anywhere place by name 0 at

or_nothing : (a : Bool) → (a || false) ≡ a
or_nothing true = refl
or_nothing false = refl

or_among : (a b c : Bool) → (a || (b || c)) ≡ ((a || b) || c)
or_among true b c = refl
or_among false b c = refl

or_right : (a b : Bool) → b ≡ true → (a || b) ≡ true
or_right true b h = refl
or_right false b h = h

or_covered : (a b : Bool) → (b ≡ true → a ≡ true) → a ≡ (a || b)
or_covered true b h = refl
or_covered false true h = h refl
or_covered false false h = refl

-- Keys that are equal have the same lists: one more key adds its list's numbers.
module _ {X : Type 0} (lists : X → List ℕ) (eq : X → X → Bool) (same : (a b : X) → eq a b ≡ true → lists a ≡ lists b) where
  abbrev in_lists : List X → ℕ → Bool
  in_lists xs n = list_any (λ list. has_number list n) (map lists xs)

  covered : (x : X) (n : ℕ) (xs : List X) → list_any (eq x) xs ≡ true → has_number (lists x) n ≡ true → in_lists xs n ≡ true
  covered x n [] h has = absurd (cc)
  covered x n (y ∷ xs) h has = by_eq (eq x y) refl h (λ later. covered x n xs later has)
    where
      by_eq : (b : Bool) → eq x y ≡ b → (b || list_any (eq x) xs) ≡ true → (list_any (eq x) xs ≡ true → in_lists xs n ≡ true) → (has_number (lists y) n || in_lists xs n) ≡ true
      by_eq true is h rest = ap (λ (b : Bool). b || in_lists xs n) (ap (λ (list : List ℕ). has_number list n) (sym (same x y is)) ∙ has)
      by_eq false is h rest = or_right (has_number (lists y) n) (in_lists xs n) (rest h)

  one_last : (n : ℕ) (xs : List X) (x : X) → in_lists (xs ++ x ∷ []) n ≡ (in_lists xs n || has_number (lists x) n)
  one_last n [] x = or_nothing (has_number (lists x) n)
  one_last n (y ∷ xs) x = ap (λ (b : Bool). has_number (lists y) n || b) (one_last n xs x) ∙ or_among (has_number (lists y) n) (in_lists xs n) (has_number (lists x) n)

  pub one_key_more : (n : ℕ) (xs : List X) (x : X) → in_lists (insert_key eq xs x) n ≡ (in_lists xs n || has_number (lists x) n)
  one_key_more n xs x = by_test (list_any (eq x) xs) refl
    where
      by_test : (b : Bool) → list_any (eq x) xs ≡ b → in_lists (if b then xs else xs ++ x ∷ []) n ≡ (in_lists xs n || has_number (lists x) n)
      by_test true is = or_covered (in_lists xs n) (has_number (lists x) n) (covered x n xs is)
      by_test false is = one_last n xs x

any_of_map : {X Y : Type 0} (p : Y → Bool) (f : X → Y) (xs : List X) → list_any p (map f xs) ≡ list_any (λ x. p (f x)) xs
any_of_map p f [] = refl
any_of_map p f (x ∷ xs) = ap (λ (b : Bool). p (f x) || b) (any_of_map p f xs)

-- a test of one more
any_more : {X : Type 0} (p : X → Bool) (xs : List X) (k : ℕ) (x : X) → k < length xs → x ≡ get_or xs k x → list_any p (take (k + 1) xs) ≡ (list_any p (take k xs) || p x)
any_more p xs k x within is =
    let front : take (k + 1) xs ≡ take k xs ++ x ∷ [] = take_more xs k x within ∙ ap (λ y. take k xs ++ y ∷ []) (sym is) in
    ap (list_any p) front ∙ list_any-append p (take k xs) (x ∷ []) ∙ ap (λ b. list_any p (take k xs) || b) (or_nothing (p x))

-- the numbers of one member more
pub one_member_more : (place : Place) (members : List Member) (i : ℕ) (member : Member) (n : ℕ) → i < length members → member ≡ get_or members i member
    → list_any (λ list. has_number list n) (map (named_by place) (take (i + 1) members))
    ≡ (list_any (λ list. has_number list n) (map (named_by place) (take i members)) || has_number (named_by place member) n)
one_member_more place members i member n within is =
    let p : Member → Bool = λ m. has_number (named_by place m) n in
    any_of_map (λ list. has_number list n) (named_by place) (take (i + 1) members)
    ∙ any_more p members i member within is
    ∙ ap (λ (b : Bool). b || p member) (sym (any_of_map (λ list. has_number list n) (named_by place) (take i members)))
