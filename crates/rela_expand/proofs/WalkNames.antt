-- What names stand for and which are taken, after one name more.
use Rattle.std.proofs.Common.{◌≡◌, ℕ, ◌<◌, Bool, true, false, ◌||◌, List, [], ◌∷◌, ◌++◌, length, Option, Some, None, is_some, refl, ap, sym, subst, ◌∙◌}
use Rattle.std.specs.Prelude.{if◌then◌else◌}
use Rattle.std.specs.List.{list_any}
use Rattle.std.specs.Str.{bytes_eq}
use Rattle.std.proofs.lemmas.Slice.Eq.{bytes_eq-Decides}
use Rattle.rela_locations.specs.Names.{has_name}
use Rattle.rela_expand.specs.Bodies.{body_at}
use Rattle.rela_expand.specs.BodyGathers.{AreBodiesKnown, spec_at, specs_named}
use Rattle.rela_expand.specs.Expand.{with_name}
use Rattle.rela_expand.specs.Forms.{shape_at}
use Rattle.rela_expand.specs.Scopes.{AreKnown, meaning_of, path_at, paths_named}
use Rattle.rela_expand.specs.Shapes.{Shape, BodyShape}
use Rattle.rela_expand.specs.Walks.{AreTaken}
use Rattle.rela_expand.specs.declared.names.Definitions.{Definitions}
use Rattle.rela_expand.specs.declared.names.Meaning.{Meaning}
use Rattle.rela_expand.specs.declared.names.Meaning.TheVariants as meaning

-- the name stands for this, and the others for what they stood for
abbrev pub Adds : Definitions → Definitions → List ℕ → Meaning → Type 0
Adds old new name m = (other : List ℕ) → meaning_of new other ≡ (if bytes_eq name other then Some m else meaning_of old other)

same_test : (name other : List ℕ) → bytes_eq other name ≡ bytes_eq name other
same_test name other = by_tests (bytes_eq other name) refl (bytes_eq name other) refl
  where
    by_tests : (b : Bool) → bytes_eq other name ≡ b → (c : Bool) → bytes_eq name other ≡ c → bytes_eq other name ≡ bytes_eq name other
    by_tests true h true k = h ∙ sym k
    by_tests false h false k = h ∙ sym k
    by_tests true h false k = let also : bytes_eq name other ≡ true = (bytes_eq-Decides name other).1 (sym ((bytes_eq-Decides other name).0 h)) in absurd (cc)
    by_tests false h true k = let also : bytes_eq other name ≡ true = (bytes_eq-Decides other name).1 (sym ((bytes_eq-Decides name other).0 k)) in absurd (cc)

any_last : (p : List ℕ → Bool) (xs : List (List ℕ)) (x : List ℕ) → list_any p (xs ++ x ∷ []) ≡ (p x || list_any p xs)
any_last p [] x = refl
any_last p (y ∷ xs) x = ap (λ (b : Bool). p y || b) (any_last p xs x) ∙ swapped (p y) (p x) (list_any p xs)
  where
    swapped : (a b c : Bool) → (a || (b || c)) ≡ (b || (a || c))
    swapped true true c = refl
    swapped true false c = refl
    swapped false true c = refl
    swapped false false c = refl

module _ (old new : Definitions) (name : List ℕ) (m : Meaning) (adds : Adds old new name m) where
  taken_there : (names : List (List ℕ)) → AreTaken old names → (other : List ℕ) → is_some (meaning_of new other) ≡ (bytes_eq other name || has_name names other)
  taken_there names taken other =
      ap is_some (adds other)
      ∙ by_test (bytes_eq name other)
      ∙ ap (λ (b : Bool). b || has_name names other) (sym (same_test name other))
    where
      by_test : (b : Bool) → is_some (if b then Some m else meaning_of old other) ≡ (b || has_name names other)
      by_test true = refl
      by_test false = taken other

  pub taken_more : (names : List (List ℕ)) → AreTaken old names → AreTaken new (name ∷ names)
  taken_more names taken other = taken_there names taken other

  pub taken_last : (names : List (List ℕ)) → AreTaken old names → AreTaken new (names ++ name ∷ [])
  taken_last names taken other = taken_there names taken other ∙ sym (any_last (bytes_eq other) names name)

-- a name of a path more
module _ (old new : Definitions) (name : List ℕ) (k : ℕ) (adds : Adds old new name (meaning.Path k)) where
  pub paths_with_path : (shapes : List Shape) → paths_named shapes new ≡ with_name name (shape_at shapes k) (paths_named shapes old)
  paths_with_path shapes = λ i other. (ap (path_at shapes) (adds other) ∙ by_test (bytes_eq name other) (meaning_of old other)) i
    where
      by_test : (b : Bool) (o : Option Meaning) → path_at shapes (if b then Some (meaning.Path k) else o) ≡ (if b then Some (shape_at shapes k) else path_at shapes o)
      by_test true o = refl
      by_test false o = refl

  pub specs_with_path : (bodies : List BodyShape) → meaning_of old name ≡ None → specs_named bodies new ≡ specs_named bodies old
  specs_with_path bodies none = λ i other. (ap (spec_at bodies) (adds other) ∙ by_test other (bytes_eq name other) refl) i
    where
      by_test : (other : List ℕ) (b : Bool) → bytes_eq name other ≡ b → spec_at bodies (if b then Some (meaning.Path k) else meaning_of old other) ≡ spec_at bodies (meaning_of old other)
      by_test other true h = sym (ap (spec_at bodies) (subst (λ (n : List ℕ). meaning_of old n ≡ None) ((bytes_eq-Decides name other).0 h) none))
      by_test other false h = refl

  pub known_with_path : (shapes : List Shape) → AreKnown shapes old → k < length shapes → AreKnown shapes new
  known_with_path shapes known inside other j is = by_test (bytes_eq name other) (sym (adds other) ∙ is)
    where
      by_test : (b : Bool) → (if b then Some (meaning.Path k) else meaning_of old other) ≡ Some (meaning.Path j) → j < length shapes
      by_test true same = let e : k ≡ j = cc in subst (λ (n : ℕ). n < length shapes) e inside
      by_test false same = known other j same

  pub specs_known_with_path : (bodies : List BodyShape) → AreBodiesKnown bodies old → AreBodiesKnown bodies new
  specs_known_with_path bodies known other j is = by_test (bytes_eq name other) (sym (adds other) ∙ is)
    where
      by_test : (b : Bool) → (if b then Some (meaning.Path k) else meaning_of old other) ≡ Some (meaning.Spec j) → j < length bodies
      by_test true same = absurd (cc)
      by_test false same = known other j same

-- a name of a specification more
module _ (old new : Definitions) (name : List ℕ) (k : ℕ) (adds : Adds old new name (meaning.Spec k)) where
  pub specs_with_spec : (bodies : List BodyShape) → specs_named bodies new ≡ with_name name (body_at bodies k) (specs_named bodies old)
  specs_with_spec bodies = λ i other. (ap (spec_at bodies) (adds other) ∙ by_test (bytes_eq name other) (meaning_of old other)) i
    where
      by_test : (b : Bool) (o : Option Meaning) → spec_at bodies (if b then Some (meaning.Spec k) else o) ≡ (if b then Some (body_at bodies k) else spec_at bodies o)
      by_test true o = refl
      by_test false o = refl

  pub paths_with_spec : (shapes : List Shape) → meaning_of old name ≡ None → paths_named shapes new ≡ paths_named shapes old
  paths_with_spec shapes none = λ i other. (ap (path_at shapes) (adds other) ∙ by_test other (bytes_eq name other) refl) i
    where
      by_test : (other : List ℕ) (b : Bool) → bytes_eq name other ≡ b → path_at shapes (if b then Some (meaning.Spec k) else meaning_of old other) ≡ path_at shapes (meaning_of old other)
      by_test other true h = sym (ap (path_at shapes) (subst (λ (n : List ℕ). meaning_of old n ≡ None) ((bytes_eq-Decides name other).0 h) none))
      by_test other false h = refl

  pub known_with_spec : (shapes : List Shape) → AreKnown shapes old → AreKnown shapes new
  known_with_spec shapes known other j is = by_test (bytes_eq name other) (sym (adds other) ∙ is)
    where
      by_test : (b : Bool) → (if b then Some (meaning.Spec k) else meaning_of old other) ≡ Some (meaning.Path j) → j < length shapes
      by_test true same = absurd (cc)
      by_test false same = known other j same

  pub specs_known_with_spec : (bodies : List BodyShape) → AreBodiesKnown bodies old → k < length bodies → AreBodiesKnown bodies new
  specs_known_with_spec bodies known inside other j is = by_test (bytes_eq name other) (sym (adds other) ∙ is)
    where
      by_test : (b : Bool) → (if b then Some (meaning.Spec k) else meaning_of old other) ≡ Some (meaning.Spec j) → j < length bodies
      by_test true same = let e : k ≡ j = cc in subst (λ (n : ℕ). n < length bodies) e inside
      by_test false same = known other j same
