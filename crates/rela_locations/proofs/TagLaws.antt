-- The devices with each tag.
use Rattle.std.proofs.Common.{◌≡◌, ℕ, Bool, true, false, cond, ◌&&◌, ◌||◌, ◌==◌, List, [], ◌∷◌, ◌++◌, Option, Some, None, Bor, not, Vec, Global, is_some, IsSome, slice_get, refl, ap, sym, ◌∙◌}
use Rattle.std.specs.BTreeMap.{BTreeMap, get, Updates}
use Rattle.std.specs.Option.{option_copied, option_eq, option_map_or}
use Rattle.std.specs.Str.{bytes_eq}
use Rattle.std.proofs.lemmas.List.Folds.{list_any-append}
use Rattle.std.proofs.lemmas.Map.Text.{is_eq-slice_cmp}
use Rattle.rela_names.specs.Name.{bytes_cmp}
use Rattle.rela_locations.specs.Tables.{has_number, devices_for}
use Rattle.rela_locations.proofs.Bools.{or_false, or_true, or_assoc, same_test, any_of_place}
use Rattle.rela_locations.proofs.Parents.{equal_numbers}
use Rattle.rela_locations.proofs.NameSets.{same_name, name_is_itself}

pub name_eq_turned : (a b : List ℕ) → bytes_eq a b ≡ bytes_eq b a
name_eq_turned a b =
    same_test (bytes_eq a b) (bytes_eq b a)
    (λ same. rw (same_name a b same) (name_is_itself b))
    (λ same. rw (same_name b a same) (name_is_itself a))

-- the map at a tag, after an entry for one was put
at_tag : (m n : BTreeMap (List ℕ) (Vec ℕ Global)) (k t : List ℕ) (w : Option (Vec ℕ Global)) → Updates bytes_cmp m n k w
    → get bytes_cmp n t ≡ cond (bytes_eq t k) w (get bytes_cmp m t)
at_tag m n k t w updates = updates.0 t ∙ ap (λ b. cond b w (get bytes_cmp m t)) (is_eq-slice_cmp k t ∙ name_eq_turned k t)

list_by_test : (m n : BTreeMap (List ℕ) (Vec ℕ Global)) (k t : List ℕ) (v : Vec ℕ Global) (d s : ℕ) (b : Bool) → bytes_eq t k ≡ b → get bytes_cmp n t ≡ cond b (Some v) (get bytes_cmp m t)
    → has_number v.items s ≡ (has_number (devices_for m k) s || (d == s))
    → has_number (devices_for n t) s ≡ (has_number (devices_for m t) s || (b && (d == s)))
list_by_test m n k t v d s true is at more = let same : t ≡ k = same_name t k is in rw (at, same) more
list_by_test m n k t v d s false is at more = rw at (sym (or_false (has_number (devices_for m t) s)))

-- a device more for one tag
pub tag_more : (m n : BTreeMap (List ℕ) (Vec ℕ Global)) (k : List ℕ) (v : Vec ℕ Global) (d : ℕ) → Updates bytes_cmp m n k (Some v)
    → ((s : ℕ) → has_number v.items s ≡ (has_number (devices_for m k) s || (d == s)))
    → (t : List ℕ) (s : ℕ) → has_number (devices_for n t) s ≡ (has_number (devices_for m t) s || (bytes_eq t k && (d == s)))
tag_more m n k v d updates more t s = list_by_test m n k t v d s (bytes_eq t k) refl (at_tag m n k t (Some v) updates) (more s)

there_by_test : (m n : BTreeMap (List ℕ) (Vec ℕ Global)) (k t : List ℕ) (v : Vec ℕ Global) (b : Bool) → get bytes_cmp n t ≡ cond b (Some v) (get bytes_cmp m t)
    → is_some (get bytes_cmp n t) ≡ (is_some (get bytes_cmp m t) || b)
there_by_test m n k t v true at = rw at (sym (or_true (is_some (get bytes_cmp m t))))
there_by_test m n k t v false at = rw at (sym (or_false (is_some (get bytes_cmp m t))))

pub tag_there : (m n : BTreeMap (List ℕ) (Vec ℕ Global)) (k : List ℕ) (v : Vec ℕ Global) → Updates bytes_cmp m n k (Some v)
    → (t : List ℕ) → is_some (get bytes_cmp n t) ≡ (is_some (get bytes_cmp m t) || bytes_eq t k)
tag_there m n k v updates t = there_by_test m n k t v (bytes_eq t k) (at_tag m n k t (Some v) updates)

pub number_pushed : (numbers : List ℕ) (d s : ℕ) → has_number (numbers ++ d ∷ []) s ≡ (has_number numbers s || (d == s))
number_pushed numbers d s = list_any-append (λ m. m == s) numbers (d ∷ []) ∙ ap (λ b. has_number numbers s || b) (or_false (d == s))

-- a number that stands last is there
pub last_is_there : (r : Option (Bor ℕ)) (numbers : List ℕ) (k : ℕ) (b : Bor ℕ) → option_copied r ≡ slice_get numbers k
    → false ≡ not (option_eq (λ (x y : Bor ℕ). x.now == y.now) r (Some b)) → has_number numbers b.now ≡ true
last_is_there None numbers k b at is = cc
last_is_there (Some x) numbers k b at is = by_test (x.now == b.now) refl is
  where
    by_test : (t : Bool) → (x.now == b.now) ≡ t → false ≡ not t → has_number numbers b.now ≡ true
    by_test true same is = any_of_place (λ m. m == b.now) numbers k x.now (sym at) same
    by_test false apart is = cc

-- a number that is there may be put once more
pub there_already : (numbers : List ℕ) (d s : ℕ) → has_number numbers d ≡ true → has_number numbers s ≡ (has_number numbers s || (d == s))
there_already numbers d s there = by_test (d == s) refl
  where
    by_test : (t : Bool) → (d == s) ≡ t → has_number numbers s ≡ (has_number numbers s || t)
    by_test true same = let is : d ≡ s = equal_numbers d s same in let here : has_number numbers s ≡ true = rw (← is) there in here ∙ sym (or_true (has_number numbers s))
    by_test false apart = sym (or_false (has_number numbers s))

-- what a map has at a tag that it knows
pub some_at : (o : Option (Vec ℕ Global)) (v : Vec ℕ Global) → Some v ≡ o → IsSome o
some_at o v is = rw (← is) refl

pub list_at : (m : BTreeMap (List ℕ) (Vec ℕ Global)) (tag : List ℕ) (v : Vec ℕ Global) → Some v ≡ get bytes_cmp m tag → v.items ≡ devices_for m tag
list_at m tag v is = ap (λ (o : Option (Vec ℕ Global)). option_map_or (λ list. list.items) o []) is

-- what a step of a loop adds
pub step_added : (new mid old before more all : Bool) → new ≡ (mid || more) → mid ≡ (old || before) → all ≡ (before || more) → new ≡ (old || all)
step_added new mid old before more all stepped so_far whole = rw (stepped, so_far, whole) (or_assoc old before more)
