-- An expanded body has as many alternatives as the written one.
use Rattle.std.proofs.Common.{zero, suc, ◌≡◌, ℕ, ◌+◌, ◌-◌, ◌≤◌, Bool, true, false, ◌&&◌, List, [], ◌∷◌, ◌++◌, length, take, drop, map, Option, None, Some, Result, Ok, Err, refl, ap, sym, subst, ◌∙◌, arith, length-append, length-drop}
use Rattle.std.specs.Prelude.{sum, nat_le}
use Rattle.std.specs.List.{list_all}
use Rattle.std.proofs.lemmas.List.{length-take-le, take-append-drop}
use Rattle.rela_lex.specs.declared.error.SpecError.{SpecError}
use Rattle.rela_spec.specs.Full.{are_full, full_spec_layer, is_full_spec}
use Rattle.rela_spec.specs.declared.tree.SpecExpr.{SpecExpr}
use Rattle.rela_spec.specs.declared.tree.SpecExpr.TheOpen as s
use Rattle.rela_spec.specs.declared.tree.SpecExpr.TheViews.{roll-SpecExpr}
use Rattle.rela_spec.specs.declared.tree.SpecExpr.TheFolds.{map-SpecExpr, fold-roll-SpecExpr, ind-SpecExpr}
use Rattle.rela_expand.specs.Expansions.{half, tree_within, tree_of, Names, named, path_expansion, change_expansion, layer_of_spec, spec_expansion, nothing_asked}
use Rattle.rela_expand.specs.Numbering.{Expansion, Numbering, Step, each, gives, go_on}
use Rattle.rela_expand.specs.Places.{Place}
use Rattle.rela_translate.specs.declared.body.Change.{Change}
use Rattle.rela_translate.specs.declared.body.Expr.{Expr}
use Rattle.rela_translate.specs.declared.body.Core.{Core}
use Rattle.rela_translate.specs.declared.body.Core.TheOpen as C
use Rattle.rela_translate.specs.declared.body.Core.TheVariants as B
use Rattle.rela_translate.specs.declared.body.Core.TheViews.{roll-Core}
use Rattle.rela_translate.specs.declared.body.Core.TheFolds.{ind-Core, map-Core, para-roll-Core}
use Rattle.rela_branches.specs.Alternatives.{alternatives_of, layer_alternatives}
use Rattle.rela_blame.specs.Alternatives.{Leads, in_turn, layer_leads, leads_of, unit_leads}
use Rattle.rela_blame.specs.Written.{layer_units_in, units_in}
use Rattle.rela_blame.proofs.Openings.{sum_more}

-- how many alternatives a body has
abbrev pub count : Core → ℕ
count body = length (alternatives_of body)

rolled : (x : C.Core-F Core) → alternatives_of (roll-Core x) ≡ layer_alternatives (map-Core Core (Core × List Core) (λ body. (body, alternatives_of body)) x)
rolled x = para-roll-Core (List Core) layer_alternatives x

count_unit : (z : Expr) (c : Change) → count (B.Unit z c) ≡ 1
count_unit z c = ap length (ap alternatives_of (sym (B.rolls-Unit z c)) ∙ rolled (C.Unit z c))

count_then : (s t : Core) → count (B.Then s t) ≡ 1
count_then s t = ap length (ap alternatives_of (sym (B.rolls-Then s t)) ∙ rolled (C.Then s t))

count_else : (s t : Core) → count (B.Else s t) ≡ count s + count t
count_else s t =
    ap length (ap alternatives_of (sym (B.rolls-Else s t)) ∙ rolled (C.Else s t)) ∙ length-append (alternatives_of s) (alternatives_of t)

-- a body has an alternative
abbrev HasOne : Core → Type 0
HasOne body = 1 ≤ count body

one_layer : (y : C.Core-F ((body : Core) × HasOne body)) → HasOne (roll-Core (map-Core ((body : Core) × HasOne body) Core (λ e. e.0) y))
one_layer (C.Unit z c) = subst HasOne (sym (B.rolls-Unit z c)) (let e = count_unit z c in omega arith)
one_layer (C.Then s t) = subst HasOne (sym (B.rolls-Then s.0 t.0)) (let e = count_then s.0 t.0 in omega arith)
one_layer (C.Else s t) = subst HasOne (sym (B.rolls-Else s.0 t.0)) (let e = count_else s.0 t.0 in let some = s.1 in omega arith)

has_one : (body : Core) → 1 ≤ count body
has_one = ind-Core HasOne (λ x y is. subst (λ (z : C.Core-F Core). HasOne (roll-Core z)) is (one_layer y))

-- those of all the bodies
total : List Core → ℕ
total [] = 0
total (b ∷ bs) = count b + total bs

total_append : (bs cs : List Core) → total (bs ++ cs) ≡ total bs + total cs
unfolding total
total_append [] cs = omega arith
total_append (b ∷ bs) cs = let e = total_append bs cs in omega arith

total_split : (k : ℕ) (bs : List Core) → total bs ≡ total (take k bs) + total (drop k bs)
total_split k bs = ap total (sym (take-append-drop k bs)) ∙ total_append (take k bs) (drop k bs)

total_some : (bs : List Core) → length bs ≤ total bs
unfolding total
total_some [] = omega arith
total_some (b ∷ bs) = let e = total_some bs in let one = has_one b in omega arith

-- the tree of a list that is joined by `else` has the alternatives of its parts
else_tree : (depth : ℕ) (none : Core) (bs : List Core) → 1 ≤ length bs → length bs ≤ depth + 1 → count (tree_within depth B.Else none bs) ≡ total bs
unfolding total
else_tree depth none [] some few = absurd (omega arith)
else_tree depth none (b ∷ []) some few = omega arith
else_tree zero none (b ∷ c ∷ bs) some few = absurd (omega arith)
else_tree (suc depth) none (b ∷ c ∷ bs) some few =
    let all : List Core = b ∷ c ∷ bs in
    let k = half (length all) in
    let first : length (take k all) ≡ k = length-take-le k all (omega arith) in
    let second : length (drop k all) ≡ length all - k = length-drop k all in
    let one = else_tree depth none (take k all) (omega arith) (omega arith) in
    let other = else_tree depth none (drop k all) (omega arith) (omega arith) in
    let both = count_else (tree_within depth B.Else none (take k all)) (tree_within depth B.Else none (drop k all)) in
    let parts = total_split k all in omega arith

then_tree : (depth : ℕ) (none : Core) (bs : List Core) → 2 ≤ length bs → length bs ≤ depth + 1 → count (tree_within depth B.Then none bs) ≡ 1
then_tree depth none [] some few = absurd (omega arith)
then_tree depth none (b ∷ []) some few = absurd (omega arith)
then_tree zero none (b ∷ c ∷ bs) some few = absurd (omega arith)
then_tree (suc depth) none (b ∷ c ∷ bs) some few = count_then _ _

-- steps that succeed
pub and_left : (a b : Bool) → (a && b) ≡ true → a ≡ true
and_left true b h = refl
and_left false b h = h

pub and_right : (a b : Bool) → (a && b) ≡ true → b ≡ true
and_right true b h = h
and_right false b h = cc

pub from_ok : {A E : Type 0} (a b : A) → ◌≡◌ {A = Result A E} (Ok a) (Ok b) → a ≡ b
from_ok a b is = cc

went_on : {X Y : Type 0} (f : X → Expansion Y) (r : Result (Step X) SpecError) (y : Step Y) → go_on f r ≡ Ok y → (x : Step X) × (r ≡ Ok x) × (f x.value x.after ≡ Ok y)
went_on f (Ok x) y is = (x, refl, is)
went_on f (Err e) y is = absurd (cc)

dropped : (a b : ℕ) (xs : List ℕ) → drop b (drop a xs) ≡ drop (a + b) xs
dropped zero b xs = let e : b ≡ 0 + b = omega arith in ap (λ (n : ℕ). drop n xs) e
dropped (suc a) b [] = drop_none b ∙ sym (drop_none (suc a + b))
  where
    drop_none : (n : ℕ) → drop n (let none : List ℕ = [] in none) ≡ []
    drop_none zero = refl
    drop_none (suc n) = refl
dropped (suc a) b (x ∷ xs) = let e : suc (a + b) ≡ suc a + b = omega arith in dropped a b xs ∙ ap (λ (n : ℕ). drop n (x ∷ xs)) e

-- what names stand for has as many alternatives as are told for it
abbrev pub Agree : Names → (List ℕ → List ℕ) → Type 0
Agree names leads = (name : List ℕ) (e : Expansion Core) → names.specs name ≡ Some e → (n : Numbering) (step : Step Core) → e n ≡ Ok step
    → length (leads name) ≡ count step.value

module _ (place : Place) (names : Names) (leads : List ℕ → List ℕ) (agree : Agree names leads) where
  expansion : SpecExpr → Expansion Core
  expansion = spec_expansion place names

  leading : SpecExpr → List ℕ → Leads
  leading = leads_of leads

  expansion_roll : (y : s.SpecExpr-F SpecExpr) → expansion (roll-SpecExpr y) ≡ layer_of_spec place names (map-SpecExpr SpecExpr (Expansion Core) expansion y)
  unfolding expansion spec_expansion
  expansion_roll y = fold-roll-SpecExpr (Expansion Core) (layer_of_spec place names) y

  leading_roll : (y : s.SpecExpr-F SpecExpr) → leading (roll-SpecExpr y) ≡ layer_leads leads (map-SpecExpr SpecExpr (List ℕ → Leads) leading y)
  unfolding leading leads_of
  leading_roll y = fold-roll-SpecExpr (List ℕ → Leads) (layer_leads leads) y

  units_roll : (y : s.SpecExpr-F SpecExpr) → units_in (roll-SpecExpr y) ≡ layer_units_in (map-SpecExpr SpecExpr ℕ units_in y)
  unfolding units_in
  units_roll y = fold-roll-SpecExpr ℕ layer_units_in y

  full_roll : (y : s.SpecExpr-F SpecExpr) → is_full_spec (roll-SpecExpr y) ≡ full_spec_layer (map-SpecExpr SpecExpr Bool is_full_spec y)
  unfolding is_full_spec
  full_roll y = fold-roll-SpecExpr Bool full_spec_layer y

  -- of a body: the units that are left, and, where there are units for it, its alternatives
  record Read (f : List ℕ → Leads) (written : ℕ) (full : Bool) (e : Expansion Core) : Type 0 where
    pub left : (units : List ℕ) → (f units).left ≡ drop written units
    pub at : full ≡ true → (units : List ℕ) → written ≤ length units → (n : Numbering) (step : Step Core) → e n ≡ Ok step → length (f units).at ≡ count step.value

  abbrev Told : SpecExpr → Type 0
  Told b = Read (leading b) (units_in b) (is_full_spec b) (expansion b)

  abbrev Part : Type 0
  Part = (b : SpecExpr) × Told b

  abbrev plain : List Part → List SpecExpr
  plain qs = map (λ (q : Part). q.0) qs

  abbrev whole : List Bool → Bool
  whole = list_all (λ full. full)

  parts_left : (qs : List Part) (units : List ℕ) → (in_turn (map leading (plain qs)) units).left ≡ drop (sum (map units_in (plain qs))) units
  parts_left [] units = refl
  parts_left (q ∷ qs) units =
      parts_left qs (leading q.0 units).left
      ∙ ap (drop (sum (map units_in (plain qs)))) (q.1.left units)
      ∙ dropped (units_in q.0) (sum (map units_in (plain qs))) units
      ∙ ap (λ (n : ℕ). drop n units) (sym (sum_more (units_in q.0) (map units_in (plain qs))))

  record Made (qs : List Part) (units : List ℕ) (bodies : List Core) : Type 0 where
    pub long : length bodies ≡ length qs
    pub at : length (in_turn (map leading (plain qs)) units).at ≡ total bodies

  parts_at : (qs : List Part) → whole (map is_full_spec (plain qs)) ≡ true → (units : List ℕ) → sum (map units_in (plain qs)) ≤ length units → (n : Numbering)
      (step : Step (List Core)) → each (map expansion (plain qs)) n ≡ Ok step → Made qs units step.value
  unfolding total
  parts_at [] full units enough n step is = subst (λ (made : Step (List Core)). Made [] units made.value) (from_ok (record { value = []; after = n }) step is) (record { long = refl; at = refl })
  parts_at (q ∷ qs) full units enough n step is =
      let one = went_on (λ x. λ m. go_on (λ xs. gives (x ∷ xs)) (each (map expansion (plain qs)) m)) (expansion q.0 n) step is in
      let others = went_on (λ xs. gives (one.0.value ∷ xs)) (each (map expansion (plain qs)) one.0.after) step one.2 in
      let sums = sum_more (units_in q.0) (map units_in (plain qs)) in
      let left = q.1.left units in
      let long : length (leading q.0 units).left ≡ length units - units_in q.0 = ap length left ∙ length-drop (units_in q.0) units in
      let first = q.1.at (and_left (is_full_spec q.0) (whole (map is_full_spec (plain qs))) full) units (omega arith) n one.0 one.1 in
      let rest = parts_at qs (and_right (is_full_spec q.0) (whole (map is_full_spec (plain qs))) full) (leading q.0 units).left (omega arith) one.0.after others.0 others.1 in
      subst (λ (made : Step (List Core)). Made (q ∷ qs) units made.value) (from_ok (record { value = one.0.value ∷ others.0.value; after = others.0.after }) step others.2)
      (record {
        long = let l = rest.long in omega arith;
        at = length-append (leading q.0 units).at (in_turn (map leading (plain qs)) (leading q.0 units).left).at ∙ (let a = rest.at in omega arith);
      })

  two_parts : (qs : List Part) → are_full (map is_full_spec (plain qs)) ≡ true → 2 ≤ length qs
  two_parts [] full = absurd (cc)
  two_parts (q ∷ []) full = absurd (cc)
  two_parts (q ∷ p ∷ qs) full = omega arith

  read_layer : (y : s.SpecExpr-F Part) → Read (layer_leads leads (map-SpecExpr SpecExpr (List ℕ → Leads) leading (map-SpecExpr Part SpecExpr (λ q. q.0) y)))
      (layer_units_in (map-SpecExpr SpecExpr ℕ units_in (map-SpecExpr Part SpecExpr (λ q. q.0) y)))
      (full_spec_layer (map-SpecExpr SpecExpr Bool is_full_spec (map-SpecExpr Part SpecExpr (λ q. q.0) y)))
      (layer_of_spec place names (map-SpecExpr SpecExpr (Expansion Core) expansion (map-SpecExpr Part SpecExpr (λ q. q.0) y)))
  read_layer (s.Unit zone m) = record {
    left = λ units. unit_left units;
    at = λ full units enough n step is.
        let a = went_on (λ x. λ k. go_on (λ c. gives (B.Unit x c)) (change_expansion place names m k)) (path_expansion place names zone n) step is in
        let c = went_on (λ x. gives (B.Unit a.0.value x)) (change_expansion place names m a.0.after) step a.2 in
        subst (λ (made : Step Core). length (unit_leads units).at ≡ count made.value) (from_ok (record { value = B.Unit a.0.value c.0.value; after = c.0.after }) step c.2)
        (unit_at units enough ∙ sym (count_unit a.0.value c.0.value));
  }
    where
      unit_left : (units : List ℕ) → (unit_leads units).left ≡ drop 1 units
      unit_left [] = refl
      unit_left (u ∷ units) = refl

      unit_at : (units : List ℕ) → 1 ≤ length units → length (unit_leads units).at ≡ 1
      unit_at [] enough = absurd (omega arith)
      unit_at (u ∷ units) enough = refl
  read_layer (s.Reference name at) = record {
    left = λ units. refl;
    at = λ full units enough n step is. by_name (names.specs name) refl n step is;
  }
    where
      by_name : (o : Option (Expansion Core)) → names.specs name ≡ o → (n : Numbering) (step : Step Core) → named o at n ≡ Ok step → length (leads name) ≡ count step.value
      by_name None has n step is = absurd (cc)
      by_name (Some e) has n step is = agree name e has n step is
  read_layer (s.Then qs) = record {
    left = parts_left qs;
    at = λ full units enough n step is.
        let bodies = went_on (λ xs. gives (tree_of B.Then nothing_asked xs)) (each (map expansion (plain qs)) n) step is in
        let made = parts_at qs (and_right (nat_le 2 (length (map is_full_spec (plain qs)))) (whole (map is_full_spec (plain qs))) full) units enough n bodies.0 bodies.1 in
        let two = two_parts qs full in
        let long = made.long in
        let at = made.at in
        let some = total_some bodies.0.value in
        subst (λ (step : Step Core). length (take 1 (in_turn (map leading (plain qs)) units).at) ≡ count step.value)
        (from_ok (record { value = tree_of B.Then nothing_asked bodies.0.value; after = bodies.0.after }) step bodies.2)
        (length-take-le 1 (in_turn (map leading (plain qs)) units).at (omega arith)
        ∙ sym (then_tree (length bodies.0.value) nothing_asked bodies.0.value (omega arith) (omega arith)));
  }
  read_layer (s.Else qs) = record {
    left = parts_left qs;
    at = λ full units enough n step is.
        let bodies = went_on (λ xs. gives (tree_of B.Else nothing_asked xs)) (each (map expansion (plain qs)) n) step is in
        let made = parts_at qs (and_right (nat_le 2 (length (map is_full_spec (plain qs)))) (whole (map is_full_spec (plain qs))) full) units enough n bodies.0 bodies.1 in
        let two = two_parts qs full in
        let long = made.long in
        subst (λ (step : Step Core). length (in_turn (map leading (plain qs)) units).at ≡ count step.value)
        (from_ok (record { value = tree_of B.Else nothing_asked bodies.0.value; after = bodies.0.after }) step bodies.2)
        (made.at ∙ sym (else_tree (length bodies.0.value) nothing_asked bodies.0.value (omega arith) (omega arith)));
  }

  told_layer : (y : s.SpecExpr-F Part) → Told (roll-SpecExpr (map-SpecExpr Part SpecExpr (λ q. q.0) y))
  told_layer y =
      let z = map-SpecExpr Part SpecExpr (λ (q : Part). q.0) y in
      let layer = read_layer y in record {
        left = λ units. ap (λ (f : List ℕ → Leads). (f units).left) (leading_roll z) ∙ layer.left units ∙ ap (λ (n : ℕ). drop n units) (sym (units_roll z));
        at = λ full units enough n step is.
            ap (λ (f : List ℕ → Leads). length (f units).at) (leading_roll z)
            ∙ layer.at (sym (full_roll z) ∙ full) units (subst (λ (k : ℕ). k ≤ length units) (units_roll z) enough) n step
            (ap (λ (e : Expansion Core). e n) (sym (expansion_roll z)) ∙ is);
      }

  told : (b : SpecExpr) → Told b
  told = ind-SpecExpr Told (λ p y is. subst (λ (z : s.SpecExpr-F SpecExpr). Told (roll-SpecExpr z)) is (told_layer y))

  pub left_of : (b : SpecExpr) (units : List ℕ) → (leads_of leads b units).left ≡ drop (units_in b) units
  unfolding leading
  left_of b units = (told b).left units

  pub alternatives_told : (b : SpecExpr) → is_full_spec b ≡ true → (units : List ℕ) → units_in b ≤ length units → (n : Numbering) (step : Step Core)
      → spec_expansion place names b n ≡ Ok step → length (leads_of leads b units).at ≡ count step.value
  unfolding leading expansion
  alternatives_told b = (told b).at
