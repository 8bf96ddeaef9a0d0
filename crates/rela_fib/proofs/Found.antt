-- The nodes, and the places of some interfaces among them.
use Rattle.std.proofs.Common.{◌≡◌, ◌∙◌, refl, sym, ap, subst, ℕ, ◌<◌, ◌≤◌, ◌↔◌, ⊎_elim, List, [], ◌∷◌, ◌++◌, length, get_or, arith}
use Rattle.std.specs.Prelude.{Result, Ok, Err, MatchResult}
use Rattle.std.specs.List.{All, Contains, flat_map}
use Rattle.std.specs.List.Sorted.{IsStrictlyIncreasing}
use Rattle.std.proofs.lemmas.Bool.{cases_lt}
use Rattle.std.proofs.lemmas.List.Elements.{All-nil, All-push, All-weaker, All-contains, Contains-get_or, Contains-append_left, Contains-push, Contains-push_cases}
use Rattle.std.proofs.lemmas.Map.Keys.{sorted_from_strictly_increasing, below_from_sorted}
use Rattle.rela_tables.specs.Forwarding.{Forwarding}
use Rattle.rela_tables.specs.declared.table.Table.{Table}
use Rattle.rela_fib.specs.Graph.{AreNodes, ArePlacesOf, hops_in, interfaces_of}

-- ---- the nodes

pub nodes_are : (f : Forwarding) (sorted gathered start : List ℕ) (ts : List Table) → gathered ≡ start ++ flat_map hops_in ts → start ≡ f.starts → ts ≡ f.tables → IsStrictlyIncreasing sorted → ((n : ℕ) → Contains sorted n ↔ Contains gathered n) → AreNodes f sorted
nodes_are f sorted gathered start ts is starts tables rising same =
    let all : gathered ≡ interfaces_of f = is ∙ ap (λ (xs : List ℕ). xs ++ flat_map hops_in ts) starts ∙ ap (λ (xs : List Table). f.starts ++ flat_map hops_in xs) tables in
    record { ascending = rising; each = λ s. subst (λ (xs : List ℕ). Contains sorted s ↔ Contains xs s) all (same s) }

-- ---- the places of some interfaces

pub record IsFound (nodes taken places : List ℕ) : Type 0 where
  pub each : All (λ (p : ℕ). (p < length nodes) × Contains taken (get_or nodes p 0)) places
  pub every : (p : ℕ) → p < length nodes → Contains taken (get_or nodes p 0) → Contains places p

pub no_member : {X : Type 0} (x : X) → Contains [] x → ⊥
no_member x (k, lt, is) = omega (arith, lt)

pub found_none : (nodes places : List ℕ) → places ≡ [] → IsFound nodes [] places
found_none nodes places none = subst (IsFound nodes []) (sym none) (record {
  each = All-nil (λ (p : ℕ). (p < length nodes) × Contains [] (get_or nodes p 0));
  every = λ p lt h. absurd (no_member (get_or nodes p 0) h);
})

more_taken : (nodes taken places : List ℕ) (x : ℕ) → All (λ (p : ℕ). (p < length nodes) × Contains taken (get_or nodes p 0)) places → All (λ (p : ℕ). (p < length nodes) × Contains (taken ++ x ∷ []) (get_or nodes p 0)) places
more_taken nodes taken places x each = All-weaker (λ (p : ℕ). (p < length nodes) × Contains taken (get_or nodes p 0)) (λ (p : ℕ). (p < length nodes) × Contains (taken ++ x ∷ []) (get_or nodes p 0))
    (λ p h. (h.0, Contains-append_left taken (x ∷ []) (get_or nodes p 0) h.1)) places each

-- in ascending numbers one number has one place
one_place : (nodes : List ℕ) (p q : ℕ) → IsStrictlyIncreasing nodes → p < length nodes → q < length nodes → get_or nodes p 0 ≡ get_or nodes q 0 → p ≡ q
one_place nodes p q rising lp lq same = ⊎_elim
    (λ less. absurd (omega (arith, same, below_from_sorted nodes p q 0 (sorted_from_strictly_increasing nodes rising) less lq)))
    (λ ge. ⊎_elim (λ less. absurd (omega (arith, same, below_from_sorted nodes q p 0 (sorted_from_strictly_increasing nodes rising) less lp))) (λ le. omega arith) (cases_lt q p))
    (cases_lt p q)

pub found_more : (nodes taken taken' places places' : List ℕ) (x p : ℕ) → IsStrictlyIncreasing nodes → taken' ≡ taken ++ x ∷ [] → places' ≡ places ++ p ∷ [] → p < length nodes → get_or nodes p 0 ≡ x → IsFound nodes taken places → IsFound nodes taken' places'
found_more nodes taken taken' places places' x p rising is pushed lt here found = rw (is, pushed) (record {
  each = All-push (λ (q : ℕ). (q < length nodes) × Contains (taken ++ x ∷ []) (get_or nodes q 0)) places p (more_taken nodes taken places x found.each) (lt, subst (λ y. Contains (taken ++ x ∷ []) y) (sym here) (Contains-push taken x));
  every = λ q lq h. ⊎_elim
      (λ old. Contains-append_left places (p ∷ []) q (found.every q lq old))
      (λ new. subst (λ r. Contains (places ++ p ∷ []) r) (one_place nodes p q rising lt lq (here ∙ new)) (Contains-push places p))
      (Contains-push_cases taken x (get_or nodes q 0) h);
})

pub found_no_more : (nodes taken taken' places : List ℕ) (x i : ℕ) → taken' ≡ taken ++ x ∷ [] → ((k : ℕ) → k < i → get_or nodes k 0 < x) → ((k : ℕ) → i ≤ k → k < length nodes → x < get_or nodes k 0) → IsFound nodes taken places → IsFound nodes taken' places
found_no_more nodes taken taken' places x i is below above found = rw is (record {
  each = more_taken nodes taken places x found.each;
  every = λ q lq h. ⊎_elim
      (λ old. found.every q lq old)
      (λ new. absurd (⊎_elim (λ less. let b : get_or nodes q 0 < x = below q less in omega (arith, b, new)) (λ ge. let a : x < get_or nodes q 0 = above q ge lq in omega (arith, a, new)) (cases_lt q i)))
      (Contains-push_cases taken x (get_or nodes q 0) h);
})

pub non_decreasing : (nodes : List ℕ) → IsStrictlyIncreasing nodes → (i j : ℕ) → i ≤ j → j < length nodes → get_or nodes i 0 ≤ get_or nodes j 0
non_decreasing nodes rising i j le lt = ⊎_elim
    (λ less. let b : get_or nodes i 0 < get_or nodes j 0 = below_from_sorted nodes i j 0 (sorted_from_strictly_increasing nodes rising) less lt in omega (arith, b))
    (λ ge. let same : i ≡ j = omega arith in omega (arith, ap (λ k. get_or nodes k 0) same))
    (cases_lt i j)

pub places_are : (nodes taken places sorted : List ℕ) → IsFound nodes taken places → IsStrictlyIncreasing sorted → ((n : ℕ) → Contains sorted n ↔ Contains places n) → ArePlacesOf nodes taken sorted
places_are nodes taken places sorted found rising same = record {
  ascending = rising;
  below = λ k d lt. (All-contains (λ (p : ℕ). (p < length nodes) × Contains taken (get_or nodes p 0)) places (get_or sorted k d) found.each ((same (get_or sorted k d)).0 (Contains-get_or sorted k d lt))).0;
  each = λ k d lt. (All-contains (λ (p : ℕ). (p < length nodes) × Contains taken (get_or nodes p 0)) places (get_or sorted k d) found.each ((same (get_or sorted k d)).0 (Contains-get_or sorted k d lt))).1;
  every = λ k lt h. (same k).1 (found.every k lt h);
}

-- ---- what a binary search says of the next interface

abbrev Hit : List ℕ → ℕ → ℕ → Type 0
Hit nodes x i = (i < length nodes) × (get_or nodes i 0 ≡ x)

abbrev Miss : List ℕ → ℕ → ℕ → Type 0
Miss nodes x i = (i ≤ length nodes) × ((k : ℕ) → k < i → get_or nodes k 0 < x) × ((k : ℕ) → i ≤ k → k < length nodes → x < get_or nodes k 0)

pub found_hit : (nodes taken taken' places places' : List ℕ) (x p : ℕ) (r : Result ℕ ℕ) → IsStrictlyIncreasing nodes → taken' ≡ taken ++ x ∷ [] → places' ≡ places ++ p ∷ [] → r ≡ Ok p → MatchResult r (Hit nodes x) (Miss nodes x) → IsFound nodes taken places → IsFound nodes taken' places'
found_hit nodes taken taken' places places' x p r rising is pushed here h found =
    let hit : Hit nodes x p = subst (λ (s : Result ℕ ℕ). MatchResult s (Hit nodes x) (Miss nodes x)) here h in
    found_more nodes taken taken' places places' x p rising is pushed hit.0 hit.1 found

pub found_miss : (nodes taken taken' places : List ℕ) (x : ℕ) (r : Result ℕ ℕ) → taken' ≡ taken ++ x ∷ [] → ((p : ℕ) → r ≡ Ok p → ⊥) → MatchResult r (Hit nodes x) (Miss nodes x) → IsFound nodes taken places → IsFound nodes taken' places
found_miss nodes taken taken' places x (Ok p) is none h found = absurd (none p refl)
found_miss nodes taken taken' places x (Err i) is none h found = found_no_more nodes taken taken' places x i is h.1 h.2 found
