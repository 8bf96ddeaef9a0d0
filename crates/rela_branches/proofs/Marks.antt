-- Places that are marked.
use Rattle.std.proofs.Common.{◌≡◌, ℕ, ◌+◌, ◌<◌, ◌≤◌, ◌↔◌, ◌⊎◌, Bool, true, false, List, [], ◌∷◌, ◌++◌, length, get_or, set, take, drop, replicate, inl, inr, arith, refl, sym, subst, ◌∙◌}
use Rattle.std.specs.Prelude.{MatchBool}
use Rattle.std.specs.Bool.{beq}
use Rattle.std.proofs.lemmas.Bool.{cases_eq, cases_lt}
use Rattle.std.proofs.lemmas.List.{append-nil, drop_all, take_all, get_or-set_same, get_or-set_other, get_or_past, get_or-replicate, length-replicate}
use Rattle.rela_branches.specs.Places.{Has, IsMarked}
use Rattle.rela_branches.proofs.Members.{follow, not_both, has_push, has_next, has_none}

pub is_inside : (marks : List Bool) (i : ℕ) → IsMarked marks i → i < length marks
is_inside marks i is =
    elim (cases_lt i (length marks)) [
      | inl inside ↦ inside
      | inr past ↦ let out : get_or marks i false ≡ false = get_or_past marks i false (omega arith) in absurd (grind arith)
    ]

pub none_marked : (n i : ℕ) → IsMarked (replicate n false) i → ⊥
none_marked n i is =
    elim (cases_lt i n) [
      | inl inside ↦ let is_not : get_or (replicate n false) i false ≡ false = get_or-replicate n i false false inside in absurd (grind arith)
      | inr past ↦ let inside = is_inside (replicate n false) i is in let long : length (replicate n false) ≡ n = length-replicate n false in absurd (omega arith)
    ]

pub set_marked : (marks : List Bool) (x i : ℕ) → x < length marks → IsMarked (set marks x true) i ↔ (IsMarked marks i ⊎ (i ≡ x))
set_marked marks x i inside =
    elim (cases_eq i x) [
      | inl e ↦ (λ is. inr e, λ h. subst (λ (j : ℕ). IsMarked (set marks x true) j) (sym e) (get_or-set_same marks x true false inside))
      | inr differ ↦
          let other : get_or (set marks x true) i false ≡ get_or marks i false = get_or-set_other marks x i true false differ in
          (λ is. inl (sym other ∙ is), λ h. elim h [ inl is ↦ other ∙ is | inr e ↦ absurd (differ e) ])
    ]

-- one more place is marked
pub mark_more : (start marks : List Bool) (xs : List ℕ) (k : ℕ) → k < length xs → get_or xs k 0 < length marks
    → ((i : ℕ) → (IsMarked marks i ⊎ Has (drop k xs) i) ↔ (IsMarked start i ⊎ Has xs i))
    → (i : ℕ) → (IsMarked (set marks (get_or xs k 0) true) i ⊎ Has (drop (k + 1) xs) i) ↔ (IsMarked start i ⊎ Has xs i)
mark_more start marks xs k inside below so_far i =
    let marked = set_marked marks (get_or xs k 0) i below in
    let left = has_next xs k i inside in
    follow (
      λ h. elim h [
        | inl is ↦ elim (marked.0 is) [ inl before ↦ inl before | inr e ↦ inr (left.1 (inl e)) ]
        | inr later ↦ inr (left.1 (inr later))
      ],
      λ h. elim h [
        | inl is ↦ inl (marked.1 (inl is))
        | inr there ↦ elim (left.0 there) [ inl e ↦ inl (marked.1 (inr e)) | inr later ↦ inr later ]
      ],
    ) (so_far i)

pub mark_done : (start marks : List Bool) (xs : List ℕ) (k : ℕ) → length xs ≤ k
    → ((i : ℕ) → (IsMarked marks i ⊎ Has (drop k xs) i) ↔ (IsMarked start i ⊎ Has xs i)) → (i : ℕ) → IsMarked marks i ↔ (IsMarked start i ⊎ Has xs i)
mark_done start marks xs k past so_far i =
    follow (λ is. inl is, λ h. elim h [ inl is ↦ is | inr left ↦ absurd (has_none xs k i past left) ]) (so_far i)

-- what a slice of a whole vector has written
pub written : (n : ℕ) (new old : List Bool) → length new ≡ length old → n ≡ length old → take n (new ++ drop (length new) old) ≡ new
written n new old same whole =
    let none : drop (length new) old ≡ [] = drop_all (length new) old (omega arith) in
    subst (λ (ys : List Bool). take n (new ++ ys) ≡ new) (sym none)
    (subst (λ (ys : List Bool). take n ys ≡ new) (sym (append-nil new)) (take_all n new (omega arith)))

-- the places that are marked so far
pub gather_more : (marks : List Bool) (xs : List ℕ) (k : ℕ) → ((i : ℕ) → Has xs i ↔ ((i < k) × IsMarked marks i)) → IsMarked marks k
    → (i : ℕ) → Has (xs ++ k ∷ []) i ↔ ((i < k + 1) × IsMarked marks i)
gather_more marks xs k so_far is i =
    follow (has_push xs k i) (
      λ h. elim h [
        | inl there ↦ let both = (so_far i).0 there in let less = both.0 in (omega arith, both.1)
        | inr e ↦ (omega arith, subst (IsMarked marks) (sym e) is)
      ],
      λ both. let less = both.0 in elim (cases_lt i k) [ inl before ↦ inl ((so_far i).1 (before, both.1)) | inr past ↦ inr (omega arith) ],
    )

pub gather_less : (marks : List Bool) (xs : List ℕ) (k : ℕ) → ((i : ℕ) → Has xs i ↔ ((i < k) × IsMarked marks i)) → (IsMarked marks k → ⊥)
    → (i : ℕ) → Has xs i ↔ ((i < k + 1) × IsMarked marks i)
gather_less marks xs k so_far is_not i =
    follow (so_far i) (
      λ both. let less = both.0 in (omega arith, both.1),
      λ both.
          let less = both.0 in
          elim (cases_lt i k) [
            | inl before ↦ (before, both.1)
            | inr past ↦ let e : i ≡ k = omega arith in absurd (is_not (subst (IsMarked marks) e both.1))
          ],
    )

pub gather_done : (marks : List Bool) (xs : List ℕ) (k : ℕ) → length marks ≤ k → ((i : ℕ) → Has xs i ↔ ((i < k) × IsMarked marks i))
    → (i : ℕ) → Has xs i ↔ IsMarked marks i
gather_done marks xs k past so_far i =
    follow (so_far i) (λ both. both.1, λ is. let inside = is_inside marks i is in (omega arith, is))

-- what a mark tells that is compared
pub kept_is : (H : Type 0) (b common : Bool) → (b ≡ true) ↔ H → beq b common ≡ true → MatchBool common H (¬ H)
kept_is H true true told same = told.0 refl
kept_is H true false told same = absurd (not_both false same refl)
kept_is H false true told same = absurd (not_both false same refl)
kept_is H false false told same = λ h. not_both false (told.1 h) refl

pub kept_is_not : (H : Type 0) (b common : Bool) → (b ≡ true) ↔ H → beq b common ≡ false → MatchBool common H (¬ H) → ⊥
kept_is_not H true true told differ is = not_both true refl differ
kept_is_not H true false told differ is = is (told.0 refl)
kept_is_not H false true told differ is = not_both false (told.1 is) refl
kept_is_not H false false told differ is = not_both true refl differ

-- one more place is kept, or left out
module _ (first second : List ℕ) (common : Bool) where
  abbrev pub IsKept : ℕ → Type 0
  IsKept i = MatchBool common (Has second i) (¬ Has second i)

  pub keep_more : (xs : List ℕ) (k : ℕ) → k < length first → IsKept (get_or first k 0)
      → ((i : ℕ) → (Has xs i ⊎ (Has (drop k first) i × IsKept i)) ↔ (Has first i × IsKept i))
      → (i : ℕ) → (Has (xs ++ get_or first k 0 ∷ []) i ⊎ (Has (drop (k + 1) first) i × IsKept i)) ↔ (Has first i × IsKept i)
  keep_more xs k inside is so_far i =
      let pushed = has_push xs (get_or first k 0) i in
      let left = has_next first k i inside in
      follow (
        λ h. elim h [
          | inl there ↦ elim (pushed.0 there) [ inl before ↦ inl before | inr e ↦ inr (left.1 (inl e), subst IsKept (sym e) is) ]
          | inr later ↦ inr (left.1 (inr later.0), later.1)
        ],
        λ h. elim h [
          | inl before ↦ inl (pushed.1 (inl before))
          | inr there ↦ elim (left.0 there.0) [ inl e ↦ inl (pushed.1 (inr e)) | inr later ↦ inr (later, there.1) ]
        ],
      ) (so_far i)

  pub keep_less : (xs : List ℕ) (k : ℕ) → k < length first → (IsKept (get_or first k 0) → ⊥)
      → ((i : ℕ) → (Has xs i ⊎ (Has (drop k first) i × IsKept i)) ↔ (Has first i × IsKept i))
      → (i : ℕ) → (Has xs i ⊎ (Has (drop (k + 1) first) i × IsKept i)) ↔ (Has first i × IsKept i)
  keep_less xs k inside is_not so_far i =
      let left = has_next first k i inside in
      follow (
        λ h. elim h [ inl before ↦ inl before | inr later ↦ inr (left.1 (inr later.0), later.1) ],
        λ h. elim h [
          | inl before ↦ inl before
          | inr there ↦ elim (left.0 there.0) [ inl e ↦ absurd (is_not (subst IsKept e there.1)) | inr later ↦ inr (later, there.1) ]
        ],
      ) (so_far i)

  pub keep_done : (xs : List ℕ) (k : ℕ) → length first ≤ k → ((i : ℕ) → (Has xs i ⊎ (Has (drop k first) i × IsKept i)) ↔ (Has first i × IsKept i))
      → (i : ℕ) → Has xs i ↔ (Has first i × IsKept i)
  keep_done xs k past so_far i =
      follow (λ there. inl there, λ h. elim h [ inl there ↦ there | inr left ↦ absurd (has_none first k i past left.0) ]) (so_far i)
