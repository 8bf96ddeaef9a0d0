-- Lists of numbers in ascending order are sets.
use Rattle.std.proofs.Common.{◌≡◌, ◌≢◌, ℕ, suc, ◌<◌, ◌⊎◌, List, [], ◌∷◌, get_or, refl, sym, ap, ◌∙◌, inl, inr, arith}
use Rattle.std.specs.List.{Contains}
use Rattle.std.specs.List.Sorted.{IsStrictlySortedBy}
use Rattle.std.specs.Ordering.{nat_cmp}
use Rattle.std.proofs.lemmas.Bool.{cases_lt}
use Rattle.std.proofs.lemmas.Map.Keys.{below_from_sorted, sorted_tail}
use Rattle.rela_letter_nfa.specs.Sets.{Lists}
use Rattle.rela_letter_nfa.proofs.Members.{Contains-nil, Contains-cons_cases, Contains-head, Contains-tail}

head_below : (x : ℕ) (xs : List ℕ) (q : ℕ) → IsStrictlySortedBy nat_cmp (x ∷ xs) → Contains xs q → x < q
head_below x xs q sorted c =
    let below : x < get_or xs c.0 q = below_from_sorted (x ∷ xs) 0 (suc c.0) q sorted (omega arith) (omega (arith, c.1)) in
    omega (arith, c.2)

not_among : (x y : ℕ) (ys : List ℕ) → IsStrictlySortedBy nat_cmp (y ∷ ys) → x < y → ¬ Contains (y ∷ ys) x
not_among x y ys sorted below c = elim (Contains-cons_cases y ys x c) [
  | inl here ↦ omega arith
  | inr later ↦ let above = head_below y ys x sorted later in omega arith
]

-- a number is in one of the two lists alone
abbrev pub InOne : List ℕ → List ℕ → Type 0
InOne xs ys = (q : ℕ) × ((Contains xs q × ¬ Contains ys q) ⊎ (Contains ys q × ¬ Contains xs q))

one_later : (x y : ℕ) (xs ys : List ℕ) (q : ℕ) → IsStrictlySortedBy nat_cmp (x ∷ xs) → x ≡ y → Contains xs q → ¬ Contains ys q → ¬ Contains (y ∷ ys) q
one_later x y xs ys q sorted same among other c = elim (Contains-cons_cases y ys q c) [
  | inl here ↦ let above = head_below x xs q sorted among in omega arith
  | inr later ↦ other later
]

same_or_apart : (xs ys : List ℕ) → IsStrictlySortedBy nat_cmp xs → IsStrictlySortedBy nat_cmp ys → (xs ≡ ys) ⊎ InOne xs ys
same_or_apart [] [] sorted sorted' = inl refl
same_or_apart [] (y ∷ ys) sorted sorted' = inr (y, inr (Contains-head y ys, Contains-nil y))
same_or_apart (x ∷ xs) [] sorted sorted' = inr (x, inl (Contains-head x xs, Contains-nil x))
same_or_apart (x ∷ xs) (y ∷ ys) sorted sorted' = elim (cases_lt x y) [
  | inl below ↦ inr (x, inl (Contains-head x xs, not_among x y ys sorted' below))
  | inr not_below ↦ elim (cases_lt y x) [
    | inl above ↦ inr (y, inr (Contains-head y ys, not_among y x xs sorted above))
    | inr not_above ↦
        let same : x ≡ y = omega arith in
        elim (same_or_apart xs ys (sorted_tail nat_cmp x xs sorted) (sorted_tail nat_cmp y ys sorted')) [
          | inl others ↦ inl (ap (λ n. n ∷ xs) same ∙ ap (λ l. y ∷ l) others)
          | inr apart ↦ inr (
            apart.0,
            elim apart.1 [
              | inl first ↦ inl (Contains-tail x xs apart.0 first.0, one_later x y xs ys apart.0 sorted same first.0 first.1)
              | inr second ↦ inr (Contains-tail y ys apart.0 second.0, one_later y x ys xs apart.0 sorted' (sym same) second.0 second.1)
            ],
          )
        ]
  ]
]

-- two lists that differ tell the sets apart
pub apart_lists : (P Q : ℕ → Type 0) (xs ys : List ℕ) → Lists P xs → Lists Q ys → xs ≢ ys → (q : ℕ) × ((P q × ¬ Q q) ⊎ (Q q × ¬ P q))
apart_lists P Q xs ys first second differ = elim (same_or_apart xs ys first.ordered second.ordered) [
  | inl equal ↦ absurd (differ equal)
  | inr apart ↦ (
    apart.0,
    elim apart.1 [
      | inl one ↦ inl ((first.members apart.0).0 one.0, λ q. one.1 ((second.members apart.0).1 q))
      | inr one ↦ inr ((second.members apart.0).0 one.0, λ q. one.1 ((first.members apart.0).1 q))
    ],
  )
]
