-- The flows and the checks settle the plan.
use Rattle.std.proofs.Common.{◌≡◌, ◌∙◌, ℕ, zero, suc, ◌<◌, ◌⊎◌, inl, inr, List, [], ◌∷◌, length, refl, sym, ap, subst, arith}
use Rattle.std.specs.List.{AllZip, AllPairs, Contains}
use Rattle.std.proofs.lemmas.List.Elements.{All-contains}
use Rattle.std.proofs.lemmas.List.Kept.{AllPairs-from_increasing}
use Rattle.rela_flows.specs.Plan.{ArePlaces, SelectedAt, Plan, rows_from}
use Rattle.rela_flows.specs.declared.predicate.FlowClass.{FlowClass}
use Rattle.rela_flows.specs.declared.predicate.Predicate.{Predicate}
use Rattle.rela_flows.specs.declared.planning.PlannedRow.{PlannedRow}

module _ (P : ℕ → Type 0) (n : ℕ) where
  -- a number that some places have is one of all such places
  listed_in : (xs ys : List ℕ) → ArePlaces P n xs → ArePlaces P n ys → (k : ℕ) → Contains xs k → Contains ys k
  listed_in xs ys one two k in_as = two.every k (All-contains (λ (m : ℕ). m < n) xs k one.below in_as) (All-contains P xs k one.each in_as)

abbrev Ascends : List ℕ → Type 0
Ascends = AllPairs (λ (a b : ℕ). a < b)

in_front_or_behind : (b k : ℕ) (ys : List ℕ) → Contains (b ∷ ys) k → (b ≡ k) ⊎ Contains ys k
in_front_or_behind b k ys (zero, below, is) = inl is
in_front_or_behind b k ys (suc i, below, is) = inr (i, omega (arith, below), is)

behind : (a k : ℕ) (xs : List ℕ) → Contains xs k → Contains (a ∷ xs) k
behind a k xs (i, below, is) = (suc i, omega (arith, below), is)

in_front : (a : ℕ) (xs : List ℕ) → Contains (a ∷ xs) a
in_front a xs = (zero, omega arith, refl)

ascends_behind : (a : ℕ) (xs : List ℕ) → Ascends (a ∷ xs) → Ascends xs
ascends_behind a xs each = λ i j d less below. each (suc i) (suc j) d (omega (arith, less)) (omega (arith, below))

above_front : (a k : ℕ) (xs : List ℕ) → Ascends (a ∷ xs) → Contains xs k → a < k
above_front a k xs each (i, below, is) = subst (λ (m : ℕ). a < m) is (each zero (suc i) k (omega arith) (omega (arith, below)))

-- the first of two lists with the same numbers is the same
same_front : (a b : ℕ) (xs ys : List ℕ) → Ascends (a ∷ xs) → Ascends (b ∷ ys) → (b ≡ a) ⊎ Contains ys a → (a ≡ b) ⊎ Contains xs b → a ≡ b
same_front a b xs ys one two (inl is) found = sym is
same_front a b xs ys one two (inr later) (inl is) = is
same_front a b xs ys one two (inr later) (inr early) =
    let less : b < a = above_front b a ys two later in
    let more : a < b = above_front a b xs one early in
    absurd (omega arith)

not_front : (a b k : ℕ) (xs ys : List ℕ) → Ascends (a ∷ xs) → a ≡ b → Contains xs k → (b ≡ k) ⊎ Contains ys k → Contains ys k
not_front a b k xs ys one same in_as (inl is) =
    let more : a < k = above_front a k xs one in_as in
    absurd (omega (arith, same, is))
not_front a b k xs ys one same in_as (inr in_bs) = in_bs

same_ascending : (xs ys : List ℕ) → Ascends xs → Ascends ys → ((k : ℕ) → Contains xs k → Contains ys k) → ((k : ℕ) → Contains ys k → Contains xs k) → xs ≡ ys
same_ascending [] [] one two there back = refl
same_ascending [] (b ∷ ys) one two there back =
    let found = back b (in_front b ys) in
    absurd (omega (arith, found.1))
same_ascending (a ∷ xs) [] one two there back =
    let found = there a (in_front a xs) in
    absurd (omega (arith, found.1))
same_ascending (a ∷ xs) (b ∷ ys) one two there back =
    let front : a ≡ b = same_front a b xs ys one two (in_front_or_behind b a ys (there a (in_front a xs))) (in_front_or_behind a b xs (back b (in_front b ys))) in
    let rest : xs ≡ ys = same_ascending xs ys (ascends_behind a xs one) (ascends_behind b ys two)
    (λ k in_as. not_front a b k xs ys one front in_as (in_front_or_behind b k ys (there k (behind a k xs in_as))))
    (λ k in_bs. not_front b a k ys xs two (sym front) in_bs (in_front_or_behind a k xs (back k (behind b k ys in_bs)))) in
    cc

places_same : (P : ℕ → Type 0) (n : ℕ) (xs ys : List ℕ) → ArePlaces P n xs → ArePlaces P n ys → xs ≡ ys
places_same P n xs ys one two =
    same_ascending xs ys (AllPairs-from_increasing xs one.ascending) (AllPairs-from_increasing ys two.ascending)
    (listed_in P n xs ys one two) (listed_in P n ys xs two one)

selecting_same : (checks : List Predicate) (classes : List FlowClass) (xs ys : List (List ℕ))
    → AllZip (λ class places. ArePlaces (SelectedAt checks class) (length checks) places) classes xs
    → AllZip (λ class places. ArePlaces (SelectedAt checks class) (length checks) places) classes ys → xs ≡ ys
selecting_same checks [] [] [] one two = refl
selecting_same checks [] [] (b ∷ ys) one two = absurd two
selecting_same checks [] (a ∷ xs) ys one two = absurd one
selecting_same checks (c ∷ cs) [] ys one two = absurd one
selecting_same checks (c ∷ cs) (a ∷ xs) [] one two = absurd two
selecting_same checks (c ∷ cs) (a ∷ xs) (b ∷ ys) one two =
    let first : a ≡ b = places_same (SelectedAt checks c) (length checks) a b one.0 two.0 in
    let rest : xs ≡ ys = selecting_same checks cs xs ys one.1 two.1 in
    cc

pub plan_same : (classes : List FlowClass) (checks : List Predicate) (rows others : List PlannedRow) → Plan classes checks rows → Plan classes checks others → rows ≡ others
plan_same classes checks rows others one two =
    one.in_order ∙ (ap (rows_from 0) (selecting_same checks classes one.selecting two.selecting one.each two.each) ∙ sym two.in_order)
