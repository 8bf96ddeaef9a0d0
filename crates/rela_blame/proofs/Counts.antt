-- What the counts of definitions tell, and the search by them.
use Rattle.std.proofs.Common.{zero, suc, ◌≡◌, ℕ, ◌+◌, ◌-◌, ◌^◌, ◌<◌, ◌≤◌, min, List, [], ◌∷◌, ◌++◌, length, take, drop, get_or, slice_get, Option, None, refl, ap, sym, subst, ◌∙◌, arith, length-append}
use Rattle.std.proofs.lemmas.List.{take_more, drop_more, drop_all}
use Rattle.std.specs.List.{All}
use Rattle.rela_blame.specs.Leads.{IsBelow, alternatives, spread, value_at}
use Rattle.rela_blame.specs.Tables.{IsDefinition, IsFound, IsTable, capped, rank, values_of}
use Rattle.rela_blame.specs.declared.leads.Lead.{Lead}
use Rattle.rela_blame.specs.declared.definitions.Definition.{Definition}
use Rattle.rela_blame.specs.declared.definitions.Definitions.{Definitions}
use Rattle.rela_blame.specs.declared.definitions.Sought.{Sought}
use Rattle.rela_blame.specs.declared.definitions.Sought.TheVariants.{Unit as Unit', Within, Nowhere}
use Rattle.rela_blame.proofs.Values.{spread_push}

none_capped : (v : List ℕ) → capped (length v) ≡ 0 → v ≡ []
none_capped [] h = refl
none_capped (x ∷ v) h = absurd (omega arith)

positive : (n : ℕ) → (n ≡ 0 → ⊥) → 1 ≤ n
positive zero h = absurd (h refl)
positive (suc n) h = omega arith

module _ (table : Definitions) (k : ℕ) (d : Definition) (is : IsTable table) (inside : k < length table.list.items) (at : d ≡ get_or table.list.items k d) where
  pub definition_there : IsDefinition (values_of table.list.items) k d
  definition_there = subst (IsDefinition (values_of table.list.items) k) (sym at) (is.each k d inside)

  pub empty_there : d.count ≡ 0 → value_at (values_of table.list.items) k ≡ []
  empty_there zero_is = none_capped (value_at (values_of table.list.items) k) (sym definition_there.count ∙ zero_is)

  pub some_there : (d.count ≡ 0 → ⊥) → 1 ≤ length (value_at (values_of table.list.items) k)
  some_there test = let some_is = positive d.count test in let count = definition_there.count in omega arith

  -- what is sought among the alternatives of the definition is sought among its leads
  pub sought_next : (before : ℕ) (leads : List Lead) (next : Sought) → leads ≡ d.leads.items
      → ((bound : ℕ) → All (IsBelow (values_of table.list.items) bound) leads → IsFound (values_of table.list.items) bound (slice_get (spread (values_of table.list.items) leads) before) next)
      → IsFound (values_of table.list.items) k (slice_get (value_at (values_of table.list.items) k) before) next
  sought_next before leads next same tells =
      let values = values_of table.list.items in
      let def = definition_there in
      subst (λ (o : Option ℕ). IsFound values k o next)
      (ap (λ (ls : List Lead). slice_get (spread values ls) before) same ∙ ap (λ (xs : List ℕ). slice_get xs before) (sym def.is))
      (tells k (subst (All (IsBelow values k)) (sym same) def.below))

-- one lead more is counted
pub count_more : (values : List (List ℕ)) (leads : List Lead) (i : ℕ) (lead : Lead) (count one : ℕ) → i < length leads → lead ≡ get_or leads i lead
    → count ≡ capped (length (spread values (take i leads))) → one ≡ capped (length (alternatives values lead))
    → min (count + one) (2 ^ 64 - 1) ≡ capped (length (spread values (take (i + 1) leads)))
count_more values leads i lead count one inside at so_far this =
    let more : take (i + 1) leads ≡ take i leads ++ lead ∷ [] = take_more leads i lead inside ∙ ap (λ (x : Lead). take i leads ++ x ∷ []) (sym at) in
    let whole : length (spread values (take (i + 1) leads)) ≡ length (spread values (take i leads)) + length (alternatives values lead) =
    ap (λ (xs : List Lead). length (spread values xs)) more ∙ ap length (spread_push values (take i leads) lead) ∙ length-append (spread values (take i leads)) (alternatives values lead) in
    omega arith

get_past : (xs ys : List ℕ) (n : ℕ) → length xs ≤ n → slice_get (xs ++ ys) n ≡ slice_get ys (n - length xs)
get_past [] ys n h = ap (slice_get ys) (omega arith)
get_past (x ∷ xs) ys zero h = absurd (omega arith)
get_past (x ∷ xs) ys (suc n) h = get_past xs ys n (omega arith) ∙ ap (slice_get ys) (omega arith)

module _ (values : List (List ℕ)) (leads : List Lead) (i : ℕ) (d : Lead) (inside : i < length leads) where
  pub leads_left : spread values (drop i leads) ≡ alternatives values (get_or leads i d) ++ spread values (drop (i + 1) leads)
  leads_left = ap (spread values) (drop_more leads i d inside)

  -- what isn't among the alternatives of the next lead is behind them
  pub passed : (left count : ℕ) (there : Option ℕ) → slice_get (spread values (drop i leads)) left ≡ there → count ≡ capped (length (alternatives values (get_or leads i d))) → count ≤ left
      → left < 2 ^ 64 - 1 → slice_get (spread values (drop (i + 1) leads)) (left - count) ≡ there
  passed left count there same is not_here few =
      let exact : count ≡ length (alternatives values (get_or leads i d)) = omega arith in
      ap (λ (n : ℕ). slice_get (spread values (drop (i + 1) leads)) (left - n)) exact
      ∙ sym (get_past (alternatives values (get_or leads i d)) (spread values (drop (i + 1) leads)) left (omega arith))
      ∙ sym (ap (λ (xs : List ℕ). slice_get xs left) leads_left)
      ∙ same

  -- what is among the alternatives of the next lead is found there
  pub here : (left count bound : ℕ) (there : Option ℕ) (found : Sought) → slice_get (spread values (drop i leads)) left ≡ there
      → count ≡ capped (length (alternatives values (get_or leads i d))) → left < count → left < 2 ^ 64 - 1 → All (IsBelow values bound) leads
      → (IsBelow values bound (get_or leads i d) → left < length (alternatives values (get_or leads i d)) → left < 2 ^ 64 - 1 → (others : List ℕ)
      → IsFound values bound (slice_get (alternatives values (get_or leads i d) ++ others) left) found)
      → IsFound values bound there found
  here left count bound there found same is inside' few below tells =
      subst (λ (o : Option ℕ). IsFound values bound o found) (sym (ap (λ (xs : List ℕ). slice_get xs left) leads_left) ∙ same)
      (tells (below i d inside) (omega arith) few (spread values (drop (i + 1) leads)))

-- behind all leads there is nothing
pub nothing_left : (values : List (List ℕ)) (leads : List Lead) (i left : ℕ) (there : Option ℕ) → length leads ≤ i
    → slice_get (spread values (drop i leads)) left ≡ there → there ≡ None
nothing_left values leads i left there past same = sym same ∙ ap (λ (xs : List Lead). slice_get (spread values xs) left) (drop_all i leads past)

-- a search goes on among the alternatives of an earlier definition
module _ (values : List (List ℕ)) where
  pub found_higher : (low high : ℕ) (there : Option ℕ) (s : Sought) → low ≤ high → IsFound values low there s → IsFound values high there s
  found_higher low high there (Unit' at) le found = found
  found_higher low high there (Within k before) le found = let h = found.0 in (omega arith, found.1, found.2)
  found_higher low high there Nowhere le found = found

  pub rank_below : (bound : ℕ) (there : Option ℕ) (s : Sought) → IsFound values bound there s → rank s ≤ bound
  rank_below bound there (Unit' at) found = omega arith
  rank_below bound there (Within k before) found = let h = found.0 in omega arith
  rank_below bound there Nowhere found = omega arith
