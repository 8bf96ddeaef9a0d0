-- A plan, one check and one flow at a time.
use Rattle.std.proofs.Common.{◌≡◌, ◌≢◌, ◌∙◌, ℕ, ◌+◌, ◌-◌, ◌%◌, ◌<◌, ◌≤◌, zero, suc, min, List, [], ◌∷◌, ◌++◌, length, get_or, map, take, drop, ◌↔◌, inl, inr, arith, refl, sym, ap, subst, append_assoc, length-append}
use Rattle.std.specs.List.{All, AllZip, Contains, HoldsAt}
use Rattle.std.specs.List.Sorted.{IsStrictlyIncreasing}
use Rattle.std.proofs.lemmas.Bool.{cases_lt}
use Rattle.std.proofs.lemmas.List.{get_or_append_left, get_or_push, get_or_default, get_or-take, get_or-drop, take_more, take_all, get_or-map, map-append, append-nil, length-take, length-drop, length-take-le, length-map}
use Rattle.std.proofs.lemmas.List.Elements.{All-push, All-weaker, Contains-append_left, Contains-push}
use Rattle.rela_flows.specs.Selects.{Selects}
use Rattle.rela_flows.specs.Plan.{ArePlaces, SelectedAt, rows_of_flow, rows_from, Plan}
use Rattle.rela_flows.specs.declared.predicate.FlowClass.{FlowClass}
use Rattle.rela_flows.specs.declared.predicate.Predicate.{Predicate}
use Rattle.rela_flows.specs.declared.planning.PlannedRow.{PlannedRow}
use Rattle.rela_flows.specs.declared.planning.PlannedRow.TheVariants.{Selected, Unselected}
use Rattle.rela_plan.specs.Selection.{HasFlow, IsSelection, AreSelections, block_at}
use Rattle.rela_snapshot.specs.declared.pairing.FlowPair.{FlowPair}
use Rattle.rela_translate.specs.Checked.{Checked}

-- ---- places

ascending_push : (n : ℕ) (places : List ℕ) → IsStrictlyIncreasing places → All (λ k. k < n) places → IsStrictlyIncreasing (places ++ n ∷ [])
ascending_push n places ascending below k inside = elim (cases_lt (k + 1) (length places)) [
  | inl before ↦
      let one : get_or (places ++ n ∷ []) k 0 ≡ get_or places k 0 = get_or_append_left places (n ∷ []) 0 k (omega arith) in
      let two : get_or (places ++ n ∷ []) (k + 1) 0 ≡ get_or places (k + 1) 0 = get_or_append_left places (n ∷ []) 0 (k + 1) before in
      let less : get_or places k 0 < get_or places (k + 1) 0 = ascending k before in
      omega arith
  | inr last ↦
      let long : k + 1 < length places + 1 = omega (arith, length-append places (n ∷ [])) in
      let one : get_or (places ++ n ∷ []) k 0 ≡ get_or places k 0 = get_or_append_left places (n ∷ []) 0 k (omega arith) in
      let two : get_or (places ++ n ∷ []) (k + 1) 0 ≡ n = get_or_push places n 0 (k + 1) (omega arith) in
      let less : get_or places k 0 < n = below k 0 (omega arith) in
      omega arith
]

pub places_push : (P : ℕ → Type 0) (n : ℕ) (places : List ℕ) → ArePlaces P n places → P n → ArePlaces P (n + 1) (places ++ n ∷ [])
places_push P n places are holds = record {
  ascending = ascending_push n places are.ascending are.below;
  below = All-push (λ k. k < n + 1) places n (All-weaker (λ k. k < n) (λ k. k < n + 1) (λ k less. omega arith) places are.below) (omega arith);
  each = All-push P places n are.each holds;
  every = λ k less has. elim (cases_lt k n) [
    | inl before ↦ Contains-append_left places (n ∷ []) k (are.every k before has)
    | inr at ↦ let same : n ≡ k = omega arith in subst (Contains (places ++ n ∷ [])) same (Contains-push places n)
  ];
}

pub places_keep : (P : ℕ → Type 0) (n : ℕ) (places : List ℕ) → ArePlaces P n places → ¬ P n → ArePlaces P (n + 1) places
places_keep P n places are fails = record {
  ascending = are.ascending;
  below = All-weaker (λ k. k < n) (λ k. k < n + 1) (λ k less. omega arith) places are.below;
  each = are.each;
  every = λ k less has. elim (cases_lt k n) [
    | inl before ↦ are.every k before has
    | inr at ↦ let same : k ≡ n = omega arith in absurd (fails (subst P same has))
  ];
}

places_same : (P Q : ℕ → Type 0) (n : ℕ) (places : List ℕ) → ((k : ℕ) → k < n → P k ↔ Q k) → ArePlaces P n places → ArePlaces Q n places
places_same P Q n places same are = record {
  ascending = are.ascending;
  below = are.below;
  each = λ i d inside. (same (get_or places i d) (are.below i d inside)).0 (are.each i d inside);
  every = λ k less has. are.every k less ((same k less).1 has);
}

-- the rows so far and one more check of the flow
pub rows_push : (flow check : ℕ) (before rows : List PlannedRow) (places : List ℕ) → rows ≡ before ++ map (λ k. Selected flow k) places
    → rows ++ Selected flow check ∷ [] ≡ before ++ map (λ k. Selected flow k) (places ++ check ∷ [])
rows_push flow check before rows places are =
    ap (λ rs. rs ++ Selected flow check ∷ []) are
    ∙ append_assoc before (map (λ k. Selected flow k) places) (Selected flow check ∷ [])
    ∙ ap (λ rs. before ++ rs) (sym (map-append (λ k. Selected flow k) places (check ∷ [])))

-- where no check selects the flow, its row alone
pub row_alone : (flow : ℕ) (before rows new : List PlannedRow) (places : List ℕ) → rows ≡ before ++ map (λ k. Selected flow k) places
    → length rows ≡ length before → new ≡ rows ++ Unselected flow ∷ [] → new ≡ before ++ rows_of_flow flow places
row_alone flow before rows new [] are few more = more ∙ ap (λ rs. rs ++ Unselected flow ∷ []) (are ∙ append-nil before)
row_alone flow before rows new (k ∷ ks) are few more =
    absurd (omega (arith, few, ap length are, length-append before (map (λ i. Selected flow i) (k ∷ ks))))

-- a word at a place within the list has the flow, whatever stands past the list
pub has_at : (words : List ℕ) (place k : ℕ) → k < length words → HasFlow (get_or words k 0) place → HoldsAt (λ flows. HasFlow flows place) words k
has_at words place k inside has d = subst (λ (w : ℕ). HasFlow w place) (get_or_default words k 0 d inside) has

-- ---- lists side by side

pub zip_push : {A B : Type 0} (R : A → B → Type 0) (xs : List A) (ys : List B) (x : A) (y : B) → AllZip R xs ys → R x y → AllZip R (xs ++ x ∷ []) (ys ++ y ∷ [])
zip_push R [] [] x y zip more = (more, tt)
zip_push R [] (b ∷ ys) x y zip more = absurd zip
zip_push R (a ∷ xs) [] x y zip more = absurd zip
zip_push R (a ∷ xs) (b ∷ ys) x y zip more = (zip.0, zip_push R xs ys x y zip.1 more)

zip_length : {A B : Type 0} (R : A → B → Type 0) (xs : List A) (ys : List B) → AllZip R xs ys → length ys ≡ length xs
zip_length R [] [] zip = refl
zip_length R [] (b ∷ ys) zip = absurd zip
zip_length R (a ∷ xs) [] zip = absurd zip
zip_length R (a ∷ xs) (b ∷ ys) zip = ap (λ n. suc n) (zip_length R xs ys zip.1)

zip_at : {A B : Type 0} (R : A → B → Type 0) (xs : List A) (ys : List B) (k : ℕ) (d : A) (e : B) → AllZip R xs ys → k < length xs → R (get_or xs k d) (get_or ys k e)
zip_at R [] ys k d e zip inside = absurd (omega (arith, inside))
zip_at R (a ∷ xs) [] k d e zip inside = absurd zip
zip_at R (a ∷ xs) (b ∷ ys) zero d e zip inside = zip.0
zip_at R (a ∷ xs) (b ∷ ys) (suc k) d e zip inside = zip_at R xs ys k d e zip.1 (omega (arith, inside))

-- the element at a place within a list
at_place : {X : Type 0} (xs : List X) (n : ℕ) → n < length xs → (x : X) × ((d : X) → get_or xs n d ≡ x)
at_place [] n inside = absurd (omega (arith, inside))
at_place (x ∷ xs) zero inside = (x, λ d. refl)
at_place (x ∷ xs) (suc n) inside = at_place xs n (omega (arith, inside))

pub selections_push : (block : List FlowPair) (checks : List Checked) (n : ℕ) (check : Checked) (words : List ℕ) (word : ℕ) → check ≡ get_or checks n check → n < length checks
    → AreSelections block (take n checks) words → IsSelection block check.when word → AreSelections block (take (n + 1) checks) (words ++ word ∷ [])
selections_push block checks n check words word is inside zip one =
    subst (λ (cs : List Checked). AreSelections block cs (words ++ word ∷ []))
    (sym (take_more checks n check inside ∙ ap (λ (c : Checked). take n checks ++ c ∷ []) (sym is)))
    (zip_push (λ (c : Checked) (w : ℕ). IsSelection block c.when w) (take n checks) words check word zip one)

-- ---- flows and their blocks

abbrev pub classes : List FlowPair → List FlowClass
classes pairs = map (λ pair. pair.class) pairs

abbrev pub whens : List Checked → List Predicate
whens checks = map (λ check. check.when) checks

-- the block of the next flow is that of this one, unless it begins a block
pub same_block : (flow : ℕ) → (flow + 1) % 64 ≢ 0 → flow - flow % 64 ≡ flow + 1 - (flow + 1) % 64
same_block flow within = omega (arith, within)

-- a block from where it begins to its end
pub block_from : (pairs block : List FlowPair) (flow end : ℕ) → flow % 64 ≡ 0 → flow < length pairs → end ≡ flow + min (length pairs - flow) 64
    → block ≡ take (end - flow) (drop flow pairs) → block ≡ block_at (flow - flow % 64) pairs
block_from pairs block flow end begins inside last is =
    let first : flow ≡ flow - flow % 64 = omega (arith, begins) in
    is ∙ cut (end - flow) (drop flow pairs) (omega (arith, length-drop flow pairs, inside, last)) ∙ ap (λ (n : ℕ). take 64 (drop n pairs)) first
  where
    cut : (n : ℕ) (xs : List FlowPair) → n ≡ min (length xs) 64 → take n xs ≡ take 64 xs
    cut n xs is = elim (cases_lt (length xs) 64) [
      | inl short ↦ take_all n xs (omega (arith, is, short)) ∙ sym (take_all 64 xs (omega (arith, short)))
      | inr long ↦ let same : n ≡ 64 = omega (arith, is, long) in ap (λ (m : ℕ). take m xs) same
    ]

-- the bit of a flow in the selection of a check
tells : (pairs : List FlowPair) (checks : List Checked) (words : List ℕ) (flow k : ℕ) (pair : FlowPair) → flow < length pairs → ((d : FlowPair) → get_or pairs flow d ≡ pair)
    → AreSelections (block_at (flow - flow % 64) pairs) checks words → k < length checks
    → HoldsAt (λ flows. HasFlow flows (flow % 64)) words k ↔ SelectedAt (whens checks) pair.class k
tells pairs checks words flow k pair inside pair_is zip below =
    let check = at_place checks k below in
    let first = flow - flow % 64 in
    let right : IsSelection (block_at first pairs) check.0.when (get_or words k 0) =
    subst (λ (c : Checked). IsSelection (block_at first pairs) c.when (get_or words k 0)) (check.1 check.0)
    (zip_at (λ (c : Checked) (w : ℕ). IsSelection (block_at first pairs) c.when w) checks words k check.0 0 zip below) in
    let sum : first + flow % 64 ≡ flow = omega arith in
    let at : get_or (block_at first pairs) (flow % 64) pair ≡ pair =
    get_or-take 64 (drop first pairs) (flow % 64) pair (omega arith) ∙ get_or-drop first pairs (flow % 64) pair
    ∙ ap (λ (n : ℕ). get_or pairs n pair) sum ∙ pair_is pair in
    let place : flow % 64 < length (block_at first pairs) =
    omega (arith, length-take 64 (drop first pairs), length-drop first pairs, inside, sum) in
    let bit : HasFlow (get_or words k 0) (flow % 64) ↔ Selects check.0.when pair.class =
    subst (λ (f : FlowPair). HasFlow (get_or words k 0) (flow % 64) ↔ Selects check.0.when f.class) at (right (flow % 64) pair place) in
    let read : (d : Predicate) → get_or (whens checks) k d ≡ check.0.when =
    λ d. get_or-map (λ (c : Checked). c.when) checks k check.0 d below ∙ ap (λ (c : Checked). c.when) (check.1 check.0) in
    let long : k < length words =
    omega (arith, below, zip_length (λ (c : Checked) (w : ℕ). IsSelection (block_at first pairs) c.when w) checks words zip) in (
      (λ has d. subst (λ (p : Predicate). Selects p pair.class) (sym (read d)) (bit.0 (has 0))),
      (λ selected d. subst (λ (w : ℕ). HasFlow w (flow % 64)) (get_or_default words k 0 d long)
          (bit.1 (subst (λ (p : Predicate). Selects p pair.class) (read check.0.when) (selected check.0.when)))),
    )

abbrev pub Selecting : List Checked → FlowClass → List ℕ → Type 0
Selecting checks class places = ArePlaces (SelectedAt (whens checks) class) (length checks) places

flow_places : (pairs : List FlowPair) (checks : List Checked) (words places : List ℕ) (flow : ℕ) (pair : FlowPair) → flow < length pairs
    → ((d : FlowPair) → get_or pairs flow d ≡ pair) → AreSelections (block_at (flow - flow % 64) pairs) checks words
    → ArePlaces (λ k. HoldsAt (λ flows. HasFlow flows (flow % 64)) words k) (length words) places → Selecting checks pair.class places
flow_places pairs checks words places flow pair inside pair_is zip are =
    let long : length words ≡ length checks =
    zip_length (λ (c : Checked) (w : ℕ). IsSelection (block_at (flow - flow % 64) pairs) c.when w) checks words zip in
    places_same (λ k. HoldsAt (λ flows. HasFlow flows (flow % 64)) words k) (SelectedAt (whens checks) pair.class) (length checks) places
    (λ k below. tells pairs checks words flow k pair inside pair_is zip below)
    (subst (λ (n : ℕ). ArePlaces (λ k. HoldsAt (λ flows. HasFlow flows (flow % 64)) words k) n places) long are)

-- one flow more
rows_from_push : (flow : ℕ) (selecting : List (List ℕ)) (places : List ℕ) → rows_from flow (selecting ++ places ∷ []) ≡ rows_from flow selecting ++ rows_of_flow (flow + length selecting) places
rows_from_push flow [] places = append-nil (rows_of_flow flow places) ∙ ap (λ i. rows_of_flow i places) (let e : flow ≡ flow + 0 = omega arith in e)
rows_from_push flow (first ∷ more) places =
    ap (λ rows. rows_of_flow flow first ++ rows) (rows_from_push (flow + 1) more places)
    ∙ sym (append_assoc (rows_of_flow flow first) (rows_from (flow + 1) more) (rows_of_flow (flow + 1 + length more) places))
    ∙ ap (λ i. rows_of_flow flow first ++ rows_from (flow + 1) more ++ rows_of_flow i places) (let e : flow + 1 + length more ≡ flow + suc (length more) = omega arith in e)

-- the flows read so far, with the checks that select each
abbrev pub Planned : List FlowPair → List Checked → ℕ → List PlannedRow → Type 0
Planned pairs checks flow rows = (selecting : List (List ℕ))
    × AllZip (Selecting checks) (take flow (classes pairs)) selecting
    × (rows ≡ rows_from 0 selecting)

pub flow_planned : (pairs : List FlowPair) (checks : List Checked) (flow : ℕ) (rows new : List PlannedRow) (words places : List ℕ) → flow < length pairs
    → AreSelections (block_at (flow - flow % 64) pairs) checks words
    → ArePlaces (λ k. HoldsAt (λ flows. HasFlow flows (flow % 64)) words k) (length words) places → new ≡ rows ++ rows_of_flow flow places
    → Planned pairs checks flow rows → Planned pairs checks (flow + 1) new
flow_planned pairs checks flow rows new words places inside zip are more planned =
    let pair = at_place pairs flow inside in
    let selecting = planned.0 in
    let class_of : FlowPair → FlowClass = λ f. f.class in
    let next : take (flow + 1) (classes pairs) ≡ take flow (classes pairs) ++ pair.0.class ∷ [] =
    take_more (classes pairs) flow pair.0.class (omega (arith, inside, length-map pairs class_of))
    ∙ ap (λ (c : FlowClass). take flow (classes pairs) ++ c ∷ [])
    (get_or-map class_of pairs flow pair.0 pair.0.class inside ∙ ap class_of (pair.1 pair.0)) in
    let count : length selecting ≡ flow =
    zip_length (Selecting checks) (take flow (classes pairs)) selecting planned.1
    ∙ length-take-le flow (classes pairs) (omega (arith, inside, length-map pairs class_of)) in (
      selecting ++ places ∷ [],
      subst (λ (cs : List FlowClass). AllZip (Selecting checks) cs (selecting ++ places ∷ [])) (sym next)
          (zip_push (Selecting checks) (take flow (classes pairs)) selecting pair.0.class places planned.1
          (flow_places pairs checks words places flow pair.0 inside pair.1 zip are)),
      more ∙ ap (λ rs. rs ++ rows_of_flow flow places) planned.2
          ∙ ap (λ j. rows_from 0 selecting ++ rows_of_flow j places) (let e : flow ≡ 0 + length selecting = omega (arith, count) in e)
          ∙ sym (rows_from_push 0 selecting places),
    )

pub all_planned : (pairs : List FlowPair) (checks : List Checked) (flow : ℕ) (rows : List PlannedRow) → length pairs ≤ flow
    → Planned pairs checks flow rows → Plan (classes pairs) (whens checks) rows
all_planned pairs checks flow rows past planned =
    let class_of : FlowPair → FlowClass = λ f. f.class in
    let when_of : Checked → Predicate = λ c. c.when in record {
      selecting = planned.0;
      each =
          subst (λ (n : ℕ). AllZip (λ class places. ArePlaces (SelectedAt (whens checks) class) n places) (classes pairs) planned.0) (sym (length-map checks when_of))
          (subst (λ (cs : List FlowClass). AllZip (Selecting checks) cs planned.0) (take_all flow (classes pairs) (omega (arith, past, length-map pairs class_of))) planned.1);
      in_order = planned.2;
    }
