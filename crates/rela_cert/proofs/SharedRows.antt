-- Rows by the flows that look like theirs, and what is kept of those.
use Rattle.std.proofs.Common.{◌≡◌, ◌∙◌, ℕ, zero, suc, ◌<◌, cond, Bool, true, not, Option, None, Some, Result, Ok, Err, List, [], ◌∷◌, length, get_or, inl, inr, refl, sym, ap, subst, arith}
use Rattle.std.specs.Prelude.{IfNone, IfOk, IfSome, IsSomeAnd, is_some, nat_eq, option_map}
use Rattle.std.specs.HashMap.{HashMap, IsEmpty, get}
use Rattle.std.specs.Map.{lookup}
use Rattle.std.specs.List.{All, slice_get}
use Rattle.std.proofs.lemmas.Bool.{and_parts, cases_Bool, cond-false, cond-true, eqb-true}
use Rattle.std.proofs.lemmas.List.{get_or_default}
use Rattle.std.proofs.lemmas.Option.{get_or_from_slice_get, slice_get_within}
use Rattle.rela_build.specs.PathSets.{Paths}
use Rattle.rela_certfile.specs.Layout.{shape_at}
use Rattle.rela_certfile.specs.Listed.{HasShape, IsListedAs}
use Rattle.rela_certfile.specs.declared.rows.ListedRow.{ListedRow}
use Rattle.rela_flows.specs.declared.planning.PlannedRow.{PlannedRow}
use Rattle.rela_flows.specs.declared.planning.PlannedRow.TheVariants.{Selected}
use Rattle.rela_plan.specs.Alike.{AreAlike, LooksAs, look_of}
use Rattle.rela_snapshot.specs.PairsLocated.{ArePairsLocated, IsPairLocated}
use Rattle.rela_snapshot.specs.declared.pairing.FlowPair.{FlowPair}
use Rattle.rela_translate.specs.Checked.{Checked}
use Rattle.rela_translate.specs.Verdict.{Meets}
use Rattle.rela_cert.specs.Certified.{AreBlocksMade, IsExcused}
use Rattle.rela_cert.specs.Sharing.{AreFoundRows, AreKnownMet, CarriesOver, HoldsOf, IsFoundAt, IsFoundFor, IsMetBy, row_at_place, same_numbers}
use Rattle.rela_cert.specs.Subject.{IsSubject, Subject, flow_of, layout_of, shape_of}
use Rattle.rela_cert.proofs.AuditedRows.{all_at}
use Rattle.rela_cert.proofs.ListedRows.{same_some}
use Rattle.rela_cert.proofs.MadeRows.{left_out, row_made}

-- ---- what is kept by two numbers

equal_numbers : (x y : ℕ × ℕ) → same_numbers x y ≡ true → x ≡ y
equal_numbers x y same =
    let parts = and_parts (nat_eq x.0 y.0) (nat_eq x.1 y.1) same in
    let first : x.0 ≡ y.0 = eqb-true x.0 y.0 parts.0 in
    let second : x.1 ≡ y.1 = eqb-true x.1 y.1 parts.1 in
    λ i. (first i, second i)

-- what each entry has, each has once one more is put in that has it
entries_more : {V S : Type 0} (P : ℕ × ℕ → V → Type 0) (old new : HashMap (ℕ × ℕ) V S) (key : ℕ × ℕ) (value : V)
    → ((q : ℕ × ℕ) → get same_numbers new q ≡ cond (same_numbers key q) (Some value) (get same_numbers old q))
    → P key value → ((q : ℕ × ℕ) (v : V) → get same_numbers old q ≡ Some v → P q v) → (q : ℕ × ℕ) (v : V) → get same_numbers new q ≡ Some v → P q v
entries_more P old new key value updates one each q v has = elim (cases_Bool (same_numbers key q)) [
  | inl same_key ↦
      let is : Some value ≡ Some v = sym (updates q ∙ cond-true (same_numbers key q) (Some value) (get same_numbers old q) same_key) ∙ has in
      let equal : value ≡ v = cc in
      subst (λ (x : _). P q x) equal (subst (λ (k : ℕ × ℕ). P k value) (equal_numbers key q same_key) one)
  | inr other_key ↦ each q v (sym (updates q ∙ cond-false (same_numbers key q) (Some value) (get same_numbers old q) other_key) ∙ has)
]

pub known_more : {S : Type 0} (s : Subject) (count : ℕ) (old new : HashMap (ℕ × ℕ) ℕ S) (flow number row : ℕ)
    → ((q : ℕ × ℕ) → get same_numbers new q ≡ cond (same_numbers (flow, number) q) (Some row) (get same_numbers old q))
    → AreKnownMet s count old → row < count → HoldsOf s flow number (IsMetBy (length s.names)) → AreKnownMet s count new
known_more s count old new flow number row updates known below holds f c r has =
    entries_more (λ q v. (v < count) × HoldsOf s q.0 q.1 (IsMetBy (length s.names))) old new (flow, number) row updates (below, holds)
    (λ q v was. known q.0 q.1 v was) (f, c) r has

pub found_more : {S : Type 0} (s : Subject) (limit : ℕ) (old new : HashMap (ℕ × ℕ) (Option ListedRow) S) (flow number : ℕ) (found : Option ListedRow)
    → ((q : ℕ × ℕ) → get same_numbers new q ≡ cond (same_numbers (flow, number) q) (Some found) (get same_numbers old q))
    → AreFoundRows s limit old → HoldsOf s flow number (IsFoundFor (length s.names) limit found) → AreFoundRows s limit new
found_more s limit old new flow number found updates kept holds f c other has =
    entries_more (λ q v. HoldsOf s q.0 q.1 (IsFoundFor (length s.names) limit v)) old new (flow, number) found updates holds
    (λ q v was. kept q.0 q.1 v was) (f, c) other has

-- the others are kept where one is taken out
pub found_less : {S : Type 0} (s : Subject) (limit : ℕ) (old new : HashMap (ℕ × ℕ) (Option ListedRow) S) (flow number : ℕ)
    → ((q : ℕ × ℕ) → get same_numbers new q ≡ cond (same_numbers (flow, number) q) None (get same_numbers old q))
    → AreFoundRows s limit old → AreFoundRows s limit new
found_less s limit old new flow number updates kept f c other has = elim (cases_Bool (same_numbers (flow, number) (f, c))) [
  | inl same_key ↦
      let e : None ≡ Some other = sym (updates (f, c) ∙ cond-true (same_numbers (flow, number) (f, c)) None (get same_numbers old (f, c)) same_key) ∙ has in
      absurd (cc)
  | inr other_key ↦ kept f c other (sym (updates (f, c) ∙ cond-false (same_numbers (flow, number) (f, c)) None (get same_numbers old (f, c)) other_key) ∙ has)
]

-- ---- flows that look the same

pub element_at : {X : Type 0} (xs : List X) (k : ℕ) → k < length xs → (x : X) × (slice_get xs k ≡ Some x)
element_at [] k below = absurd (omega (arith, below))
element_at (x ∷ xs) zero below = (x, refl)
element_at (x ∷ xs) (suc k) below = element_at xs k (omega (arith, below))

module _ (s : Subject) (alike : List ℕ) (are : All (λ check. AreAlike check.level s.pairs alike) s.checks) where
  -- there is the number of another for each flow, if there is a check
  pub listed_below : (flow number : ℕ) → flow < length s.pairs → number < length s.checks → flow < length alike
  listed_below flow number flow_below number_below =
      let check = element_at s.checks number number_below in
      let here = all_at (λ (c : Checked). AreAlike c.level s.pairs alike) s.checks number check.0 are check.1 in
      omega (arith, flow_below, here.len)

  module _ (flow number other : ℕ) (check : Checked) (of_check : slice_get s.checks number ≡ Some check) (flow_below : flow < length s.pairs) (other_is : other ≡ get_or alike flow other) where
    -- the other flow looks the same
    looks : LooksAs check.level s.pairs flow other
    looks =
        let here = all_at (λ (c : Checked). AreAlike c.level s.pairs alike) s.checks number check are of_check in
        let below : flow < length alike = omega (arith, flow_below, here.len) in
        subst (LooksAs check.level s.pairs flow) (sym (other_is ∙ get_or_default alike flow other 0 below)) (here.each flow flow_below)

    module _ (pair another : FlowPair) (of_flow : slice_get s.pairs flow ≡ Some pair) (of_other : slice_get s.pairs other ≡ Some another) where
      same_looks : look_of check.level pair ≡ look_of check.level another
      same_looks =
          sym (ap (look_of check.level) (get_or_from_slice_get s.pairs flow pair pair of_flow))
          ∙ (looks.1 pair ∙ ap (look_of check.level) (get_or_from_slice_get s.pairs other another pair of_other))

      -- what is found of the check on the other flow holds of this one
      pub from_other : (P : Checked → Paths → Type 0) → CarriesOver check pair another s.names (P check) → HoldsOf s other number P → P check (flow_of s pair check)
      from_other P carries (found, also, at, of, holds) =
          let one : found ≡ another = same_some (slice_get s.pairs other) found another at of_other in
          let two : also ≡ check = same_some (slice_get s.checks number) also check of of_check in
          carries same_looks (subst (λ (c : Checked). P c (flow_of s another c)) two (subst (λ (p : FlowPair). P also (flow_of s p also)) one holds))

      -- and the other way round
      pub to_other : (P : Checked → Paths → Type 0) → CarriesOver check another pair s.names (P check) → P check (flow_of s pair check) → HoldsOf s other number P
      to_other P carries holds = (another, check, of_other, of_check, carries (sym same_looks) holds)

  -- it is one of the flows
  pub other_below : (flow number other : ℕ) → flow < length s.pairs → number < length s.checks → other ≡ get_or alike flow other → other < length s.pairs
  other_below flow number other flow_below number_below other_is =
      let check = element_at s.checks number number_below in
      (looks flow number other check.0 check.1 flow_below other_is).0

-- the nodes of a flow stand at locations of the check's level
pub located_at : (s : Subject) (flow number : ℕ) (pair : FlowPair) (check : Checked) → slice_get s.pairs flow ≡ Some pair → slice_get s.checks number ≡ Some check
    → IsSubject s → IsPairLocated s.names check.level pair
located_at s flow number pair check of_flow of_check subject =
    all_at (IsPairLocated s.names check.level) s.pairs flow pair
    (all_at (λ (c : Checked). ArePairsLocated s.names c.level s.pairs) s.checks number check subject.located of_check) of_flow

-- ---- rows that are found

-- what is found carries over too
pub found_carries : (check : Checked) (pair other : FlowPair) (names : List (List ℕ)) (limit : ℕ)
    → CarriesOver check pair other names (IsMetBy (length names) check)
    → ((row : ListedRow) → CarriesOver check pair other names (AreBlocksMade (length names) row check))
    → ((k : ℕ) → CarriesOver check pair other names (IsExcused (length names) k check))
    → (found : Option ListedRow) → CarriesOver check pair other names (IsFoundFor (length names) limit found check)
found_carries check pair other names limit met made excused None looks is = excused limit looks is
found_carries check pair other names limit met made excused (Some row) looks is =
    record { shape = is.shape; met = met looks is.met; made = made row looks is.made }

placed_shape : (n : ℕ) (check : Checked) (place : ℕ) (row : ListedRow) → HasShape (shape_of n check) row → HasShape (shape_of n check) (row_at_place place row)
placed_shape n check place row is = record { one_each = is.one_each; complements = is.complements; images = is.images }

placed_made : (n : ℕ) (check : Checked) (paths : Paths) (place : ℕ) (row : ListedRow) → AreBlocksMade n row check paths → AreBlocksMade n (row_at_place place row) check paths
placed_made n check paths place row is = record { complements = is.complements; images = is.images; first = is.first }

-- at whatever place
pub found_placed : (n limit place : ℕ) (found : Option ListedRow) (check : Checked) (paths : Paths) → IsFoundFor n limit found check paths
    → IsFoundFor n limit (option_map (row_at_place place) found) check paths
found_placed n limit place None check paths is = is
found_placed n limit place (Some row) check paths is =
    record { shape = placed_shape n check place row is.shape; met = is.met; made = placed_made n check paths place row is.made }

pub holds_placed : (s : Subject) (limit place flow number : ℕ) (found : Option ListedRow) → HoldsOf s flow number (IsFoundFor (length s.names) limit found)
    → HoldsOf s flow number (IsFoundFor (length s.names) limit (option_map (row_at_place place) found))
holds_placed s limit place flow number found (pair, check, at, of, is) = (pair, check, at, of, found_placed (length s.names) limit place found check (flow_of s pair check) is)

-- what is found for the flow and the check of a planned row is found for the row
pub found_there : (s : Subject) (planned : List PlannedRow) (limit place flow number : ℕ) (pair : FlowPair) (check : Checked) → slice_get planned place ≡ Some (Selected flow number)
    → slice_get s.pairs flow ≡ Some pair → slice_get s.checks number ≡ Some check → (found : Option ListedRow)
    → IsFoundFor (length s.names) limit found check (flow_of s pair check) → IsFoundAt s planned limit place (option_map (row_at_place place) found)
found_there s planned limit place flow number pair check planned_as of_flow of_check None is = left_out s planned place flow number pair check planned_as of_flow of_check limit is
found_there s planned limit place flow number pair check planned_as of_flow of_check (Some row) is =
    row_made s planned place flow number pair check planned_as of_flow of_check (row_at_place place row) refl (placed_shape (length s.names) check place row is.shape) is.met
    (placed_made (length s.names) check (flow_of s pair check) place row is.made)

-- what is told of a row that is searched for
pub searched : {E : Type 0} (n limit : ℕ) (check : Checked) (paths : Paths) (r : Result (Option ListedRow) E)
    → IfOk r (λ found. IfSome found (HasShape (shape_of n check))) → IfOk r (λ found. IfSome found (λ _. Meets check n paths.pre paths.post))
    → IfOk r (λ found. IfSome found (λ row. AreBlocksMade n row check paths)) → IfOk r (λ found. IfNone found (IsExcused n limit check paths))
    → IfOk r (λ found. IsFoundFor n limit found check paths)
searched n limit check paths (Ok None) shape met made excused = excused
searched n limit check paths (Ok (Some row)) shape met made excused = record { shape = shape; met = met; made = made }
searched n limit check paths (Err e) shape met made excused = tt

-- a row that is found may be listed
pub found_listed : (s : Subject) (planned : List PlannedRow) (limit place : ℕ) (found : Option ListedRow) → IsFoundAt s planned limit place found
    → IfSome found (λ row. IsListedAs (shape_at (layout_of s planned) row.place) row)
found_listed s planned limit place None is = tt
found_listed s planned limit place (Some row) is = is.listed

-- what is found for the flow that looks the same is found for the planned row
pub found_here : (s : Subject) (planned : List PlannedRow) (alike : List ℕ) → All (λ check. AreAlike check.level s.pairs alike) s.checks → (limit place flow number other : ℕ)
    (pair another : FlowPair) (check : Checked) → slice_get planned place ≡ Some (Selected flow number) → slice_get s.pairs flow ≡ Some pair
    → slice_get s.pairs other ≡ Some another → slice_get s.checks number ≡ Some check → other ≡ get_or alike flow other
    → CarriesOver check pair another s.names (IsMetBy (length s.names) check)
    → ((row : ListedRow) → CarriesOver check pair another s.names (AreBlocksMade (length s.names) row check))
    → ((k : ℕ) → CarriesOver check pair another s.names (IsExcused (length s.names) k check))
    → (found placed : Option ListedRow) → placed ≡ option_map (row_at_place place) found
    → HoldsOf s other number (IsFoundFor (length s.names) limit found) → IsFoundAt s planned limit place placed
found_here s planned alike are limit place flow number other pair another check planned_as of_flow of_other of_check other_is met made excused found placed is holds =
    subst (IsFoundAt s planned limit place) (sym is)
    (found_there s planned limit place flow number pair check planned_as of_flow of_check found
    (from_other s alike are flow number other check of_check (slice_get_within s.pairs flow pair of_flow) other_is pair another of_flow of_other
    (IsFoundFor (length s.names) limit found) (found_carries check pair another s.names limit met made excused found) holds))

-- ---- judgements

-- a row that is known is met
pub known_met : {S : Type 0} (s : Subject) (count : ℕ) (known : HashMap (ℕ × ℕ) ℕ S) (flow number : ℕ) (P : ℕ → Type 0) → AreKnownMet s count known
    → IsSomeAnd (get same_numbers known (flow, number)) P → HoldsOf s flow number (IsMetBy (length s.names))
known_met s count known flow number P are has = by_found (get same_numbers known (flow, number)) refl has
  where
    by_found : (found : Option ℕ) → get same_numbers known (flow, number) ≡ found → IsSomeAnd found P → HoldsOf s flow number (IsMetBy (length s.names))
    by_found None e has = absurd has
    by_found (Some row) e has = (are flow number row e).1

pub where_none : {X P : Type 0} (o : Option X) (b : Bool) → is_some o ≡ not b → b ≡ true → IfNone o P → P
where_none None b is told holds = holds
where_none (Some x) b is told holds = let e : true ≡ not true = is ∙ ap not told in absurd (cc)

-- no entry is in an empty map
pub no_entry : {V S : Type 0} (m : HashMap (ℕ × ℕ) V S) (key : ℕ × ℕ) (v : V) → IsEmpty m → get same_numbers m key ≡ Some v → ⊥
no_entry m key v empty has = let e : None ≡ Some v = ap (λ (es : List ((ℕ × ℕ) × _)). lookup (same_numbers key) es) (sym empty) ∙ has in absurd (cc)
