-- The places of planned rows are those of flows and checks that there are.
use Rattle.std.proofs.Common.{◌≡◌, ℕ, ◌+◌, ◌<◌, ◌≤◌, List, [], ◌∷◌, ◌++◌, length, map, Result, Ok, Err, IfOk, sym, subst, arith}
use Rattle.std.specs.List.{All, AllZip}
use Rattle.std.proofs.lemmas.List.{length-map}
use Rattle.std.proofs.lemmas.List.Elements.{All-nil, All-cons, All-map, All-append, All-push}
use Rattle.rela_flows.specs.Plan.{ArePlaces, SelectedAt, rows_of_flow, rows_from, Plan}
use Rattle.rela_flows.specs.declared.planning.PlannedRow.{PlannedRow}
use Rattle.rela_flows.specs.declared.planning.PlannedRow.TheVariants.{Selected, Unselected}
use Rattle.rela_flows.specs.declared.predicate.FlowClass.{FlowClass}
use Rattle.rela_flows.specs.declared.predicate.Predicate.{Predicate}
use Rattle.rela_plan.specs.Within.{IsWithin}

module _ (flows checks : ℕ) where
  -- the rows of one flow
  flow_within : (flow : ℕ) (places : List ℕ) → flow < flows → All (λ k. k < checks) places → All (IsWithin flows checks) (rows_of_flow flow places)
  flow_within flow [] inside each = All-cons (IsWithin flows checks) (Unselected flow) [] inside (All-nil (IsWithin flows checks))
  flow_within flow (k ∷ ks) inside each =
      All-map (IsWithin flows checks) (λ i. Selected flow i) (k ∷ ks) (λ i d less. (inside, each i d less))

  -- the rows of the flows from one on
  from_within : (P : FlowClass → List ℕ → Type 0) (from : ℕ) (classes : List FlowClass) (selecting : List (List ℕ))
      → ((class : FlowClass) (places : List ℕ) → P class places → All (λ k. k < checks) places)
      → AllZip P classes selecting → from + length classes ≤ flows → All (IsWithin flows checks) (rows_from from selecting)
  from_within P from [] [] below zip few = All-nil (IsWithin flows checks)
  from_within P from [] (s ∷ ss) below zip few = absurd zip
  from_within P from (c ∷ cs) [] below zip few = absurd zip
  from_within P from (c ∷ cs) (s ∷ ss) below zip few =
      All-append (IsWithin flows checks) (rows_of_flow from s) (rows_from (from + 1) ss)
      (flow_within from s (omega arith) (below c s zip.0))
      (from_within P (from + 1) cs ss below zip.1 (omega arith))

pub plan_within : (classes : List FlowClass) (checks : List Predicate) (rows : List PlannedRow)
    → Plan classes checks rows → All (IsWithin (length classes) (length checks)) rows
plan_within classes checks rows plan =
    subst (λ (rs : List PlannedRow). All (IsWithin (length classes) (length checks)) rs) (sym plan.in_order)
    (from_within (length classes) (length checks) (λ class places. ArePlaces (SelectedAt checks class) (length checks) places) 0 classes plan.selecting
    (λ class places are. are.below) plan.each (omega arith))

-- counted by what the classes and the predicates belong to
pub within_counts : {F C : Type 0} (class : F → FlowClass) (when : C → Predicate) (flows : List F) (checks : List C) (rows : List PlannedRow)
    → Plan (map class flows) (map when checks) rows → All (IsWithin (length flows) (length checks)) rows
within_counts class when flows checks rows plan =
    subst (λ (n : ℕ). All (IsWithin n (length checks)) rows) (length-map flows class)
    (subst (λ (n : ℕ). All (IsWithin (length (map class flows)) n) rows) (length-map checks when) (plan_within (map class flows) (map when checks) rows plan))

-- what holds of a value holds of what follows from it
pub if_ok : {A E : Type 0} (P Q : A → Type 0) (r : Result A E) → ((a : A) → P a → Q a) → IfOk r P → IfOk r Q
if_ok P Q (Ok a) leads holds = leads a holds
if_ok P Q (Err e) leads holds = tt

-- what each element of a list has, each of a longer one has, if the new one has it
pub All-more : {X : Type 0} (P : X → Type 0) (xs ys : List X) (x : X) → ys ≡ xs ++ x ∷ [] → All P xs → P x → All P ys
All-more P xs ys x e each one = rw e (All-push P xs x each one)
