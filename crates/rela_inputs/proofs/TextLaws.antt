-- What the text of an input gives, by what its decoder answers.
use Rattle.std.proofs.Common.{◌≡◌, ◌≢◌, ◌∙◌, ℕ, ◌⊎◌, inl, inr, true, List, [], ◌∷◌, Result, Ok, Err, refl, sym, ap, subst}
use Rattle.rela_json.specs.declared.error.LoadError.{LoadError}
use Rattle.rela_json.specs.declared.error.LoadError.TheVariants as load
use Rattle.rela_locations.specs.Load as locations
use Rattle.rela_locations.specs.Network.{Network}
use Rattle.rela_graph.specs.Topology.{Topology}
use Rattle.rela_snapshot.specs.FlowEntry.{ListedFlow}
use Rattle.rela_snapshot.specs.Flows.{IsFlowOf, AreFlowsOf}
use Rattle.rela_snapshot.specs.Listed.{Listed, IsGraphOf}
use Rattle.rela_snapshot.specs.Load as snapshot
use Rattle.rela_snapshot.specs.Steps.{IsAnswer}
use Rattle.rela_snapshot.specs.declared.snapshot.Flow.{Flow}
use Rattle.rela_tables.specs.Forwarding.{Forwarding}
use Rattle.rela_tables.specs.Load.{LoadTables}
use Rattle.rela_inputs.specs.Given.{Equals, Agrees, IsRead}
use Rattle.rela_inputs.specs.Halts.{load_halt, refused}
use Rattle.rela_inputs.specs.Inputs.{load_of, AreReadFlows, ReadsNetwork, ReadsFlows, ReadsTables}
use Rattle.rela_same_flows.specs.SameFlows.{SameGraph, SameFlow, SameFlows}
use Rattle.rela_inputs.specs.declared.reading.Halt.{Halt}
use Rattle.rela_inputs.specs.declared.refusal.Input.{Input}
use Rattle.rela_inputs.specs.declared.refusal.Input.TheVariants.{Locations}
use Rattle.rela_inputs.specs.declared.refusal.Reason.TheVariants.{Load}
use Rattle.rela_inputs.specs.declared.refusal.Refusal.{Refusal}
use Rattle.rela_inputs.proofs.GivenLaws.{value_read, refused_read, memory_read}

-- the refusal of an input for a fault of its text
abbrev of_text : Input → LoadError → Refusal
of_text input e = record { input = input; reason = Load e }

-- an error is want of memory, or a refusal
abbrev Halts : Input → LoadError → Type 0
Halts input e = (e ≡ load.Memory) ⊎ ((e ≢ load.Memory) × (load_halt input e ≡ refused input (Load e)))

load_halts : (input : Input) (e : LoadError) → Halts input e
load_halts input load.NotJson = inr (λ m. cc, refl)
load_halts input (load.WrongShape rule row) = inr (λ m. cc, refl)
load_halts input load.BadVersion = inr (λ m. cc, refl)
load_halts input (load.BadName row) = inr (λ m. cc, refl)
load_halts input (load.ReservedName row) = inr (λ m. cc, refl)
load_halts input (load.RepeatedEntry row) = inr (λ m. cc, refl)
load_halts input (load.UnknownLocation row) = inr (λ m. cc, refl)
load_halts input (load.BadIndex row) = inr (λ m. cc, refl)
load_halts input (load.BadPrefix row) = inr (λ m. cc, refl)
load_halts input (load.TooMany row) = inr (λ m. cc, refl)
load_halts input (load.UnknownNode row) = inr (λ m. cc, refl)
load_halts input load.Memory = inl refl

-- what a decoder refuses
load_refused : {A : Type 0} (Same : A → A → Type 0) (Steps : Result A Refusal → Type 0) (input : Input) (e : LoadError) (halt : Halt)
    → halt ≡ load_halt input e → (e ≢ load.Memory → Steps (Err (of_text input e)))
    → (e ≢ load.Memory → (x : Result A Refusal) → Steps x → x ≡ Err (of_text input e)) → IsRead Same Steps (Err halt)
load_refused {A} Same Steps input e halt is steps alone = by (load_halts input e)
  where
    by : Halts input e → IsRead Same Steps (Err halt)
    by (inl same) = memory_read Same Steps halt (is ∙ ap (load_halt input) same)
    by (inr real) = refused_read Same Steps halt (of_text input e) (is ∙ real.1) refl (steps real.0) (alone real.0)

pub network_read : (bytes : List ℕ) (network : Network) → locations.Load bytes ≡ Ok network → IsRead Equals (ReadsNetwork bytes) (Ok network)
network_read bytes network loads =
    let is = ap (load_of Locations) loads in
    value_read network (ReadsNetwork bytes) (sym is) (λ x steps. steps ∙ is)

pub network_refused : (bytes : List ℕ) (e : LoadError) (halt : Halt) → halt ≡ load_halt Locations e → (e ≢ load.Memory → locations.Load bytes ≡ Err e)
    → IsRead Equals (ReadsNetwork bytes) (Err halt)
network_refused bytes e halt is fault =
    load_refused Equals (ReadsNetwork bytes) Locations e halt is (λ real. sym (ap (load_of Locations) (fault real)))
    (λ real x steps. steps ∙ ap (load_of Locations) (fault real))

graph_same : (l : Listed) (g h : Topology) → IsGraphOf l g → IsGraphOf l h → SameGraph g h
graph_same l g h x y = record {
  nodes = x.nodes ∙ sym y.nodes;
  edges = λ a b. (λ e. (y.edges a b).1 ((x.edges a b).0 e), λ e. (x.edges a b).1 ((y.edges a b).0 e));
  starts = λ n. (λ e. (y.starts n).1 ((x.starts n).0 e), λ e. (x.starts n).1 ((y.starts n).0 e));
  delivered = λ n. (λ e. (y.delivered n).1 ((x.delivered n).0 e), λ e. (x.delivered n).1 ((y.delivered n).0 e));
  dropped = λ n. (λ e. (y.dropped n).1 ((x.dropped n).0 e), λ e. (x.dropped n).1 ((y.dropped n).0 e));
}

flow_same : (l : ListedFlow) (f g : Flow) → IsFlowOf l f → IsFlowOf l g → SameFlow f g
flow_same l f g x y = record { class = x.class ∙ sym y.class; graph = graph_same l.graph f.graph g.graph x.graph y.graph }

pub flows_same : (ls : List ListedFlow) (fs gs : List Flow) → AreFlowsOf ls fs → AreFlowsOf ls gs → SameFlows fs gs
flows_same [] [] [] x y = tt
flows_same [] [] (g ∷ gs) x y = absurd y
flows_same [] (f ∷ fs) gs x y = absurd x
flows_same (l ∷ ls) [] gs x y = absurd x
flows_same (l ∷ ls) (f ∷ fs) [] x y = absurd y
flows_same (l ∷ ls) (f ∷ fs) (g ∷ gs) x y = (flow_same l f g x.0 y.0, flows_same ls fs gs x.1 y.1)

flows_agree : (input : Input) (listed : List ListedFlow) (flows : List Flow) (x : Result (List Flow) Refusal) → AreFlowsOf listed flows
    → AreReadFlows input (Ok listed) x → Agrees true SameFlows (Ok flows) x
flows_agree input listed flows (Ok others) are read = flows_same listed flows others are read
flows_agree input listed flows (Err refusal) are read = absurd read

pub flows_read : (input : Input) (network : Network) (bytes : List ℕ) (flows : List Flow)
    → (listed : List ListedFlow) × IsAnswer (snapshot.Load network bytes) (Ok listed) × AreFlowsOf listed flows
    → IsRead SameFlows (ReadsFlows input network bytes) (Ok flows)
flows_read input network bytes flows loads = record {
  given = record {
    told_by = (Ok loads.0, loads.1.answers, loads.2);
    alone = λ t x steps. flows_agree input loads.0 flows x loads.2
        (subst (λ (y : Result (List ListedFlow) LoadError). AreReadFlows input y x) (loads.1.alone steps.0 steps.1) steps.2);
  };
  halts = tt;
}

flows_are_refused : (input : Input) (e : LoadError) (x : Result (List Flow) Refusal) → AreReadFlows input (Err e) x → x ≡ Err (of_text input e)
flows_are_refused input e (Ok flows) read = absurd read
flows_are_refused input e (Err refusal) read = ap (λ (r : Refusal). Err r) read

pub flows_refused : (input : Input) (network : Network) (bytes : List ℕ) (e : LoadError) (halt : Halt) → halt ≡ load_halt input e
    → (e ≢ load.Memory → IsAnswer (snapshot.Load network bytes) (Err e)) → IsRead SameFlows (ReadsFlows input network bytes) (Err halt)
flows_refused input network bytes e halt is fault =
    load_refused SameFlows (ReadsFlows input network bytes) input e halt is (λ real. (Err e, (fault real).answers, refl))
    (λ real x steps. flows_are_refused input e x
    (subst (λ (y : Result (List ListedFlow) LoadError). AreReadFlows input y x) ((fault real).alone steps.0 steps.1) steps.2))

pub tables_read : (input : Input) (network : Network) (bytes : List ℕ) (tables : Forwarding) → IsAnswer (LoadTables network bytes) (Ok tables)
    → IsRead Equals (ReadsTables input network bytes) (Ok tables)
tables_read input network bytes tables loads =
    value_read tables (ReadsTables input network bytes) (Ok tables, loads.answers, refl)
    (λ x steps. steps.2 ∙ ap (load_of input) (loads.alone steps.0 steps.1))

pub tables_refused : (input : Input) (network : Network) (bytes : List ℕ) (e : LoadError) (halt : Halt) → halt ≡ load_halt input e
    → (e ≢ load.Memory → IsAnswer (LoadTables network bytes) (Err e)) → IsRead Equals (ReadsTables input network bytes) (Err halt)
tables_refused input network bytes e halt is fault =
    load_refused Equals (ReadsTables input network bytes) input e halt is (λ real. (Err e, (fault real).answers, refl))
    (λ real x steps. steps.2 ∙ ap (load_of input) ((fault real).alone steps.0 steps.1))
