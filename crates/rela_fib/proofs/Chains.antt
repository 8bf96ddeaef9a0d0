-- Pieces that are put behind one another, and the flow of a class.
use Rattle.std.proofs.Common.{◌≡◌, ◌∙◌, refl, sym, ap, ℕ, ◌<◌, ◌≤◌, Bool, false, ltb-false, List, [], ◌∷◌, ◌++◌, length, append_assoc, arith}
use Rattle.std.specs.Prelude.{nat_lt, get_or, Option, Result, Ok, Err, IfOk, OnOk}
use Rattle.std.proofs.lemmas.List.{get_or-map}
use Rattle.json.specs.Print.{escape}
use Rattle.rela_names.specs.declared.level.Level.TheVariants.{Interface}
use Rattle.rela_locations.specs.Network.{Network, alphabet_of, name_of}
use Rattle.serde_json.specs.Data.{string}
use Rattle.serde_json.specs.Written.{comma_if, compact_text}
use Rattle.rela_flows.specs.declared.prefix.Ipv4Prefix.{Ipv4Prefix}
use Rattle.rela_fib.specs.Graph.{Graph}
use Rattle.rela_fib.specs.Steps.{AreChoices, AreStepsWith, graph_of}
use Rattle.rela_fib.specs.Text.{Flow, edge_data, list_data, names_of, number_data, numbers_data}
use Rattle.rela_fib.specs.Writing.{AddsFlow, AreManySteps, HasManySteps, IsDrawnBy, IsTextOf, array_text, drawn_flow, ends_text, flow_text, middle_text, plain_text}
use Rattle.rela_fib.specs.declared.devices.Devices.{Devices}
use Rattle.rela_fib.specs.declared.graph.GraphText.{GraphText}
use Rattle.rela_fib.specs.declared.step.Step.{Step}
use Rattle.rela_fib.proofs.Arrays.{array_is}
use Rattle.rela_fib.proofs.Steps.{steps_chosen}

pub append2 : (t0 t1 t2 a b : List ℕ) → t1 ≡ t0 ++ a → t2 ≡ t1 ++ b → t2 ≡ t0 ++ (a ++ b)
append2 t0 t1 t2 a b one two = two ∙ ap (λ (t : List ℕ). t ++ b) one ∙ append_assoc t0 a b

-- ---- the flow of a class

pub flow_skipped : (d : Devices) (end : List ℕ) (class : Ipv4Prefix) (later : Bool) (text : List ℕ) (choices : List (Option ℕ)) (steps : List Step) → AreChoices d.devices.items class.address choices → AreStepsWith d choices steps → length (graph_of steps).edges ≤ 100000
    → 33554432 < length text → AddsFlow d end class later text text
flow_skipped d end class later text choices steps chosen are few long = record {
  flow = record { class = class; graph = graph_of steps };
  class_is = refl;
  stepped = record { steps = steps; steps_are = steps_chosen d class.address choices steps chosen are; graph_is = refl; few = few };
  added = record { long = λ _. refl; short = λ short. absurd (omega (arith, long, short)) };
}

flow_is : (end : List ℕ) (class : Ipv4Prefix) (graph : Graph) (text : GraphText) → IsTextOf graph text → drawn_flow end class text ≡ flow_text end (record { class = class; graph = graph })
flow_is end class graph text is =
    let delivered : array_text text.delivered.items ≡ compact_text (numbers_data graph.delivered) = ap array_text is.delivered ∙ array_is number_data graph.delivered in
    let dropped : array_text text.dropped.items ≡ compact_text (numbers_data graph.dropped) = ap array_text is.dropped ∙ array_is number_data graph.dropped in
    let edges : array_text text.edges.items ≡ compact_text (list_data edge_data graph.edges) = ap array_text is.edges ∙ array_is edge_data graph.edges in
    ap (λ (s : List ℕ). ends_text s (array_text text.dropped.items) ++ (middle_text class (array_text text.edges.items) ++ end)) delivered
    ∙ ap (λ (s : List ℕ). ends_text (compact_text (numbers_data graph.delivered)) s ++ (middle_text class (array_text text.edges.items) ++ end)) dropped
    ∙ ap (λ (s : List ℕ). ends_text (compact_text (numbers_data graph.delivered)) (compact_text (numbers_data graph.dropped)) ++ (middle_text class s ++ end)) edges

pub flow_added : (d : Devices) (end : List ℕ) (class : Ipv4Prefix) (later : Bool) (text comma new : List ℕ) (choices : List (Option ℕ)) (graph : GraphText) → AreChoices d.devices.items class.address choices → IsDrawnBy d choices graph → length text ≤ 33554432 → comma ≡ text ++ comma_if later
    → new ≡ comma ++ drawn_flow end class graph → AddsFlow d end class later text new
flow_added d end class later text comma new choices graph chosen is short one two =
    let flow : Flow = record { class = class; graph = graph_of is.steps } in
    record {
      flow = flow;
      class_is = refl;
      stepped = record { steps = is.steps; steps_are = steps_chosen d class.address choices is.steps chosen is.steps_are; graph_is = refl; few = is.few };
      added = record {
        long = λ long. absurd (omega (arith, long, short));
        short = λ _. append2 text comma new (comma_if later) (flow_text end flow) one (two ∙ ap (λ (s : List ℕ). comma ++ s) (flow_is end class (graph_of is.steps) graph is.text_is));
      };
    }

pub too_many_steps : (d : Devices) (class : Ipv4Prefix) (choices : List (Option ℕ)) → AreChoices d.devices.items class.address choices → AreManySteps d choices → HasManySteps d class
too_many_steps d class choices chosen is = record { steps = is.steps; steps_are = steps_chosen d class.address choices is.steps chosen is.steps_are; many = is.many }

pub are_few : (steps : List Step) → nat_lt 100000 (length (graph_of steps).edges) ≡ false → length (graph_of steps).edges ≤ 100000
are_few steps few = ltb-false 100000 (length (graph_of steps).edges) few

-- ---- the name of a node

pub name_entry : (network : Network) (nodes : List ℕ) (i : ℕ) (s : List ℕ) (names : List (List ℕ)) → i < length nodes → names ≡ alphabet_of Interface network → s ≡ get_or names (get_or nodes i 0) [] → escape s ≡ s → plain_text s ≡ compact_text (string (get_or (names_of network nodes) i []))
name_entry network nodes i s names lt known is plain =
    let same : s ≡ get_or (names_of network nodes) i [] = is ∙ ap (λ (ns : List (List ℕ)). get_or ns (get_or nodes i 0) []) known ∙ sym (get_or-map (name_of Interface network) nodes i 0 [] lt) in
    ap (λ (t : List ℕ). 34 ∷ (t ++ 34 ∷ [])) (sym plain ∙ ap escape same)

-- ---- results

pub if_ok_weaker : {T E : Type 0} (r : Result T E) (P Q : T → Type 0) → ((t : T) → P t → Q t) → IfOk r P → IfOk r Q
if_ok_weaker (Ok x) P Q f h = f x h
if_ok_weaker (Err e) P Q f h = tt

pub on_ok_from : {T E : Type 0} (r : Result T E) (P : T → Type 0) (Q : Type 0) → ((t : T) → P t → Q) → IfOk r P → OnOk r Q
on_ok_from (Ok x) P Q f h = f x h
on_ok_from (Err e) P Q f h = tt
