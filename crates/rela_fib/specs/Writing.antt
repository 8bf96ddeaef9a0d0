-- The pieces in which the text is written. Only the crate's private clauses cite it.
use Rattle.std.specs.Prelude.{◌≡◌, ℕ, ◌<◌, ◌≤◌, ◌⊎◌, Bool, true, false, List, [], ◌∷◌, ◌++◌, Option, Some, codes, decimal, drop, length, map, slice_get}
use Rattle.std.specs.List.{All, Contains}
use Rattle.serde_json.specs.Data.{Data, string}
use Rattle.serde_json.specs.Written.{comma_if, compact_text}
use Rattle.rela_flows.specs.Notation.{text_of}
use Rattle.rela_flows.specs.declared.prefix.Ipv4Prefix.{Ipv4Prefix}
use Rattle.rela_flows.specs.declared.prefix.Prefix.TheVariants.{V4}
use Rattle.rela_fib.specs.Graph.{Graph}
use Rattle.rela_fib.specs.Snapshot.{classes_of}
use Rattle.rela_fib.specs.Steps.{AreStepsAt, AreStepsWith, AreWithin, graph_of}
use Rattle.rela_fib.specs.Text.{Flow, edge_data, list_data, number_data, numbers_data}
use Rattle.rela_fib.specs.declared.devices.Devices.{Devices}
use Rattle.rela_fib.specs.declared.drawing.Drawing.{Drawing}
use Rattle.rela_fib.specs.declared.graph.GraphText.{GraphText}
use Rattle.rela_fib.specs.declared.numerals.Numeral.{Numeral}
use Rattle.rela_fib.specs.declared.step.Step.{Step}

-- a string that needs no escapes
abbrev pub plain_text : List ℕ → List ℕ
plain_text s = 34 ∷ (s ++ 34 ∷ [])

-- the name of a member, with its colon
abbrev pub key_text : Bool → List ℕ → List ℕ
key_text later name = comma_if later ++ (34 ∷ (name ++ 34 ∷ 58 ∷ []))

-- the texts with a comma between two, and one before the first where something stands before
abbrev pub commas : Bool → List (List ℕ) → List ℕ
commas later [] = []
commas later (t ∷ ts) = comma_if later ++ (t ++ commas true ts)

-- the entries of an array, each with a comma before it
abbrev pub entries_text : {A : Type 0} → (A → Data) → List A → List ℕ
entries_text data_of xs = commas true (map (λ x. compact_text (data_of x)) xs)

-- the array of such entries, of which the first keeps no comma
abbrev pub array_text : List ℕ → List ℕ
array_text entries = 91 ∷ (drop 1 entries ++ 93 ∷ [])

-- the number as an entry, and how an edge from it begins and one to it ends
pub record IsNumeral (k : ℕ) (numeral : Numeral) : Type 0 where
  pub entry : numeral.entry.items ≡ 44 ∷ decimal k
  pub opening : numeral.opening.items ≡ 44 ∷ 91 ∷ decimal k
  pub closing : numeral.closing.items ≡ 44 ∷ (decimal k ++ 93 ∷ [])

abbrev pub AreNumerals : List Numeral → Type 0
AreNumerals numerals = (k : ℕ) (numeral : Numeral) → slice_get numerals k ≡ Some numeral →
    IsNumeral k numeral

-- the text has the entries of the graph's arrays
pub record IsTextOf (graph : Graph) (text : GraphText) : Type 0 where
  pub edges : text.edges.items ≡ entries_text edge_data graph.edges
  pub delivered : text.delivered.items ≡ entries_text number_data graph.delivered
  pub dropped : text.dropped.items ≡ entries_text number_data graph.dropped

-- a flow up to its edges, from the arrays of the nodes that deliver and that drop
abbrev pub ends_text : List ℕ → List ℕ → List ℕ
ends_text delivered dropped = 123 ∷ (key_text false (codes "delivered") ++ (delivered
    ++ (key_text true (codes "dropped") ++ dropped)))

-- the class, and the array of the edges
abbrev pub middle_text : Ipv4Prefix → List ℕ → List ℕ
middle_text class edges =
    key_text true (codes "dst") ++ (plain_text (text_of (V4 class))
    ++ (key_text true (codes "edges") ++ (edges
    ++ (key_text true (codes "name") ++ plain_text (text_of (V4 class))))))

-- the nodes and the starts, which end each flow
abbrev pub end_text : List (List ℕ) → List ℕ → List ℕ
end_text names starts =
    key_text true (codes "nodes") ++ (compact_text (list_data string names)
    ++ (key_text true (codes "starts") ++ (compact_text (numbers_data starts) ++ 125 ∷ [])))

abbrev pub flow_text : List ℕ → Flow → List ℕ
flow_text end flow =
    ends_text (compact_text (numbers_data flow.graph.delivered))
    (compact_text (numbers_data flow.graph.dropped))
    ++ (middle_text flow.class (compact_text (list_data edge_data flow.graph.edges)) ++ end)

-- the same, from the text of the graph
abbrev pub drawn_flow : List ℕ → Ipv4Prefix → GraphText → List ℕ
drawn_flow end class text =
    ends_text (array_text text.delivered.items) (array_text text.dropped.items)
    ++ (middle_text class (array_text text.edges.items) ++ end)

-- what stands before the flows, and behind them
abbrev pub head_text : List ℕ
head_text = 123 ∷ (key_text false (codes "flows") ++ 91 ∷ [])

abbrev pub tail_text : List ℕ
tail_text = 93 ∷ (key_text true (codes "version") ++ 49 ∷ 125 ∷ 10 ∷ [])

abbrev pub whole_text : List ℕ → List Flow → List ℕ
whole_text end flows = head_text ++ (commas false (map (flow_text end) flows) ++ tail_text)

-- nothing is added to a text that is too long
pub record IsAdded (old more new : List ℕ) : Type 0 where
  pub long : 33554432 < length old → new ≡ old
  pub short : length old ≤ 33554432 → new ≡ old ++ more

-- the text is the whole, or it is too long and the whole is no shorter
abbrev pub IsUpTo : List ℕ → List ℕ → Type 0
IsUpTo whole text = (text ≡ whole) ⊎ ((33554432 < length text) × (length text ≤ length whole))

-- the graph is the one of what the devices do with the packets to the class
pub record IsSteppedFlow (d : Devices) (flow : Flow) : Type 0 where
  pub steps : List Step
  pub steps_are : AreStepsAt d flow.class.address steps
  pub graph_is : flow.graph ≡ graph_of steps
  pub few : length flow.graph.edges ≤ 100000

pub record HasManySteps (d : Devices) (class : Ipv4Prefix) : Type 0 where
  pub steps : List Step
  pub steps_are : AreStepsAt d class.address steps
  pub many : 100000 < length (graph_of steps).edges

-- the graph where the devices make these choices has more than 100,000 edges
pub record AreManySteps (d : Devices) (choices : List (Option ℕ)) : Type 0 where
  pub steps : List Step
  pub steps_are : AreStepsWith d choices steps
  pub many : 100000 < length (graph_of steps).edges

-- the text is that of the graph where the devices make these choices
pub record IsDrawnBy (d : Devices) (choices : List (Option ℕ)) (text : GraphText) : Type 0 where
  pub steps : List Step
  pub steps_are : AreStepsWith d choices steps
  pub few : length (graph_of steps).edges ≤ 100000
  pub text_is : IsTextOf (graph_of steps) text

-- each choice is one that its device can make, and the text is theirs once it is drawn
pub record IsDrawing (d : Devices) (drawing : Drawing) : Type 0 where
  pub numerals : AreNumerals drawing.numerals.items
  pub within : AreWithin d.devices.items drawing.choices.items
  pub drawn : drawing.is_drawn ≡ true → IsDrawnBy d drawing.choices.items drawing.graph

pub record HasManyStepsIn (d : Devices) (classes : List Ipv4Prefix) : Type 0 where
  pub class : Ipv4Prefix
  pub listed : Contains classes class
  pub many : HasManySteps d class

-- the flow of a class goes to the text
pub record AddsFlow (d : Devices) (end : List ℕ) (class : Ipv4Prefix) (later : Bool)
    (old new : List ℕ) : Type 0 where
  pub flow : Flow
  pub class_is : flow.class ≡ class
  pub stepped : IsSteppedFlow d flow
  pub added : IsAdded old (comma_if later ++ flow_text end flow) new

-- the flows of these classes
pub record AreFlowsOf (d : Devices) (classes : List Ipv4Prefix) (flows : List Flow) : Type 0 where
  pub classes_are : classes_of flows ≡ classes
  pub stepped : All (IsSteppedFlow d) flows

-- they go to the text
pub record AddsFlows (d : Devices) (end : List ℕ) (classes : List Ipv4Prefix)
    (old new : List ℕ) : Type 0 where
  pub flows : List Flow
  pub flows_are : AreFlowsOf d classes flows
  pub added : IsUpTo (old ++ commas false (map (flow_text end) flows)) new

-- the text is that of the flows of these classes
pub record IsWhole (d : Devices) (end : List ℕ) (classes : List Ipv4Prefix)
    (text : List ℕ) : Type 0 where
  pub flows : List Flow
  pub flows_are : AreFlowsOf d classes flows
  pub text_is : text ≡ whole_text end flows
  pub short : length text ≤ 33554432

-- that text would be too long
pub record IsWholeTooLong (d : Devices) (end : List ℕ) (classes : List Ipv4Prefix) : Type 0 where
  pub flows : List Flow
  pub flows_are : AreFlowsOf d classes flows
  pub long : 33554432 < length (whole_text end flows)
