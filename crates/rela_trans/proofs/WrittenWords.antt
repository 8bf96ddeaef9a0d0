-- What an automaton reads that stands for what a transducer writes.
use Rattle.std.proofs.Common.{◌≡◌, ℕ, zero, suc, ◌<◌, ◌↔◌, Bool, true, false, if◌then◌else◌, List, [], ◌∷◌, ◌++◌, length, get_or, map, Option, None, Some, Result, Ok, Err, IfOk, refl, sym, ap, ◌∙◌, subst, inl, inr, arith}
use Rattle.std.specs.List.{All, Contains, list_any}
use Rattle.std.specs.Option.{option_to_list}
use Rattle.std.proofs.lemmas.Bool.{false≢true}
use Rattle.std.proofs.lemmas.List.{append-nil, length-map, map-append}
use Rattle.std.proofs.lemmas.List.Elements.{All-map, All-weaker, Contains-get_or, All-contains}
use Rattle.rela_labels.specs.Letters.{has}
use Rattle.rela_nfa.specs.Automaton.{Automaton, Move as Edge, IsAutomaton, IsMove as IsEdge, moves_of as edges_of, states}
use Rattle.rela_nfa.specs.Reading.{takes}
use Rattle.rela_nfa.specs.Runs.{Reach, Accepts, HasStep as HasEdge, StepIn as EdgeIn}
use Rattle.rela_trans.specs.Composition.{Covers}
use Rattle.rela_trans.specs.Images.{written_by, written_edges, IsWritten}
use Rattle.rela_trans.specs.Machine.{Machine, Kind, IsMachine, IsMove, IsSized, moves_of, machine_states}
use Rattle.rela_trans.specs.Runs.{Does, HasStep, ReachR, Relates}
use Rattle.rela_trans.specs.declared.moves.Move.{Move}
use Rattle.rela_trans.specs.declared.moves.MoveKind.TheVariants.{Silent, In, Out, Same}
use Rattle.rela_trans.proofs.Accessors.{moves_ok}
use Rattle.rela_trans.proofs.Edges.{step_edge, edge_step, word_start, word_step, word_each}
use Rattle.rela_trans.proofs.ListLaws.{in_flat_map, from_flat_map, Contains-nil, Contains-cons_cases}
use Rattle.rela_trans.proofs.MappedWords.{map_last, no_word}
use Rattle.rela_trans.proofs.Reaching.{reach_start, reach_step, reach_each}
use Rattle.rela_trans.proofs.SharedLetters.{some_letter, any_letter, has_below}

get_or-map_nil : {X Y : Type 0} (f : List X → List Y) → f [] ≡ [] → (xs : List (List X)) (k : ℕ) → get_or (map f xs) k [] ≡ f (get_or xs k [])
get_or-map_nil f nil [] k = sym nil
get_or-map_nil f nil (x ∷ xs) zero = refl
get_or-map_nil f nil (x ∷ xs) (suc k) = get_or-map_nil f nil xs k

-- ---- the edge of a move

only_option : {X : Type 0} (o : Option X) (x : X) → Contains (option_to_list o) x → o ≡ Some x
only_option None x among = absurd (Contains-nil x among)
only_option (Some y) x among = elim (Contains-cons_cases y [] x among) [ inl same ↦ ap Some same | inr none ↦ absurd (Contains-nil x none) ]

in_option : {X : Type 0} (o : Option X) (x : X) → o ≡ Some x → Contains (option_to_list o) x
in_option o x e = subst (λ p. Contains (option_to_list p) x) (sym e) (0, omega arith, refl)

if_some : {X : Type 0} (b : Bool) (x y : X) → (if b then Some x else None) ≡ Some y → (b ≡ true) × (x ≡ y)
if_some true x y e = let same : x ≡ y = cc in (refl, same)
if_some false x y e = cc

module _ (read : ℕ → ℕ) where
  -- what an edge reads can be written by its move
  module _ (letters : ℕ) (covers : Covers read letters) where
    silent_by : (kind : Kind) (to : ℕ) (edge : Edge) → IsSized letters kind → written_by kind to ≡ Some edge → takes edge.label None ≡ true
        → (to ≡ edge.to) × ((input : List ℕ) × Does read kind input [])
    silent_by Silent to edge sized e taken = let same : record { label = None; to = to } ≡ edge = cc in (ap (λ (m : Edge). m.to) same, ([], (refl, refl)))
    silent_by (In set) to edge sized e taken =
        let some = if_some (list_any (λ b. b) set) (record { label = None; to = to }) edge e in
        let letter = some_letter set some.0 in
        let symbol = covers letter.0 (omega (arith, has_below set letter.0 letter.1, sized)) in
        (ap (λ (m : Edge). m.to) some.1, (symbol.0 ∷ [], ((symbol.0, subst (λ k. has set k ≡ true) (sym symbol.1) letter.1, refl), refl)))
    silent_by (Out set) to edge sized e taken =
        let same : record { label = Some set; to = to } ≡ edge = cc in absurd (false≢true (subst (λ (m : Edge). takes m.label None ≡ true) (sym same) taken))
    silent_by (Same set) to edge sized e taken =
        let same : record { label = Some set; to = to } ≡ edge = cc in absurd (false≢true (subst (λ (m : Edge). takes m.label None ≡ true) (sym same) taken))

  letter_by : (kind : Kind) (to s : ℕ) (edge : Edge) → written_by kind to ≡ Some edge → takes edge.label (Some (read s)) ≡ true
      → (to ≡ edge.to) × ((input : List ℕ) × Does read kind input (s ∷ []))
  letter_by Silent to s edge e taken =
      let same : record { label = None; to = to } ≡ edge = cc in absurd (false≢true (subst (λ (m : Edge). takes m.label (Some (read s)) ≡ true) (sym same) taken))
  letter_by (In set) to s edge e taken =
      let some = if_some (list_any (λ b. b) set) (record { label = None; to = to }) edge e in
      absurd (false≢true (subst (λ (m : Edge). takes m.label (Some (read s)) ≡ true) (sym some.1) taken))
  letter_by (Out set) to s edge e taken =
      let same : record { label = Some set; to = to } ≡ edge = cc in
      let among : has set (read s) ≡ true = subst (λ (m : Edge). takes m.label (Some (read s)) ≡ true) (sym same) taken in
      (ap (λ (m : Edge). m.to) same, ([], (refl, (s, among, refl))))
  letter_by (Same set) to s edge e taken =
      let same : record { label = Some set; to = to } ≡ edge = cc in
      let among : has set (read s) ≡ true = subst (λ (m : Edge). takes m.label (Some (read s)) ≡ true) (sym same) taken in
      (ap (λ (m : Edge). m.to) same, (s ∷ [], ((s, among, refl), refl)))

  -- what a move writes can be read by its edge
  edge_by : (kind : Kind) (to : ℕ) (input output : List ℕ) → Does read kind input output
      → (edge : Edge) × (letter : Option ℕ) × (written_by kind to ≡ Some edge) × (edge.to ≡ to) × (takes edge.label letter ≡ true) × (option_to_list letter ≡ map read output)
  edge_by Silent to input output does = (record { label = None; to = to }, None, refl, refl, refl, ap (λ w. map read w) (sym does.1))
  edge_by (In set) to input output does =
      let edge : Edge = record { label = None; to = to } in
      let some : Option Edge = Some edge in
      (edge, None, ap (λ b. if b then some else None) (any_letter set (read does.0.0) does.0.1), refl, refl, ap (λ w. map read w) (sym does.1))
  edge_by (Out set) to input output does = (record { label = Some set; to = to }, Some (read does.1.0), refl, refl, does.1.1, ap (λ w. map read w) (sym does.1.2))
  edge_by (Same set) to input output does =
      (record { label = Some set; to = to }, Some (read does.0.0), refl, refl, does.0.1, ap (λ w. map read w) (sym (does.1 ∙ does.0.2)))

-- ---- an edge has one boolean for each letter, and leads to a state

edge_ok : (letters n : ℕ) (kind : Kind) (to : ℕ) (edge : Edge) → IsSized letters kind → to < n → written_by kind to ≡ Some edge → IsEdge letters n edge
edge_ok letters n Silent to edge sized leads e =
    let same : record { label = None; to = to } ≡ edge = cc in
    subst (IsEdge letters n) same (record { sized = λ set is. cc; leads = leads })
edge_ok letters n (In set) to edge sized leads e =
    subst (IsEdge letters n) (if_some (list_any (λ b. b) set) (record { label = None; to = to }) edge e).1 (record { sized = λ set is. cc; leads = leads })
edge_ok letters n (Out set) to edge sized leads e =
    let same : record { label = Some set; to = to } ≡ edge = cc in
    subst (IsEdge letters n) same (record { sized = λ other is. let equal : set ≡ other = cc in ap length (sym equal) ∙ sized; leads = leads })
edge_ok letters n (Same set) to edge sized leads e =
    let same : record { label = Some set; to = to } ≡ edge = cc in
    subst (IsEdge letters n) same (record { sized = λ other is. let equal : set ≡ other = cc in ap length (sym equal) ∙ sized; leads = leads })

edges_ok : (letters n : ℕ) (moves : List (Move (List Bool))) → All (IsMove letters n) moves → All (IsEdge letters n) (written_edges moves)
edges_ok letters n moves ok k d below =
    let edge : Edge = get_or (written_edges moves) k d in
    let found = from_flat_map (λ m. option_to_list (written_by m.kind m.to)) moves edge (Contains-get_or (written_edges moves) k d below) in
    let move = All-contains (IsMove letters n) moves found.0 ok found.1 in
    edge_ok letters n found.0.kind found.0.to edge move.sized move.leads (only_option (written_by found.0.kind found.0.to) edge found.2)

module _ (t : Machine) (r : Automaton) (built : IsWritten t r) (ok : IsMachine t) where
  pub written_states : states r ≡ machine_states t
  written_states = ap length built.finals

  pub written_ok : IsAutomaton r
  written_ok = record {
    each = ap length built.edges ∙ length-map t.moves written_edges ∙ ok.each ∙ sym written_states;
    starts = omega (arith, ok.starts, written_states, built.start);
    moves =
        subst (λ l. All (All (IsEdge r.letters (states r))) l) (sym built.edges)
        (All-map (All (IsEdge r.letters (states r))) written_edges t.moves
        (All-weaker (All (IsMove t.letters (machine_states t))) (λ l. All (IsEdge r.letters (states r)) (written_edges l))
        (λ l each. subst (λ n. All (IsEdge n (states r)) (written_edges l)) (sym built.letters)
        (subst (λ n. All (IsEdge t.letters n) (written_edges l)) (sym written_states) (edges_ok t.letters (machine_states t) l each))) t.moves ok.moves));
  }

  edges_at : (p : ℕ) → edges_of r p ≡ written_edges (moves_of t p)
  edges_at p = ap (λ l. get_or l p []) built.edges ∙ get_or-map_nil written_edges refl t.moves p

  module _ (read : ℕ → ℕ) (covers : Covers read t.letters) where
    -- the move of an edge that is taken
    behind : (p q : ℕ) (letter : Option ℕ) → HasEdge r p letter q
        → (m : Move (List Bool)) × (edge : Edge) × Contains (moves_of t p) m × (written_by m.kind m.to ≡ Some edge) × (edge.to ≡ q) × (takes edge.label letter ≡ true)
    behind p q letter step =
        let edge = step_edge (edges_of r p) letter q step in
        let found = from_flat_map (λ m. option_to_list (written_by m.kind m.to)) (moves_of t p) edge.0 (subst (λ l. Contains l edge.0) (edges_at p) edge.1) in
        (found.0, edge.0, found.1, only_option (written_by found.0.kind found.0.to) edge.0 found.2, edge.2, edge.3)

    silent_back : (p q : ℕ) → HasEdge r p None q → (input : List ℕ) × HasStep read t p input [] q
    silent_back p q step =
        let m = behind p q None step in
        let size = (All-contains (IsMove t.letters (machine_states t)) (moves_of t p) m.0 (moves_ok t ok p) m.2).sized in
        let by = silent_by read t.letters covers m.0.kind m.0.to m.1 size m.3 m.5 in
        (by.1.0, subst (λ n. HasStep read t p by.1.0 [] n) (by.0 ∙ m.4) (m.0.kind, m.2, by.1.1))

    letter_back : (p q s : ℕ) → HasEdge r p (Some (read s)) q → (input : List ℕ) × HasStep read t p input (s ∷ []) q
    letter_back p q s step =
        let m = behind p q (Some (read s)) step in
        let by = letter_by read m.0.kind m.0.to s m.1 m.3 m.5 in
        (by.1.0, subst (λ n. HasStep read t p by.1.0 (s ∷ []) n) (by.0 ∙ m.4) (m.0.kind, m.2, by.1.1))

    edge_on : (p q : ℕ) (input output : List ℕ) → HasStep read t p input output q → (letter : Option ℕ) × HasEdge r p letter q × (option_to_list letter ≡ map read output)
    edge_on p q input output step =
        let m : Move (List Bool) = record { kind = step.0; to = q } in
        let by = edge_by read step.0 q input output step.2 in (
          by.1,
          subst (λ l. EdgeIn l by.1 q) (sym (edges_at p))
              (subst (λ n. EdgeIn (written_edges (moves_of t p)) by.1 n) by.3
              (edge_step (written_edges (moves_of t p)) by.1 by.0 (in_flat_map (λ n. option_to_list (written_by n.kind n.to)) (moves_of t p) m by.0 step.1 (in_option (written_by step.0 q) by.0 by.2)) by.4)),
          by.5,
        )

    abbrev Written : ℕ → List ℕ → Type 0
    Written q v = (u : List ℕ) × ReachR read t q u v

    back : (q : ℕ) (w : List ℕ) → Reach r q w → (v : List ℕ) → w ≡ map read v → Written q v
    back =
        word_each r (λ q w. (v : List ℕ) → w ≡ map read v → Written q v) (λ p q letter w reads there step. one p q letter w there step)
        (λ v nil. subst (λ n. Written n v) (sym built.start) (subst (λ z. Written t.start z) (sym (no_word read v nil)) ([], reach_start read t)))
      where
        one : (p q : ℕ) (letter : Option ℕ) (w : List ℕ) → ((v : List ℕ) → w ≡ map read v → Written p v) → HasEdge r p letter q
            → (v : List ℕ) → w ++ option_to_list letter ≡ map read v → Written q v
        one p q None w there step v same =
            let before = there v (sym (append-nil w) ∙ same) in
            let move = silent_back p q step in
            (before.0 ++ move.0, subst (λ z. ReachR read t q (before.0 ++ move.0) z) (append-nil v) (reach_step read t p q before.0 v move.0 [] before.1 move.1))
        one p q (Some k) w there step v same =
            let last = map_last read v w k same in
            let before = there last.0 last.3 in
            let move = letter_back p q last.1 (subst (λ j. HasEdge r p (Some j) q) last.4 step) in
            (before.0 ++ move.0, subst (λ z. ReachR read t q (before.0 ++ move.0) z) (sym last.2) (reach_step read t p q before.0 last.0 move.0 (last.1 ∷ []) before.1 move.1))

    on : (q : ℕ) (u v : List ℕ) → ReachR read t q u v → Reach r q (map read v)
    on =
        reach_each read t (λ q u v. Reach r q (map read v))
        (λ p q u v input output reach here step.
        let edge = edge_on p q input output step in
        subst (λ w. Reach r q w) (ap (λ l. map read v ++ l) edge.2 ∙ sym (map-append read v output)) (word_step r p q edge.0 (map read v) here edge.1))
        (subst (λ n. Reach r n []) built.start (word_start r))

    pub written_reached : (q : ℕ) (v : List ℕ) → Reach r q (map read v) ↔ ((u : List ℕ) × ReachR read t q u v)
    written_reached q v = (λ reach. back q (map read v) reach v refl, λ (u, reach). on q u v reach)

    pub written_language : (v : List ℕ) → Accepts r (map read v) ↔ ((u : List ℕ) × Relates read t u v)
    written_language v = (
      λ (q, reach, final). let written = back q (map read v) reach v refl in (written.0, (q, written.1, ap (λ l. get_or l q false) (sym built.finals) ∙ final)),
      λ (u, (q, reach, final)). (q, on q u v reach, ap (λ l. get_or l q false) built.finals ∙ final),
    )

-- an automaton of these parts
pub from_its_parts : {E : Type 0} (t : Machine) (result : Result Automaton E) → IfOk result (λ r. r.letters ≡ t.letters) → IfOk result (λ r. r.start ≡ t.start)
    → IfOk result (λ r. r.finals ≡ t.finals) → IfOk result (λ r. r.edges ≡ map written_edges t.moves) → IfOk result (λ r. IsWritten t r)
from_its_parts t (Ok r) letters start finals edges = record { letters = letters; start = start; finals = finals; edges = edges }
from_its_parts t (Err e) letters start finals edges = tt
