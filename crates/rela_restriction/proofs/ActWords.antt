-- What the automaton of the acts of a transducer accepts.
use Rattle.std.proofs.Common.{◌≡◌, ℕ, ◌+◌, ◌<◌, Bool, true, false, List, [], ◌∷◌, ◌++◌, length, get_or, map, Option, None, Some, inl, inr, refl, sym, ap, ◌∙◌, subst, arith}
use Rattle.std.specs.List.{All, Contains, range_with_len}
use Rattle.std.specs.Option.{ForSome, option_to_list}
use Rattle.std.proofs.lemmas.Bool.{cases_lt, false≢true}
use Rattle.std.proofs.lemmas.List.{get_or_past}
use Rattle.std.proofs.lemmas.List.Elements.{All-nil, All-cons, All-head, All-tail, All-map, All-contains}
use Rattle.std.proofs.lemmas.List.FromFn.{get_or-map-range_with_len, length-map-range_with_len}
use Rattle.std.proofs.lemmas.Option.{none-some, same_Some}
use Rattle.rela_labels.specs.Letters.{has}
use Rattle.rela_nfa.specs.Automaton.{Automaton, IsAutomaton, IsMove as IsEdge, Move as Edge, moves_of as edges_of}
use Rattle.rela_nfa.specs.Runs.{Step as Taken, HasStep as HasEdge, Follow as Along, spelled, Accepts}
use Rattle.rela_trans.specs.Machine.{Machine, Kind, IsMachine, IsMove, IsSized, machine_states, moves_of}
use Rattle.rela_trans.specs.Runs.{Does, Step, HasStep, Follow, inputs, outputs, Relates}
use Rattle.rela_trans.specs.declared.moves.Move.{Move}
use Rattle.rela_trans.specs.declared.moves.MoveKind.TheVariants.{Silent, In, Out, Same}
use Rattle.rela_restriction.specs.Acts.{Act, Reads, Writes, Keeps, symbol_of, act_letter, act_letters, AreOfLetters, input_of, output_of}
use Rattle.rela_restriction.specs.Automata.{act_count, moved, act_label, act_edge, act_edges, act_automaton}
use Rattle.rela_restriction.proofs.MappedMembers.{Contains-map, Contains-map_back}
use Rattle.rela_restriction.proofs.MovedSets.{moved_length, moved_on, moved_back}

-- ---- the automaton is one

moved_sized : (n by : ℕ) (set : List Bool) → ForSome (Some (moved (act_count n) by set)) (λ label. length label ≡ act_count n)
moved_sized n by set label is = ap length (sym (same_Some (moved (act_count n) by set) label is)) ∙ moved_length (act_count n) by set

label_sized : (n : ℕ) (kind : Kind) → ForSome (act_label n kind) (λ set. length set ≡ act_count n)
label_sized n Silent label is = absurd (none-some label is)
label_sized n (In set) label is = moved_sized n 0 set label is
label_sized n (Out set) label is = moved_sized n n set label is
label_sized n (Same set) label is = moved_sized n (n + n) set label is

module _ (t : Machine) (ok : IsMachine t) where
  pub same_edges : (p : ℕ) → edges_of (act_automaton t) p ≡ act_edges t p
  same_edges p = elim (cases_lt p (machine_states t)) [
    | inl below ↦ get_or-map-range_with_len (act_edges t) 0 (machine_states t) p p [] below (omega arith)
    | inr past ↦
        get_or_past (map (act_edges t) (range_with_len 0 (machine_states t))) p [] (omega (arith, past, length-map-range_with_len (act_edges t) 0 (machine_states t)))
        ∙ sym (ap (map (act_edge t.letters)) (get_or_past t.moves p [] (omega (arith, past, ok.each))))
  ]

  moves_ok : (p : ℕ) → All (IsMove t.letters (machine_states t)) (moves_of t p)
  moves_ok p = elim (cases_lt p (machine_states t)) [
    | inl below ↦ ok.moves p [] (omega (arith, below, ok.each))
    | inr past ↦ subst (λ l. All (IsMove t.letters (machine_states t)) l) (sym (get_or_past t.moves p [] (omega (arith, past, ok.each)))) (All-nil (IsMove t.letters (machine_states t)))
  ]

  edge_ok : (m : Move (List Bool)) → IsMove t.letters (machine_states t) m → IsEdge (act_count t.letters) (machine_states t) (act_edge t.letters m)
  edge_ok m is = record { sized = label_sized t.letters m.kind; leads = is.leads }

  edges_ok : (p : ℕ) → All (IsEdge (act_count t.letters) (machine_states t)) (act_edges t p)
  edges_ok p =
      All-map (IsEdge (act_count t.letters) (machine_states t)) (act_edge t.letters) (moves_of t p)
      (λ k d below. edge_ok (get_or (moves_of t p) k d) (moves_ok p k d below))

  pub acting_ok : IsAutomaton (act_automaton t)
  acting_ok = record {
    each = length-map-range_with_len (act_edges t) 0 (machine_states t);
    starts = ok.starts;
    moves =
        All-map (All (IsEdge (act_count t.letters) (machine_states t))) (act_edges t) (range_with_len 0 (machine_states t))
        (λ k d below. edges_ok (get_or (range_with_len 0 (machine_states t)) k d));
  }

-- an automaton of these parts is the automaton of the acts
pub same_parts : (t : Machine) (a : Automaton) → a.letters ≡ act_count t.letters → a.start ≡ t.start → a.finals ≡ t.finals
    → a.edges ≡ map (act_edges t) (range_with_len 0 (machine_states t)) → a ≡ act_automaton t
same_parts t a letters start finals edges = λ i. record { letters = letters i; start = start i; finals = finals i; edges = edges i }

-- ---- acts in turn

input_cons : (act : Act) (acts : List Act) → input_of (act ∷ acts) ≡ input_of (act ∷ []) ++ input_of acts
input_cons (Reads s) acts = refl
input_cons (Writes s) acts = refl
input_cons (Keeps s) acts = refl

output_cons : (act : Act) (acts : List Act) → output_of (act ∷ acts) ≡ output_of (act ∷ []) ++ output_of acts
output_cons (Reads s) acts = refl
output_cons (Writes s) acts = refl
output_cons (Keeps s) acts = refl

joined : {x x' y y' : List ℕ} → x ≡ x' → y ≡ y' → x ++ y ≡ x' ++ y'
joined {x} {x'} {y} {y'} e f = ap (λ l. l ++ y) e ∙ ap (λ l. x' ++ l) f

module _ (read : ℕ → ℕ) (t : Machine) (ok : IsMachine t) where
  -- what a step of the transducer does
  data Done (p q : ℕ) (input output : List ℕ) : Type 0 where
    Nothing : input ≡ [] → output ≡ [] → HasEdge (act_automaton t) p None q → Done p q input output
    One : (act : Act) → input ≡ input_of (act ∷ []) → output ≡ output_of (act ∷ []) → read (symbol_of act) < t.letters
        → HasEdge (act_automaton t) p (Some (act_letter read t.letters act)) q → Done p q input output

  among_edges : (p q : ℕ) (kind : Kind) → Contains (moves_of t p) (record { kind = kind; to = q })
      → Contains (edges_of (act_automaton t) p) (record { label = act_label t.letters kind; to = q })
  among_edges p q kind among =
      subst (λ l. Contains l (record { label = act_label t.letters kind; to = q })) (sym (same_edges t ok p))
      (Contains-map (act_edge t.letters) (moves_of t p) (record { kind = kind; to = q }) among)

  move_sized : (p q : ℕ) (kind : Kind) → Contains (moves_of t p) (record { kind = kind; to = q }) → IsSized t.letters kind
  move_sized p q kind among =
      let is : IsMove t.letters (machine_states t) (record { kind = kind; to = q }) = All-contains (IsMove t.letters (machine_states t)) (moves_of t p) (record { kind = kind; to = q }) (moves_ok t ok p) among in
      is.sized

  has_below : (set : List Bool) (k : ℕ) → length set ≡ t.letters → has set k ≡ true → k < t.letters
  has_below set k sized among = elim (cases_lt k t.letters) [
    | inl below ↦ below
    | inr past ↦ absurd (false≢true (sym (get_or_past set k false (omega (arith, past, sized))) ∙ among))
  ]

  done : (p q : ℕ) (input output : List ℕ) → HasStep read t p input output q → Done p q input output
  done p q input output (Silent, among, does) = Nothing does.0 does.1 (among_edges p q Silent among)
  done p q input output (In set, among, ((s, in_set, is), none)) =
      let below = has_below set (read s) (move_sized p q (In set) among) in_set in
      let at : 0 + read s ≡ read s = omega arith in
      One (Reads s) is none below (
        moved (act_count t.letters) 0 set,
        among_edges p q (In set) among,
        ap (has (moved (act_count t.letters) 0 set)) (sym at) ∙ moved_on (act_count t.letters) 0 set (read s) (omega (arith, below)) in_set,
      )
  done p q input output (Out set, among, (none, (s, in_set, is))) =
      let below = has_below set (read s) (move_sized p q (Out set) among) in_set in
      One (Writes s) none is below (moved (act_count t.letters) t.letters set, among_edges p q (Out set) among, moved_on (act_count t.letters) t.letters set (read s) (omega (arith, below)) in_set)
  done p q input output (Same set, among, ((s, in_set, is), same)) =
      let below = has_below set (read s) (move_sized p q (Same set) among) in_set in
      let at : (t.letters + t.letters) + read s ≡ t.letters + (t.letters + read s) = omega arith in
      One (Keeps s) is (same ∙ is) below (
        moved (act_count t.letters) (t.letters + t.letters) set,
        among_edges p q (Same set) among,
        ap (has (moved (act_count t.letters) (t.letters + t.letters) set)) (sym at) ∙ moved_on (act_count t.letters) (t.letters + t.letters) set (read s) (omega (arith, below)) in_set,
      )

  -- the acts of some steps
  record ActsOf (p q : ℕ) (steps : List Step) : Type 0 where
    acts : List Act
    input : input_of acts ≡ inputs steps
    output : output_of acts ≡ outputs steps
    letters : AreOfLetters read t.letters acts
    edges : List Taken
    along : Along (act_automaton t) p edges q
    word : spelled edges ≡ act_letters read t.letters acts

  abbrev IsOfLetters : Act → Type 0
  IsOfLetters act = read (symbol_of act) < t.letters

  acts_of : (steps : List Step) (p q : ℕ) → Follow read t p steps q → ActsOf p q steps
  acts_of [] p q here = record { acts = []; input = refl; output = refl; letters = All-nil IsOfLetters; edges = []; along = here; word = refl }
  acts_of (step ∷ rest) p q (first, follows) =
      let later = acts_of rest step.to q follows in
      elim (done p step.to step.input step.output first) [
        | Nothing input output edge ↦ record {
          acts = later.acts;
          input = joined (sym input) later.input;
          output = joined (sym output) later.output;
          letters = later.letters;
          edges = record { letter = None; to = step.to } ∷ later.edges;
          along = (edge, later.along);
          word = later.word;
        }
        | One act input output below edge ↦ record {
          acts = act ∷ later.acts;
          input = input_cons act later.acts ∙ joined (sym input) later.input;
          output = output_cons act later.acts ∙ joined (sym output) later.output;
          letters = All-cons IsOfLetters act later.acts below later.letters;
          edges = record { letter = Some (act_letter read t.letters act); to = step.to } ∷ later.edges;
          along = (edge, later.along);
          word = ap (λ l. act_letter read t.letters act ∷ l) later.word;
        }
      ]

  -- ---- and back

  silent_kind : (kind : Kind) → act_label t.letters kind ≡ None → Does read kind [] []
  silent_kind Silent is = (refl, refl)
  silent_kind (In set) is = absurd (none-some (moved (act_count t.letters) 0 set) (sym is))
  silent_kind (Out set) is = absurd (none-some (moved (act_count t.letters) t.letters set) (sym is))
  silent_kind (Same set) is = absurd (none-some (moved (act_count t.letters) (t.letters + t.letters) set) (sym is))

  -- a letter of a set that was moved on
  placed : (by : ℕ) (set among : List Bool) (x : ℕ) → Some (moved (act_count t.letters) by set) ≡ Some among → has among x ≡ true → length set ≡ t.letters
      → (k : ℕ) × (x ≡ by + k) × (has set k ≡ true) × (k < t.letters)
  placed by set among x is has_x sized =
      let back = moved_back (act_count t.letters) by set x (ap (λ l. has l x) (same_Some (moved (act_count t.letters) by set) among is) ∙ has_x) in
      (back.0, back.1, back.2, has_below set back.0 sized back.2)

  does_act : (kind : Kind) (act : Act) (among : List Bool) → act_label t.letters kind ≡ Some among → has among (act_letter read t.letters act) ≡ true
      → IsSized t.letters kind → IsOfLetters act → Does read kind (input_of (act ∷ [])) (output_of (act ∷ []))
  does_act Silent act among is has_x sized below = absurd (none-some among is)
  does_act (In set) (Reads s) among is has_x sized below =
      let at = placed 0 set among (read s) is has_x sized in
      let same : at.0 ≡ read s = omega (arith, at.1) in
      ((s, ap (has set) (sym same) ∙ at.2, refl), refl)
  does_act (In set) (Writes s) among is has_x sized below =
      let at = placed 0 set among (t.letters + read s) is has_x sized in
      absurd (omega (arith, at.1, at.3))
  does_act (In set) (Keeps s) among is has_x sized below =
      let at = placed 0 set among (t.letters + (t.letters + read s)) is has_x sized in
      absurd (omega (arith, at.1, at.3))
  does_act (Out set) (Reads s) among is has_x sized below =
      let at = placed t.letters set among (read s) is has_x sized in
      absurd (omega (arith, at.1, below))
  does_act (Out set) (Writes s) among is has_x sized below =
      let at = placed t.letters set among (t.letters + read s) is has_x sized in
      let same : at.0 ≡ read s = omega (arith, at.1) in
      (refl, (s, ap (has set) (sym same) ∙ at.2, refl))
  does_act (Out set) (Keeps s) among is has_x sized below =
      let at = placed t.letters set among (t.letters + (t.letters + read s)) is has_x sized in
      absurd (omega (arith, at.1, at.3))
  does_act (Same set) (Reads s) among is has_x sized below =
      let at = placed (t.letters + t.letters) set among (read s) is has_x sized in
      absurd (omega (arith, at.1, below))
  does_act (Same set) (Writes s) among is has_x sized below =
      let at = placed (t.letters + t.letters) set among (t.letters + read s) is has_x sized in
      absurd (omega (arith, at.1, below))
  does_act (Same set) (Keeps s) among is has_x sized below =
      let at = placed (t.letters + t.letters) set among (t.letters + (t.letters + read s)) is has_x sized in
      let same : at.0 ≡ read s = omega (arith, at.1) in
      ((s, ap (has set) (sym same) ∙ at.2, refl), refl)

  move_back : (p q : ℕ) (label : Option (List Bool)) → Contains (edges_of (act_automaton t) p) (record { label = label; to = q })
      → (kind : Kind) × Contains (moves_of t p) (record { kind = kind; to = q }) × (act_label t.letters kind ≡ label)
  move_back p q label among =
      let edge : Edge = record { label = label; to = q } in
      let found = Contains-map_back (act_edge t.letters) (moves_of t p) edge (subst (λ l. Contains l edge) (same_edges t ok p) among) in
      let to : found.0.to ≡ q = ap (λ (m : Edge). m.to) found.1 in
      (found.0.kind, subst (λ (n : ℕ). Contains (moves_of t p) (record { kind = found.0.kind; to = n })) to found.2, ap (λ (m : Edge). m.label) found.1)

  silent_back : (p q : ℕ) → HasEdge (act_automaton t) p None q → HasStep read t p [] [] q
  silent_back p q edge =
      let back = move_back p q None edge in
      (back.0, back.1, silent_kind back.0 back.2)

  act_back : (p q : ℕ) (act : Act) → IsOfLetters act → HasEdge (act_automaton t) p (Some (act_letter read t.letters act)) q
      → HasStep read t p (input_of (act ∷ [])) (output_of (act ∷ [])) q
  act_back p q act below edge =
      let back = move_back p q (Some edge.0) edge.1 in
      (back.0, back.1, does_act back.0 act edge.0 back.2 edge.2 (move_sized p q back.0 back.1) below)

  record StepsOf (p q : ℕ) (acts : List Act) : Type 0 where
    steps : List Step
    follow : Follow read t p steps q
    input : inputs steps ≡ input_of acts
    output : outputs steps ≡ output_of acts

  -- one edge more
  more : (letter : Option ℕ) (to p q : ℕ) (rest : List Taken) (acts : List Act) → HasEdge (act_automaton t) p letter to
      → ((later : List Act) → spelled rest ≡ act_letters read t.letters later → AreOfLetters read t.letters later → StepsOf to q later)
      → option_to_list letter ++ spelled rest ≡ act_letters read t.letters acts → AreOfLetters read t.letters acts → StepsOf p q acts
  more None to p q rest acts edge onward word below =
      let later = onward acts word below in
      record {
        steps = record { input = []; output = []; to = to } ∷ later.steps;
        follow = (silent_back p to edge, later.follow);
        input = later.input;
        output = later.output;
      }
  more (Some k) to p q rest [] edge onward word below = absurd (omega (arith, ap length word))
  more (Some k) to p q rest (act ∷ acts) edge onward word below =
      let head : k ≡ act_letter read t.letters act = cc in
      let tail : spelled rest ≡ act_letters read t.letters acts = cc in
      let later = onward acts tail (All-tail IsOfLetters act acts below) in
      record {
        steps = record { input = input_of (act ∷ []); output = output_of (act ∷ []); to = to } ∷ later.steps;
        follow = (act_back p to act (All-head IsOfLetters act acts below) (subst (λ l. HasEdge (act_automaton t) p (Some l) to) head edge), later.follow);
        input = ap (λ l. input_of (act ∷ []) ++ l) later.input ∙ sym (input_cons act acts);
        output = ap (λ l. output_of (act ∷ []) ++ l) later.output ∙ sym (output_cons act acts);
      }

  steps_of : (edges : List Taken) (acts : List Act) (p q : ℕ) → Along (act_automaton t) p edges q → spelled edges ≡ act_letters read t.letters acts
      → AreOfLetters read t.letters acts → StepsOf p q acts
  steps_of [] [] p q here word below = record { steps = []; follow = here; input = refl; output = refl }
  steps_of [] (act ∷ acts) p q here word below = absurd (omega (arith, ap length word))
  steps_of (edge ∷ rest) acts p q (first, along) word below =
      more edge.letter edge.to p q rest acts first (λ later word' below'. steps_of rest later edge.to q along word' below') word below

  -- ---- what is related, and what is accepted

  -- acts that are accepted, which read the first word and write the second
  pub record Performed (u v : List ℕ) : Type 0 where
    pub word : List Act
    pub input : input_of word ≡ u
    pub output : output_of word ≡ v
    pub letters : AreOfLetters read t.letters word
    pub accepted : Accepts (act_automaton t) (act_letters read t.letters word)

  pub performed : (u v : List ℕ) → Relates read t u v → Performed u v
  performed u v (q, (steps, follow, reads, writes), final) =
      let does = acts_of steps t.start q follow in
      record {
        word = does.acts;
        input = does.input ∙ reads;
        output = does.output ∙ writes;
        letters = does.letters;
        accepted = (q, (does.edges, does.along, does.word), final);
      }

  pub related : (acts : List Act) → AreOfLetters read t.letters acts → Accepts (act_automaton t) (act_letters read t.letters acts) → Relates read t (input_of acts) (output_of acts)
  related acts below (q, (edges, along, word), final) =
      let does = steps_of edges acts t.start q along word below in
      (q, (does.steps, does.follow, does.input, does.output), final)
