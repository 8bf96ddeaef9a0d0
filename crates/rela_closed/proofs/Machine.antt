-- The automaton whose states are the sets of a table, and whose final states are the sets with no final state.
use Rattle.std.proofs.Common.{◌≡◌, ◌≢◌, ℕ, ◌<◌, ◌↔◌, Bool, true, false, cond, List, [], ◌∷◌, ◌++◌, length, get_or, Option, None, Some, refl, sym, ap, ◌∙◌, subst, inl, inr, arith}
use Rattle.std.specs.Bool.{IsTrue}
use Rattle.std.specs.List.{All, Contains}
use Rattle.std.specs.Option.{option_to_list, unwrap_or}
use Rattle.std.proofs.lemmas.Bool.{cases_Bool, cases_lt, false≢true}
use Rattle.std.proofs.lemmas.List.{append-nil, append_assoc}
use Rattle.std.proofs.lemmas.List.Elements.{All-from_get_or, All-get_or, All-head, All-nil, All-push, All-tail}
use Rattle.rela_labels.specs.Letters.{has}
use Rattle.rela_nfa.specs.Automaton.{Automaton, IsAutomaton, IsFinal, IsMove, Move, moves_of}
use Rattle.rela_nfa.specs.Runs.{Accepts, HasStep, Reach, StepIn}
use Rattle.rela_nfa.specs.StateSet.{Lists}
use Rattle.rela_closed.specs.Closed.{SameStates}
use Rattle.rela_build.specs.Complement.{IsComplement, IsOver, ReachApart, ReachSame, TellsAll}
use Rattle.rela_closed.specs.Listing.{AreAllEdges, AreListed, takes}
use Rattle.rela_closed.specs.Sets.{AreDistinct, AreMet, AreReached, HasFinal, ReachedBy}
use Rattle.rela_closed.specs.Words.{words_of}
use Rattle.rela_closed.specs.declared.step.Step.{Step}
use Rattle.rela_closed.proofs.Accepting.{accepts_final}
use Rattle.rela_closed.proofs.Alike.{same_refl}
use Rattle.rela_closed.proofs.Edges.{letter_below}
use Rattle.rela_closed.proofs.JointSets.{same_sets, sets_apart, sets_same}
use Rattle.rela_closed.proofs.Listed.{all_met}
use Rattle.rela_closed.proofs.Reached.{reach_each, reach_start, reach_step}
use Rattle.rela_closed.proofs.WordLists.{words_first, words_of_length}
use Rattle.rela_closed.proofs.Targets.{Contains-cons_cases, Contains-head, Contains-nil, Contains-one, Contains-tail}

-- where the first edge by a letter leads
abbrev pub target : List Move → ℕ → Option ℕ
target [] k = None
target (move ∷ moves) k = cond (takes k move) (Some move.to) (target moves k)

takes_label : (k : ℕ) (label : Option (List Bool)) (to : ℕ) → takes k (record { label = label; to = to }) ≡ true → (set : List Bool) × (label ≡ Some set) × (has set k ≡ true)
takes_label k None to e = absurd (false≢true e)
takes_label k (Some set) to e = (set, refl, e)

step_here : (move : Move) (moves : List Move) (k : ℕ) → takes k move ≡ true → StepIn (move ∷ moves) (Some k) move.to
step_here move moves k e =
    let found = takes_label k move.label move.to e in
    (found.0, subst (λ label. Contains (move ∷ moves) (record { label = label; to = move.to })) found.1 (Contains-head move moves), found.2)

-- a step by a letter has a target, which is a step
pub found_target : (moves : List Move) (k to : ℕ) → StepIn moves (Some k) to → (t : ℕ) × (target moves k ≡ Some t) × StepIn moves (Some k) t
found_target [] k to step = absurd (Contains-nil _ step.1)
found_target (move ∷ moves) k to step = elim (cases_Bool (takes k move)) [
  | inl yes' ↦ (move.to, ap (λ b. cond b (Some move.to) (target moves k)) yes', step_here move moves k yes')
  | inr no' ↦ elim (Contains-cons_cases move moves _ step.1) [
    | inl here ↦ absurd (false≢true (sym no' ∙ ap (takes k) here ∙ step.2))
    | inr later ↦
        let (t, at, there) = found_target moves k to (step.0, later, step.2) in
        (t, ap (λ b. cond b (Some move.to) (target moves k)) no' ∙ at, (there.0, Contains-tail move moves _ there.1, there.2))
  ]
]

abbrev pub next : Automaton → ℕ → ℕ → ℕ
next r q k = unwrap_or (target (moves_of r q) k) 0

abbrev pub led : Automaton → ℕ → List ℕ → ℕ
led r q [] = q
led r q (k ∷ word) = led r (next r q k) word

led_push : (r : Automaton) (q : ℕ) (word : List ℕ) (k : ℕ) → led r q (word ++ k ∷ []) ≡ next r (led r q word) k
led_push r q [] k = refl
led_push r q (j ∷ word) k = led_push r (next r q j) word k

module _ (over : List Bool) (a : Automaton) (table : List (List (List ℕ))) (r : Automaton) where
  -- the states are the sets of the table, of which none stands twice, some word reaches each, and the empty word the first
  pub record IsMachine : Type 0 where
    pub letters : r.letters ≡ length over
    pub start : r.start ≡ 0
    pub finals : length r.finals ≡ length table
    pub each : length r.edges ≡ length table
    pub edges : AreAllEdges over (a ∷ []) table (length table) r.edges
    pub first : AreReached (a ∷ []) [] (get_or table 0 [])
    pub some : 0 < length table
    pub met : All (AreMet (a ∷ [])) table
    pub distinct : AreDistinct table
    pub final_states : (i : ℕ) → i < length table → IsTrue (get_or r.finals i false) ↔ (¬ HasFinal a (get_or (get_or table i []) 0 []))

  module _ (is : IsMachine) where
    -- equal sets have one number
    same_number : (i j : ℕ) → i < length table → j < length table → get_or table i [] ≡ get_or table j [] → i ≡ j
    same_number i j i_in j_in equal = elim (cases_lt i j) [
      | inl before ↦ absurd (is.distinct i j before j_in equal)
      | inr not_before ↦ elim (cases_lt j i) [
        | inl after ↦ absurd (is.distinct j i after i_in (sym equal))
        | inr not_after ↦ omega arith
      ]
    ]

    -- what the next state is
    record IsNext (q k : ℕ) : Type 0 where
      below : next r q k < length table
      step : HasStep r q (Some k) (next r q k)
      reached : (word : List ℕ) → AreReached (a ∷ []) word (get_or table q []) → AreReached (a ∷ []) (word ++ k ∷ []) (get_or table (next r q k) [])

    -- a step leads there
    step_next : (q k to : ℕ) → q < length table → HasStep r q (Some k) to → (has over k ≡ true) × IsNext q k × (next r q k ≡ to)
    step_next q k to q_in step =
        let out = is.edges q q_in in
        let (t, at, there) = found_target (moves_of r q) k to step in
        let here : next r q k ≡ t = ap (λ (o : Option ℕ). unwrap_or o 0) at in
        let (read, to_in, to_leads) = out.sound k to step in
        let (t_read, t_in, t_leads) = out.sound k t there in
        let (word, met) = All-get_or (AreMet (a ∷ [])) table q [] q_in is.met in
        let same : t ≡ to = same_number t to t_in to_in
        (same_sets (a ∷ []) (word ++ k ∷ []) (word ++ k ∷ []) (get_or table t []) (get_or table to []) (t_leads word met) (to_leads word met) (same_refl (a ∷ []) (word ++ k ∷ []))) in (
          read,
          record {
            below = subst (λ n. n < length table) (sym here) t_in;
            step = subst (λ n. HasStep r q (Some k) n) (sym here) there;
            reached = subst (λ n. (word : List ℕ) → AreReached (a ∷ []) word (get_or table q []) → AreReached (a ∷ []) (word ++ k ∷ []) (get_or table n [])) (sym here) t_leads;
          },
          here ∙ same,
        )

    is_next : (q k : ℕ) → q < length table → has over k ≡ true → IsNext q k
    is_next q k q_in read =
        let (to, step) = (is.edges q q_in).all k (letter_below over k read) read in
        (step_next q k to q_in step).1

    -- where a word leads on
    record IsLed (q : ℕ) (front word : List ℕ) : Type 0 where
      below : led r q word < length table
      reach : Reach r (led r q word) (front ++ word)
      reached : AreReached (a ∷ []) (front ++ word) (get_or table (led r q word) [])

    led_on : (word front : List ℕ) (q : ℕ) → IsOver over word → q < length table → Reach r q front → AreReached (a ∷ []) front (get_or table q []) → IsLed q front word
    led_on [] front q read q_in reach reached = record {
      below = q_in;
      reach = subst (λ w. Reach r q w) (sym (append-nil front)) reach;
      reached = subst (λ w. AreReached (a ∷ []) w (get_or table q [])) (sym (append-nil front)) reached;
    }
    led_on (k ∷ word) front q read q_in reach reached =
        let here = is_next q k q_in (All-head (λ j. has over j ≡ true) k word read) in
        let on = led_on word (front ++ k ∷ []) (next r q k) (All-tail (λ j. has over j ≡ true) k word read) here.below
        (reach_step r q (next r q k) (Some k) front reach here.step) (here.reached front reached) in
        record {
          below = on.below;
          reach = subst (λ w. Reach r (led r q (k ∷ word)) w) (append_assoc front (k ∷ []) word) on.reach;
          reached = subst (λ w. AreReached (a ∷ []) w (get_or table (led r q (k ∷ word)) [])) (append_assoc front (k ∷ []) word) on.reached;
        }

    abbrev pub after : List ℕ → ℕ
    after word = led r 0 word

    is_led : (word : List ℕ) → IsOver over word → IsLed 0 [] word
    is_led word read = led_on word [] 0 read is.some (subst (λ n. Reach r n []) is.start (reach_start r)) is.first

    -- a run follows the word
    led_by : (q : ℕ) (word : List ℕ) → Reach r q word → IsOver over word × (after word ≡ q)
    led_by q word reach = (reach_each r (λ p w. IsOver over w × (after w ≡ p)) (λ p t letter w reads there step. one letter p t w there step) (All-nil (λ k. has over k ≡ true), sym is.start) q word reach)
      where
        one : (letter : Option ℕ) (p t : ℕ) (w : List ℕ) → IsOver over w × (after w ≡ p) → HasStep r p letter t → IsOver over (w ++ option_to_list letter) × (after (w ++ option_to_list letter) ≡ t)
        one None p t w (read, at) step =
            let p_in : p < length table = subst (λ n. n < length table) at (is_led w read).below in
            absurd ((is.edges p p_in).labelled t step)
        one (Some k) p t w (read, at) step =
            let p_in : p < length table = subst (λ n. n < length table) at (is_led w read).below in
            let (k_read, is_next_one, there) = step_next p k t p_in step in (
              All-push (λ j. has over j ≡ true) w k read k_read,
              led_push r 0 w k ∙ ap (λ n. next r n k) at ∙ there,
            )

    pub reached_after : (q : ℕ) (word : List ℕ) → Reach r q word ↔ (IsOver over word × (after word ≡ q))
    reached_after q word = (led_by q word, λ (read, at). subst (λ n. Reach r n word) at (is_led word read).reach)

    alone : (v w : List ℕ) → ReachSame a v w → SameStates (a ∷ []) v w
    alone v w same i d below = let here : i ≡ 0 = omega arith in subst (λ m. ReachSame (get_or (a ∷ []) m d) v w) (sym here) same

    pub alike_after : (v w : List ℕ) → IsOver over v → IsOver over w → ReachSame a v w → after v ≡ after w
    alike_after v w v_read w_read same =
        let v_led = is_led v v_read in let w_led = is_led w w_read in
        same_number (after v) (after w) v_led.below w_led.below
        (same_sets (a ∷ []) v w (get_or table (after v) []) (get_or table (after w) []) v_led.reached w_led.reached (alone v w same))

    pub told_after : (v w : List ℕ) → IsOver over v → IsOver over w → after v ≢ after w → ReachApart a v w
    told_after v w v_read w_read differ =
        let v_led = is_led v v_read in let w_led = is_led w w_read in
        let (b, among, apart) = sets_apart (a ∷ []) v w (get_or table (after v) []) (get_or table (after w) []) v_led.reached w_led.reached
        (λ equal. differ (same_number (after v) (after w) v_led.below w_led.below equal)) in
        subst (λ x. ReachApart x v w) (sym (Contains-one a b among)) apart

    pub tells_all : TellsAll a r
    tells_all q v w v_reach w_reach =
        let (v_read, v_at) = led_by q v v_reach in
        let (w_read, w_at) = led_by q w w_reach in
        let v_led = is_led v v_read in let w_led = is_led w w_read in
        let same = sets_same (a ∷ []) v w (get_or table q []) (subst (λ n. AreReached (a ∷ []) v (get_or table n [])) v_at v_led.reached)
        (subst (λ n. AreReached (a ∷ []) w (get_or table n [])) w_at w_led.reached) in
        same 0 a (omega arith)

    -- the set of a word has a final state where the word is accepted
    set_of : (sets : List (List ℕ)) (word : List ℕ) → AreReached (a ∷ []) word sets → Lists (ReachedBy a word) (get_or sets 0 [])
    set_of [] word reached = absurd reached
    set_of (set ∷ sets) word reached = reached.0

    accepted : (word : List ℕ) → IsOver over word → Accepts a word ↔ HasFinal a (get_or (get_or table (after word) []) 0 [])
    accepted word read = accepts_final a word (get_or (get_or table (after word) []) 0 []) (set_of (get_or table (after word) []) word (is_led word read).reached)

    pub language_after : (word : List ℕ) → Accepts r word ↔ (IsOver over word × (¬ Accepts a word))
    language_after word = (
      λ (q, reach, final).
          let (read, at) = led_by q word reach in
          let here : IsFinal r (after word) = subst (λ n. IsFinal r n) (sym at) final in
          let none = (is.final_states (after word) (is_led word read).below).0 here in
          (read, λ accepts. none ((accepted word read).0 accepts)),
      λ (read, refused).
          let led_there = is_led word read in
          (after word, led_there.reach, (is.final_states (after word) led_there.below).1 (λ final. refused ((accepted word read).1 final))),
    )

    pub machine_automaton : IsAutomaton r
    machine_automaton =
        let finals = is.finals in let each = is.each in let some = is.some in let start = is.start in
        record {
          each = each ∙ sym finals;
          starts = omega arith;
          moves = All-from_get_or (All (IsMove r.letters (length r.finals))) r.edges [] (λ i below.
              subst (λ n. All (IsMove n (length r.finals)) (get_or r.edges i [])) (sym is.letters)
              (subst (λ n. All (IsMove (length over) n) (get_or r.edges i [])) (sym finals) ((is.edges i (omega arith)).moves)));
        }

    pub is_complement : r.letters ≡ a.letters → IsComplement a over r
    is_complement letters = record {
      automaton = machine_automaton;
      letters = letters;
      after = after;
      reached = reached_after;
      alike = alike_after;
      told = told_after;
      language = language_after;
    }

-- the automaton of a table whose sets listed words reach
pub machine : (over : List Bool) (a : Automaton) (steps : List Step) (table : List (List (List ℕ))) (numbers : List ℕ) (r : Automaton) → AreListed (a ∷ []) (words_of steps) table numbers
    → AreDistinct table → r.letters ≡ length over → r.start ≡ 0 → length r.finals ≡ length table → length r.edges ≡ length table → AreAllEdges over (a ∷ []) table (length table) r.edges
    → ((i : ℕ) → i < length table → IsTrue (get_or r.finals i false) ↔ (¬ HasFinal a (get_or (get_or table i []) 0 []))) → IsMachine over a table r
machine over a steps table numbers r listed distinct letters start finals each edges final_states =
    let some : 0 < length (words_of steps) = omega (arith, words_of_length steps) in
    let within : get_or numbers 0 0 < length table = listed.within 0 some in
    record {
      letters = letters;
      start = start;
      finals = finals;
      each = each;
      edges = edges;
      first =
          subst (λ n. AreReached (a ∷ []) [] (get_or table n [])) listed.first
          (subst (λ w. AreReached (a ∷ []) w (get_or table (get_or numbers 0 0) [])) (words_first steps) (listed.reached 0 some));
      some = omega arith;
      met = all_met (a ∷ []) (words_of steps) table numbers listed;
      distinct = distinct;
      final_states = final_states;
    }

-- the same for automata, a table and parts that equal those
pub machine_by : (over : List Bool) (a : Automaton) (steps : List Step) (old mid : List Automaton) (table table' : List (List (List ℕ))) (numbers : List ℕ) (flags : List Bool) (edges : List (List Move))
    (r : Automaton) → old ≡ a ∷ [] → mid ≡ old → table' ≡ table → AreListed old (words_of steps) table numbers → AreDistinct table → length over ≡ a.letters → length flags ≡ length table'
    → ((i : ℕ) → i < length table' → IsTrue (get_or flags i false) ↔ (¬ HasFinal a (get_or (get_or table' i []) 0 []))) → length edges ≡ length table
    → AreAllEdges over mid table (length table) edges → r.letters ≡ a.letters → r.start ≡ 0 → r.finals ≡ flags → r.edges ≡ edges → IsMachine over a table r
machine_by over a steps old mid table table' numbers flags edges r one two three listed distinct size len refused each are letters start finals is_edges =
    machine over a steps table numbers r (subst (λ (l : List Automaton). AreListed l (words_of steps) table numbers) one listed) distinct (letters ∙ sym size) start
    (ap length finals ∙ len ∙ ap length three) (ap length is_edges ∙ each)
    (subst (λ (es : List (List Move)). AreAllEdges over (a ∷ []) table (length table) es) (sym is_edges)
    (subst (λ (l : List Automaton). AreAllEdges over l table (length table) edges) (two ∙ one) are))
    (λ i below.
    subst (λ (fs : List Bool). IsTrue (get_or fs i false) ↔ (¬ HasFinal a (get_or (get_or table i []) 0 []))) (sym finals)
    (subst (λ (t : List (List (List ℕ))). IsTrue (get_or flags i false) ↔ (¬ HasFinal a (get_or (get_or t i []) 0 []))) three (refused i (omega (arith, below, ap length three)))))
