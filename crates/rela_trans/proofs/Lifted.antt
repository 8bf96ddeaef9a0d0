-- What a transducer reaches and relates that follows an automaton on its tapes.
use Rattle.std.proofs.Common.{◌≡◌, ℕ, ◌↔◌, Bool, true, false, List, [], ◌∷◌, ◌++◌, length, get_or, map, Option, None, Some, inl, inr, refl, sym, ap, ◌∙◌, subst, arith}
use Rattle.std.specs.List.{All, range_with_len}
use Rattle.std.specs.Option.{ForSome, option_map, option_to_list}
use Rattle.std.proofs.lemmas.Bool.{cases_lt, false≢true}
use Rattle.std.proofs.lemmas.List.{append-nil, get_or_past, map-append}
use Rattle.std.proofs.lemmas.List.Elements.{All-map, All-weaker}
use Rattle.std.proofs.lemmas.List.FromFn.{get_or-map-range_with_len, length-map-range_with_len}
use Rattle.rela_nfa.specs.Automaton.{Automaton, IsAutomaton, IsMove as IsEdge, moves_of as edges_of, states}
use Rattle.rela_nfa.specs.Reading.{takes}
use Rattle.rela_nfa.specs.Runs.{HasStep as HasEdge, Reach, Accepts}
use Rattle.rela_trans.specs.Machine.{Machine, IsMachine, IsMove, IsSized, moves_of, machine_states}
use Rattle.rela_trans.specs.Relations.{PairJoins}
use Rattle.rela_trans.specs.Runs.{Does, HasStep, ReachR, Relates}
use Rattle.rela_trans.specs.Tapes.{lifted_kind, lifted, lifted_at, OnTape}
use Rattle.rela_trans.specs.declared.tapes.Tape.{Tape}
use Rattle.rela_trans.specs.declared.tapes.Tape.TheVariants.{Input, Output, Both}
use Rattle.rela_trans.proofs.Edges.{step_edge, edge_step, edges_ok, word_start, word_step, word_each}
use Rattle.rela_trans.proofs.Mapped.{mapped_back, mapped_on}
use Rattle.rela_trans.proofs.MappedWords.{map_last}
use Rattle.rela_trans.proofs.Reaching.{subst_pair, reach_start, reach_step, reach_each}

-- what is read where the word stands on the tape
abbrev input_on : Tape → List ℕ → List ℕ
input_on Input w = w
input_on Output w = []
input_on Both w = w

-- what is written
abbrev output_on : Tape → List ℕ → List ℕ
output_on Input w = []
output_on Output w = w
output_on Both w = w

input_append : (tape : Tape) (w x : List ℕ) → input_on tape (w ++ x) ≡ input_on tape w ++ input_on tape x
input_append Input w x = refl
input_append Output w x = refl
input_append Both w x = refl

output_append : (tape : Tape) (w x : List ℕ) → output_on tape (w ++ x) ≡ output_on tape w ++ output_on tape x
output_append Input w x = refl
output_append Output w x = refl
output_append Both w x = refl

input_nil : (tape : Tape) → input_on tape [] ≡ []
input_nil Input = refl
input_nil Output = refl
input_nil Both = refl

output_nil : (tape : Tape) → output_on tape [] ≡ []
output_nil Input = refl
output_nil Output = refl
output_nil Both = refl

-- a word with P stands on the tape
record Stands (tape : Tape) (P : List ℕ → Type 0) (u v : List ℕ) : Type 0 where
  word : List ℕ
  input : u ≡ input_on tape word
  output : v ≡ output_on tape word
  holds : P word

stands_on : (tape : Tape) (P : List ℕ → Type 0) (u v : List ℕ) → Stands tape P u v → OnTape tape P u v
stands_on Input P u v stands = (subst P (sym stands.input) stands.holds, stands.output)
stands_on Output P u v stands = (subst P (sym stands.output) stands.holds, stands.input)
stands_on Both P u v stands = (subst P (sym stands.input) stands.holds, stands.output ∙ sym stands.input)

on_stands : (tape : Tape) (P : List ℕ → Type 0) (u v : List ℕ) → OnTape tape P u v → Stands tape P u v
on_stands Input P u v on = record { word = u; input = refl; output = on.1; holds = on.0 }
on_stands Output P u v on = record { word = v; input = on.1; output = refl; holds = on.0 }
on_stands Both P u v on = record { word = u; input = refl; output = on.1; holds = on.0 }

-- a move that stands for an edge reads or writes one symbol, or none, by which the edge is taken
does_back : (read : ℕ → ℕ) (tape : Tape) (label : Option (List Bool)) (u v : List ℕ) → Does read (lifted_kind tape label) u v
    → (s : Option ℕ) × (u ≡ input_on tape (option_to_list s)) × (v ≡ output_on tape (option_to_list s)) × (takes label (option_map read s) ≡ true)
does_back read tape None u v does = (None, does.0 ∙ sym (input_nil tape), does.1 ∙ sym (output_nil tape), refl)
does_back read Input (Some set) u v does = (Some does.0.0, does.0.2, does.1, does.0.1)
does_back read Output (Some set) u v does = (Some does.1.0, does.0, does.1.2, does.1.1)
does_back read Both (Some set) u v does = (Some does.0.0, does.0.2, does.1 ∙ does.0.2, does.0.1)

does_on : (read : ℕ → ℕ) (tape : Tape) (label : Option (List Bool)) (s : Option ℕ) → takes label (option_map read s) ≡ true
    → Does read (lifted_kind tape label) (input_on tape (option_to_list s)) (output_on tape (option_to_list s))
does_on read tape None None taken = (input_nil tape, output_nil tape)
does_on read tape None (Some s) taken = absurd (false≢true taken)
does_on read tape (Some set) None taken = absurd (false≢true taken)
does_on read Input (Some set) (Some s) taken = ((s, taken, refl), refl)
does_on read Output (Some set) (Some s) taken = (refl, (s, taken, refl))
does_on read Both (Some set) (Some s) taken = ((s, taken, refl), refl)

-- the states of the automaton, each of its edges a move
pub record IsLifted (tape : Tape) (a : Automaton) (r : Machine) : Type 0 where
  pub letters : r.letters ≡ a.letters
  pub start : r.start ≡ a.start
  pub finals : r.finals ≡ a.finals
  pub moves : r.moves ≡ map (lifted_at tape a) (range_with_len 0 (states a))

lifted_sized : (n : ℕ) (tape : Tape) (label : Option (List Bool)) → ForSome label (λ set. length set ≡ n) → IsSized n (lifted_kind tape label)
lifted_sized n tape None sized = tt
lifted_sized n Input (Some set) sized = sized set refl
lifted_sized n Output (Some set) sized = sized set refl
lifted_sized n Both (Some set) sized = sized set refl

module _ (tape : Tape) (a : Automaton) (r : Machine) (ok : IsAutomaton a) (built : IsLifted tape a r) where
  pub same_moves : (p : ℕ) → moves_of r p ≡ map (lifted tape) (edges_of a p)
  same_moves p = ap (λ l. get_or l p []) built.moves ∙ elim (cases_lt p (states a)) [
    | inl below ↦ get_or-map-range_with_len (lifted_at tape a) 0 (states a) p p [] below (omega arith)
    | inr past ↦
        get_or_past (map (lifted_at tape a) (range_with_len 0 (states a))) p [] (omega (arith, past, length-map-range_with_len (lifted_at tape a) 0 (states a)))
        ∙ sym (ap (map (lifted tape)) (get_or_past a.edges p [] (omega (arith, past, ok.each))))
  ]

  pub lifted_states : machine_states r ≡ states a
  lifted_states = ap length built.finals

  pub lifted_ok : IsMachine r
  lifted_ok = record {
    each = ap length built.moves ∙ length-map-range_with_len (lifted_at tape a) 0 (states a) ∙ sym lifted_states;
    starts = omega (arith, ok.starts, lifted_states, built.start);
    moves =
        subst (λ l. All (All (IsMove r.letters (machine_states r))) l) (sym built.moves)
        (All-map (All (IsMove r.letters (machine_states r))) (lifted_at tape a) (range_with_len 0 (states a))
        (λ k d below. each_ok (get_or (range_with_len 0 (states a)) k d)));
  }
    where
      each_ok : (p : ℕ) → All (IsMove r.letters (machine_states r)) (lifted_at tape a p)
      each_ok p =
          All-map (IsMove r.letters (machine_states r)) (lifted tape) (edges_of a p)
          (All-weaker (IsEdge a.letters (states a)) (λ m. IsMove r.letters (machine_states r) (lifted tape m)) (λ m is. record {
            sized = subst (λ n. IsSized n (lifted_kind tape m.label)) (sym built.letters) (lifted_sized a.letters tape m.label is.sized);
            leads = omega (arith, is.leads, lifted_states);
          }) (edges_of a p) (edges_ok a ok p))

  module _ (read : ℕ → ℕ) where
    step_back : (p q : ℕ) (input output : List ℕ) → HasStep read r p input output q
        → (s : Option ℕ) × (input ≡ input_on tape (option_to_list s)) × (output ≡ output_on tape (option_to_list s)) × HasEdge a p (option_map read s) q
    step_back p q input output step =
        let found = mapped_back read (lifted tape) (edges_of a) r same_moves p q input output step in
        let does = does_back read tape found.0.label input output found.3 in
        (does.0, does.1, does.2, subst (λ n. HasEdge a p (option_map read does.0) n) found.2 (edge_step (edges_of a p) (option_map read does.0) found.0 found.1 does.3))

    step_on : (p q : ℕ) (s : Option ℕ) → HasEdge a p (option_map read s) q → HasStep read r p (input_on tape (option_to_list s)) (output_on tape (option_to_list s)) q
    step_on p q s step =
        let edge = step_edge (edges_of a p) (option_map read s) q step in
        subst (λ n. HasStep read r p (input_on tape (option_to_list s)) (output_on tape (option_to_list s)) n) edge.2
        (mapped_on read (lifted tape) (edges_of a) r same_moves p (input_on tape (option_to_list s)) (output_on tape (option_to_list s)) edge.0 edge.1
        (does_on read tape edge.0.label s edge.3))

    -- the letters of a word with one symbol more, or none
    letters_more : (w : List ℕ) (s : Option ℕ) → map read w ++ option_to_list (option_map read s) ≡ map read (w ++ option_to_list s)
    letters_more w None = append-nil (map read w) ∙ sym (ap (map read) (append-nil w))
    letters_more w (Some s) = sym (map-append read w (s ∷ []))

    abbrev At : ℕ → List ℕ → List ℕ → Type 0
    At q u v = Stands tape (λ w. Reach a q (map read w)) u v

    kept : (p q : ℕ) (u v input output : List ℕ) → ReachR read r p u v → At p u v → HasStep read r p input output q → At q (u ++ input) (v ++ output)
    kept p q u v input output reach at step =
        let next = step_back p q input output step in
        let more = option_to_list next.0 in
        record {
          word = at.word ++ more;
          input = ap (λ w. w ++ input) at.input ∙ ap (λ w. input_on tape at.word ++ w) next.1 ∙ sym (input_append tape at.word more);
          output = ap (λ w. w ++ output) at.output ∙ ap (λ w. output_on tape at.word ++ w) next.2 ∙ sym (output_append tape at.word more);
          holds =
              subst (λ w. Reach a q w) (letters_more at.word next.0) (word_step a p q (option_map read next.0) (map read at.word) at.holds next.3);
        }

    only : (q : ℕ) (u v : List ℕ) → ReachR read r q u v → At q u v
    only = reach_each read r At kept (record {
      word = [];
      input = sym (input_nil tape);
      output = sym (output_nil tape);
      holds = subst (λ n. Reach a n []) (sym built.start) (word_start a);
    })

    no_word : (w : List ℕ) → [] ≡ map read w → w ≡ []
    no_word [] nil = refl
    no_word (s ∷ w) nil = absurd (omega (arith, ap length nil))

    -- what reads the letters of a word leads on by its symbols
    abbrev Follows : ℕ → List ℕ → Type 0
    Follows q letters = (w : List ℕ) → letters ≡ map read w → ReachR read r q (input_on tape w) (output_on tape w)

    follows_one : (p q : ℕ) (letter : Option ℕ) (letters : List ℕ) → Reach a p letters → Follows p letters → HasEdge a p letter q → Follows q (letters ++ option_to_list letter)
    follows_one p q None letters reach there step w same =
        subst_pair (ReachR read r q) (ap (λ x. input_on tape w ++ x) (input_nil tape) ∙ append-nil (input_on tape w)) (ap (λ x. output_on tape w ++ x) (output_nil tape) ∙ append-nil (output_on tape w))
        (reach_step read r p q (input_on tape w) (output_on tape w) (input_on tape []) (output_on tape []) (there w (sym (append-nil letters) ∙ same)) (step_on p q None step))
    follows_one p q (Some j) letters reach there step w same =
        let last = map_last read w letters j same in
        let x = last.0 in
        let s = last.1 in
        let one : HasEdge a p (Some (read s)) q = subst (λ k. HasEdge a p (Some k) q) last.4 step in
        subst_pair (ReachR read r q) (sym (ap (input_on tape) last.2 ∙ input_append tape x (s ∷ []))) (sym (ap (output_on tape) last.2 ∙ output_append tape x (s ∷ [])))
        (reach_step read r p q (input_on tape x) (output_on tape x) (input_on tape (s ∷ [])) (output_on tape (s ∷ [])) (there x last.3) (step_on p q (Some s) one))

    follows : (q : ℕ) (letters : List ℕ) → Reach a q letters → Follows q letters
    follows =
        word_each a Follows (λ p q letter letters reach there step. follows_one p q letter letters reach there step)
        (λ w nil. subst (λ x. ReachR read r a.start (input_on tape x) (output_on tape x)) (sym (no_word w nil))
        (subst_pair (ReachR read r a.start) (sym (input_nil tape)) (sym (output_nil tape)) (subst (λ n. ReachR read r n [] []) built.start (reach_start read r))))

    reached : (q : ℕ) (u v : List ℕ) → At q u v → ReachR read r q u v
    reached q u v at = subst_pair (ReachR read r q) (sym at.input) (sym at.output) (follows q (map read at.word) at.holds at.word refl)

    pub lifted_reach : (q : ℕ) (u v : List ℕ) → ReachR read r q u v ↔ OnTape tape (λ w. Reach a q (map read w)) u v
    lifted_reach q u v = (
      λ reach. stands_on tape (λ w. Reach a q (map read w)) u v (only q u v reach),
      λ on. reached q u v (on_stands tape (λ w. Reach a q (map read w)) u v on),
    )

    related : (u v : List ℕ) → Relates read r u v → Stands tape (λ w. Accepts a (map read w)) u v
    related u v (q, reach, final) =
        let at = only q u v reach in
        record { word = at.word; input = at.input; output = at.output; holds = (q, at.holds, ap (λ l. get_or l q false) (sym built.finals) ∙ final) }

    relates : (u v : List ℕ) → Stands tape (λ w. Accepts a (map read w)) u v → Relates read r u v
    relates u v at =
        let q = at.holds.0 in
        (q, reached q u v (record { word = at.word; input = at.input; output = at.output; holds = at.holds.1 }), ap (λ l. get_or l q false) built.finals ∙ at.holds.2)

    pub lifted_relation : (u v : List ℕ) → Relates read r u v ↔ OnTape tape (λ w. Accepts a (map read w)) u v
    lifted_relation u v = (
      λ holds. stands_on tape (λ w. Accepts a (map read w)) u v (related u v holds),
      λ on. relates u v (on_stands tape (λ w. Accepts a (map read w)) u v on),
    )

-- ---- a word that is read, and then one that is written

module _ (P Q : List ℕ → Type 0) (R S : List ℕ → List ℕ → Type 0) (reads : (u v : List ℕ) → R u v ↔ (P u × (v ≡ []))) (writes : (u v : List ℕ) → S u v ↔ (Q v × (u ≡ []))) where
  pub read_then_written : (u v : List ℕ) → PairJoins R S u v ↔ (P u × Q v)
  read_then_written u v = (
    λ split.
        let first = (reads split.front_in split.front_out).0 split.in_front in
        let second = (writes split.rest_in split.rest_out).0 split.in_rest in (
          subst P (sym (split.split_in ∙ ap (λ w. split.front_in ++ w) second.1 ∙ append-nil split.front_in)) first.0,
          subst Q (sym (split.split_out ∙ ap (λ w. w ++ split.rest_out) first.1)) second.0,
        ),
    λ both. record {
      front_in = u;
      rest_in = [];
      front_out = [];
      rest_out = v;
      split_in = sym (append-nil u);
      split_out = refl;
      in_front = (reads u []).1 (both.0, refl);
      in_rest = (writes [] v).1 (both.1, refl);
    },
  )
