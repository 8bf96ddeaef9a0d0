-- The pairs to which a transducer and an automaton over finer letters may go together.
use Rattle.std.proofs.Common.{◌≡◌, ℕ, ◌<◌, Bool, true, false, List, [], ◌∷◌, ◌↔◌, length, get_or, map, Option, None, Some, inl, inr, refl, sym, ap, ◌∙◌, subst, arith}
use Rattle.std.specs.List.{All, Contains, flat_map}
use Rattle.std.specs.Option.{option_map}
use Rattle.std.proofs.lemmas.Bool.{cases_eq, cases_lt, false≢true}
use Rattle.std.proofs.lemmas.List.{get_or-map, get_or_past, length-map}
use Rattle.std.proofs.lemmas.List.Elements.{All-contains, Contains-append_left, Contains-append_right, Contains-append_cases, Contains-get_or}
use Rattle.rela_labels.specs.Letters.{has}
use Rattle.rela_pairs.specs.Reachable.{Leads, Reachable}
use Rattle.rela_pairs.specs.declared.pair.Pair.{Pair}
use Rattle.rela_nfa.specs.Automaton.{Automaton, Move as Edge, IsAutomaton, IsMove as IsEdge, moves_of as edges_of, states}
use Rattle.rela_nfa.specs.Meeting.{pair_of}
use Rattle.rela_nfa.specs.Relabelling.{relabelled}
use Rattle.rela_trans.specs.ImageMoves.{source_of}
use Rattle.rela_trans.specs.Machine.{Machine, Kind, IsMachine, IsMove, moves_of, machine_states}
use Rattle.rela_trans.specs.Reached.{only_letter, only_parent, may_have, may_read, reads_nothing, pair_if, alone_pairs, label_pairs, edge_pairs, reading_pairs}
use Rattle.rela_trans.specs.Relabelling.{relabelled_kind, relabelled_move}
use Rattle.rela_trans.specs.Runs.{Does, HasStep}
use Rattle.rela_trans.specs.Tapes.{lifted, lifted_kind}
use Rattle.rela_trans.specs.declared.moves.Move.{Move}
use Rattle.rela_trans.specs.declared.moves.MoveKind.TheVariants.{Silent, In, Out, Same}
use Rattle.rela_trans.specs.declared.tapes.Tape.TheVariants.{Both}
use Rattle.rela_trans.proofs.Accessors.{moves_ok}
use Rattle.rela_trans.proofs.Edges.{edges_ok}
use Rattle.rela_trans.proofs.ImageMade.{source_lifted}
use Rattle.rela_trans.proofs.JointSteps.{JointStep}
use Rattle.rela_trans.proofs.Lifted.{same_moves as source_moves}
use Rattle.rela_trans.proofs.ListLaws.{in_flat_map, from_flat_map, Contains-nil, Contains-cons_cases}
use Rattle.rela_trans.proofs.Mapped.{get_or-map_nil, mapped_back}
use Rattle.rela_trans.proofs.Relabelled.{IsRelabelled}
use Rattle.rela_trans.proofs.Singles.{only_is}

-- ---- pairs that follow

in_pair_if : (b : Bool) (to : Pair) → b ≡ true → Contains (pair_if b to) to
in_pair_if b to is = subst (λ c. Contains (pair_if c to) to) (sym is) (0, omega arith, refl)

-- a set that has the letter may have it, whichever is known
sure_may_have : (letter : Option ℕ) (set : List Bool) (k : ℕ) → ((known : ℕ) → letter ≡ Some known → known ≡ k) → has set k ≡ true → may_have letter set ≡ true
sure_may_have None set k known among = refl
sure_may_have (Some j) set k known among = ap (has set) (known j refl) ∙ among

no_symbol : (c : ℕ) (word : List ℕ) → [] ≡ c ∷ word → ⊥
no_symbol c word e = omega (arith, ap length e)

one_symbol : (c s : ℕ) → c ∷ [] ≡ s ∷ [] → s ≡ c
one_symbol c s e = let same : c ≡ s = cc in sym same

mapped_known : (parents : List ℕ) (o : Option ℕ) (known : ℕ) → option_map (λ k. get_or parents k 0) o ≡ Some known → (k : ℕ) × (o ≡ Some k) × (get_or parents k 0 ≡ known)
mapped_known parents None known e = absurd (cc)
mapped_known parents (Some k) known e = let same : get_or parents k 0 ≡ known = cc in (k, refl, same)

module _ (parents : List ℕ) where
  -- the one letter of a label stands for each letter by which it is taken
  known_parent : (label : List Bool) (j : ℕ) → has label j ≡ true → (known : ℕ) → only_parent parents label ≡ Some known → known ≡ get_or parents j 0
  known_parent label j among known e =
      let found = mapped_known parents (only_letter label) known e in
      sym found.2 ∙ ap (λ k. get_or parents k 0) (one found.0 found.1)
    where
      one : (k : ℕ) → only_letter label ≡ Some k → k ≡ j
      one k is = elim (cases_eq j k) [
        | inl same ↦ sym same
        | inr apart ↦ absurd (false≢true (sym ((only_is label k is).others j apart) ∙ among))
      ]

  -- a finer letter of a set lies in one of the set
  parent_among : (set : List Bool) (j : ℕ) → has (relabelled parents set) j ≡ true → has set (get_or parents j 0) ≡ true
  parent_among set j among = elim (cases_lt j (length parents)) [
    | inl below ↦ sym (get_or-map (has set) parents j 0 false below) ∙ among
    | inr past ↦ absurd (false≢true (sym (get_or_past (relabelled parents set) j false (omega (arith, past, length-map parents (has set)))) ∙ among))
  ]

  module _ (read : ℕ → ℕ) where
    alone_reads : (kind : Kind) (output : List ℕ) → Does read (relabelled_kind parents kind) [] output → reads_nothing kind ≡ true
    alone_reads Silent output does = refl
    alone_reads (In set) output does = absurd (no_symbol does.0.0 [] does.0.2)
    alone_reads (Out set) output does = refl
    alone_reads (Same set) output does = absurd (no_symbol does.0.0 [] does.0.2)

    reads_letter : (letter : Option ℕ) (kind : Kind) (c : ℕ) (output : List ℕ) → ((known : ℕ) → letter ≡ Some known → known ≡ get_or parents (read c) 0)
        → Does read (relabelled_kind parents kind) (c ∷ []) output → may_read letter kind ≡ true
    reads_letter letter Silent c output known does = absurd (no_symbol c [] (sym does.0))
    reads_letter letter (In set) c output known does =
        sure_may_have letter set (get_or parents (read c) 0) known (parent_among set (read c) (ap (λ s. has (relabelled parents set) (read s)) (sym (one_symbol c does.0.0 does.0.2)) ∙ does.0.1))
    reads_letter letter (Out set) c output known does = absurd (no_symbol c [] (sym does.0))
    reads_letter letter (Same set) c output known does =
        sure_may_have letter set (get_or parents (read c) 0) known (parent_among set (read c) (ap (λ s. has (relabelled parents set) (read s)) (sym (one_symbol c does.0.0 does.0.2)) ∙ does.0.1))

    -- by an edge that reads nothing the transducer stays
    by_silent : (right to : ℕ) (moves : List (Move (List Bool))) (label : Option (List Bool)) (input : List ℕ) → Does read (lifted_kind Both label) input []
        → Contains (label_pairs parents right moves label to) (pair_of to right)
    by_silent right to moves None input does = (0, omega arith, refl)
    by_silent right to moves (Some set) input does = absurd (no_symbol does.0.0 [] (does.1 ∙ does.0.2))

    by_symbol : (right to : ℕ) (moves : List (Move (List Bool))) (label : Option (List Bool)) (c : ℕ) (input output : List ℕ) → Does read (lifted_kind Both label) input (c ∷ [])
        → (n : Move (List Bool)) → Contains moves n → Does read (relabelled_kind parents n.kind) (c ∷ []) output → Contains (label_pairs parents right moves label to) (pair_of to n.to)
    by_symbol right to moves None c input output does n among second = absurd (no_symbol c [] (sym does.1))
    by_symbol right to moves (Some set) c input output does n among second =
        let here : has set (read c) ≡ true = ap (λ s. has set (read s)) (sym (one_symbol c does.0.0 (does.1 ∙ does.0.2))) ∙ does.0.1 in
        in_flat_map (λ m. pair_if (may_read (only_parent parents set) m.kind) (pair_of to m.to)) moves n (pair_of to n.to) among
        (in_pair_if (may_read (only_parent parents set) n.kind) (pair_of to n.to) (reads_letter (only_parent parents set) n.kind c output (known_parent set (read c) here) second))

-- ---- the whole transducer over the finer letters

abbrev pub whole : List ℕ → Machine → Machine
whole parents t = record { letters = length parents; start = t.start; finals = t.finals; moves = map (map (relabelled_move parents)) t.moves }

pub whole_is : (parents : List ℕ) (t : Machine) → IsRelabelled parents t (whole parents t)
whole_is parents t = record { letters = refl; start = refl; finals = refl; moves = refl }

pub whole_moves : (parents : List ℕ) (t : Machine) (p : ℕ) → moves_of (whole parents t) p ≡ map (relabelled_move parents) (moves_of t p)
whole_moves parents t p = get_or-map_nil (relabelled_move parents) t.moves p

-- ---- each step of the two leads to a pair that follows

module _ (parents : List ℕ) (a : Automaton) (t : Machine) (ok : IsAutomaton a) (read : ℕ → ℕ) (x : Pair) where
  abbrev follows : Pair → Type 0
  follows y = Contains (reading_pairs parents a t x) y

  alone_follows : (q : ℕ) (output : List ℕ) → HasStep read (whole parents t) x.right [] output q → follows (pair_of x.left q)
  alone_follows q output step =
      let found = mapped_back read (relabelled_move parents) (moves_of t) (whole parents t) (whole_moves parents t) x.right q [] output step in
      let to : Pair = pair_of x.left found.0.to in
      subst (λ n. follows (pair_of x.left n)) found.2
      (Contains-append_left (alone_pairs x.left (moves_of t x.right)) (flat_map (edge_pairs parents x.right (moves_of t x.right)) (edges_of a x.left)) to
      (in_flat_map (λ n. pair_if (reads_nothing n.kind) (pair_of x.left n.to)) (moves_of t x.right) found.0 to found.1
      (in_pair_if (reads_nothing found.0.kind) to (alone_reads parents read found.0.kind output found.3))))

  edge_follows : (e : Edge) (y : Pair) → Contains (edges_of a x.left) e → Contains (edge_pairs parents x.right (moves_of t x.right) e) y → follows y
  edge_follows e y among here =
      Contains-append_right (alone_pairs x.left (moves_of t x.right)) (flat_map (edge_pairs parents x.right (moves_of t x.right)) (edges_of a x.left)) y
      (in_flat_map (edge_pairs parents x.right (moves_of t x.right)) (edges_of a x.left) e y among here)

  pub source_edge : (p : ℕ) (input output : List ℕ) → HasStep read (source_of a) x.left input output p
      → (e : Edge) × Contains (edges_of a x.left) e × (e.to ≡ p) × Does read (lifted_kind Both e.label) input output
  source_edge p input output step = mapped_back read (lifted Both) (edges_of a) (source_of a) (source_moves Both a (source_of a) ok (source_lifted a t ok)) x.left p input output step

  silent_follows : (p : ℕ) (input : List ℕ) → HasStep read (source_of a) x.left input [] p → follows (pair_of p x.right)
  silent_follows p input step =
      let found = source_edge p input [] step in
      subst (λ n. follows (pair_of n x.right)) found.2
      (edge_follows found.0 (pair_of found.0.to x.right) found.1 (by_silent parents read x.right found.0.to (moves_of t x.right) found.0.label input found.3))

  both_follow : (p q c : ℕ) (input output : List ℕ) → HasStep read (source_of a) x.left input (c ∷ []) p → HasStep read (whole parents t) x.right (c ∷ []) output q → follows (pair_of p q)
  both_follow p q c input output first second =
      let edge = source_edge p input (c ∷ []) first in
      let move = mapped_back read (relabelled_move parents) (moves_of t) (whole parents t) (whole_moves parents t) x.right q (c ∷ []) output second in
      subst (λ n. follows (pair_of n q)) edge.2
      (subst (λ n. follows (pair_of edge.0.to n)) move.2
      (edge_follows edge.0 (pair_of edge.0.to move.0.to) edge.1 (by_symbol parents read x.right edge.0.to (moves_of t x.right) edge.0.label c input output edge.3 move.0 move.1 move.3)))

  pub step_follows : (y : Pair) (input output : List ℕ) → JointStep read (source_of a) (whole parents t) x input output y → follows y
  step_follows y input output step = elim step [
    | inl first ↦ subst (λ n. follows (pair_of y.left n)) first.1 (silent_follows y.left input first.0)
    | inr others ↦ elim others [
      | inl second ↦ subst (λ n. follows (pair_of n y.right)) second.0 (alone_follows y.right output second.1)
      | inr both ↦ both_follow y.left y.right both.0 input output both.1 both.2
    ]
  ]

-- ---- each pair that follows is one of states

from_pair_if : (b : Bool) (to y : Pair) → Contains (pair_if b to) y → to ≡ y
from_pair_if true to y among = elim (Contains-cons_cases to [] y among) [ inl same ↦ same | inr none ↦ absurd (Contains-nil y none) ]
from_pair_if false to y among = absurd (Contains-nil y among)

abbrev pub AreStates : Automaton → Machine → Pair → Type 0
AreStates a t y = (y.left < states a) × (y.right < machine_states t)

module _ (parents : List ℕ) (a : Automaton) (t : Machine) (ok : IsAutomaton a) (ok_t : IsMachine t) (x : Pair) (left : x.left < states a) (right : x.right < machine_states t) where
  move_leads : (n : Move (List Bool)) → Contains (moves_of t x.right) n → n.to < machine_states t
  move_leads n among = (All-contains (IsMove t.letters (machine_states t)) (moves_of t x.right) n (moves_ok t ok_t x.right) among).leads

  edge_leads : (e : Edge) → Contains (edges_of a x.left) e → e.to < states a
  edge_leads e among = (All-contains (IsEdge a.letters (states a)) (edges_of a x.left) e (edges_ok a ok x.left) among).leads

  label_leads : (label : Option (List Bool)) (to : ℕ) → to < states a → (y : Pair) → Contains (label_pairs parents x.right (moves_of t x.right) label to) y → AreStates a t y
  label_leads None to below y among = elim (Contains-cons_cases (pair_of to x.right) [] y among) [
    | inl same ↦ subst (AreStates a t) same (below, right)
    | inr none ↦ absurd (Contains-nil y none)
  ]
  label_leads (Some set) to below y among =
      let known = only_parent parents set in
      let found = from_flat_map (λ (n : Move (List Bool)). pair_if (may_read known n.kind) (pair_of to n.to)) (moves_of t x.right) y among in
      subst (AreStates a t) (from_pair_if (may_read known found.0.kind) (pair_of to found.0.to) y found.2) (below, move_leads found.0 found.1)

  pub follows_lead : All (AreStates a t) (reading_pairs parents a t x)
  follows_lead k d below = each (get_or (reading_pairs parents a t x) k d) (Contains-get_or (reading_pairs parents a t x) k d below)
    where
      each : (y : Pair) → Contains (reading_pairs parents a t x) y → AreStates a t y
      each y among = elim (Contains-append_cases (alone_pairs x.left (moves_of t x.right)) (flat_map (edge_pairs parents x.right (moves_of t x.right)) (edges_of a x.left)) y among) [
        | inl alone ↦
            let found = from_flat_map (λ (n : Move (List Bool)). pair_if (reads_nothing n.kind) (pair_of x.left n.to)) (moves_of t x.right) y alone in
            subst (AreStates a t) (from_pair_if (reads_nothing found.0.kind) (pair_of x.left found.0.to) y found.2) (left, move_leads found.0 found.1)
        | inr along ↦
            let found = from_flat_map (edge_pairs parents x.right (moves_of t x.right)) (edges_of a x.left) y along in
            label_leads found.0.label found.0.to (edge_leads found.0 found.1) y found.2
      ]

-- so each pair that is found is one of states
module _ (parents : List ℕ) (a : Automaton) (t : Machine) (ok : IsAutomaton a) (ok_t : IsMachine t) where
  path_states : (path : List Pair) (x y : Pair) → AreStates a t x → Leads (reading_pairs parents a t) x path y → AreStates a t y
  path_states [] x y here same = subst (AreStates a t) same here
  path_states (z ∷ rest) x y here leads =
      path_states rest z y (All-contains (AreStates a t) (reading_pairs parents a t x) z (follows_lead parents a t ok ok_t x here.0 here.1) leads.0) leads.1

  pub found_states : (pairs : List Pair) → ((x : Pair) → Contains pairs x ↔ Reachable (reading_pairs parents a t) (pair_of a.start t.start) x) → All (AreStates a t) pairs
  found_states pairs each k d below =
      let found = (each (get_or pairs k d)).0 (Contains-get_or pairs k d below) in
      path_states found.0 (pair_of a.start t.start) (get_or pairs k d) (ok.starts, ok_t.starts) found.1
