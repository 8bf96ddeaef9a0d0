-- The edges out of a set of states, letter after letter.
use Rattle.std.proofs.Common.{◌≡◌, ◌≢◌, ℕ, ◌+◌, ◌<◌, ◌≤◌, ◌↔◌, List, [], ◌∷◌, ◌++◌, length, get_or, Some, sym, ap, ◌∙◌, subst, inl, inr, arith, append_assoc, get_or-append-add, length-append}
use Rattle.std.specs.List.{All, Contains, flat_map}
use Rattle.std.specs.List.Sorted.{IsNonDecreasingBy, IsPermutation}
use Rattle.std.proofs.lemmas.Bool.{cases_lt}
use Rattle.std.proofs.lemmas.List.{get_or_past}
use Rattle.std.proofs.lemmas.List.Elements.{All-contains, All-get_or, All-head, All-push, All-weaker, Contains-append_cases, Contains-append_left, Contains-append_right, Contains-get_or, Contains-push, Contains-push_cases}
use Rattle.std.proofs.lemmas.List.Sorted.{Contains-permutation, IsNonDecreasingBy-drop, IsPermutation-sym}
use Rattle.rela_letter_nfa.specs.LetterAutomaton.{LetterAutomaton, IsLetterAutomaton, edges_of, states}
use Rattle.rela_letter_nfa.specs.Outgoing.{AreComing, HasEnd, IsRest, NextBy}
use Rattle.rela_letter_nfa.specs.Runs.{HasStep}
use Rattle.rela_letter_nfa.specs.Sets.{Adds, Inserts, LeadsFrom, Lists, NextFrom, StepFrom}
use Rattle.rela_letter_nfa.specs.declared.edge.LetterEdge.{LetterEdge}
use Rattle.rela_letter_nfa.proofs.Growing.{adds_one, adds_same}
use Rattle.rela_letter_nfa.proofs.Members.{Contains-cons_cases, Contains-head, Contains-nil, Contains-tail}
use Rattle.rela_letter_nfa.proofs.Reached.{lists_same}

pub rising_tail : (edge : LetterEdge) (later : List LetterEdge) → IsNonDecreasingBy (λ (e : LetterEdge). e.letter) (edge ∷ later) → IsNonDecreasingBy (λ (e : LetterEdge). e.letter) later
rising_tail edge later rising = IsNonDecreasingBy-drop (λ (e : LetterEdge). e.letter) 1 (edge ∷ later) rising

pub rising_head : (edge : LetterEdge) (later : List LetterEdge) → IsNonDecreasingBy (λ (e : LetterEdge). e.letter) (edge ∷ later) → All (λ (e : LetterEdge). edge.letter ≤ e.letter) (edge ∷ later)
rising_head edge later rising i d below = rising 0 i d (omega arith) below

-- the edges up to the rest are of the letter, and their ends have been put in
pub record IsPassing (letter : ℕ) (edges rest : List LetterEdge) (old now : List ℕ) : Type 0 where
  pub done : List LetterEdge
  pub is : edges ≡ done ++ rest
  pub own : All (λ (e : LetterEdge). e.letter ≡ letter) done
  pub adds : Adds (HasEnd done letter) old now

edge_is : (edge : LetterEdge) (letter : ℕ) → edge.letter ≡ letter → edge ≡ record { letter = letter; to = edge.to }
edge_is edge letter own = ap (λ (k : ℕ). let e : LetterEdge = record { letter = k; to = edge.to } in e) own

module _ (letter : ℕ) (edges rest : List LetterEdge) (old mid : List ℕ) (is : IsPassing letter edges rest old mid) where
  pub passing_more : (first : LetterEdge) (later : List LetterEdge) (new : List ℕ) → rest ≡ first ∷ later → first.letter ≡ letter → Inserts mid new first.to → IsPassing letter edges later old new
  passing_more first later new split own inserts = record {
    done = is.done ++ first ∷ [];
    is = is.is ∙ ap (λ l. is.done ++ l) split ∙ sym (append_assoc is.done (first ∷ []) later);
    own = All-push (λ (e : LetterEdge). e.letter ≡ letter) is.done first is.own own;
    adds = adds_one (HasEnd is.done letter) (HasEnd (is.done ++ first ∷ []) letter) first.to old mid new is.adds inserts
        (λ q c. Contains-append_left is.done (first ∷ []) _ c)
        (subst (λ (e : LetterEdge). Contains (is.done ++ first ∷ []) e) (edge_is first letter own) (Contains-push is.done first))
        (λ q c. elim (Contains-push_cases is.done first _ c) [ inl before ↦ inl before | inr here ↦ inr (ap (λ (e : LetterEdge). e.to) here) ]);
  }

  module _ (past : All (λ (e : LetterEdge). letter < e.letter) rest) where
    no_more : (q : ℕ) → ¬ HasEnd rest letter q
    no_more q c = let more : letter < letter = All-contains (λ (e : LetterEdge). letter < e.letter) rest _ past c in omega arith

    pub passing_all : Adds (HasEnd edges letter) old mid
    passing_all =
        adds_same (HasEnd is.done letter) (HasEnd edges letter) old mid
        (λ q. (
          λ c. subst (λ (l : List LetterEdge). HasEnd l letter q) (sym is.is) (Contains-append_left is.done rest _ c),
          λ c. elim (Contains-append_cases is.done rest _ (subst (λ (l : List LetterEdge). HasEnd l letter q) is.is c)) [ inl before ↦ before | inr later ↦ absurd (no_more q later) ],
        )) is.adds

    pub rest_is : IsNonDecreasingBy (λ (e : LetterEdge). e.letter) rest → IsRest letter edges rest
    rest_is rising = record {
      parted = (is.done, is.is);
      rising = rising;
      past = past;
      among = λ k q c. subst (λ (l : List LetterEdge). HasEnd l k q) (sym is.is) (Contains-append_right is.done rest _ c);
      others = λ k q c. elim (Contains-append_cases is.done rest _ (subst (λ (l : List LetterEdge). HasEnd l k q) is.is c)) [
        | inl before ↦ inl (All-contains (λ (e : LetterEdge). e.letter ≡ letter) is.done _ is.own before)
        | inr later ↦ inr later
      ];
    }

  -- what all edges have is so of the rest
  pub rest_all : (P : LetterEdge → Type 0) → All P edges → All P rest
  rest_all P all i d below =
      subst P (get_or-append-add is.done rest i d) (subst (All P) is.is all (length is.done + i) d (omega (arith, below, length-append is.done rest)))

-- edges whose first is past the letter, and none of which is before it
pub all_past : (rest : List LetterEdge) (letter : ℕ) (first : LetterEdge) (later : List LetterEdge) → rest ≡ first ∷ later → IsNonDecreasingBy (λ (e : LetterEdge). e.letter) rest
    → All (λ (e : LetterEdge). letter ≤ e.letter) rest → first.letter ≢ letter → All (λ (e : LetterEdge). letter < e.letter) rest
all_past rest letter first later is rising from apart i d below =
    let upto : letter ≤ (get_or rest 0 d).letter = from 0 d (omega (arith, below)) in
    let least : (get_or rest 0 d).letter ≤ (get_or rest i d).letter = rising 0 i d (omega arith) below in
    let at : (get_or rest 0 d).letter ≡ first.letter = ap (λ (es : List LetterEdge). (get_or es 0 d).letter) is in
    elim (cases_lt letter first.letter) [
      | inl more ↦ omega (arith, least, at, more)
      | inr less ↦ absurd (apart (omega (arith, less, upto, at)))
    ]

pub first_has : (P : LetterEdge → Type 0) (rest : List LetterEdge) (first : LetterEdge) (later : List LetterEdge) → rest ≡ first ∷ later → All P rest → P first
first_has P rest first later is all = All-head P first later (subst (All P) is all)

-- silent steps lead on from the ends of the edges by the letter
pub next_by : (a : LetterAutomaton) (edges : List LetterEdge) (letter : ℕ) (ends now : List ℕ) → ((q : ℕ) → Contains ends q ↔ HasEnd edges letter q)
    → ((q : ℕ) → Contains now q ↔ LeadsFrom a ends [] q) → (q : ℕ) → Contains now q ↔ NextBy a edges letter q
next_by a edges letter ends now same closed q = (
  λ c. let (p, among, silent) = (closed q).0 c in (p, (same p).0 among, silent),
  λ (p, step, silent). (closed q).1 (p, (same p).1 step, silent),
)

-- an edge leads to a state
pub step_within : (a : LetterAutomaton) → IsLetterAutomaton a → (p k q : ℕ) → HasStep a p (Some k) q → q < states a
step_within a ok p k q step = elim (cases_lt p (states a)) [
  | inl below ↦
      All-contains (λ (e : LetterEdge). e.to < states a) (edges_of a p) _
      (All-get_or (All (λ (e : LetterEdge). e.to < states a)) a.edges p [] (let each = ok.each_edges in omega arith) ok.edges) step
  | inr past ↦ absurd (Contains-nil _ (subst (λ (l : List LetterEdge). HasEnd l k q) (get_or_past a.edges p [] (let each = ok.each_edges in omega arith)) step))
]

from_any : (a : LetterAutomaton) (set : List ℕ) (k q : ℕ) → HasEnd (flat_map (edges_of a) set) k q → StepFrom a set k q
from_any a [] k q c = absurd (Contains-nil _ c)
from_any a (p ∷ set) k q c = elim (Contains-append_cases (edges_of a p) (flat_map (edges_of a) set) _ c) [
  | inl here ↦ (p, Contains-head p set, here)
  | inr later ↦ let (r, among, step) = from_any a set k q later in (r, Contains-tail p set r among, step)
]

to_any : (a : LetterAutomaton) (set : List ℕ) (p k q : ℕ) → Contains set p → HasStep a p (Some k) q → HasEnd (flat_map (edges_of a) set) k q
to_any a [] p k q among step = absurd (Contains-nil p among)
to_any a (r ∷ set) p k q among step = elim (Contains-cons_cases r set p among) [
  | inl here ↦ Contains-append_left (edges_of a r) (flat_map (edges_of a) set) _ (subst (λ n. HasStep a n (Some k) q) (sym here) step)
  | inr later ↦ Contains-append_right (edges_of a r) (flat_map (edges_of a) set) _ (to_any a set p k q later step)
]

-- all edges out of a set
pub coming_start : (a : LetterAutomaton) (set : List ℕ) (edges : List LetterEdge) → IsNonDecreasingBy (λ (e : LetterEdge). e.letter) edges → IsPermutation (flat_map (edges_of a) set) edges
    → AreComing a set 0 edges
coming_start a set edges rising same = record {
  rising = rising;
  from_bound = λ i d below. omega arith;
  step = λ k q c. from_any a set k q (Contains-permutation edges (flat_map (edges_of a) set) _ (IsPermutation-sym (flat_map (edges_of a) set) edges same) c);
  all = λ k q below (p, among, step). Contains-permutation (flat_map (edges_of a) set) edges _ same (to_any a set p k q among step);
}

module _ (a : LetterAutomaton) (set : List ℕ) (bound : ℕ) (edges : List LetterEdge) (is : AreComing a set bound edges) where
  -- they lead to states
  pub coming_lead : IsLetterAutomaton a → All (λ (e : LetterEdge). e.to < states a) edges
  coming_lead ok i d below =
      let e : LetterEdge = get_or edges i d in
      let (p, among, step) = is.step e.letter e.to (Contains-get_or edges i d below) in
      step_within a ok p e.letter e.to step

  module _ (first : LetterEdge) (later : List LetterEdge) (split : edges ≡ first ∷ later) where
    least : All (λ (e : LetterEdge). first.letter ≤ e.letter) edges
    least = subst (All (λ (e : LetterEdge). first.letter ≤ e.letter)) (sym split) (rising_head first later (subst (λ (es : List LetterEdge). IsNonDecreasingBy (λ (e : LetterEdge). e.letter) es) split is.rising))

    pub coming_first : All (λ (e : LetterEdge). first.letter ≤ e.letter) edges
    coming_first = least

    pub coming_bound : bound ≤ first.letter
    coming_bound = first_has (λ (e : LetterEdge). bound ≤ e.letter) edges first later split is.from_bound

    pub coming_skipped : (l q : ℕ) → bound ≤ l → l < first.letter → ¬ StepFrom a set l q
    coming_skipped l q above below step =
        let upto : first.letter ≤ l = All-contains (λ (e : LetterEdge). first.letter ≤ e.letter) edges _ least (is.all l q above step) in omega arith

    pub coming_next : (next : List ℕ) → Lists (NextBy a edges first.letter) next → Lists (NextFrom a set first.letter) next
    coming_next next = lists_same (NextBy a edges first.letter) (NextFrom a set first.letter) next (λ q. (
      λ (p, c, silent). (p, is.step first.letter p c, silent),
      λ (p, step, silent). (p, is.all first.letter p coming_bound step, silent),
    ))

    pub coming_more : (rest : List LetterEdge) → IsRest first.letter edges rest → AreComing a set (first.letter + 1) rest
    coming_more rest others = record {
      rising = others.rising;
      from_bound = All-weaker (λ (e : LetterEdge). first.letter < e.letter) (λ (e : LetterEdge). first.letter + 1 ≤ e.letter) (λ e above. omega (arith, above)) rest others.past;
      step = λ k q c. is.step k q (others.among k q c);
      all = λ k q above step. elim (others.others k q (is.all k q (omega (arith, above, coming_bound)) step)) [
        | inl same ↦ absurd (omega (arith, above, same))
        | inr later_one ↦ later_one
      ];
    }

  pub coming_none : length edges ≡ 0 → (l q : ℕ) → bound ≤ l → ¬ StepFrom a set l q
  coming_none none l q above step = let c = is.all l q above step in omega (arith, none, c.1)

-- the rest is shorter, since the first edge is of the letter
pub rest_shorter : (edges rest : List LetterEdge) (first : LetterEdge) (later : List LetterEdge) → edges ≡ first ∷ later → IsRest first.letter edges rest → length rest < length edges
rest_shorter edges rest first later split others = shorter others.parted.0 others.parted.1
  where
    shorter : (own : List LetterEdge) → edges ≡ own ++ rest → length rest < length edges
    shorter [] same =
        let past : first.letter < first.letter = first_has (λ (e : LetterEdge). first.letter < e.letter) rest first later (sym same ∙ split) others.past in absurd (omega (arith, past))
    shorter (x ∷ own) same = omega (arith, ap length same, length-append own rest)
