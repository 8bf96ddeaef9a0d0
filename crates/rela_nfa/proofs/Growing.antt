-- Lists of states that grow at the end.
use Rattle.std.proofs.Common.{◌≡◌, ℕ, Bool, true, false, ◌+◌, ◌<◌, ◌≤◌, ◌⊎◌, ◌↔◌, List, [], ◌∷◌, ◌++◌, length, get_or, take, Option, None, Some, inl, inr, arith, refl, sym, ap, ◌∙◌, subst, append_assoc, length-append}
use Rattle.std.specs.List.{All, Contains}
use Rattle.std.specs.Option.{option_to_list}
use Rattle.std.proofs.lemmas.Bool.{false≢true}
use Rattle.std.proofs.lemmas.List.{append-nil, get_or_append_left, take_more, same_from_push}
use Rattle.std.proofs.lemmas.List.Elements.{All-contains, All-from_get_or, Contains-append_left, Contains-get_or, Contains-push, Contains-push_cases}
use Rattle.rela_nfa.specs.Automaton.{Automaton, Move, IsAutomaton, states}
use Rattle.rela_nfa.specs.Reading.{takes, AreReached, Closes}
use Rattle.rela_nfa.specs.Runs.{StepIn, HasStep, Reach}
use Rattle.rela_nfa.specs.StateSet.{Inserts, Adds}
use Rattle.rela_nfa.proofs.Moves.{Contains-nil, Contains-cons_cases, no_step, step_left, step_right, step_cases}
use Rattle.rela_nfa.proofs.Parts.{leads_to_state}
use Rattle.rela_nfa.proofs.Reaching.{reach_start, reach_step, reach_each}

pub adds_keeps : {P : ℕ → Type 0} (old new : List ℕ) → Adds P old new → (m : ℕ) → Contains old m → Contains new m
adds_keeps old new adds m c = subst (λ l. Contains l m) (sym adds.longer.1) (Contains-append_left old adds.longer.0 m c)

pub adds_nothing : (P : ℕ → Type 0) (now : List ℕ) → ((m : ℕ) → P m → ⊥) → Adds P now now
adds_nothing P now none = record { longer = ([], sym (append-nil now)); each = λ m c. inl c; all = λ m holds. absurd (none m holds) }

-- to no state just those of P were added
pub adds_all : (P : ℕ → Type 0) (now : List ℕ) → Adds P [] now → (q : ℕ) → Contains now q ↔ P q
adds_all P now adds q = (λ c. elim (adds.each q c) [ inl none ↦ absurd (Contains-nil q none) | inr holds ↦ holds ], adds.all q)

-- one after the other
pub adds_both : (P Q R : ℕ → Type 0) (old mid new : List ℕ) → Adds P old mid → Adds Q mid new → ((m : ℕ) → P m → R m) → ((m : ℕ) → Q m → R m)
    → ((m : ℕ) → R m → P m ⊎ Q m) → Adds R old new
adds_both P Q R old mid new first second left right cases = record {
  longer = (first.longer.0 ++ second.longer.0, second.longer.1 ∙ ap (λ l. l ++ second.longer.0) first.longer.1 ∙ append_assoc old first.longer.0 second.longer.0);
  each = λ m c. elim (second.each m c) [
    | inl before ↦ elim (first.each m before) [ inl there ↦ inl there | inr one ↦ inr (left m one) ]
    | inr two ↦ inr (right m two)
  ];
  all = λ m holds. elim (cases m holds) [ inl one ↦ adds_keeps mid new second m (first.all m one) | inr two ↦ second.all m two ];
}

-- one edge
pub one_step : (move : Move) (letter : Option ℕ) (q : ℕ) → StepIn (move ∷ []) letter q → (move.to ≡ q) × (takes move.label letter ≡ true)
one_step move None q step = elim (Contains-cons_cases move [] _ step) [
  | inl same ↦ (ap (λ (m : Move). m.to) same, ap (λ (m : Move). takes m.label None) same)
  | inr none ↦ absurd (Contains-nil _ none)
]
one_step move (Some k) q step = elim (Contains-cons_cases move [] _ step.1) [
  | inl same ↦ (ap (λ (m : Move). m.to) same, ap (λ (m : Move). takes m.label (Some k)) same ∙ step.2)
  | inr none ↦ absurd (Contains-nil _ none)
]

taken_step : (label : Option (List Bool)) (to : ℕ) (letter : Option ℕ) → takes label letter ≡ true → StepIn (record { label = label; to = to } ∷ []) letter to
taken_step None to None taken = (0, omega arith, refl)
taken_step None to (Some k) taken = absurd (false≢true taken)
taken_step (Some set) to None taken = absurd (false≢true taken)
taken_step (Some set) to (Some k) taken = (set, (0, omega arith, refl), taken)

pub followed : (move : Move) (letter : Option ℕ) (old new : List ℕ) → takes move.label letter ≡ true → Inserts old new move.to → Adds (StepIn (move ∷ []) letter) old new
followed move letter old new taken inserts = record {
  longer = elim inserts.1 [ inl same ↦ ([], same ∙ sym (append-nil old)) | inr more ↦ (move.to ∷ [], more) ];
  each = λ m c. elim inserts.1 [
    | inl same ↦ inl (subst (λ l. Contains l m) same c)
    | inr more ↦ elim (Contains-push_cases old move.to m (subst (λ l. Contains l m) more c)) [
      | inl before ↦ inl before
      | inr here ↦ inr (subst (λ n. StepIn (move ∷ []) letter n) here (taken_step move.label move.to letter taken))
    ]
  ];
  all = λ m step. subst (λ n. Contains new n) (one_step move letter m step).0 inserts.0;
}

pub passed : (move : Move) (letter : Option ℕ) (now : List ℕ) → takes move.label letter ≡ false → Adds (StepIn (move ∷ []) letter) now now
passed move letter now other = adds_nothing (StepIn (move ∷ []) letter) now (λ m step. false≢true (sym other ∙ (one_step move letter m step).1))

-- the edges of a list, one after the other
pub no_edge : (letter : Option ℕ) (now : List ℕ) → Adds (StepIn [] letter) now now
no_edge letter now = adds_nothing (StepIn [] letter) now (λ m step. no_step letter m step)

pub one_edge : (moves : List Move) (move : Move) (letter : Option ℕ) (old mid new : List ℕ) → Adds (StepIn moves letter) old mid → Adds (StepIn (move ∷ []) letter) mid new
    → Adds (StepIn (moves ++ move ∷ []) letter) old new
one_edge moves move letter old mid new before one =
    adds_both (StepIn moves letter) (StepIn (move ∷ []) letter) (StepIn (moves ++ move ∷ []) letter) old mid new before one
    (λ m. step_left moves (move ∷ []) letter m) (λ m. step_right moves (move ∷ []) letter m) (λ m. step_cases moves (move ∷ []) letter m)

-- what follows some of the states by a letter
abbrev pub After : Automaton → List ℕ → Option ℕ → ℕ → Type 0
After a from letter q = (p : ℕ) × Contains from p × HasStep a p letter q

pub none_after : (a : Automaton) (letter : Option ℕ) (now : List ℕ) → Adds (After a [] letter) now now
none_after a letter now = adds_nothing (After a [] letter) now (λ m (p, among, step). Contains-nil p among)

pub one_after : (a : Automaton) (from : List ℕ) (i : ℕ) (letter : Option ℕ) (old mid new : List ℕ) → i < length from → Adds (After a (take i from) letter) old mid
    → Adds (HasStep a (get_or from i 0) letter) mid new → Adds (After a (take (i + 1) from) letter) old new
one_after a from i letter old mid new below before one =
    subst (λ l. Adds (After a l letter) old new) (sym (take_more from i 0 below))
    (adds_both (After a (take i from) letter) (HasStep a (get_or from i 0) letter) (After a (take i from ++ get_or from i 0 ∷ []) letter) old mid new before one
    (λ m (p, among, step). (p, Contains-append_left (take i from) (get_or from i 0 ∷ []) p among, step))
    (λ m step. (get_or from i 0, Contains-push (take i from) (get_or from i 0), step))
    (λ m (p, among, step). elim (Contains-push_cases (take i from) (get_or from i 0) p among) [
      | inl earlier ↦ inl (p, earlier, step)
      | inr here ↦ inr (subst (λ n. HasStep a n letter m) (sym here) step)
    ]))

pub adds_length : {P : ℕ → Type 0} (old new : List ℕ) → Adds P old new → length old ≤ length new
adds_length old new adds = omega (arith, ap length adds.longer.1, length-append old adds.longer.0)

pub adds_at : {P : ℕ → Type 0} (old new : List ℕ) → Adds P old new → (k : ℕ) → k < length old → get_or new k 0 ≡ get_or old k 0
adds_at old new adds k within = ap (λ l. get_or l k 0) adds.longer.1 ∙ get_or_append_left old adds.longer.0 0 k within

-- states to which edges lead are states
pub adds_within : (a : Automaton) → IsAutomaton a → (letter : Option ℕ) (p : ℕ) (old new : List ℕ) → Adds (HasStep a p letter) old new → All (λ q. q < states a) old → All (λ q. q < states a) new
adds_within a ok letter p old new adds below = All-from_get_or (λ q. q < states a) new 0 (λ i within.
    elim (adds.each (get_or new i 0) (Contains-get_or new i 0 within)) [
      | inl before ↦ All-contains (λ q. q < states a) old (get_or new i 0) below before
      | inr step ↦ leads_to_state a ok p (get_or new i 0) letter step
    ])

-- a closed set that has the start and is reached by the empty word
pub first_reached : (a : Automaton) (new : List ℕ) → Closes a (a.start ∷ []) new → AreReached a [] new
first_reached a new closes q = (
  closes.only [] (λ p c. elim (Contains-cons_cases a.start [] p c) [ inl here ↦ subst (λ n. Reach a n []) here (reach_start a) | inr none ↦ absurd (Contains-nil p none) ]) q,
  λ reach.
      reach_each a (λ p w. w ≡ [] → Contains new p)
      (λ p r letter w reads there step nil. silently letter p r w there step nil)
      (λ nil. closes.kept a.start (0, omega arith, refl)) q [] reach refl,
)
  where
    silently : (letter : Option ℕ) (p r : ℕ) (w : List ℕ) → (w ≡ [] → Contains new p) → HasStep a p letter r → w ++ option_to_list letter ≡ [] → Contains new r
    silently None p r w there step nil = closes.closed p r (there (sym (append-nil w) ∙ nil)) step
    silently (Some k) p r w there step nil = absurd (omega (arith, ap length nil, length-append w (k ∷ [])))

-- a closed set of what follows by one letter more
pub next_reached : (a : Automaton) (old after new : List ℕ) (k : ℕ) → ((q : ℕ) → Contains after q ↔ After a old (Some k) q) → Closes a after new
    → (w : List ℕ) → AreReached a w old → AreReached a (w ++ k ∷ []) new
next_reached a old after new k steps closes w reached q = (
  closes.only (w ++ k ∷ []) (λ p c. let from = (steps p).0 c in reach_step a from.0 p (Some k) w ((reached from.0).0 from.1) from.2) q,
  λ reach. reach_each a (λ p v. v ≡ w ++ k ∷ [] → Contains new p) (λ p r letter v reads there step same. one letter p r v reads there step same) (λ same. absurd (omega (arith, ap length same, length-append w (k ∷ [])))) q (w ++ k ∷ []) reach refl,
)
  where
    one : (letter : Option ℕ) (p r : ℕ) (v : List ℕ) → Reach a p v → (v ≡ w ++ k ∷ [] → Contains new p) → HasStep a p letter r → v ++ option_to_list letter ≡ w ++ k ∷ [] → Contains new r
    one None p r v reads there step same = closes.closed p r (there (sym (append-nil v) ∙ same)) step
    one (Some j) p r v reads there step same =
        let parts = same_from_push v w j k same in
        closes.kept r ((steps r).1 (p, (reached p).1 (subst (λ u. Reach a p u) parts.0 reads), subst (λ i. HasStep a p (Some i) r) parts.1 step))

pub one_inserted : (new : List ℕ) (n : ℕ) → Inserts [] new n → new ≡ n ∷ []
one_inserted new n inserts = elim inserts.1 [ inl same ↦ absurd (Contains-nil n (subst (λ l. Contains l n) same inserts.0)) | inr more ↦ more ]
