-- What a transducer relates of which just the moves were kept that lead on to a final state.
use Rattle.std.proofs.Common.{◌≡◌, ℕ, zero, suc, ◌↔◌, Bool, true, false, IsTrue, cond, List, [], ◌∷◌, length, get_or, map, refl, sym, ap, ◌∙◌, subst, inl, inr, arith}
use Rattle.std.specs.List.{All, Contains, filter}
use Rattle.std.proofs.lemmas.List.{length-map}
use Rattle.std.proofs.lemmas.List.Elements.{All-filter, All-map, All-weaker}
use Rattle.rela_pairs.specs.Reachable.{Leads}
use Rattle.rela_trans.specs.Coaccessible.{LeadsOn, kept_by, next_states}
use Rattle.rela_trans.specs.Machine.{Machine, IsMachine, IsMove, IsFinal, machine_states, moves_of}
use Rattle.rela_trans.specs.Runs.{Step, HasStep, Follow, ReachR, Relates}
use Rattle.rela_trans.specs.declared.moves.Move.{Move}
use Rattle.rela_trans.proofs.ListLaws.{Contains-nil, Contains-cons_cases, Contains-map, Contains-map_back}
use Rattle.rela_trans.proofs.Reaching.{reach_start, reach_step, reach_each}

-- the same transducer, of whose moves those are kept that lead to a state whose flag is set: one that leads on
pub record IsPruned (flags : List Bool) (t r : Machine) : Type 0 where
  pub letters : r.letters ≡ t.letters
  pub start : r.start ≡ t.start
  pub finals : r.finals ≡ t.finals
  pub moves : r.moves ≡ map (kept_by flags) t.moves
  pub leading : (q : ℕ) → IsTrue (get_or flags q false) ↔ LeadsOn t q

-- ---- filters

later : {X : Type 0} (x : X) (xs : List X) (y : X) → Contains xs y → Contains (x ∷ xs) y
later x xs y c = (suc c.0, omega (arith, c.1), c.2)

in_filter : {X : Type 0} (test : X → Bool) (xs : List X) (y : X) → Contains xs y → test y ≡ true → Contains (filter test xs) y
in_filter test [] y c holds = c
in_filter test (x ∷ xs) y c holds = elim (Contains-cons_cases x xs y c) [
  | inl same ↦ subst (λ b. Contains (cond b (x ∷ filter test xs) (filter test xs)) y) (sym (ap test same ∙ holds)) (0, omega arith, same)
  | inr among ↦ past x (filter test xs) y (test x) (in_filter test xs y among holds)
]
  where
    past : {X : Type 0} (x : X) (rest : List X) (y : X) (b : Bool) → Contains rest y → Contains (cond b (x ∷ rest) rest) y
    past x rest y true c = later x rest y c
    past x rest y false c = c

from_filter : {X : Type 0} (test : X → Bool) (xs : List X) (y : X) → Contains (filter test xs) y → Contains xs y × (test y ≡ true)
from_filter test [] y c = absurd (Contains-nil y c)
from_filter test (x ∷ xs) y c = by test x xs y (test x) refl c (λ rest. from_filter test xs y rest)
  where
    by : {X : Type 0} (test : X → Bool) (x : X) (xs : List X) (y : X) (b : Bool) → test x ≡ b → Contains (cond b (x ∷ filter test xs) (filter test xs)) y
        → (Contains (filter test xs) y → Contains xs y × (test y ≡ true)) → Contains (x ∷ xs) y × (test y ≡ true)
    by test x xs y true is c rest = elim (Contains-cons_cases x (filter test xs) y c) [
      | inl same ↦ ((0, omega arith, same), ap test (sym same) ∙ is)
      | inr among ↦ let found = rest among in (later x xs y found.0, found.1)
    ]
    by test x xs y false is c rest = let found = rest c in (later x xs y found.0, found.1)

get_or-kept : (flags : List Bool) (xs : List (List (Move (List Bool)))) (k : ℕ) → get_or (map (kept_by flags) xs) k [] ≡ kept_by flags (get_or xs k [])
get_or-kept flags [] k = refl
get_or-kept flags (x ∷ xs) zero = refl
get_or-kept flags (x ∷ xs) (suc k) = get_or-kept flags xs k

-- ---- the two transducers

module _ (flags : List Bool) (t r : Machine) (pruned : IsPruned flags t r) where
  leads_to_set : Move (List Bool) → Bool
  leads_to_set move = get_or flags move.to false

  same_moves : (p : ℕ) → moves_of r p ≡ kept_by flags (moves_of t p)
  same_moves p = ap (λ l. get_or l p []) pruned.moves ∙ get_or-kept flags t.moves p

  pub pruned_states : machine_states r ≡ machine_states t
  pruned_states = ap length pruned.finals

  pub pruned_ok : IsMachine t → IsMachine r
  pruned_ok ok = record {
    each = ap length pruned.moves ∙ length-map t.moves (kept_by flags) ∙ ok.each ∙ sym pruned_states;
    starts = omega (arith, ok.starts, pruned_states, pruned.start);
    moves =
        subst (λ l. All (All (IsMove r.letters (machine_states r))) l) (sym pruned.moves)
        (All-map (All (IsMove r.letters (machine_states r))) (kept_by flags) t.moves
        (All-weaker (All (IsMove t.letters (machine_states t))) (λ l. All (IsMove r.letters (machine_states r)) (kept_by flags l))
        (λ l each. All-filter (λ move. get_or flags move.to false) (IsMove r.letters (machine_states r)) l
        (subst (λ n. All (IsMove n (machine_states r)) l) (sym pruned.letters) (subst (λ n. All (IsMove t.letters n) l) (sym pruned_states) each))) t.moves ok.moves));
  }

  -- each move leads on
  pub pruned_useful : (p q : ℕ) → Contains (next_states r p) q → LeadsOn t q
  pruned_useful p q among =
      let found = Contains-map_back (λ (m : Move (List Bool)). m.to) (moves_of r p) q among in
      let kept = from_filter (λ (m : Move (List Bool)). get_or flags m.to false) (moves_of t p) found.0 (subst (λ l. Contains l found.0) (same_moves p) found.2) in
      subst (LeadsOn t) found.1 ((pruned.leading found.0.to).0 kept.1)

  module _ (read : ℕ → ℕ) where
    step_back : (p q : ℕ) (input output : List ℕ) → HasStep read r p input output q → HasStep read t p input output q
    step_back p q input output step =
        let move : Move (List Bool) = record { kind = step.0; to = q } in
        (step.0, (from_filter (λ (m : Move (List Bool)). get_or flags m.to false) (moves_of t p) move (subst (λ l. Contains l move) (same_moves p) step.1)).0, step.2)

    pub pruned_reach : (q : ℕ) (u v : List ℕ) → ReachR read r q u v → ReachR read t q u v
    pruned_reach =
        reach_each read r (λ q u v. ReachR read t q u v)
        (λ p q u v input output reach there step. reach_step read t p q u v input output there (step_back p q input output step))
        (subst (λ n. ReachR read t n [] []) (sym pruned.start) (reach_start read t))

    -- the states on the way to a final one
    led : (steps : List Step) (p q : ℕ) → Follow read t p steps q → Leads (next_states t) p (map (λ step. step.to) steps) q
    led [] p q here = here
    led (step ∷ rest) p q follows = (
      Contains-map (λ (m : Move (List Bool)). m.to) (moves_of t p) (record { kind = follows.0.0; to = step.to }) follows.0.1,
      led rest step.to q follows.1,
    )

    follow_on : (steps : List Step) (p q : ℕ) → Follow read t p steps q → IsFinal t q → Follow read r p steps q
    follow_on [] p q here final = here
    follow_on (step ∷ rest) p q follows final =
        let move : Move (List Bool) = record { kind = follows.0.0; to = step.to } in
        let set = (pruned.leading step.to).1 (q, (map (λ s. s.to) rest, led rest step.to q follows.1), final) in (
          (
            follows.0.0,
            subst (λ l. Contains l move) (sym (same_moves p)) (in_filter (λ (m : Move (List Bool)). get_or flags m.to false) (moves_of t p) move follows.0.1 set),
            follows.0.2,
          ),
          follow_on rest step.to q follows.1 final,
        )

    pub pruned_relation : (u v : List ℕ) → Relates read r u v ↔ Relates read t u v
    pruned_relation u v = (
      λ (q, reach, final). (q, pruned_reach q u v reach, ap (λ l. get_or l q false) (sym pruned.finals) ∙ final),
      λ (q, reach, final). (
        q,
        (reach.0, subst (λ n. Follow read r n reach.0 q) (sym pruned.start) (follow_on reach.0 t.start q reach.1 final), reach.2, reach.3),
        ap (λ l. get_or l q false) pruned.finals ∙ final,
      ),
    )
