-- A transducer over finer letters that keeps the moves of some states alone: of those to which it may come while it reads
-- the words of an automaton.
use Rattle.std.proofs.Common.{◌≡◌, ℕ, ◌<◌, ◌≤◌, ◌↔◌, Bool, true, false, if◌then◌else◌, List, [], ◌∷◌, ◌++◌, length, get_or, map, Option, None, Some, IsTrue, inl, inr, refl, sym, ap, ◌∙◌, subst, arith}
use Rattle.std.specs.List.{All, range_with_len}
use Rattle.std.proofs.lemmas.Bool.{cases_Bool, cases_lt}
use Rattle.std.proofs.lemmas.List.{append-nil, get_or_default, get_or_past}
use Rattle.std.proofs.lemmas.List.Elements.{All-map, All-nil, All-weaker}
use Rattle.std.proofs.lemmas.List.FromFn.{get_or-map-range_with_len, length-map-range_with_len}
use Rattle.rela_labels.specs.Partition.{block_of}
use Rattle.rela_pairs.specs.Reachable.{Reachable}
use Rattle.rela_pairs.specs.declared.pair.Pair.{Pair}
use Rattle.rela_nfa.specs.Automaton.{Automaton, IsAutomaton}
use Rattle.rela_nfa.specs.Meeting.{pair_of}
use Rattle.rela_nfa.specs.Relabelling.{blocks_of}
use Rattle.rela_nfa.specs.Runs.{Reach, Accepts}
use Rattle.rela_trans.specs.Composition.{ReachThrough}
use Rattle.rela_trans.specs.ImageMoves.{source_of}
use Rattle.rela_trans.specs.Machine.{Machine, IsMachine, IsMove, IsSized, moves_of, machine_states}
use Rattle.rela_trans.specs.Reached.{IsKept, MayReach, reading_pairs, kept_moves}
use Rattle.rela_trans.specs.Relabelling.{relabelled_kind, relabelled_move}
use Rattle.rela_trans.specs.Runs.{Does, HasStep, StepIn, ReachR, Relates}
use Rattle.rela_trans.specs.Tapes.{lifted_kind}
use Rattle.rela_trans.specs.declared.moves.Move.{Move}
use Rattle.rela_trans.specs.declared.tapes.Tape.TheVariants.{Both}
use Rattle.rela_trans.proofs.Accessors.{moves_ok}
use Rattle.rela_trans.proofs.Following.{whole, whole_is, whole_moves, source_edge, step_follows}
use Rattle.rela_trans.proofs.ImageMade.{source_reached}
use Rattle.rela_trans.proofs.JointSteps.{JointStep, through_each}
use Rattle.rela_trans.proofs.Paths.{reachable_start, reachable_next}
use Rattle.rela_trans.proofs.Reaching.{subst_pair, reach_start, reach_step, reach_each}
use Rattle.rela_trans.proofs.Relabelled.{relabelled_sized, relabelled_reach}
use Rattle.rela_trans.proofs.Steps.{no_step}

-- what is read while the word of an automaton is read and written is written too
both_same : (read : ℕ → ℕ) (label : Option (List Bool)) (input output : List ℕ) → Does read (lifted_kind Both label) input output → input ≡ output
both_same read None input output does = does.0 ∙ sym does.1
both_same read (Some set) input output does = sym does.1

module _ (parents : List ℕ) (kept : List Bool) (t r : Machine) (built : IsKept parents kept t r) (ok : IsMachine t) where
  abbrev finer : List (Move (List Bool)) → List (Move (List Bool))
  finer moves = map (relabelled_move parents) moves

  moves_below : (p : ℕ) → p < machine_states t → moves_of r p ≡ kept_moves parents kept t p
  moves_below p below = ap (λ l. get_or l p []) built.moves ∙ get_or-map-range_with_len (kept_moves parents kept t) 0 (machine_states t) p p [] below (omega arith)

  moves_past : (p : ℕ) → machine_states t ≤ p → moves_of r p ≡ []
  moves_past p past =
      ap (λ l. get_or l p []) built.moves
      ∙ get_or_past (map (kept_moves parents kept t) (range_with_len 0 (machine_states t))) p [] (omega (arith, past, length-map-range_with_len (kept_moves parents kept t) 0 (machine_states t)))

  moves_if : (p : ℕ) → get_or kept p false ≡ true → moves_of r p ≡ moves_of (whole parents t) p
  moves_if p is = elim (cases_lt p (machine_states t)) [
    | inl below ↦ moves_below p below ∙ ap (λ b. if b then finer (moves_of t p) else []) is ∙ sym (whole_moves parents t p)
    | inr past ↦ moves_past p past ∙ sym (whole_moves parents t p ∙ ap finer (get_or_past t.moves p [] (omega (arith, past, ok.each))))
  ]

  moves_unless : (p : ℕ) → get_or kept p false ≡ false → moves_of r p ≡ []
  moves_unless p isnt = elim (cases_lt p (machine_states t)) [
    | inl below ↦ moves_below p below ∙ ap (λ b. if b then finer (moves_of t p) else []) isnt
    | inr past ↦ moves_past p past
  ]

  pub kept_states : machine_states r ≡ machine_states t
  kept_states = ap length built.finals

  finer_ok : (p : ℕ) → All (IsMove r.letters (machine_states r)) (finer (moves_of t p))
  finer_ok p =
      All-map (IsMove r.letters (machine_states r)) (relabelled_move parents) (moves_of t p)
      (All-weaker (IsMove t.letters (machine_states t)) (λ m. IsMove r.letters (machine_states r) (relabelled_move parents m)) (λ m is. record {
        sized = subst (λ n. IsSized n (relabelled_kind parents m.kind)) (sym built.letters) (relabelled_sized parents m.kind);
        leads = omega (arith, is.leads, kept_states);
      }) (moves_of t p) (moves_ok t ok p))

  kept_moves_ok : (p : ℕ) → All (IsMove r.letters (machine_states r)) (moves_of r p)
  kept_moves_ok p = elim (cases_Bool (get_or kept p false)) [
    | inl is ↦ subst (λ l. All (IsMove r.letters (machine_states r)) l) (sym (moves_if p is ∙ whole_moves parents t p)) (finer_ok p)
    | inr isnt ↦ subst (λ l. All (IsMove r.letters (machine_states r)) l) (sym (moves_unless p isnt)) (All-nil (IsMove r.letters (machine_states r)))
  ]

  kept_each : length r.moves ≡ machine_states t
  kept_each = ap length built.moves ∙ length-map-range_with_len (kept_moves parents kept t) 0 (machine_states t)

  pub kept_ok : IsMachine r
  kept_ok = record {
    each = kept_each ∙ sym kept_states;
    starts = omega (arith, ok.starts, kept_states, built.start);
    moves = λ k d below.
        subst (λ l. All (IsMove r.letters (machine_states r)) l) (get_or_default r.moves k [] d below) (kept_moves_ok k);
  }

  module _ (read : ℕ → ℕ) where
    step_whole : (p q : ℕ) (input output : List ℕ) → HasStep read r p input output q → HasStep read (whole parents t) p input output q
    step_whole p q input output step = elim (cases_Bool (get_or kept p false)) [
      | inl is ↦ subst (λ l. StepIn read l input output q) (moves_if p is) step
      | inr isnt ↦ absurd (no_step read input output q (subst (λ l. StepIn read l input output q) (moves_unless p isnt) step))
    ]

    step_kept : (p q : ℕ) (input output : List ℕ) → get_or kept p false ≡ true → HasStep read (whole parents t) p input output q → HasStep read r p input output q
    step_kept p q input output is step = subst (λ l. StepIn read l input output q) (sym (moves_if p is)) step

    -- what is kept reaches no more
    kept_back : (q : ℕ) (u v : List ℕ) → ReachR read r q u v → ReachR read (whole parents t) q u v
    kept_back =
        reach_each read r (ReachR read (whole parents t))
        (λ p q u v input output reach there step. reach_step read (whole parents t) p q u v input output there (step_whole p q input output step))
        (subst (λ n. ReachR read (whole parents t) n [] []) (sym built.start) (reach_start read (whole parents t)))

    module _ (a : Automaton) (ok_a : IsAutomaton a) (all : (q : ℕ) → MayReach parents a t q → IsTrue (get_or kept q false)) where
      -- the pair is found, and what is kept reaches its right state
      abbrev Here : Pair → List ℕ → List ℕ → Type 0
      Here x u w = Reachable (reading_pairs parents a t) (pair_of a.start t.start) x × ReachR read r x.right u w

      source_same : (x : Pair) (p : ℕ) (input output : List ℕ) → HasStep read (source_of a) x.left input output p → input ≡ output
      source_same x p input output step =
          let edge = source_edge parents a t ok_a read x p input output step in
          both_same read edge.0.label input output edge.3

      reach_on : (x y : Pair) (u w input output : List ℕ) → Here x u w → JointStep read (source_of a) (whole parents t) x input output y → ReachR read r y.right (u ++ input) (w ++ output)
      reach_on x y u w input output here step = elim step [
        | inl first ↦
            let none : input ≡ [] = source_same x y.left input [] first.0 in
            subst_pair (ReachR read r y.right) (sym (ap (λ l. u ++ l) none ∙ append-nil u)) (sym (ap (λ l. w ++ l) first.2 ∙ append-nil w)) (subst (λ n. ReachR read r n u w) first.1 here.1)
        | inr others ↦ elim others [
          | inl second ↦
              subst (λ l. ReachR read r y.right (u ++ l) (w ++ output)) (sym second.2)
              (reach_step read r x.right y.right u w [] output here.1 (step_kept x.right y.right [] output (all x.right (x.left, here.0)) second.1))
          | inr both ↦
              subst (λ l. ReachR read r y.right (u ++ l) (w ++ output)) (sym (source_same x y.left input (both.0 ∷ []) both.1))
              (reach_step read r x.right y.right u w (both.0 ∷ []) output here.1 (step_kept x.right y.right (both.0 ∷ []) output (all x.right (x.left, here.0)) both.2))
        ]
      ]

      found_through : (x : Pair) (u w : List ℕ) → ReachThrough read (source_of a) (whole parents t) x u w → Here x u w
      found_through =
          through_each read (source_of a) (whole parents t) Here
          (reachable_start (reading_pairs parents a t) (pair_of a.start t.start), subst (λ n. ReachR read r n [] []) built.start (reach_start read r))
          (λ x y u w input output here step.
          (reachable_next (reading_pairs parents a t) (pair_of a.start t.start) x y here.0 (step_follows parents a t ok_a read x y input output step), reach_on x y u w input output here step))

      -- and no less of what is read
      kept_on : (p q : ℕ) (u v : List ℕ) → Reach a p (map read u) → ReachR read (whole parents t) q u v → ReachR read r q u v
      kept_on p q u v reads reach = (found_through (pair_of p q) u v (u, (source_reached a t ok_a read p u u).1 (reads, refl), reach)).1

  module _ (a : Automaton) (ok_a : IsAutomaton a) (all : (q : ℕ) → MayReach parents a t q → IsTrue (get_or kept q false)) (from to : List ℕ) (count : ℕ)
      (parent : (s : ℕ) → s < count → get_or parents (block_of to s) 0 ≡ block_of from s) (within : (s : ℕ) → s < count → block_of to s < length parents) where
    back : (q : ℕ) (u v : List ℕ) → All (λ s. s < count) u → All (λ s. s < count) v → ReachR (block_of to) r q u v → ReachR (block_of from) t q u v
    back q u v in_each out_each reach = (relabelled_reach parents t (whole parents t) (whole_is parents t) from to count parent within q u v in_each out_each).0 (kept_back (block_of to) q u v reach)

    on : (p q : ℕ) (u v : List ℕ) → All (λ s. s < count) u → All (λ s. s < count) v → Reach a p (blocks_of to u) → ReachR (block_of from) t q u v → ReachR (block_of to) r q u v
    on p q u v in_each out_each reads reach =
        kept_on (block_of to) a ok_a all p q u v reads ((relabelled_reach parents t (whole parents t) (whole_is parents t) from to count parent within q u v in_each out_each).1 reach)

    pub kept_reach : (p q : ℕ) (u v : List ℕ) → All (λ s. s < count) u → All (λ s. s < count) v → Reach a p (blocks_of to u) → ReachR (block_of to) r q u v ↔ ReachR (block_of from) t q u v
    kept_reach p q u v in_each out_each reads = (back q u v in_each out_each, on p q u v in_each out_each reads)

    pub kept_relation : (u v : List ℕ) → All (λ s. s < count) u → All (λ s. s < count) v → Accepts a (blocks_of to u) → Relates (block_of to) r u v ↔ Relates (block_of from) t u v
    kept_relation u v in_each out_each (p, reads, accepted) = (
      λ (q, reach, final). (q, back q u v in_each out_each reach, ap (λ l. get_or l q false) (sym built.finals) ∙ final),
      λ (q, reach, final). (q, on p q u v in_each out_each reads reach, ap (λ l. get_or l q false) built.finals ∙ final),
    )
