-- What a transducer relates of which each move was moved on to the end of the detours that it leads to.
use Rattle.std.proofs.Common.{◌≡◌, ℕ, zero, suc, ◌<◌, ◌≤◌, ◌↔◌, Bool, false, List, [], ◌∷◌, ◌++◌, length, get_or, map, drop, refl, sym, ap, ◌∙◌, subst, inl, inr, arith}
use Rattle.std.specs.List.{All, Contains}
use Rattle.std.specs.declared.vec.Vec.{Vec}
use Rattle.std.proofs.lemmas.List.{get_or-map, length-map}
use Rattle.std.proofs.lemmas.List.Elements.{All-contains, All-map, All-weaker}
use Rattle.rela_trans.specs.Coaccessible.{next_states}
use Rattle.rela_trans.specs.Construction.{silent}
use Rattle.rela_trans.specs.Detours.{ByDetours, Detours, IsDetour, IsEnd, redirected}
use Rattle.rela_trans.specs.Machine.{Machine, Kind, IsMachine, IsMove, IsFinal, machine_states, moves_of}
use Rattle.rela_trans.specs.Runs.{Step, Does, Follow, inputs, outputs, ReachR, Relates}
use Rattle.rela_trans.specs.Stored.{move_of, moves_in}
use Rattle.rela_trans.specs.declared.moves.Move.{Move}
use Rattle.rela_trans.specs.declared.moves.MoveKind.TheVariants.{Silent}
use Rattle.rela_trans.proofs.Accessors.{moves_ok}
use Rattle.rela_trans.proofs.Detouring.{detours_below}
use Rattle.rela_trans.proofs.InPlace.{at_first}
use Rattle.rela_trans.proofs.ListLaws.{Contains-nil, Contains-cons_cases, Contains-map_back}
use Rattle.rela_trans.proofs.Mapped.{get_or-map_nil, mapped_back, mapped_on}

-- the moves of one more list lead where those of the first lists do
pub lead_within : {L A : Type 0} (letters : L → List Bool) (n : ℕ) (first now : List (Vec (Move L) A)) (i : ℕ) (v : Vec (Move L) A) (moves : List (Move L)) → i < length now → v ≡ get_or now i v
    → drop i now ≡ drop i first → All (All (λ move. move.to < n)) (moves_in letters first) → moves ≡ v.items → All (λ edge. edge.to < n) moves
lead_within {L} {A} letters n first now i v moves below at rest lead is k d within =
    let f : Vec (Move L) A → List (Move (List Bool)) = λ w. map (move_of letters) w.items in
    let there = at_first first now i v below rest in
    let here : get_or (moves_in letters first) i [] ≡ map (move_of letters) moves =
    get_or-map f first i v [] there.0 ∙ ap f (there.1 ∙ sym at) ∙ ap (map (move_of letters)) (sym is) in
    let each : All (λ move. move.to < n) (map (move_of letters) moves) = subst (λ l. All (λ move. move.to < n) l) here (lead i [] (omega (arith, there.0, length-map first f))) in
    subst (λ (m : Move (List Bool)). m.to < n) (get_or-map (move_of letters) moves k d (move_of letters d) within)
    (each k (move_of letters d) (omega (arith, within, length-map moves (move_of letters))))

-- the same steps, as far as they read and write
record IsSame (steps others : List Step) : Type 0 where
  reads : inputs others ≡ inputs steps
  writes : outputs others ≡ outputs steps

module _ (read : ℕ → ℕ) (t : Machine) where
  -- what follows from a detour to a final state follows from where it leads
  skip_one : (p r q : ℕ) → IsDetour t p r → (steps : List Step) → Follow read t p steps q → IsFinal t q → (rest : List Step) × Follow read t r rest q × IsSame steps rest × (length rest ≤ length steps)
  skip_one p r q detour [] here final = absurd (detour.0 (subst (IsFinal t) (sym here) final))
  skip_one p r q detour (step ∷ rest) follows final =
      let only : silent r ≡ record { kind = follows.0.0; to = step.to } =
      elim (Contains-cons_cases (silent r) [] (record { kind = follows.0.0; to = step.to }) (subst (λ l. Contains l (record { kind = follows.0.0; to = step.to })) detour.1 follows.0.1)) [
        | inl same ↦ same
        | inr none ↦ absurd (Contains-nil _ none)
      ] in
      let does : Does read Silent step.input step.output = subst (λ (k : Kind). Does read k step.input step.output) (sym (ap (λ (m : Move (List Bool)). m.kind) only)) follows.0.2 in (
        rest,
        subst (λ n. Follow read t n rest q) (sym (ap (λ (m : Move (List Bool)). m.to) only)) follows.1,
        record { reads = ap (λ l. l ++ inputs rest) (sym does.0); writes = ap (λ l. l ++ outputs rest) (sym does.1) },
        omega arith,
      )

  skip : (path : List ℕ) (p r q : ℕ) → ByDetours t p path r → (steps : List Step) → Follow read t p steps q → IsFinal t q → (rest : List Step) × Follow read t r rest q × IsSame steps rest × (length rest ≤ length steps)
  skip [] p r q here steps follows final = (steps, subst (λ n. Follow read t n steps q) here follows, record { reads = refl; writes = refl }, omega arith)
  skip (s ∷ path) p r q leads steps follows final =
      let one = skip_one p s q leads.0 steps follows final in
      let more = skip path s r q leads.1 one.0 one.1 final in
      (more.0, more.1, record { reads = more.2.reads ∙ one.2.reads; writes = more.2.writes ∙ one.2.writes }, omega (arith, one.3, more.3))

  -- what follows from the end of detours follows from where they begin
  lead_in : (path : List ℕ) (p r q : ℕ) → ByDetours t p path r → (steps : List Step) → Follow read t r steps q → (more : List Step) × Follow read t p more q × IsSame steps more
  lead_in [] p r q here steps follows = (steps, subst (λ n. Follow read t n steps q) (sym here) follows, record { reads = refl; writes = refl })
  lead_in (s ∷ path) p r q leads steps follows =
      let on = lead_in path s r q leads.1 steps follows in (
        record { input = []; output = []; to = s } ∷ on.0,
        ((Silent, subst (λ l. Contains l (silent s)) (sym leads.0.1) (0, omega arith, refl), (refl, refl)), on.1),
        record { reads = on.2.reads; writes = on.2.writes },
      )

-- the same transducer, of which the start and each move lead to the end that stands for where they led
pub record IsShortened (ends : List ℕ) (t r : Machine) : Type 0 where
  pub letters : r.letters ≡ t.letters
  pub start : r.start ≡ get_or ends t.start 0
  pub finals : r.finals ≡ t.finals
  pub moves : r.moves ≡ map (map (redirected ends)) t.moves
  pub led : (p : ℕ) → p < machine_states t → Detours t p (get_or ends p 0)
  pub ended : (p : ℕ) → p < machine_states t → IsEnd t (get_or ends p 0)

module _ (ends : List ℕ) (t r : Machine) (ok : IsMachine t) (built : IsShortened ends t r) where
  same_moves : (p : ℕ) → moves_of r p ≡ map (redirected ends) (moves_of t p)
  same_moves p = ap (λ l. get_or l p []) built.moves ∙ get_or-map_nil (redirected ends) t.moves p

  pub shortened_states : machine_states r ≡ machine_states t
  shortened_states = ap length built.finals

  end_below : (p : ℕ) → p < machine_states t → get_or ends p 0 < machine_states t
  end_below p below = detours_below t ok (built.led p below).0 p (get_or ends p 0) below (built.led p below).1

  pub shortened_ok : IsMachine r
  shortened_ok = record {
    each = ap length built.moves ∙ length-map t.moves (map (redirected ends)) ∙ ok.each ∙ sym shortened_states;
    starts = let below = end_below t.start ok.starts in omega (arith, built.start, shortened_states);
    moves =
        subst (λ l. All (All (IsMove r.letters (machine_states r))) l) (sym built.moves)
        (All-map (All (IsMove r.letters (machine_states r))) (map (redirected ends)) t.moves
        (All-weaker (All (IsMove t.letters (machine_states t))) (λ l. All (IsMove r.letters (machine_states r)) (map (redirected ends) l))
        (λ l each. All-map (IsMove r.letters (machine_states r)) (redirected ends) l
        (All-weaker (IsMove t.letters (machine_states t)) (λ m. IsMove r.letters (machine_states r) (redirected ends m))
        (λ m is. subst (λ n. IsMove n (machine_states r) (redirected ends m)) (sym built.letters)
        (subst (λ n. IsMove t.letters n (redirected ends m)) (sym shortened_states) (record { sized = is.sized; leads = end_below m.to is.leads }))) l each)) t.moves ok.moves));
  }

  move_below : (p : ℕ) (move : Move (List Bool)) → Contains (moves_of t p) move → move.to < machine_states t
  move_below p move among = (All-contains (IsMove t.letters (machine_states t)) (moves_of t p) move (moves_ok t ok p) among).leads

  pub shortened_begins : IsEnd t r.start
  shortened_begins = subst (IsEnd t) (sym built.start) (built.ended t.start ok.starts)

  pub shortened_direct : (p q : ℕ) → Contains (next_states r p) q → IsEnd t q
  shortened_direct p q among =
      let found = Contains-map_back (λ (m : Move (List Bool)). m.to) (moves_of r p) q among in
      let move = Contains-map_back (redirected ends) (moves_of t p) found.0 (subst (λ l. Contains l found.0) (same_moves p) found.2) in
      subst (IsEnd t) (ap (λ (m : Move (List Bool)). m.to) move.1 ∙ found.1) (built.ended move.0.to (move_below p move.0 move.2))

  module _ (read : ℕ → ℕ) where
    -- each step there is one here, and then detours
    back : (steps : List Step) (p q : ℕ) → Follow read r p steps q → (more : List Step) × Follow read t p more q × IsSame steps more
    back [] p q here = ([], here, record { reads = refl; writes = refl })
    back (step ∷ rest) p q follows =
        let found = mapped_back read (redirected ends) (moves_of t) r same_moves p step.to step.input step.output follows.0 in
        let move : Move (List Bool) = found.0 in
        let later = back rest step.to q follows.1 in
        let path = built.led move.to (move_below p move found.1) in
        let on = lead_in read t path.0 move.to step.to q (subst (λ n. ByDetours t move.to path.0 n) found.2 path.1) later.0 later.1 in (
          record { input = step.input; output = step.output; to = move.to } ∷ on.0,
          ((move.kind, found.1, found.3), on.1),
          record {
            reads = ap (λ l. step.input ++ l) (on.2.reads ∙ later.2.reads);
            writes = ap (λ l. step.output ++ l) (on.2.writes ∙ later.2.writes);
          },
        )

    -- each step here is one there, after which the detours are skipped
    on_to : (n : ℕ) (steps : List Step) (p q : ℕ) → length steps ≤ n → Follow read t p steps q → IsFinal t q → (more : List Step) × Follow read r p more q × IsSame steps more
    on_to n [] p q few here final = ([], here, record { reads = refl; writes = refl })
    on_to zero (step ∷ rest) p q few follows final = absurd (omega arith)
    on_to (suc n) (step ∷ rest) p q few follows final =
        let move : Move (List Bool) = record { kind = follows.0.0; to = step.to } in
        let path = built.led step.to (move_below p move follows.0.1) in
        let skipped = skip read t path.0 step.to (get_or ends step.to 0) q path.1 rest follows.1 final in
        let later = on_to n skipped.0 (get_or ends step.to 0) q (omega (arith, skipped.3)) skipped.1 final in (
          record { input = step.input; output = step.output; to = get_or ends step.to 0 } ∷ later.0,
          (mapped_on read (redirected ends) (moves_of t) r same_moves p step.input step.output move follows.0.1 follows.0.2, later.1),
          record {
            reads = ap (λ l. step.input ++ l) (later.2.reads ∙ skipped.2.reads);
            writes = ap (λ l. step.output ++ l) (later.2.writes ∙ skipped.2.writes);
          },
        )

    pub shortened_reach : (q : ℕ) (u v : List ℕ) → ReachR read r q u v → ReachR read t q u v
    shortened_reach q u v (steps, follows, reads, writes) =
        let path = built.led t.start ok.starts in
        let there = back steps r.start q follows in
        let on = lead_in read t path.0 t.start r.start q (subst (λ n. ByDetours t t.start path.0 n) (sym built.start) path.1) there.0 there.1 in
        (on.0, on.1, on.2.reads ∙ there.2.reads ∙ reads, on.2.writes ∙ there.2.writes ∙ writes)

    pub shortened_relation : (u v : List ℕ) → Relates read r u v ↔ Relates read t u v
    shortened_relation u v = (
      λ (q, reach, final). (q, shortened_reach q u v reach, ap (λ l. get_or l q false) (sym built.finals) ∙ final),
      λ (q, (steps, follows, reads, writes), final).
          let path = built.led t.start ok.starts in
          let skipped = skip read t path.0 t.start (get_or ends t.start 0) q path.1 steps follows final in
          let on = on_to (length skipped.0) skipped.0 (get_or ends t.start 0) q (omega arith) skipped.1 final in (
            q,
            (on.0, subst (λ n. Follow read r n on.0 q) (sym built.start) on.1, on.2.reads ∙ skipped.2.reads ∙ reads, on.2.writes ∙ skipped.2.writes ∙ writes),
            ap (λ l. get_or l q false) built.finals ∙ final,
          ),
    )
