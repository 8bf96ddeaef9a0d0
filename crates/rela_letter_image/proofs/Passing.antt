-- What a machine relates of which moves into silent branches are passed on to the states that stand for these.
use Rattle.std.proofs.Common.{◌≡◌, ℕ, zero, suc, ◌+◌, ◌<◌, ◌≤◌, ◌↔◌, ◌⊎◌, Bool, List, [], ◌∷◌, ◌++◌, Option, None, Some, length, get_or, set, map, take, refl, sym, ap, ◌∙◌, subst, inl, inr, arith}
use Rattle.std.specs.List.{All, Contains, flat_map}
use Rattle.std.specs.declared.vec.Vec.{Vec}
use Rattle.std.proofs.lemmas.Bool.{cases_eq, cases_lt}
use Rattle.std.proofs.lemmas.List.{get_or_append_left, get_or_past, get_or_push, get_or-set_other, get_or-set_same, length-map, length_push, take_more}
use Rattle.std.proofs.lemmas.List.Elements.{All-contains, All-map, All-nil, All-weaker, Contains-append_cases, Contains-append_left, Contains-append_right, Contains-get_or}
use Rattle.rela_trans.specs.Construction.{silent}
use Rattle.rela_trans.specs.Machine.{Machine, Kind, IsFinal, IsMachine, IsMove, machine_states, moves_of}
use Rattle.rela_trans.specs.Runs.{Does, Follow, Relates, Step, inputs, outputs}
use Rattle.rela_trans.specs.declared.moves.Move.{Move}
use Rattle.rela_trans.specs.declared.moves.MoveKind.TheVariants.{Silent}
use Rattle.rela_letter_image.specs.Branches.{AreEnds, BySilents, GoOn, IsBranch, IsSilent, StandFor, ends_at, ends_of, kept_or, led_to, passed_on, passing}
use Rattle.rela_letter_image.proofs.GrownSteps.{only_one}
use Rattle.rela_letter_image.proofs.StepsGo.{Contains-map, Contains-map_back, first_in, from_flat_map, in_flat_map}

silent_is : (m : Move (List Bool)) → IsSilent m → m ≡ silent m.to
silent_is m is = ap (λ (k : Kind). let x : Move (List Bool) = record { kind = k; to = m.to } in x) is

-- the same steps, as far as they read and write
record IsSame (steps others : List Step) : Type 0 where
  reads : inputs others ≡ inputs steps
  writes : outputs others ≡ outputs steps

-- what follows from the end of silent moves follows from where they begin
lead_in : (read : ℕ → ℕ) (t : Machine) (path : List ℕ) (p e q : ℕ) → BySilents t p path e → (steps : List Step) → Follow read t e steps q → (more : List Step) × Follow read t p more q × IsSame steps more
lead_in read t [] p e q here steps follows = (steps, subst (λ n. Follow read t n steps q) (sym here) follows, record { reads = refl; writes = refl })
lead_in read t (r ∷ path) p e q leads steps follows =
    let on = lead_in read t path r e q leads.1 steps follows in (
      record { input = []; output = []; to = r } ∷ on.0,
      ((Silent, leads.0, (refl, refl)), on.1),
      record { reads = on.2.reads; writes = on.2.writes },
    )

at_nil : {X Y : Type 0} (f : List X → List Y) → f [] ≡ [] → (xs : List (List X)) (k : ℕ) → get_or (map f xs) k [] ≡ f (get_or xs k [])
at_nil f none [] k = get_or_past [] k [] (omega arith) ∙ sym none ∙ ap f (sym (get_or_past [] k [] (omega arith)))
at_nil f none (x ∷ xs) zero = refl
at_nil f none (x ∷ xs) (suc k) = at_nil f none xs k

-- the moves of a state lead to states, by sets of the right size
moves_ok : (t : Machine) → IsMachine t → (p : ℕ) → All (IsMove t.letters (machine_states t)) (moves_of t p)
moves_ok t ok p = elim (cases_lt p (machine_states t)) [
  | inl below ↦ ok.moves p [] (omega (arith, ok.each))
  | inr past ↦ subst (λ l. All (IsMove t.letters (machine_states t)) l) (sym (get_or_past t.moves p [] (omega (arith, ok.each)))) (All-nil (IsMove t.letters (machine_states t)))
]

module _ (t : Machine) (ok : IsMachine t) (ends : ℕ → List ℕ) (are : AreEnds t ends) where
  move_is : (p : ℕ) (m : Move (List Bool)) → Contains (moves_of t p) m → IsMove t.letters (machine_states t) m
  move_is p m among = All-contains (IsMove t.letters (machine_states t)) (moves_of t p) m (moves_ok t ok p) among

  stand_at : (p : ℕ) (m : Move (List Bool)) → Contains (moves_of t p) m → StandFor t (ends_at ends m) m.to
  stand_at p m among = are m.to (move_is p m among).leads

  -- for a branch stand those that stand for the states to which it leads
  module _ (q : ℕ) (branch : IsBranch t q) (joined : List ℕ) (same : (e : ℕ) → Contains joined e ↔ Contains (flat_map (ends_at ends) (moves_of t q)) e) where
    from_move : (e : ℕ) → Contains joined e → (m : Move (List Bool)) × Contains (moves_of t q) m × Contains (ends_at ends m) e
    from_move e among = from_flat_map (ends_at ends) (moves_of t q) e ((same e).0 among)

    go_on : (read : ℕ → ℕ) (steps : List Step) (f : ℕ) → Follow read t q steps f → IsFinal t f → GoOn read t joined steps f
    go_on read [] f here final = absurd (branch.other (subst (IsFinal t) (sym here) final))
    go_on read (step ∷ rest) f ((kind, among, does), follows) final =
        let m : Move (List Bool) = record { kind = kind; to = step.to } in
        let is : kind ≡ Silent = All-contains IsSilent (moves_of t q) m branch.silent among in
        let none : Does read Silent step.input step.output = subst (λ (k : Kind). Does read k step.input step.output) is does in
        let (e, at, later, leads, alike) = (stand_at q m among).all read rest f follows final in (
          e,
          (same e).1 (in_flat_map (ends_at ends) (moves_of t q) m e among at),
          later,
          leads,
          record {
            reads = alike.reads ∙ sym (ap (λ l. l ++ inputs rest) none.0);
            writes = alike.writes ∙ sym (ap (λ l. l ++ outputs rest) none.1);
            short = omega (arith, alike.short);
          },
        )

    pub branch_stands : StandFor t joined q
    branch_stands = record {
      below = λ e among. let (m, from, at) = from_move e among in (stand_at q m from).below e at;
      led = λ e among.
          let (m, from, at) = from_move e among in
          let (path, leads) = (stand_at q m from).led e at in
          (m.to ∷ path, (subst (Contains (moves_of t q)) (silent_is m (All-contains IsSilent (moves_of t q) m branch.silent from)) from, leads));
      all = go_on;
    }

  -- ---- each move is passed on

  pub passing_moves : (q : ℕ) → moves_of (passing ends t) q ≡ flat_map (passed_on ends) (moves_of t q)
  passing_moves q = at_nil (flat_map (passed_on ends)) refl t.moves q

  abbrev IsMoveOf : Move (List Bool) → Type 0
  IsMoveOf = IsMove t.letters (machine_states t)

  passed_ok : (l : List (Move (List Bool))) → All IsMoveOf l → All IsMoveOf (flat_map (passed_on ends) l)
  passed_ok l all k d below =
      let x = get_or (flat_map (passed_on ends) l) k d in
      let (m, from, at) = from_flat_map (passed_on ends) l x (Contains-get_or (flat_map (passed_on ends) l) k d below) in
      let (e, is, inside) = Contains-map_back (led_to m) (ends_at ends m) x at in
      let good : IsMoveOf m = All-contains IsMoveOf l m all from in
      let led : IsMoveOf (led_to m e) = record { sized = good.sized; leads = (are m.to good.leads).below e inside } in
      subst IsMoveOf is led

  pub passing_ok : IsMachine (passing ends t)
  passing_ok = record {
    each = length-map t.moves (flat_map (passed_on ends)) ∙ ok.each;
    starts = ok.starts;
    moves = All-map (All IsMoveOf) (flat_map (passed_on ends)) t.moves (All-weaker (All IsMoveOf) (λ l. All IsMoveOf (flat_map (passed_on ends) l)) passed_ok t.moves ok.moves);
  }

  module _ (read : ℕ → ℕ) where
    -- each step there is one here, and then silent moves
    back : (steps : List Step) (p q : ℕ) → Follow read (passing ends t) p steps q → (more : List Step) × Follow read t p more q × IsSame steps more
    back [] p q here = ([], here, record { reads = refl; writes = refl })
    back (step ∷ rest) p q ((kind, among, does), follows) =
        let x : Move (List Bool) = record { kind = kind; to = step.to } in
        let (m, from, at) = from_flat_map (passed_on ends) (moves_of t p) x (subst (λ l. Contains l x) (passing_moves p) among) in
        let (e, is, inside) = Contains-map_back (led_to m) (ends_at ends m) x at in
        let later = back rest step.to q follows in
        let (path, leads) = (stand_at p m from).led e inside in
        let on = lead_in read t path m.to step.to q (subst (BySilents t m.to path) (ap (λ (y : Move (List Bool)). y.to) is) leads) later.0 later.1 in (
          record { input = step.input; output = step.output; to = m.to } ∷ on.0,
          ((m.kind, from, subst (λ (k : Kind). Does read k step.input step.output) (sym (ap (λ (y : Move (List Bool)). y.kind) is)) does), on.1),
          record {
            reads = ap (λ l. step.input ++ l) (on.2.reads ∙ later.2.reads);
            writes = ap (λ l. step.output ++ l) (on.2.writes ∙ later.2.writes);
          },
        )

    -- each step here is one there, after which no more moves go on
    on_to : (n : ℕ) (steps : List Step) (p q : ℕ) → length steps ≤ n → Follow read t p steps q → IsFinal t q → (more : List Step) × Follow read (passing ends t) p more q × IsSame steps more
    on_to n [] p q few here final = ([], here, record { reads = refl; writes = refl })
    on_to zero (step ∷ rest) p q few follows final = absurd (omega arith)
    on_to (suc n) (step ∷ rest) p q few ((kind, among, does), follows) final =
        let m : Move (List Bool) = record { kind = kind; to = step.to } in
        let (e, at, next, leads, alike) = (stand_at p m among).all read rest q follows final in
        let later = on_to n next e q (omega (arith, alike.short)) leads final in (
          record { input = step.input; output = step.output; to = e } ∷ later.0,
          (
            (
              kind,
              subst (λ l. Contains l (led_to m e)) (sym (passing_moves p)) (in_flat_map (passed_on ends) (moves_of t p) m (led_to m e) among (Contains-map (led_to m) (ends_at ends m) e at)),
              does,
            ),
            later.1,
          ),
          record {
            reads = ap (λ l. step.input ++ l) (later.2.reads ∙ alike.reads);
            writes = ap (λ l. step.output ++ l) (later.2.writes ∙ alike.writes);
          },
        )

    pub passing_relates : (u v : List ℕ) → Relates read (passing ends t) u v ↔ Relates read t u v
    passing_relates u v = (
      λ (q, (steps, follows, reads, writes), final).
          let there = back steps t.start q follows in
          (q, (there.0, there.1, there.2.reads ∙ reads, there.2.writes ∙ writes), final),
      λ (q, (steps, follows, reads, writes), final).
          let there = on_to (length steps) steps t.start q (omega arith) follows final in
          (q, (there.0, there.1, there.2.reads ∙ reads, there.2.writes ∙ writes), final),
    )

-- ---- the lists of states

-- one more state is put in
pub added_more : (xs : List ℕ) (i d : ℕ) → i < length xs → (old mid new : List ℕ) → ((e : ℕ) → Contains mid e ↔ (Contains old e ⊎ Contains (take i xs) e)) → ((e : ℕ) → Contains new e ↔ (Contains mid e ⊎ (get_or xs i d ≡ e)))
    → (e : ℕ) → Contains new e ↔ (Contains old e ⊎ Contains (take (i + 1) xs) e)
added_more xs i d below old mid new so_far one e =
    let x = get_or xs i d in
    subst (λ l. Contains new e ↔ (Contains old e ⊎ Contains l e)) (sym (take_more xs i d below)) (
      λ among. elim ((one e).0 among) [
        | inl before ↦ elim ((so_far e).0 before) [ inl first ↦ inl first | inr added ↦ inr (Contains-append_left (take i xs) (x ∷ []) e added) ]
        | inr here ↦ inr (Contains-append_right (take i xs) (x ∷ []) e (subst (Contains (x ∷ [])) here (first_in x [])))
      ],
      λ either. (one e).1 (elim either [
        | inl first ↦ inl ((so_far e).1 (inl first))
        | inr added ↦ elim (Contains-append_cases (take i xs) (x ∷ []) e added) [ inl before ↦ inl ((so_far e).1 (inr before)) | inr here ↦ inr (only_one x e here) ]
      ]),
    )

-- one state is a list of its own
pub added_one : (old new : List ℕ) (x : ℕ) → ((e : ℕ) → Contains new e ↔ (Contains old e ⊎ (x ≡ e))) → (e : ℕ) → Contains new e ↔ (Contains old e ⊎ Contains (x ∷ []) e)
added_one old new x one e = (
  λ among. elim ((one e).0 among) [ inl before ↦ inl before | inr here ↦ inr (subst (Contains (x ∷ [])) here (first_in x [])) ],
  λ either. (one e).1 (elim either [ inl before ↦ inl before | inr added ↦ inr (only_one x e added) ]),
)

-- the states of one more list are put in
pub joined_more : (old new more before after : List ℕ) → ((e : ℕ) → Contains old e ↔ Contains before e) → ((e : ℕ) → Contains new e ↔ (Contains old e ⊎ Contains more e)) → after ≡ before ++ more → (e : ℕ)
    → Contains new e ↔ Contains after e
joined_more old new more before after so_far added is e = subst (λ l. Contains new e ↔ Contains l e) (sym is) (
  λ among. elim ((added e).0 among) [
    | inl earlier ↦ Contains-append_left before more e ((so_far e).0 earlier)
    | inr here ↦ Contains-append_right before more e here
  ],
  λ among. (added e).1 (elim (Contains-append_cases before more e among) [ inl earlier ↦ inl ((so_far e).1 earlier) | inr here ↦ inr here ]),
)

-- ---- what is kept for the states

module _ {A : Type 0} (t : Machine) (kept : List (Option (Vec ℕ A))) where
  -- other states stand for one
  pub ends_set : (next : List (Option (Vec ℕ A))) (q : ℕ) (list : Vec ℕ A) → q < length kept → AreEnds t (ends_of kept) → next ≡ set kept q (Some list) → StandFor t list.items q → AreEnds t (ends_of next)
  ends_set next q list below are new stands p less =
      let is : get_or next p None ≡ get_or (set kept q (Some list)) p None = ap (λ l. get_or l p None) new in
      elim (cases_eq p q) [
        | inl same ↦
            let here : get_or next p None ≡ Some list = is ∙ ap (λ k. get_or (set kept q (Some list)) k None) same ∙ get_or-set_same kept q (Some list) None below in
            subst (λ k. StandFor t (kept_or k p) p) (sym here) (subst (λ k. StandFor t list.items k) (sym same) stands)
        | inr other ↦ subst (λ k. StandFor t (kept_or k p) p) (sym (is ∙ get_or-set_other kept q p (Some list) None other)) (are p less)
      ]

pub alone_empty : {A : Type 0} (kept : List (Option (Vec ℕ A))) → kept ≡ [] → (q : ℕ) → ends_of kept q ≡ q ∷ []
alone_empty {A} kept none q = ap (λ (l : List (Option (Vec ℕ A))). ends_of l q) none ∙ ap (λ (k : Option (Vec ℕ A)). kept_or k q) (get_or_past [] q None (omega arith))

-- one more for which nothing is kept
pub alone_more : {A : Type 0} (kept next : List (Option (Vec ℕ A))) → next ≡ kept ++ None ∷ [] → ((q : ℕ) → ends_of kept q ≡ q ∷ []) → (q : ℕ) → ends_of next q ≡ q ∷ []
alone_more {A} kept next new alone q =
    let is : get_or next q None ≡ get_or (kept ++ None ∷ []) q None = ap (λ l. get_or l q None) new in
    elim (cases_lt q (length kept)) [
      | inl below ↦ ap (λ k. kept_or k q) (is ∙ get_or_append_left kept (None ∷ []) None q below) ∙ alone q
      | inr past ↦ elim (cases_eq q (length kept)) [
        | inl here ↦ ap (λ k. kept_or k q) (is ∙ get_or_push kept None None q (sym here))
        | inr other ↦ ap (λ k. kept_or k q) (is ∙ get_or_past (kept ++ None ∷ []) q None (omega (arith, past, other, length_push kept None)))
      ]
    ]
