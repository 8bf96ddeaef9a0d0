-- Where detours lead: found by walks that pass each state once.
use Rattle.std.proofs.Common.{◌≡◌, ℕ, ◌+◌, ◌<◌, ◌⊎◌, ◌↔◌, Bool, true, false, not, count_by, cond, List, [], ◌∷◌, ◌++◌, length, get_or, set, take, Option, None, Some, refl, sym, ap, ◌∙◌, subst, inl, inr, arith, add-zero}
use Rattle.std.specs.List.{All, Contains}
use Rattle.std.proofs.lemmas.Bool.{cases_eq, both_ways}
use Rattle.std.proofs.lemmas.List.{get_or-set_other, get_or-set_same, take_more}
use Rattle.std.proofs.lemmas.List.Elements.{All-contains, Contains-append_left, Contains-get_or, Contains-push, Contains-push_cases}
use Rattle.std.proofs.lemmas.List.Sums.{sum_by-set}
use Rattle.std.specs.Option.{unwrap_or}
use Rattle.rela_trans.specs.Construction.{silent}
use Rattle.rela_trans.specs.Detours.{ByDetours, Detours, IsDetour, IsEnd, IsPassed, IsWalked}
use Rattle.rela_trans.specs.Machine.{Machine, IsMachine, IsMove, IsFinal, machine_states, moves_of}
use Rattle.rela_trans.specs.declared.moves.Move.{Move}
use Rattle.rela_trans.proofs.Accessors.{moves_ok}
use Rattle.rela_trans.proofs.ListLaws.{Contains-nil}

-- ---- one detour

module _ (t : Machine) where
  pub same_detour : (q r s : ℕ) → IsDetour t q r → IsDetour t q s → r ≡ s
  same_detour q r s to_r to_s = ap (λ (l : List (Move (List Bool))). first l) (sym to_r.1 ∙ to_s.1)
    where
      first : List (Move (List Bool)) → ℕ
      first [] = 0
      first (move ∷ rest) = move.to

  pub detour_below : IsMachine t → (q r : ℕ) → IsDetour t q r → r < machine_states t
  detour_below ok q r detour =
      let move : IsMove t.letters (machine_states t) (silent r) =
      All-contains (IsMove t.letters (machine_states t)) (moves_of t q) (silent r) (moves_ok t ok q) (subst (λ l. Contains l (silent r)) (sym detour.1) (0, omega arith, refl)) in
      move.leads

  pub detours_below : IsMachine t → (path : List ℕ) (p q : ℕ) → p < machine_states t → ByDetours t p path q → q < machine_states t
  detours_below ok [] p q below here = subst (λ n. n < machine_states t) here below
  detours_below ok (r ∷ rest) p q below leads = detours_below ok rest r q (detour_below ok p r leads.0) leads.1

  by_push : (path : List ℕ) (p q r : ℕ) → ByDetours t p path q → IsDetour t q r → ByDetours t p (path ++ r ∷ []) r
  by_push [] p q r here detour = (subst (λ n. IsDetour t n r) (sym here) detour, refl)
  by_push (s ∷ rest) p q r leads detour = (leads.0, by_push rest s q r leads.1 detour)

  by_append : (path more : List ℕ) (p q r : ℕ) → ByDetours t p path q → ByDetours t q more r → ByDetours t p (path ++ more) r
  by_append [] more p q r here leads = subst (λ n. ByDetours t n more r) (sym here) leads
  by_append (s ∷ rest) more p q r first second = (first.0, by_append rest more s q r first.1 second)

  pub detours_both : (p q r : ℕ) → Detours t p q → Detours t q r → Detours t p r
  detours_both p q r (path, first) (more, second) = (path ++ more, by_append path more p q r first second)

  -- where the walk goes from a state
  abbrev pub IsNext : ℕ → ℕ → Type 0
  IsNext q r = IsDetour t q r ⊎ ((r ≡ q) × ((s : ℕ) → ¬ IsDetour t q s))

  goes_on : (p q r : ℕ) → Detours t p q → IsNext q r → Detours t p r
  goes_on p q r (path, leads) next = elim next [
    | inl detour ↦ (path ++ r ∷ [], by_push path p q r leads detour)
    | inr stays ↦ (path, subst (λ n. ByDetours t p path n) (sym stays.0) leads)
  ]

  pub next_is : (q : ℕ) (o : Option ℕ) → ¬ IsFinal t q → ((r : ℕ) → (o ≡ Some r) ↔ (moves_of t q ≡ silent r ∷ [])) → IsNext q (unwrap_or o q)
  next_is q None other only = inr (refl, λ r detour. absurd (let e = (only r).1 detour.1 in cc))
  next_is q (Some r) other only = inl (other, (only r).0 refl)

  pub next_below : IsMachine t → (q r : ℕ) → q < machine_states t → IsNext q r → r < machine_states t
  next_below ok q r below next = elim next [ inl detour ↦ detour_below ok q r detour | inr stays ↦ subst (λ n. n < machine_states t) (sym stays.0) below ]

  -- ---- a walk

  -- the walk from q has come to `end`, by the states of the path
  pub record IsWalking (q : ℕ) (old new : List Bool) (path : List ℕ) (end : ℕ) : Type 0 where
    pub state : end < machine_states t
    pub begun : (end ≡ q) ⊎ IsPassed new q
    pub kept : (p : ℕ) → IsPassed old p → IsPassed new p
    pub only : (p : ℕ) → IsPassed new p → IsPassed old p ⊎ Contains path p
    pub fresh : (p : ℕ) → Contains path p → (p < machine_states t) × (¬ IsPassed old p) × IsPassed new p
    pub led : (p : ℕ) → Contains path p → Detours t p end
    pub onward : (p r : ℕ) → Contains path p → IsDetour t p r → Detours t r end

  pub walking_none : (q : ℕ) (flags : List Bool) → q < machine_states t → IsWalking q flags flags [] q
  walking_none q flags below = record {
    state = below;
    begun = inl refl;
    kept = λ p passed. passed;
    only = λ p passed. inl passed;
    fresh = λ p none. absurd (Contains-nil p none);
    led = λ p none. absurd (Contains-nil p none);
    onward = λ p r none. absurd (Contains-nil p none);
  }

  pub walking_more : (q : ℕ) (old new : List Bool) (path : List ℕ) (end next : ℕ) → length new ≡ machine_states t → IsWalking q old new path end → get_or new end false ≡ false → next < machine_states t → IsNext end next
      → IsWalking q old (set new end true) (path ++ end ∷ []) next
  walking_more q old new path end next count walking lacking below is_next = record {
    state = below;
    begun = inr (elim walking.begun [ inl here ↦ subst (IsPassed (set new end true)) here now_passed | inr passed ↦ still q passed ]);
    kept = λ p passed. still p (walking.kept p passed);
    only = λ p passed. elim (cases_eq p end) [
      | inl same ↦ inr (subst (Contains (path ++ end ∷ [])) (sym same) (Contains-push path end))
      | inr other ↦ elim (walking.only p (sym (get_or-set_other new end p true false other) ∙ passed)) [
        | inl before ↦ inl before
        | inr among ↦ inr (Contains-append_left path (end ∷ []) p among)
      ]
    ];
    fresh = λ p among. elim (Contains-push_cases path end p among) [
      | inl earlier ↦ let was = walking.fresh p earlier in (was.0, was.1, still p was.2)
      | inr here ↦
          subst (λ n. (n < machine_states t) × (¬ IsPassed old n) × IsPassed (set new end true) n) here
          (walking.state, (λ passed. both_ways (get_or new end false) lacking (walking.kept end passed)), now_passed)
    ];
    led = λ p among. elim (Contains-push_cases path end p among) [
      | inl earlier ↦ goes_on p end next (walking.led p earlier) is_next
      | inr here ↦ subst (λ n. Detours t n next) here (goes_on end end next ([], refl) is_next)
    ];
    onward = λ p r among detour. elim (Contains-push_cases path end p among) [
      | inl earlier ↦ goes_on r end next (walking.onward p r earlier detour) is_next
      | inr here ↦ elim is_next [
        | inl on ↦ ([], same_detour end r next (subst (λ n. IsDetour t n r) (sym here) detour) on)
        | inr stays ↦ absurd (stays.1 r (subst (λ n. IsDetour t n r) (sym here) detour))
      ]
    ];
  }
    where
      within : end < length new
      within = omega (arith, walking.state, count)

      now_passed : IsPassed (set new end true) end
      now_passed = get_or-set_same new end true false within

      still : (p : ℕ) → IsPassed new p → IsPassed (set new end true) p
      still p passed = elim (cases_eq p end) [
        | inl same ↦ subst (IsPassed (set new end true)) (sym same) now_passed
        | inr other ↦ get_or-set_other new end p true false other ∙ passed
      ]

  pub walked : (q : ℕ) (old new : List Bool) (path : List ℕ) (end : ℕ) → IsWalking q old new path end → IsPassed new end → IsWalked t old new path end
  walked q old new path end walking passed = record {
    state = walking.state;
    passed = passed;
    kept = walking.kept;
    only = walking.only;
    fresh = walking.fresh;
    led = walking.led;
    onward = walking.onward;
  }

  pub walked_from : (q : ℕ) (old new : List Bool) (path : List ℕ) (end : ℕ) → IsWalking q old new path end → IsPassed new end → IsPassed new q
  walked_from q old new path end walking passed = elim walking.begun [ inl here ↦ subst (IsPassed new) here passed | inr there ↦ there ]

-- one flag less is to be set
pub one_less : (flags : List Bool) (n : ℕ) → n < length flags → get_or flags n false ≡ false → count_by not (set flags n true) < count_by not flags
one_less flags n within lacking =
    let less : count_by not (set flags n true) + 1 ≡ count_by not flags = rw lacking at (sum_by-set (λ b. cond (not b) 1 0) flags n true false within) ∙ add-zero (count_by not flags) in
    omega arith

-- ---- the ends of a path that are written

abbrev pub IsSettled : List ℕ → List ℕ → List ℕ → ℕ → Type 0
IsSettled old new path end = ((p : ℕ) → Contains path p → get_or new p 0 ≡ end) × ((p : ℕ) → Contains path p ⊎ (get_or new p 0 ≡ get_or old p 0))

pub settled_none : (ends : List ℕ) (end : ℕ) → IsSettled ends ends [] end
settled_none ends end = (λ p none. absurd (Contains-nil p none), λ p. inr refl)

pub settled_more : (old ends path : List ℕ) (i end : ℕ) → i < length path → get_or path i 0 < length ends → IsSettled old ends (take i path) end → IsSettled old (set ends (get_or path i 0) end) (take (i + 1) path) end
settled_more old ends path i end below within so_far = (
  λ p among. elim (Contains-push_cases (take i path) x p (subst (λ l. Contains l p) more among)) [
    | inl earlier ↦ elim (cases_eq p x) [
      | inl same ↦ here p same
      | inr other ↦ get_or-set_other ends x p end 0 other ∙ so_far.0 p earlier
    ]
    | inr same ↦ here p (sym same)
  ],
  λ p. elim (so_far.1 p) [
    | inl earlier ↦ inl (subst (λ l. Contains l p) (sym more) (Contains-append_left (take i path) (x ∷ []) p earlier))
    | inr kept ↦ elim (cases_eq p x) [
      | inl same ↦ inl (subst (λ l. Contains l p) (sym more) (subst (Contains (take i path ++ x ∷ [])) (sym same) (Contains-push (take i path) x)))
      | inr other ↦ inr (get_or-set_other ends x p end 0 other ∙ kept)
    ]
  ],
)
  where
    x : ℕ
    x = get_or path i 0

    more : take (i + 1) path ≡ take i path ++ x ∷ []
    more = take_more path i 0 below

    here : (p : ℕ) → p ≡ x → get_or (set ends x end) p 0 ≡ end
    here p same = ap (λ n. get_or (set ends x end) n 0) same ∙ get_or-set_same ends x end 0 within

-- ---- all ends

-- from the states whose flag is set detours lead to the ends that stand for them, and others stand for themselves
pub record AreEnds (t : Machine) (flags : List Bool) (ends : List ℕ) : Type 0 where
  pub count : length ends ≡ machine_states t
  pub led : (p : ℕ) → p < machine_states t → Detours t p (get_or ends p 0)
  pub ended : (p : ℕ) → p < machine_states t → IsPassed flags p → IsEnd t (get_or ends p 0)
  pub others : (p : ℕ) → p < machine_states t → ¬ IsPassed flags p → get_or ends p 0 ≡ p

module _ (t : Machine) where
  pub ends_none : (flags : List Bool) (ends : List ℕ) → length ends ≡ machine_states t → ((p : ℕ) → p < machine_states t → get_or ends p 0 ≡ p) → ((p : ℕ) → ¬ IsPassed flags p) → AreEnds t flags ends
  ends_none flags ends count each none = record {
    count = count;
    led = λ p below. ([], sym (each p below));
    ended = λ p below passed. absurd (none p passed);
    others = λ p below other. each p below;
  }

  pub ends_more : (old new : List Bool) (ends after path : List ℕ) (at : ℕ) → AreEnds t old ends → IsWalked t old new path at → length after ≡ length ends → IsSettled ends after path (get_or ends at 0)
      → AreEnds t new after
  ends_more old new ends after path at are walk count settled = record {
    count = count ∙ are.count;
    led = λ p below. elim (settled.1 p) [
      | inl among ↦ subst (Detours t p) (sym (settled.0 p among)) (detours_both t p at end (walk.led p among) (are.led at walk.state))
      | inr kept ↦ subst (Detours t p) (sym kept) (are.led p below)
    ];
    ended = λ p below passed. elim (settled.1 p) [
      | inl among ↦ subst (IsEnd t) (sym (settled.0 p among)) is_end
      | inr kept ↦ elim (walk.only p passed) [
        | inl before ↦ subst (IsEnd t) (sym kept) (are.ended p below before)
        | inr among ↦ subst (IsEnd t) (sym (settled.0 p among)) is_end
      ]
    ];
    others = λ p below other. elim (settled.1 p) [
      | inl among ↦ absurd (other (walk.fresh p among).2)
      | inr kept ↦ kept ∙ are.others p below (λ passed. other (walk.kept p passed))
    ];
  }
    where
      end : ℕ
      end = get_or ends at 0

      -- the walk ended at a state that had been passed before, or came round to one of its own
      is_end : IsEnd t end
      is_end = elim (walk.only at walk.passed) [
        | inl before ↦ are.ended at walk.state before
        | inr among ↦
            let same : end ≡ at = are.others at walk.state (walk.fresh at among).1 in
            subst (IsEnd t) (sym same) (λ r detour. walk.onward at r among detour)
      ]

-- the states of the path of a walk
pub path_below : (t : Machine) (old new : List Bool) (path : List ℕ) (end n : ℕ) → IsWalked t old new path end → n ≡ machine_states t → All (λ p. p < n) path
path_below t old new path end n walk is k d below =
    subst (λ m. get_or path k d < m) (sym is) (walk.fresh (get_or path k d) (Contains-get_or path k d below)).0
