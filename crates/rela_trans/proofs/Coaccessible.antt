-- The states from which moves lead on to a final state, found backwards from the final states.
use Rattle.std.proofs.Common.{◌≡◌, ℕ, zero, suc, ◌+◌, ◌<◌, ◌≤◌, ◌⊎◌, ◌↔◌, Bool, true, false, IsTrue, cond, List, [], ◌∷◌, ◌++◌, length, get_or, set, map, take, refl, sym, ap, ◌∙◌, subst, inl, inr, arith, append_assoc, length-append}
use Rattle.std.specs.List.{All, Contains, filter}
use Rattle.std.proofs.lemmas.Bool.{cases_lt, cases_eq}
use Rattle.std.proofs.lemmas.List.{append-nil, get_or_append_left, get_or_default, get_or-map, get_or_past, get_or-set_other, get_or-set_same, length-map, map-set, map_push, take-append-le, take_all, take_more}
use Rattle.std.proofs.lemmas.List.Elements.{Contains-append_left, Contains-get_or, Contains-push, Contains-push_cases}
use Rattle.rela_nfa.specs.StateSet.{AreFlagged, Inserts, Adds}
use Rattle.rela_pairs.specs.Reachable.{Leads, Reachable}
use Rattle.rela_trans.specs.Coaccessible.{LeadsOn, ends_of, list_at, next_states}
use Rattle.rela_trans.specs.Machine.{Machine, IsMachine, IsFinal, machine_states}
use Rattle.std.specs.declared.vec.Vec.{Vec}
use Rattle.rela_trans.specs.Stored.{lists_of, move_of}
use Rattle.rela_trans.specs.declared.moves.Move.{Move}
use Rattle.rela_trans.proofs.Flagged.{flag_within}
use Rattle.rela_trans.proofs.ListLaws.{Contains-nil}
use Rattle.rela_trans.proofs.Paths.{leads_push, reachable_next}

-- ---- lists of states that grow

keeps : {P : ℕ → Type 0} (old new : List ℕ) → Adds P old new → (q : ℕ) → Contains old q → Contains new q
keeps old new adds q c = subst (λ l. Contains l q) (sym adds.longer.1) (Contains-append_left old adds.longer.0 q c)

inserts_adds : (n : ℕ) (old new : List ℕ) → Inserts old new n → Adds (λ q. n ≡ q) old new
inserts_adds n old new inserts = record {
  longer = elim inserts.1 [ inl same ↦ ([], same ∙ sym (append-nil old)) | inr more ↦ (n ∷ [], more) ];
  each = λ q c. elim inserts.1 [
    | inl same ↦ inl (subst (λ l. Contains l q) same c)
    | inr more ↦ Contains-push_cases old n q (subst (λ l. Contains l q) more c)
  ];
  all = λ q same. subst (λ m. Contains new m) same inserts.0;
}

-- one after the other
adds_both : (P Q R : ℕ → Type 0) (old mid new : List ℕ) → Adds P old mid → Adds Q mid new → ((m : ℕ) → P m → R m) → ((m : ℕ) → Q m → R m)
    → ((m : ℕ) → R m → P m ⊎ Q m) → Adds R old new
adds_both P Q R old mid new first second left right cases = record {
  longer = (first.longer.0 ++ second.longer.0, second.longer.1 ∙ ap (λ l. l ++ second.longer.0) first.longer.1 ∙ append_assoc old first.longer.0 second.longer.0);
  each = λ m c. elim (second.each m c) [
    | inl before ↦ elim (first.each m before) [ inl there ↦ inl there | inr one ↦ inr (left m one) ]
    | inr two ↦ inr (right m two)
  ];
  all = λ m holds. elim (cases m holds) [ inl one ↦ keeps mid new second m (first.all m one) | inr two ↦ second.all m two ];
}

-- one state more
pub adds_one : (P R : ℕ → Type 0) (n : ℕ) (old mid new : List ℕ) → Adds P old mid → Inserts mid new n → ((m : ℕ) → P m → R m) → R n → ((m : ℕ) → R m → P m ⊎ (n ≡ m))
    → Adds R old new
adds_one P R n old mid new before inserts on here cases =
    adds_both P (λ m. n ≡ m) R old mid new before (inserts_adds n mid new inserts) on (λ m same. subst R same here) cases

pub adds_same : (P R : ℕ → Type 0) (old new : List ℕ) → Adds P old new → ((m : ℕ) → P m → R m) → ((m : ℕ) → R m → P m) → Adds R old new
adds_same P R old new adds on back = record {
  longer = adds.longer;
  each = λ m c. elim (adds.each m c) [ inl there ↦ inl there | inr holds ↦ inr (on m holds) ];
  all = λ m holds. adds.all m (back m holds);
}

pub adds_none : (P : ℕ → Type 0) (now : List ℕ) → ((m : ℕ) → P m → ⊥) → Adds P now now
adds_none P now none = record { longer = ([], sym (append-nil now)); each = λ m c. inl c; all = λ m holds. absurd (none m holds) }

-- one element of a list more
pub adds_listed : (more : List ℕ) (i : ℕ) (old mid new : List ℕ) → i < length more → Adds (Contains (take i more)) old mid → Inserts mid new (get_or more i 0)
    → Adds (Contains (take (i + 1) more)) old new
adds_listed more i old mid new below before inserts =
    let n : ℕ = get_or more i 0 in
    subst (λ l. Adds (Contains l) old new) (sym (take_more more i 0 below))
    (adds_one (Contains (take i more)) (Contains (take i more ++ n ∷ [])) n old mid new before inserts
    (λ m c. Contains-append_left (take i more) (n ∷ []) m c) (Contains-push (take i more) n) (λ m c. Contains-push_cases (take i more) n m c))

pub adds_length : {P : ℕ → Type 0} (old new : List ℕ) → Adds P old new → length old ≤ length new
adds_length old new adds = omega (arith, ap length adds.longer.1, length-append old adds.longer.0)

-- to no state just those of P were added
adds_all : (P : ℕ → Type 0) (now : List ℕ) → Adds P [] now → (q : ℕ) → Contains now q ↔ P q
adds_all P now adds q = (λ c. elim (adds.each q c) [ inl none ↦ absurd (Contains-nil q none) | inr holds ↦ holds ], adds.all q)

stays_at : {P : ℕ → Type 0} (old new : List ℕ) → Adds P old new → (k : ℕ) → k < length old → get_or new k 0 ≡ get_or old k 0
stays_at old new adds k within = ap (λ l. get_or l k 0) adds.longer.1 ∙ get_or_append_left old adds.longer.0 0 k within

-- ---- paths

module _ (next before : ℕ → List ℕ) (turned : (p q : ℕ) → Contains (next p) q → Contains (before q) p) where
  leads_back : (path : List ℕ) (x y : ℕ) → Leads next x path y → (back : List ℕ) × Leads before y back x
  leads_back [] x y here = ([], sym here)
  leads_back (z ∷ rest) x y leads = let on = leads_back rest z y leads.1 in (on.0 ++ x ∷ [], leads_push before on.0 y z x on.1 (turned x z leads.0))

-- ---- the queue: from the first states the lists lead to just the states so far, of which the first `done` have been followed
pub record IsClosing (next : ℕ → List ℕ) (first now : List ℕ) (done : ℕ) : Type 0 where
  pub started : (q : ℕ) → Contains first q → Contains now q
  pub sound : (q : ℕ) → Contains now q → (p : ℕ) × Contains first p × Reachable next p q
  pub followed : (k q : ℕ) → k < done → Contains (next (get_or now k 0)) q → Contains now q

module _ (next : ℕ → List ℕ) (first : List ℕ) where
  pub closing_none : IsClosing next first first 0
  closing_none = record { started = λ q c. c; sound = λ q c. (q, c, ([], refl)); followed = λ k q below. absurd (omega arith) }

  pub closing_more : (done : ℕ) (before after : List ℕ) → IsClosing next first before done → done < length before → Adds (Contains (next (get_or before done 0))) before after
      → IsClosing next first after (done + 1)
  closing_more done before after so_far within adds =
      let p : ℕ = get_or before done 0 in
      record {
        started = λ q c. keeps before after adds q (so_far.started q c);
        sound = λ q c. elim (adds.each q c) [
          | inl old ↦ so_far.sound q old
          | inr step ↦
              let from = so_far.sound p (done, within, get_or_default before done p 0 within) in
              (from.0, from.1, reachable_next next from.0 p q from.2 step)
        ];
        followed = λ k q below step. elim (cases_lt k done) [
          | inl less ↦ keeps before after adds q (so_far.followed k q less (subst (λ n. Contains (next n) q) (stays_at before after adds k (omega arith)) step))
          | inr more ↦
              let same : k ≡ done = omega arith in
              adds.all q (subst (λ n. Contains (next n) q) (ap (λ j. get_or after j 0) same ∙ stays_at before after adds done within) step)
        ];
      }

  module _ (now : List ℕ) (done : ℕ) (so_far : IsClosing next first now done) (over : length now ≤ done) where
    led_by : (path : List ℕ) (p q : ℕ) → Contains now p → Leads next p path q → Contains now q
    led_by [] p q c here = subst (λ n. Contains now n) here c
    led_by (z ∷ rest) p q c leads =
        led_by rest z q (so_far.followed c.0 z (omega (arith, c.1, over)) (subst (λ n. Contains (next n) z) (sym (get_or_default now c.0 0 p c.1 ∙ c.2)) leads.0)) leads.1

    -- where all have been followed, none is lacking
    pub closing_all : (q : ℕ) → Contains now q ↔ ((p : ℕ) × Contains first p × Reachable next p q)
    closing_all q = (so_far.sound q, λ (p, start, (path, leads)). led_by path p q (so_far.started p start) leads)

-- ---- the states before each

pub next_below : (t : Machine) → IsMachine t → (p q : ℕ) → Contains (next_states t p) q → p < machine_states t
next_below t ok p q among = elim (cases_lt p (machine_states t)) [
  | inl below ↦ below
  | inr past ↦ absurd (Contains-nil q (subst (λ l. Contains (ends_of l) q) (get_or_past t.moves p [] (omega (arith, ok.each))) among))
]

-- the number is put at the end of the list at this place
put_here : (lists : List (List ℕ)) (at x : ℕ) → at < length lists → (q r : ℕ)
    → Contains (get_or (set lists at (get_or lists at [] ++ x ∷ [])) q []) r ↔ (Contains (get_or lists q []) r ⊎ ((r ≡ x) × (q ≡ at)))
put_here lists at x within q r = elim (cases_eq q at) [
  | inl here ↦
      let is : get_or (set lists at longer) q [] ≡ longer = ap (λ n. get_or (set lists at longer) n []) here ∙ get_or-set_same lists at longer [] within in (
        λ c. elim (Contains-push_cases (get_or lists at []) x r (subst (λ l. Contains l r) is c)) [
          | inl old ↦ inl (subst (λ n. Contains (get_or lists n []) r) (sym here) old)
          | inr new ↦ inr (sym new, here)
        ],
        λ either. subst (λ l. Contains l r) (sym is) (elim either [
          | inl old ↦ Contains-append_left (get_or lists at []) (x ∷ []) r (subst (λ n. Contains (get_or lists n []) r) here old)
          | inr new ↦ subst (λ n. Contains longer n) (sym new.0) (Contains-push (get_or lists at []) x)
        ]),
      )
  | inr other ↦
      let is : get_or (set lists at longer) q [] ≡ get_or lists q [] = get_or-set_other lists at q longer [] other in (
        λ c. inl (subst (λ l. Contains l r) is c),
        λ either. elim either [
          | inl old ↦ subst (λ l. Contains l r) (sym is) old
          | inr new ↦ absurd (other new.1)
        ],
      )
]
  where
    longer : List ℕ
    longer = get_or lists at [] ++ x ∷ []

-- the state stands in the lists of these ends, besides what stood there
abbrev pub IsPutAt : List (List ℕ) → List (List ℕ) → ℕ → List ℕ → Type 0
IsPutAt old new p ends = (q r : ℕ) → Contains (list_at new q) r ↔ (Contains (list_at old q) r ⊎ ((r ≡ p) × Contains ends q))

pub put_none : (lists : List (List ℕ)) (p : ℕ) → IsPutAt lists lists p []
put_none lists p q r = (λ c. inl c, λ either. elim either [ inl old ↦ old | inr new ↦ absurd (Contains-nil q new.1) ])

pub put_more : (old lists : List (List ℕ)) (p : ℕ) (ends : List ℕ) (at : ℕ) → at < length lists → IsPutAt old lists p ends
    → IsPutAt old (set lists at (get_or lists at [] ++ p ∷ [])) p (ends ++ at ∷ [])
put_more old lists p ends at within so_far q r = (
  λ c. elim ((put_here lists at p within q r).0 c) [
    | inl before ↦ elim ((so_far q r).0 before) [
      | inl there ↦ inl there
      | inr new ↦ inr (new.0, Contains-append_left ends (at ∷ []) q new.1)
    ]
    | inr new ↦ inr (new.0, subst (λ n. Contains (ends ++ at ∷ []) n) (sym new.1) (Contains-push ends at))
  ],
  λ either. (put_here lists at p within q r).1 (elim either [
    | inl there ↦ inl ((so_far q r).1 (inl there))
    | inr new ↦ elim (Contains-push_cases ends at q new.1) [
      | inl before ↦ inl ((so_far q r).1 (inr (new.0, before)))
      | inr here ↦ inr (new.0, sym here)
    ]
  ]),
)

-- a number pushed to the list at the end of a move
pub ends_more : {L : Type 0} (letters : L → List Bool) (moves : List (Move L)) (i : ℕ) (edge : Move L) → i < length moves → edge ≡ get_or moves i edge
    → ends_of (map (move_of letters) (take (i + 1) moves)) ≡ ends_of (map (move_of letters) (take i moves)) ++ edge.to ∷ []
ends_more letters moves i edge below at =
    ap (λ l. ends_of (map (move_of letters) l)) (take_more moves i edge below ∙ ap (λ e. take i moves ++ e ∷ []) (sym at))
    ∙ ap ends_of (map_push (move_of letters) (take i moves) edge) ∙ map_push (λ (m : Move (List Bool)). m.to) (map (move_of letters) (take i moves)) (move_of letters edge)

pub put_pushed : {A : Type 0} (old : List (List ℕ)) (lists : List (Vec ℕ A)) (p : ℕ) (ends : List ℕ) (at : ℕ) (before after : Vec ℕ A) → at < length lists → before ≡ get_or lists at before
    → after.items ≡ before.items ++ p ∷ [] → (more : List ℕ) → more ≡ ends ++ at ∷ [] → IsPutAt old (lists_of lists) p ends → IsPutAt old (lists_of (set lists at after)) p more
put_pushed {A} old lists p ends at before after within is pushed more ends_are so_far =
    let items : Vec ℕ A → List ℕ = λ v. v.items in
    let here : lists_of (set lists at after) ≡ set (lists_of lists) at (get_or (lists_of lists) at [] ++ p ∷ []) =
    map-set items lists at after
    ∙ ap (λ l. set (lists_of lists) at l) (pushed ∙ ap (λ l. l ++ p ∷ []) (ap items is ∙ sym (get_or-map items lists at before [] within))) in
    subst (λ ls. IsPutAt old ls p more) (sym here)
    (subst (λ l. IsPutAt old (set (lists_of lists) at (get_or (lists_of lists) at [] ++ p ∷ [])) p l) (sym ends_are)
    (put_more old (lists_of lists) p ends at (omega (arith, within, length-map lists items)) so_far))

-- one empty list more
pub empty_more : (lists : List (List ℕ)) → ((q : ℕ) → list_at lists q ≡ []) → (q : ℕ) → list_at (lists ++ [] ∷ []) q ≡ []
empty_more [] empty zero = refl
empty_more [] empty (suc q) = refl
empty_more (list ∷ lists) empty zero = empty zero
empty_more (list ∷ lists) empty (suc q) = empty_more lists (λ k. empty (suc k)) q

-- the states before i have been put into the lists of the ends of their moves
abbrev pub AreTurned : Machine → ℕ → List (List ℕ) → Type 0
AreTurned t i lists = (p q : ℕ) → Contains (list_at lists q) p ↔ ((p < i) × Contains (next_states t p) q)

pub turned_none : (t : Machine) (lists : List (List ℕ)) → ((q : ℕ) → list_at lists q ≡ []) → AreTurned t 0 lists
turned_none t lists empty p q = (λ c. absurd (Contains-nil p (subst (λ l. Contains l p) (empty q) c)), λ both. absurd (omega (arith, both.0)))

pub turned_more : (t : Machine) (i : ℕ) (old new : List (List ℕ)) → AreTurned t i old → IsPutAt old new i (next_states t i) → AreTurned t (i + 1) new
turned_more t i old new so_far put p q = (
  λ c. elim ((put q p).0 c) [
    | inl before ↦ let was = (so_far p q).0 before in (omega (arith, was.0), was.1)
    | inr here ↦ (omega (arith, here.0), subst (λ n. Contains (next_states t n) q) (sym here.0) here.1)
  ],
  λ both. (put q p).1 (elim (cases_lt p i) [
    | inl less ↦ inl ((so_far p q).1 (less, both.1))
    | inr not_less ↦ let same : p ≡ i = omega (arith, both.0) in inr (same, subst (λ n. Contains (next_states t n) q) same both.1)
  ]),
)

pub turned_all : (t : Machine) → IsMachine t → (i : ℕ) (lists : List (List ℕ)) → machine_states t ≤ i → AreTurned t i lists
    → (p q : ℕ) → Contains (list_at lists q) p ↔ Contains (next_states t p) q
turned_all t ok i lists over all p q = (λ c. ((all p q).0 c).1, λ c. (all p q).1 (let below = next_below t ok p q c in omega arith, c))

-- ---- the final states

abbrev pub IsFinalBelow : Machine → ℕ → ℕ → Type 0
IsFinalBelow t i q = (q < i) × IsFinal t q

pub finals_none : (t : Machine) (states : List ℕ) → Adds (IsFinalBelow t 0) states states
finals_none t states = adds_none (IsFinalBelow t 0) states (λ m both. absurd (omega (arith, both.0)))

pub finals_more : (t : Machine) (i : ℕ) (old mid new : List ℕ) → Adds (IsFinalBelow t i) old mid → IsFinal t i → Inserts mid new i → Adds (IsFinalBelow t (i + 1)) old new
finals_more t i old mid new before final inserts =
    adds_one (IsFinalBelow t i) (IsFinalBelow t (i + 1)) i old mid new before inserts (λ m both. (omega (arith, both.0), both.1)) (omega arith, final)
    (λ m both. elim (cases_lt m i) [ inl less ↦ inl (less, both.1) | inr not_less ↦ inr (omega (arith, both.0)) ])

pub finals_same : (t : Machine) (i : ℕ) (old new : List ℕ) → Adds (IsFinalBelow t i) old new → (IsFinal t i → ⊥) → Adds (IsFinalBelow t (i + 1)) old new
finals_same t i old new before other =
    adds_same (IsFinalBelow t i) (IsFinalBelow t (i + 1)) old new before (λ m both. (omega (arith, both.0), both.1))
    (λ m both. elim (cases_lt m i) [
      | inl less ↦ (less, both.1)
      | inr not_less ↦ absurd (other (subst (IsFinal t) (let same : m ≡ i = omega (arith, both.0) in same) both.1))
    ])

pub finals_all : (t : Machine) (i : ℕ) (old new : List ℕ) → machine_states t ≤ i → Adds (IsFinalBelow t i) old new → Adds (IsFinal t) old new
finals_all t i old new over adds =
    adds_same (IsFinalBelow t i) (IsFinal t) old new adds (λ m both. both.1) (λ m final. (let below = flag_within t.finals m final in omega arith, final))

-- ---- all together

pub states_led : (t : Machine) → IsMachine t → (lists : List (List ℕ)) → ((p q : ℕ) → Contains (list_at lists q) p ↔ Contains (next_states t p) q)
    → (n : ℕ) → n ≡ machine_states t → (q : ℕ) → All (λ p. p < n) (list_at lists q)
states_led t ok lists turned n is q k d below =
    let inside = next_below t ok (get_or (list_at lists q) k d) q ((turned (get_or (list_at lists q) k d) q).0 (Contains-get_or (list_at lists q) k d below)) in
    subst (λ m. get_or (list_at lists q) k d < m) (sym is) inside

pub leading : (t : Machine) (lists : List (List ℕ)) → ((p q : ℕ) → Contains (list_at lists q) p ↔ Contains (next_states t p) q) → (finals states : List ℕ) (flags : List Bool)
    → Adds (IsFinal t) [] finals → AreFlagged flags states → ((q : ℕ) → Contains states q ↔ ((p : ℕ) × Contains finals p × Reachable (list_at lists) p q))
    → (q : ℕ) → IsTrue (get_or flags q false) ↔ LeadsOn t q
leading t lists turned finals states flags adds flagged closed q = (
  λ set.
      let from = (closed q).0 ((flagged.set q).0 set) in
      let path = from.2 in
      (from.0, leads_back (list_at lists) (next_states t) (λ p r c. (turned r p).0 c) path.0 from.0 q path.1, (adds_all (IsFinal t) finals adds from.0).0 from.1),
  λ (p, path, final). (flagged.set q).1
      ((closed q).1 (p, (adds_all (IsFinal t) finals adds p).1 final, leads_back (next_states t) (list_at lists) (λ r s c. (turned r s).1 c) path.0 q p path.1)),
)

-- ---- the moves that are kept

pub map-filter : {X Y : Type 0} (f : X → Y) (test : Y → Bool) (xs : List X) → map f (filter (λ x. test (f x)) xs) ≡ filter test (map f xs)
map-filter f test [] = refl
map-filter f test (x ∷ xs) = by (test (f x)) (map-filter f test xs)
  where
    by : (b : Bool) → map f (filter (λ y. test (f y)) xs) ≡ filter test (map f xs)
        → map f (cond b (x ∷ filter (λ y. test (f y)) xs) (filter (λ y. test (f y)) xs)) ≡ cond b (f x ∷ filter test (map f xs)) (filter test (map f xs))
    by true rest = ap (λ l. f x ∷ l) rest
    by false rest = rest

-- ---- what is read of the lists

pub list_read : {A : Type 0} (lists : List (Vec ℕ A)) (i : ℕ) (v : Vec ℕ A) (read : List ℕ) → i < length lists → v ≡ get_or lists i v → read ≡ v.items → read ≡ list_at (lists_of lists) i
list_read {A} lists i v read below at is = is ∙ ap (λ (u : Vec ℕ A). u.items) at ∙ sym (get_or-map (λ (u : Vec ℕ A). u.items) lists i v [] below)

-- of so many with others behind them, as many as there are
pub whole_taken : {X : Type 0} (n : ℕ) (xs ys : List X) → length xs ≡ n → take n (xs ++ ys) ≡ xs
whole_taken n xs ys each = take-append-le n xs ys (omega arith) ∙ take_all n xs (omega arith)
