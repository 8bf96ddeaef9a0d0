-- What a search for a final state has found.
use Rattle.std.proofs.Common.{cond, add-zero, ◌≡◌, ℕ, ◌+◌, ◌<◌, ◌⊎◌, ◌↔◌, ◌&&◌, Bool, true, false, not, List, [], ◌∷◌, ◌++◌, length, get_or, replicate, set, take, count_by, Option, None, Some, unwrap_or, inl, inr, append_assoc, arith, refl, sym, ap, ◌∙◌, subst}
use Rattle.std.specs.List.{All, Contains}
use Rattle.std.specs.Option.{IfNone, IfSome, is_some, option_to_list}
use Rattle.std.proofs.lemmas.Bool.{cases_eq, cases_lt, cases_Bool, false≢true}
use Rattle.std.proofs.lemmas.List.{append-nil, get_or-replicate, get_or_past, length-replicate, length_push, take-append-le, take_all, get_or-set_same, get_or-set_other, length-set}
use Rattle.std.proofs.lemmas.List.Elements.{All-head, All-tail, Contains-push, Contains-push_cases, Contains-append_left, Contains-append_right, All-nil, All-cons, All-append}
use Rattle.std.proofs.lemmas.List.Sums.{sum_by-set}
use Rattle.std.proofs.lemmas.Option.{none-some}
use Rattle.rela_labels.specs.Letters.{has}
use Rattle.rela_nfa.specs.Automaton.{Automaton, Move, IsFinal, moves_of, states}
use Rattle.rela_nfa.specs.Runs.{Step, StepIn, HasStep, Follow, Reach, Accepts, spelled}
use Rattle.rela_nfa.specs.StateSet.{HasFlag}
use Rattle.rela_subset.specs.Deterministic.{IsOver}
use Rattle.rela_restriction.specs.Emptiness.{Finds, IsOpen, OpensTo}

-- ---- what is put in

-- a state that has no flag
pub one_found : (flags : List Bool) (waited : List ℕ) (n : ℕ) → n < length flags → (¬ HasFlag flags n) → Finds (λ q. q ≡ n) flags waited (set flags n true) (waited ++ n ∷ [])
one_found flags waited n within lacking = record {
  count = length-set flags n true;
  kept = λ q h. elim (cases_eq q n) [
    | inl same ↦ rw same (get_or-set_same flags n true false within)
    | inr apart ↦ get_or-set_other flags n q true false apart ∙ h
  ];
  still = λ q c. Contains-append_left waited (n ∷ []) q c;
  fresh = λ q h. elim (cases_eq q n) [
    | inl same ↦ inr (rw same (Contains-push waited n))
    | inr apart ↦ inl (sym (get_or-set_other flags n q true false apart) ∙ h)
  ];
  all = λ q same. rw same (get_or-set_same flags n true false within);
  only = λ q c. elim (Contains-push_cases waited n q c) [ inl before ↦ inl before | inr here ↦ inr (sym here) ];
  room =
      let unset : get_or flags n false ≡ false = elim (cases_Bool (get_or flags n false)) [ inl flagged ↦ absurd (lacking flagged) | inr unflagged ↦ unflagged ] in
      let one_less : count_by not (set flags n true) + 1 ≡ count_by not flags =
      rw unset at (sum_by-set (λ b. cond (not b) 1 0) flags n true false within) ∙ add-zero (count_by not flags) in
      let l = length_push waited n in
      omega arith;
}

-- nothing, where all have flags
pub nothing_found : (P : ℕ → Type 0) (flags : List Bool) (waiting : List ℕ) → ((q : ℕ) → P q → HasFlag flags q) → Finds P flags waiting flags waiting
nothing_found P flags waiting flagged =
    record { count = refl; kept = λ q h. h; still = λ q c. c; fresh = λ q h. inl h; all = flagged; only = λ q c. inl c; room = refl }

-- some, and then others
found_both : (P Q R : ℕ → Type 0) (old : List Bool) (waited : List ℕ) (mid : List Bool) (left : List ℕ) (new : List Bool) (waiting : List ℕ) → Finds P old waited mid left
    → Finds Q mid left new waiting → ((q : ℕ) → R q ↔ (P q ⊎ Q q)) → Finds R old waited new waiting
found_both P Q R old waited mid left new waiting first second cases = record {
  count = second.count ∙ first.count;
  kept = λ q h. second.kept q (first.kept q h);
  still = λ q c. second.still q (first.still q c);
  fresh = λ q h. elim (second.fresh q h) [
    | inl before ↦ elim (first.fresh q before) [ inl earlier ↦ inl earlier | inr waits ↦ inr (second.still q waits) ]
    | inr waits ↦ inr waits
  ];
  all = λ q holds. elim ((cases q).0 holds) [ inl one ↦ second.kept q (first.all q one) | inr two ↦ second.all q two ];
  only = λ q c. elim (second.only q c) [
    | inl before ↦ elim (first.only q before) [ inl waited ↦ inl waited | inr one ↦ inr ((cases q).1 (inl one)) ]
    | inr two ↦ inr ((cases q).1 (inr two))
  ];
  room = second.room ∙ first.room;
}

-- ---- edges

no_member : {X : Type 0} (x : X) → Contains {X = X} [] x → ⊥
no_member x c = omega (arith, c.1)

pub no_edges : (over : List Bool) (flags : List Bool) (waiting : List ℕ) → Finds (OpensTo over []) flags waiting flags waiting
no_edges over flags waiting = nothing_found (OpensTo over []) flags waiting (λ q (move, among, opens, leads). absurd (no_member move among))

-- one edge more
pub edge_more : (over : List Bool) (moves : List Move) (move : Move) (old : List Bool) (waited : List ℕ) (mid : List Bool) (left : List ℕ) (new : List Bool) (waiting : List ℕ)
    → Finds (OpensTo over moves) old waited mid left → Finds (OpensTo over (move ∷ [])) mid left new waiting → Finds (OpensTo over (moves ++ move ∷ [])) old waited new waiting
edge_more over moves move old waited mid left new waiting before one =
    found_both (OpensTo over moves) (OpensTo over (move ∷ [])) (OpensTo over (moves ++ move ∷ [])) old waited mid left new waiting before one
    (λ q. (
      λ (m, among, opens, leads). elim (Contains-push_cases moves move m among) [
        | inl earlier ↦ inl (m, earlier, opens, leads)
        | inr here ↦ inr (m, subst (λ l. Contains (move ∷ []) l) here (Contains-push [] move), opens, leads)
      ],
      elim [
        | inl (m, among, opens, leads) ↦ (m, Contains-append_left moves (move ∷ []) m among, opens, leads)
        | inr (m, among, opens, leads) ↦ (m, Contains-append_right moves (move ∷ []) m among, opens, leads)
      ],
    ))

-- one edge alone
only_edge : (move m : Move) → Contains (move ∷ []) m → move ≡ m
only_edge move m among = elim (Contains-push_cases [] move m among) [ inl none ↦ absurd (no_member m none) | inr same ↦ same ]

pub edge_opens : (over : List Bool) (move : Move) (old : List Bool) (waited : List ℕ) (new : List Bool) (waiting : List ℕ) → IsOpen over move.label
    → Finds (λ q. q ≡ move.to) old waited new waiting → Finds (OpensTo over (move ∷ [])) old waited new waiting
edge_opens over move old waited new waiting is_open finds = record {
  count = finds.count;
  kept = finds.kept;
  still = finds.still;
  fresh = finds.fresh;
  all = λ q (m, among, opens, leads). finds.all q (sym leads ∙ ap (λ (e : Move). e.to) (sym (only_edge move m among)));
  only = λ q c. elim (finds.only q c) [ inl waited ↦ inl waited | inr same ↦ inr (move, Contains-push [] move, is_open, sym same) ];
  room = finds.room;
}

pub edge_closed : (over : List Bool) (move : Move) (flags : List Bool) (waiting : List ℕ) → (¬ IsOpen over move.label) → Finds (OpensTo over (move ∷ [])) flags waiting flags waiting
edge_closed over move flags waiting closed =
    nothing_found (OpensTo over (move ∷ [])) flags waiting
    (λ q (m, among, opens, leads). absurd (closed (subst (λ (e : Move). IsOpen over e.label) (sym (only_edge move m among)) opens)))

same_value : (x y : List Bool) → Some x ≡ Some y → x ≡ y
same_value x y same = ap (λ (o : Option (List Bool)). unwrap_or o []) same

-- a silent edge is open, and one by a label with a letter in common
pub silent_open : (over : List Bool) → IsOpen over None
silent_open over letters none = absurd (none-some letters none)

pub common_open : (over label common : List Bool) (least : Option ℕ) → ((k : ℕ) → has common k ≡ (has label k && has over k)) → IfNone least ((k : ℕ) → has common k ≡ false)
    → IfSome least (λ k. has common k ≡ true) → (is_some least ≡ true) ↔ IsOpen over (Some label)
common_open over label common None both none some = (
  λ never. absurd (false≢true never),
  λ opens.
      let (k, in_over, in_label) = opens label refl in
      absurd (false≢true (sym (none k) ∙ both k ∙ ap (λ b. b && has over k) in_label ∙ in_over)),
)
common_open over label common (Some k) both none some = (
  λ always letters same.
      let is : (has label k && has over k) ≡ true = sym (both k) ∙ some in
      (k, and_right (has label k) (has over k) is, subst (λ l. has l k ≡ true) (same_value label letters same) (and_left (has label k) (has over k) is)),
  λ opens. refl,
)
  where
    and_left : (a b : Bool) → (a && b) ≡ true → a ≡ true
    and_left true b e = refl
    and_left false b e = absurd (false≢true e)

    and_right : (a b : Bool) → (a && b) ≡ true → b ≡ true
    and_right true b e = e
    and_right false b e = absurd (false≢true e)

-- ---- the search

pub none_waits : (waiting : List ℕ) → length waiting ≡ 0 → waiting ≡ []
none_waits [] none = refl
none_waits (q ∷ rest) none = absurd (omega (arith, none))

-- what stands before the rest
pub whole_taken : (n : ℕ) (flags rest : List Bool) → length flags ≡ n → take n (flags ++ rest) ≡ flags
whole_taken n flags rest each = take-append-le n flags rest (omega arith) ∙ take_all n flags (omega arith)

-- the edges of a state have been followed, and it isn't final
abbrev pub IsLeft : Automaton → List Bool → List Bool → ℕ → Type 0
IsLeft a over flags p = (¬ IsFinal a p) × ((q : ℕ) → OpensTo over (moves_of a p) q → HasFlag flags q)

-- a word over the letters leads to the state
abbrev pub IsReached : Automaton → List Bool → ℕ → Type 0
IsReached a over p = (w : List ℕ) × IsOver over w × Reach a p w

-- the start is flagged, each state that is flagged waits or was left, and each that waits is led to
pub record IsSearched (a : Automaton) (over : List Bool) (flags : List Bool) (waiting : List ℕ) : Type 0 where
  pub count : length flags ≡ states a
  pub below : All (λ q. q < length flags) waiting
  pub start : HasFlag flags a.start
  pub left : (p : ℕ) → HasFlag flags p → Contains waiting p ⊎ IsLeft a over flags p
  pub reached : (p : ℕ) → Contains waiting p → IsReached a over p

-- no state is flagged at first
pub none_flagged : (n q : ℕ) → ¬ HasFlag (replicate n false) q
none_flagged n q flagged = elim (cases_lt q n) [
  | inl below ↦ false≢true (sym (get_or-replicate n q false false below) ∙ flagged)
  | inr past ↦ false≢true (sym (get_or_past (replicate n false) q false (omega (arith, past, length-replicate n false))) ∙ flagged)
]

-- and the start alone waits
pub begun : (a : Automaton) (over flags : List Bool) (new : List Bool) (waiting : List ℕ) → length flags ≡ states a → ((q : ℕ) → ¬ HasFlag flags q)
    → Finds (λ q. q ≡ a.start) flags [] new waiting → All (λ q. q < length new) waiting → IsSearched a over new waiting
begun a over flags new waiting each none finds below = record {
  count = finds.count ∙ each;
  below = below;
  start = finds.all a.start refl;
  left = λ q h. elim (finds.fresh q h) [ inl before ↦ absurd (none q before) | inr waits ↦ inl waits ];
  reached = λ q c. elim (finds.only q c) [
    | inl waited ↦ absurd (no_member q waited)
    | inr same ↦ subst (IsReached a over) (sym same) ([], All-nil (λ k. has over k ≡ true), ([], refl, refl))
  ];
}

-- by an open edge a word over the letters goes on
open_step : (over : List Bool) (moves : List Move) (label : Option (List Bool)) (q : ℕ) → Contains moves (record { label = label; to = q }) → IsOpen over label
    → (letter : Option ℕ) × StepIn moves letter q × IsOver over (option_to_list letter)
open_step over moves None q among opens = (None, among, All-nil (λ k. has over k ≡ true))
open_step over moves (Some set) q among opens =
    let (k, in_over, in_set) = opens set refl in
    (Some k, (set, among, in_set), All-cons (λ j. has over j ≡ true) k [] in_over (All-nil (λ j. has over j ≡ true)))

follow_on : (a : Automaton) (steps : List Step) (from p : ℕ) → Follow a from steps p → (step : Step) → HasStep a p step.letter step.to → Follow a from (steps ++ step ∷ []) step.to
follow_on a [] from p here step has = (subst (λ r. HasStep a r step.letter step.to) (sym here) has, refl)
follow_on a (first ∷ rest) from p (has_first, follow) step has = (has_first, follow_on a rest first.to p follow step has)

spelled_on : (steps : List Step) (step : Step) → spelled (steps ++ step ∷ []) ≡ spelled steps ++ option_to_list step.letter
spelled_on [] step = append-nil (option_to_list step.letter)
spelled_on (first ∷ rest) step =
    ap (λ l. option_to_list first.letter ++ l) (spelled_on rest step) ∙ sym (append_assoc (option_to_list first.letter) (spelled rest) (option_to_list step.letter))

reached_on : (a : Automaton) (over : List Bool) (p q : ℕ) → IsReached a over p → OpensTo over (moves_of a p) q → IsReached a over q
reached_on a over p q (w, is_over, (steps, follow, spells)) (move, among, opens, leads) =
    let (letter, step, over_letter) = open_step over (moves_of a p) move.label move.to among opens in
    subst (IsReached a over) leads (
      w ++ option_to_list letter,
      All-append (λ k. has over k ≡ true) w (option_to_list letter) is_over over_letter,
      (
        steps ++ record { letter = letter; to = move.to } ∷ [],
        follow_on a steps a.start p follow (record { letter = letter; to = move.to }) step,
        spelled_on steps (record { letter = letter; to = move.to }) ∙ ap (λ l. l ++ option_to_list letter) spells,
      ),
    )

pub rest_below : (n : ℕ) (rest : List ℕ) (p : ℕ) → All (λ q. q < n) (rest ++ p ∷ []) → All (λ q. q < n) rest
rest_below n [] p below = All-nil (λ q. q < n)
rest_below n (q ∷ rest) p below =
    All-cons (λ r. r < n) q rest (All-head (λ r. r < n) q (rest ++ p ∷ []) below) (rest_below n rest p (All-tail (λ r. r < n) q (rest ++ p ∷ []) below))

-- a final state that waits is where a word over the letters is accepted
pub some_accepted : (a : Automaton) (over flags : List Bool) (rest : List ℕ) (p : ℕ) → IsSearched a over flags (rest ++ p ∷ []) → IsFinal a p
    → ((w : List ℕ) → IsOver over w → ¬ Accepts a w) → ⊥
some_accepted a over flags rest p searched final none =
    let (w, is_over, reach) = searched.reached p (Contains-push rest p) in none w is_over (p, reach, final)

-- the last state that waits is left
pub state_left : (a : Automaton) (over : List Bool) (old : List Bool) (rest : List ℕ) (p : ℕ) (new : List Bool) (waiting : List ℕ) → IsSearched a over old (rest ++ p ∷ [])
    → (¬ IsFinal a p) → Finds (OpensTo over (moves_of a p)) old rest new waiting → All (λ q. q < length new) waiting → IsSearched a over new waiting
state_left a over old rest p new waiting so_far other finds below = record {
  count = finds.count ∙ so_far.count;
  below = below;
  start = finds.kept a.start so_far.start;
  left = λ q h. elim (finds.fresh q h) [
    | inl before ↦ elim (so_far.left q before) [
      | inl waited ↦ elim (Contains-push_cases rest p q waited) [
        | inl still ↦ inl (finds.still q still)
        | inr here ↦ inr (subst (IsLeft a over new) here (other, finds.all))
      ]
      | inr gone ↦ inr (gone.0, λ r opens. finds.kept r (gone.1 r opens))
    ]
    | inr waits ↦ inl waits
  ];
  reached = λ q c. elim (finds.only q c) [
    | inl before ↦ so_far.reached q (Contains-append_left rest (p ∷ []) q before)
    | inr opens ↦ reached_on a over p q (so_far.reached p (Contains-push rest p)) opens
  ];
}

-- ---- when none waits

-- an edge by which a word over the letters goes on is open
takes_open : (over : List Bool) (moves : List Move) (letter : Option ℕ) (q : ℕ) (rest : List ℕ) → StepIn moves letter q → IsOver over (option_to_list letter ++ rest)
    → OpensTo over moves q × IsOver over rest
takes_open over moves None q rest among is_over = ((record { label = None; to = q }, among, silent_open over, refl), is_over)
takes_open over moves (Some k) q rest (letters, among, takes) is_over = (
  (
    record { label = Some letters; to = q },
    among,
    λ label same. (k, All-head (λ j. has over j ≡ true) k rest is_over, subst (λ l. has l k ≡ true) (same_value letters label same) takes),
    refl,
  ),
  All-tail (λ j. has over j ≡ true) k rest is_over,
)

module _ (a : Automaton) (over : List Bool) (flags : List Bool) (searched : IsSearched a over flags []) where
  all_left : (p : ℕ) → HasFlag flags p → IsLeft a over flags p
  all_left p h = elim (searched.left p h) [ inl waits ↦ absurd (no_member p waits) | inr gone ↦ gone ]

  led_to : (p : ℕ) (steps : List Step) (q : ℕ) → HasFlag flags p → Follow a p steps q → IsOver over (spelled steps) → HasFlag flags q
  led_to p [] q h same is_over = subst (HasFlag flags) same h
  led_to p (step ∷ rest) q h (first, others) is_over =
      let (opens, later) = takes_open over (moves_of a p) step.letter step.to (spelled rest) first is_over in
      led_to step.to rest q ((all_left p h).1 step.to opens) others later

  pub none_accepted : (w : List ℕ) → IsOver over w → ¬ Accepts a w
  none_accepted w is_over (q, (steps, follow, spells), final) =
      (all_left q (led_to a.start steps q searched.start follow (subst (IsOver over) (sym spells) is_over))).0 final
