-- Two classes that swap their numbers.
use Rattle.std.proofs.Common.{◌≡◌, ◌≢◌, ℕ, ◌+◌, ◌<◌, ◌==◌, true, false, cond, List, [], ◌∷◌, ◌++◌, length, get_or, set, take, sym, ap, ◌∙◌, subst, inl, inr, arith}
use Rattle.std.specs.List.{All, Contains}
use Rattle.std.proofs.lemmas.Bool.{cases_Bool, cases_eq, cases_lt}
use Rattle.std.specs.declared.vec.Vec.{Vec}
use Rattle.std.specs.List.{swap}
use Rattle.std.proofs.lemmas.List.{get_or-map, get_or-set_other, get_or-set_same, get_or_past, length-map, length-set}
use Rattle.std.proofs.lemmas.List.Edits.{length-swap, swapped_from_swap}
use Rattle.std.proofs.lemmas.List.Elements.{Contains-append_left, Contains-get_or, Contains-push, Contains-push_cases}
use Rattle.rela_subset.specs.Deterministic.{Deterministic, IsDeterministic, next, states}
use Rattle.rela_minimise.specs.Refining.{AreFrom, AreColumns, IsAfter, IsHeld, IsSwapped, KeepsAfter, Stage, class_of, other_of, signature}
use Rattle.rela_minimise.specs.Stored.{lists_of}
use Rattle.rela_minimise.proofs.LetterTargets.{next_within}
use Rattle.rela_minimise.proofs.OneByOne.{in_take}
use Rattle.rela_minimise.proofs.Signing.{same_final, same_leads, signature_same}

-- own: one state of the class more
pub own_with : (list : List ℕ) (i : ℕ) (own own' : List ℕ) (P : ℕ → Type 0) → i < length list → own' ≡ own ++ get_or list i 0 ∷ []
    → ((q : ℕ) → Contains (take i list) q → P q → Contains own q) → (q : ℕ) → Contains (take (i + 1) list) q → P q → Contains own' q
own_with list i own own' P below pushed all q among holds = subst (λ l. Contains l q) (sym pushed) (elim (in_take list i q below among) [
  | inl earlier ↦ Contains-append_left own (get_or list i 0 ∷ []) q (all q earlier holds)
  | inr last ↦ subst (Contains (own ++ get_or list i 0 ∷ [])) (sym last) (Contains-push own (get_or list i 0))
])

pub own_without : (list : List ℕ) (i : ℕ) (own : List ℕ) (P : ℕ → Type 0) → i < length list → ¬ P (get_or list i 0)
    → ((q : ℕ) → Contains (take i list) q → P q → Contains own q) → (q : ℕ) → Contains (take (i + 1) list) q → P q → Contains own q
own_without list i own P below other all q among holds = elim (in_take list i q below among) [
  | inl earlier ↦ all q earlier holds
  | inr last ↦ absurd (other (subst P last holds))
]

pub only_with : (own own' : List ℕ) (x : ℕ) (P : ℕ → Type 0) → own' ≡ own ++ x ∷ [] → P x → ((q : ℕ) → Contains own q → P q) → (q : ℕ) → Contains own' q → P q
only_with own own' x P pushed holds all q among = elim (Contains-push_cases own x q (subst (λ l. Contains l q) pushed among)) [
  | inl earlier ↦ all q earlier
  | inr last ↦ subst P last holds
]

-- write_all: one state more
module _ (start classes list : List ℕ) (i class : ℕ) (below : i < length list) (inside : get_or list i 0 < length classes) where
  pub written_more : ((q : ℕ) → Contains (take i list) q → get_or classes q 0 ≡ class) → (q : ℕ) → Contains (take (i + 1) list) q → get_or (set classes (get_or list i 0) class) q 0 ≡ class
  written_more all q among = elim (cases_eq q (get_or list i 0)) [
    | inl here ↦ ap (λ n. get_or (set classes (get_or list i 0) class) n 0) here ∙ get_or-set_same classes (get_or list i 0) class 0 inside
    | inr other ↦ get_or-set_other classes (get_or list i 0) q class 0 other ∙ all q (elim (in_take list i q below among) [
      | inl earlier ↦ earlier
      | inr last ↦ absurd (other last)
    ])
  ]

  pub others_more : ((q : ℕ) → ¬ Contains list q → get_or classes q 0 ≡ get_or start q 0) → (q : ℕ) → ¬ Contains list q → get_or (set classes (get_or list i 0) class) q 0 ≡ get_or start q 0
  others_more all q missing =
      get_or-set_other classes (get_or list i 0) q class 0 (λ same. missing (subst (Contains list) (sym same) (Contains-get_or list i 0 below))) ∙ all q missing

-- one of two for the other
other_first : (a b : ℕ) → other_of a b a ≡ b
other_first a b = let same : a == a ≡ true = grind arith in ap (λ t. cond t b (cond (a == b) a a)) same

other_second : (a b : ℕ) → a ≢ b → other_of a b b ≡ a
other_second a b apart =
    let differ : b == a ≡ false = grind arith in
    let same : b == b ≡ true = grind arith in
    ap (λ t. cond t b (cond (b == b) a b)) differ ∙ ap (λ t. cond t a b) same

other_neither : (a b c : ℕ) → c ≢ a → c ≢ b → other_of a b c ≡ c
other_neither a b c not_a not_b =
    let first : c == a ≡ false = grind arith in
    let second : c == b ≡ false = grind arith in
    ap (λ t. cond t b (cond (c == b) a c)) first ∙ ap (λ t. cond t a c) second

other_twice : (a b c : ℕ) → a ≢ b → other_of a b (other_of a b c) ≡ c
other_twice a b c apart = elim (cases_eq c a) [
  | inl first ↦ ap (λ n. other_of a b (other_of a b n)) first ∙ ap (other_of a b) (other_first a b) ∙ other_second a b apart ∙ sym first
  | inr not_a ↦ elim (cases_eq c b) [
    | inl second ↦ ap (λ n. other_of a b (other_of a b n)) second ∙ ap (other_of a b) (other_second a b apart) ∙ other_first a b ∙ sym second
    | inr not_b ↦ ap (other_of a b) (other_neither a b c not_a not_b) ∙ other_neither a b c not_a not_b
  ]
]

other_below : (a b c n : ℕ) → a < n → b < n → c < n → other_of a b c < n
other_below a b c n a_in b_in c_in = elim (cases_Bool (c == a)) [
  | inl first ↦ subst (λ t. cond t b (cond (c == b) a c) < n) (sym first) b_in
  | inr not_a ↦ subst (λ t. cond t b (cond (c == b) a c) < n) (sym not_a) (elim (cases_Bool (c == b)) [
    | inl second ↦ subst (λ t. cond t a c < n) (sym second) a_in
    | inr not_b ↦ subst (λ t. cond t a c < n) (sym not_b) c_in
  ])
]

-- what held after states had gone by their signatures holds with the number of a class given to a part of it
module _ (d : Deterministic) (ok : IsDeterministic d) (columns : List (List ℕ)) (are : AreColumns d columns) (start s s' : Stage) (origins : List ℕ) (j : ℕ) (j_in : j < length origins)
    (old : get_or origins j 0 < length start.members) (fits : length start.members + j < length s.members) (from : AreFrom (states d) (length start.members) origins start s) (after : IsAfter d columns start s)
    (swapped : IsSwapped (states d) (get_or origins j 0) (length start.members + j) s s') where
  abbrev a : ℕ
  a = get_or origins j 0

  abbrev b : ℕ
  b = length start.members + j

  apart : a ≢ b
  apart same = omega (arith, same, old)

  back : (q : ℕ) → q < states d → class_of s q ≡ other_of a b (class_of s' q)
  back q below = sym (other_twice a b (class_of s q) apart) ∙ ap (other_of a b) (sym (swapped.classes q below))

  same_back : (p q : ℕ) → p < states d → q < states d → class_of s' p ≡ class_of s' q → class_of s p ≡ class_of s q
  same_back p q p_in q_in same = back p p_in ∙ ap (other_of a b) same ∙ sym (back q q_in)

  same_on : (p q : ℕ) → p < states d → q < states d → class_of s p ≡ class_of s q → class_of s' p ≡ class_of s' q
  same_on p q p_in q_in same = swapped.classes p p_in ∙ ap (other_of a b) same ∙ sym (swapped.classes q q_in)

  sign_back : (p q : ℕ) → p < states d → q < states d → signature d columns s'.classes p ≡ signature d columns s'.classes q → signature d columns s.classes p ≡ signature d columns s.classes q
  sign_back p q p_in q_in same =
      signature_same d ok columns are s.classes s.classes p q p_in q_in (same_final d ok columns are s'.classes s'.classes p q same) (λ k over.
      same_back (next d p k) (next d q k) (next_within d ok p k p_in over) (next_within d ok q k q_in over) (same_leads d ok columns are s'.classes s'.classes p q p_in q_in same k over))

  sign_on : (p q : ℕ) → p < states d → q < states d → signature d columns s.classes p ≡ signature d columns s.classes q → signature d columns s'.classes p ≡ signature d columns s'.classes q
  sign_on p q p_in q_in same =
      signature_same d ok columns are s'.classes s'.classes p q p_in q_in (same_final d ok columns are s.classes s.classes p q same) (λ k over.
      same_on (next d p k) (next d q k) (next_within d ok p k p_in over) (next_within d ok q k q_in over) (same_leads d ok columns are s.classes s.classes p q p_in q_in same k over))

  -- where a state's number is now, it was, or it was the other one of the two
  kept_now : (q : ℕ) → q < states d → class_of s' q < length start.members → class_of s' q ≡ class_of start q
  kept_now q below small = elim (cases_eq (class_of s' q) a) [
    | inl here ↦
        let was : class_of s q ≡ b = back q below ∙ ap (other_of a b) here ∙ other_first a b in
        here ∙ sym (from q j below j_in was)
    | inr not_a ↦
        let not_b : class_of s' q ≢ b = λ same. omega (arith, same, small) in
        let was : class_of s q ≡ class_of s' q = back q below ∙ other_neither a b (class_of s' q) not_a not_b in
        sym was ∙ after.kept q below (subst (λ n. n < length start.members) (sym was) small)
  ]

  pub from_now : AreFrom (states d) (length start.members) origins start s'
  from_now q i below i_in at = elim (cases_eq i j) [
    | inl same ↦
        let was : class_of s q ≡ a = back q below ∙ ap (other_of a b) (at ∙ ap (λ n. length start.members + n) same) ∙ other_second a b apart in
        sym (sym was ∙ after.kept q below (subst (λ n. n < length start.members) (sym was) old)) ∙ ap (λ n. get_or origins n 0) (sym same)
    | inr other ↦
        let not_a : class_of s' q ≢ a = λ same. omega (arith, same, at, old) in
        let not_b : class_of s' q ≢ b = λ same. other (omega (arith, same, at)) in
        from q i below i_in (back q below ∙ other_neither a b (class_of s' q) not_a not_b ∙ at)
  ]

  pub after_now : IsAfter d columns start s'
  after_now =
      let count = swapped.count in
      let a_in : a < length s.members = let grown = after.grown in omega arith in
      record {
        each = swapped.holds.each;
        flagged = ap length swapped.stale ∙ after.flagged;
        signed = swapped.holds.signed;
        counted = λ q below. subst (λ n. n < length s'.members) (sym (swapped.classes q below)) (other_below a b (class_of s q) (length s'.members) (omega arith) (omega arith) (let counted = after.counted q below in omega arith));
        within = swapped.holds.within;
        held = swapped.holds.held;
        fresh = λ q below. ap (λ st. get_or st q false) swapped.stale ∙ after.fresh q below;
        settled = λ q below. after.settled q below ∙ sym (ap (λ c. get_or s'.signatures c []) (swapped.classes q below) ∙ swapped.signatures (class_of s q));
        kept = kept_now;
        grown = let grown = after.grown in omega arith;
        coarse = record {
          accepting = λ p q p_in q_in same. same_on p q p_in q_in (after.coarse.accepting p q p_in q_in same);
          signing = λ p q p_in q_in same. same_on p q p_in q_in (after.coarse.signing p q p_in q_in (sign_back p q p_in q_in same));
          met = λ c below.
              let (q, q_in, at) = after.coarse.met (other_of a b c) (other_below a b c (length s.members) a_in fits (omega arith)) in
              (q, q_in, swapped.classes q q_in ∙ ap (other_of a b) at ∙ other_twice a b c apart);
        };
        stable = λ same p q p_in q_in one. sign_on p q p_in q_in (after.stable (sym count ∙ same) p q p_in q_in (same_back p q p_in q_in one));
      }

-- the states of the two classes, written with the other number
module _ (n a b : ℕ) (s s' : Stage) (first second between : List ℕ) (held : IsHeld n s) (a_in : a < length s.members) (b_in : b < length s.members) (differ : a ≢ b)
    (first_all : (q : ℕ) → Contains (get_or s.members a []) q → class_of s q ≡ a → Contains first q) (first_states : All (λ q. q < n) first) (first_only : (q : ℕ) → Contains first q → class_of s q ≡ a)
    (second_all : (q : ℕ) → Contains (get_or s.members b []) q → class_of s q ≡ b → Contains second q) (second_states : All (λ q. q < n) second) (second_only : (q : ℕ) → Contains second q → class_of s q ≡ b)
    (each : length between ≡ length s.classes) (written : (q : ℕ) → Contains first q → get_or between q 0 ≡ b) (others : (q : ℕ) → ¬ Contains first q → get_or between q 0 ≡ class_of s q)
    (each' : length s'.classes ≡ length between) (written' : (q : ℕ) → Contains second q → class_of s' q ≡ a) (others' : (q : ℕ) → ¬ Contains second q → class_of s' q ≡ get_or between q 0)
    (members : s'.members ≡ set (set s.members a second) b first) (stale : s'.stale ≡ s.stale) (signed : length s'.signatures ≡ length s.signatures)
    (signatures : (c : ℕ) → get_or s'.signatures (other_of a b c) [] ≡ get_or s.signatures c []) where
  from_first : (q : ℕ) → q < n → class_of s q ≡ a → Contains first q × (class_of s' q ≡ b)
  from_first q below is =
      let among = first_all q (subst (λ c. Contains (get_or s.members c []) q) is (held.held q below)) is in
      (among, others' q (λ in_second. differ (sym is ∙ second_only q in_second)) ∙ written q among)

  from_second : (q : ℕ) → q < n → class_of s q ≡ b → Contains second q × (class_of s' q ≡ a)
  from_second q below is =
      let among = second_all q (subst (λ c. Contains (get_or s.members c []) q) is (held.held q below)) is in
      (among, written' q among)

  from_other : (q : ℕ) → class_of s q ≢ a → class_of s q ≢ b → class_of s' q ≡ class_of s q
  from_other q not_a not_b = others' q (λ in_second. not_b (second_only q in_second)) ∙ others q (λ in_first. not_a (first_only q in_first))

  members_count : length (set s.members a second) ≡ length s.members
  members_count = length-set s.members a second

  members_b : get_or s'.members b [] ≡ first
  members_b = let size = members_count in ap (λ ms. get_or ms b []) members ∙ get_or-set_same (set s.members a second) b first [] (omega arith)

  members_a : get_or s'.members a [] ≡ second
  members_a = ap (λ ms. get_or ms a []) members ∙ get_or-set_other (set s.members a second) b a first [] differ ∙ get_or-set_same s.members a second [] a_in

  members_other : (c : ℕ) → c ≢ a → c ≢ b → get_or s'.members c [] ≡ get_or s.members c []
  members_other c not_a not_b = ap (λ ms. get_or ms c []) members ∙ get_or-set_other (set s.members a second) b c first [] not_b ∙ get_or-set_other s.members a c second [] not_a

  pub swapped_of : IsSwapped n a b s s'
  swapped_of = record {
    holds = record {
      each = each' ∙ each ∙ held.each;
      signed = signed ∙ held.signed ∙ sym (ap length members ∙ length-set (set s.members a second) b first ∙ members_count);
      within = λ c. elim (cases_eq c a) [
        | inl is_a ↦ subst (All (λ q. q < n)) (sym (ap (λ m. get_or s'.members m []) is_a ∙ members_a)) second_states
        | inr not_a ↦ elim (cases_eq c b) [
          | inl is_b ↦ subst (All (λ q. q < n)) (sym (ap (λ m. get_or s'.members m []) is_b ∙ members_b)) first_states
          | inr not_b ↦ subst (All (λ q. q < n)) (sym (members_other c not_a not_b)) (held.within c)
        ]
      ];
      held = λ q below. elim (cases_eq (class_of s q) a) [
        | inl is_a ↦ let is = from_first q below is_a in subst (λ l. Contains l q) (sym (ap (λ c. get_or s'.members c []) is.1 ∙ members_b)) is.0
        | inr not_a ↦ elim (cases_eq (class_of s q) b) [
          | inl is_b ↦ let is = from_second q below is_b in subst (λ l. Contains l q) (sym (ap (λ c. get_or s'.members c []) is.1 ∙ members_a)) is.0
          | inr not_b ↦ subst (λ l. Contains l q) (sym (ap (λ c. get_or s'.members c []) (from_other q not_a not_b) ∙ members_other (class_of s q) not_a not_b)) (held.held q below)
        ]
      ];
    };
    stale = stale;
    count = ap length members ∙ length-set (set s.members a second) b first ∙ members_count;
    classes = λ q below. elim (cases_eq (class_of s q) a) [
      | inl is_a ↦ (from_first q below is_a).1 ∙ sym (ap (other_of a b) is_a ∙ other_first a b)
      | inr not_a ↦ elim (cases_eq (class_of s q) b) [
        | inl is_b ↦ (from_second q below is_b).1 ∙ sym (ap (other_of a b) is_b ∙ other_second a b differ)
        | inr not_b ↦ from_other q not_a not_b ∙ sym (other_neither a b (class_of s q) not_a not_b)
      ]
    ];
    signatures = signatures;
  }

-- lists that have been swapped
module _ {A : Type 0} (xs ys : List (Vec ℕ A)) (a b : ℕ) (d : Vec ℕ A) (a_in : a < length xs) (b_in : b < length xs) (differ : a ≢ b) (is : ys ≡ swap xs a b) where
  pub swapped_len : length (lists_of ys) ≡ length (lists_of xs)
  swapped_len = length-map ys (λ (v : Vec ℕ A). v.items) ∙ ap length is ∙ length-swap xs a b ∙ sym (length-map xs (λ (v : Vec ℕ A). v.items))

  at_xs : (c : ℕ) → c < length xs → get_or (lists_of xs) c [] ≡ (get_or xs c d).items
  at_xs c below = get_or-map (λ (v : Vec ℕ A). v.items) xs c d [] below

  at_ys : (c : ℕ) → c < length xs → get_or (lists_of ys) c [] ≡ (get_or ys c d).items
  at_ys c below = get_or-map (λ (v : Vec ℕ A). v.items) ys c d [] (subst (λ n. c < n) (sym (ap length is ∙ length-swap xs a b)) below)

  pub swapped_lists : (c : ℕ) → get_or (lists_of ys) (other_of a b c) [] ≡ get_or (lists_of xs) c []
  swapped_lists c =
      let parts = swapped_from_swap xs ys a b d a_in b_in is in
      elim (cases_eq c a) [
        | inl is_a ↦
            ap (λ n. get_or (lists_of ys) (other_of a b n) []) is_a ∙ ap (λ n. get_or (lists_of ys) n []) (other_first a b) ∙ at_ys b b_in
            ∙ ap (λ (v : Vec ℕ A). v.items) parts.1 ∙ sym (at_xs a a_in) ∙ ap (λ n. get_or (lists_of xs) n []) (sym is_a)
        | inr not_a ↦ elim (cases_eq c b) [
          | inl is_b ↦
              ap (λ n. get_or (lists_of ys) (other_of a b n) []) is_b ∙ ap (λ n. get_or (lists_of ys) n []) (other_second a b differ) ∙ at_ys a a_in
              ∙ ap (λ (v : Vec ℕ A). v.items) parts.0 ∙ sym (at_xs b b_in) ∙ ap (λ n. get_or (lists_of xs) n []) (sym is_b)
          | inr not_b ↦
              ap (λ n. get_or (lists_of ys) n []) (other_neither a b c not_a not_b) ∙ elim (cases_lt c (length xs)) [
                | inl below ↦ at_ys c below ∙ ap (λ (v : Vec ℕ A). v.items) (parts.2 c not_a not_b) ∙ sym (at_xs c below)
                | inr past ↦
                    let size = swapped_len in
                    let size_xs = length-map xs (λ (v : Vec ℕ A). v.items) in
                    get_or_past (lists_of ys) c [] (omega arith) ∙ sym (get_or_past (lists_of xs) c [] (omega arith))
              ]
        ]
      ]

-- one more class that has been given a number
pub keeps_more : (first : ℕ) (origins : List ℕ) (before s s' : Stage) (n j : ℕ) → KeepsAfter first origins before s → length s.classes ≡ n → j < length origins → get_or origins j 0 < first → first + j < length s.members
    → IsSwapped n (get_or origins j 0) (first + j) s s' → KeepsAfter first origins before s'
keeps_more first origins before s s' n j keeps size j_in old fits swapped d columns start ok are first_is from after =
    let both = keeps d columns start ok are first_is from after in
    let all : n ≡ states d = sym size ∙ both.1.each in
    let from_s : AreFrom (states d) (length start.members) origins start s = subst (λ m. AreFrom (states d) m origins start s) first_is both.0 in
    let swapped_s : IsSwapped (states d) (get_or origins j 0) (length start.members + j) s s' =
    subst (λ m. IsSwapped m (get_or origins j 0) (length start.members + j) s s') all (subst (λ m. IsSwapped n (get_or origins j 0) (m + j) s s') first_is swapped) in (
      subst (λ m. AreFrom (states d) m origins start s') (sym first_is) (from_now d ok columns are start s s' origins j j_in (omega arith) (omega arith) from_s both.1 swapped_s),
      after_now d ok columns are start s s' origins j j_in (omega arith) (omega arith) from_s both.1 swapped_s,
    )
