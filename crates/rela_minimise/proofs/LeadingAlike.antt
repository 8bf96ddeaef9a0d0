-- Letters in the label of one edge, and the columns of letters.
use Rattle.std.proofs.Common.{◌≡◌, ℕ, ◌+◌, ◌<◌, ◌≤◌, ◌⊎◌, Bool, true, false, not, cond, ◌&&◌, List, [], ◌∷◌, ◌++◌, length, get_or, map, None, Some, refl, sym, ap, ◌∙◌, subst, inl, inr, arith}
use Rattle.std.specs.List.{All, Contains, count_by}
use Rattle.std.specs.Option.{option_map, unwrap_or}
use Rattle.std.proofs.lemmas.Bool.{cases_Bool, cases_lt, false≢true}
use Rattle.std.proofs.lemmas.List.{get_or-map, get_or_append_left, get_or_push, length-map, length_push}
use Rattle.std.proofs.lemmas.List.Elements.{All-contains, All-nil, All-push, Contains-append_left, Contains-push}
use Rattle.rela_labels.specs.Letters.{has}
use Rattle.rela_nfa.specs.Automaton.{IsMove, Move}
use Rattle.rela_nfa.specs.Stored.{move_of}
use Rattle.rela_nfa.specs.declared.edge.Edge.{Edge}
use Rattle.rela_subset.specs.Deterministic.{Deterministic, IsDeterministic, moves_of, next, states, takes, target}
use Rattle.rela_minimise.specs.Refining.{AreColumns, IsColumn, IsMap, LeadAlike}
use Rattle.rela_minimise.proofs.LetterTargets.{moves_at, split_at, step_target, target_at}

first_true : (a b : Bool) → (a && b) ≡ true → a ≡ true
first_true true b both = refl
first_true false b both = both

second_true : (a b : Bool) → (a && b) ≡ true → b ≡ true
second_true true b both = both
second_true false b both = absurd (false≢true both)

both_true : (a b : Bool) → a ≡ true → b ≡ true → (a && b) ≡ true
both_true true b first second = second
both_true false b first second = first

bit_small : (b : Bool) → cond b 1 0 ≤ 1
bit_small true = omega arith
bit_small false = omega arith

module _ {L : Type 0} (letters : L → List Bool) (d : Deterministic) (ok : IsDeterministic d) (q : ℕ) (q_in : q < states d) (edges : List (Edge L)) (are : map (move_of letters) edges ≡ moves_of d q)
    (i : ℕ) (edge : Edge L) (i_in : i < length edges) (at : edge ≡ get_or edges i edge) (label : L) (is : edge.label ≡ Some label) where
  abbrev move : Move
  move = record { label = Some (letters label); to = edge.to }

  move_is : move ≡ move_of letters edge
  move_is = ap (λ l. let m : Move = record { label = option_map letters l; to = edge.to } in m) (sym is)

  among : Contains (moves_of d q) move
  among = subst (λ ms. Contains ms move) are (i, omega (arith, i_in, length-map edges (move_of letters)), get_or-map (move_of letters) edges i edge move i_in ∙ ap (move_of letters) (sym at) ∙ sym move_is)

  pub label_sized : length (letters label) ≡ length d.over
  label_sized = (All-contains (IsMove (length d.over) (states d)) (moves_of d q) move (moves_at d ok q q_in) among).sized (letters label) refl

  leads : (k : ℕ) → has (letters label) k ≡ true → next d q k ≡ edge.to
  leads k inside =
      let split : count_by (takes k) (moves_of d q) ≡ cond (has d.over k) 1 0 = split_at d ok q q_in k in
      let small = bit_small (has d.over k) in
      ap (λ o. unwrap_or o 0) (step_target (moves_of d q) k (letters label) edge.to (omega (arith, split, small)) among inside)

  -- where the edge leads by a letter of the label
  pub meets_leads : (k : ℕ) → has (letters label) k ≡ true → edge.to ≡ next d q k
  meets_leads k inside = sym (leads k inside)

  pub meets_within : edge.to < states d
  meets_within = (All-contains (IsMove (length d.over) (states d)) (moves_of d q) move (moves_at d ok q q_in) among).leads

  module _ (block narrow : List Bool) (j : ℕ) (inside : has (letters label) j ≡ true) (cut : (k : ℕ) → has narrow k ≡ (has block k && has (letters label) k)) where
    pub meets_itself : has block j ≡ true → has narrow j ≡ true
    meets_itself there = cut j ∙ both_true (has block j) (has (letters label) j) there inside

    pub meets_alike : (k : ℕ) → has narrow k ≡ true → (has block k ≡ true) × (next d q j ≡ next d q k)
    meets_alike k there =
        let both = sym (cut k) ∙ there in
        (first_true (has block k) (has (letters label) k) both, leads j inside ∙ sym (leads k (second_true (has block k) (has (letters label) k) both)))

-- a letter that is read is in some label
pub has_target : (d : Deterministic) → IsDeterministic d → (q k : ℕ) → q < states d → has d.over k ≡ true → ¬ (target (moves_of d q) k ≡ None)
has_target d ok q k q_in over none = let never : None ≡ Some (next d q k) = sym none ∙ target_at d ok q k q_in over in absurd (cc)

-- the letters of the block lead alike from one state more
pub alike_more : (d : Deterministic) (rest block narrow : List Bool) (j q : ℕ) → ((k : ℕ) → has block k ≡ true → (has rest k ≡ true) × ((p : ℕ) → p < q → next d p j ≡ next d p k))
    → ((k : ℕ) → has narrow k ≡ true → (has block k ≡ true) × (next d q j ≡ next d q k)) → (k : ℕ) → has narrow k ≡ true → (has rest k ≡ true) × ((p : ℕ) → p < q + 1 → next d p j ≡ next d p k)
alike_more d rest block narrow j q before here k there =
    let (in_block, last) = here k there in
    let (in_rest, earlier) = before k in_block in (
      in_rest,
      λ p below. elim (cases_lt p q) [
        | inl less ↦ earlier p less
        | inr not_less ↦ let same : q ≡ p = omega arith in subst (λ n. next d n j ≡ next d n k) same last
      ],
    )

-- the letters and the column of a kind, after the first q states
pub record IsKind (d : Deterministic) (rest : List Bool) (j q : ℕ) (letters : List Bool) (column : List ℕ) : Type 0 where
  pub size : length letters ≡ length d.over
  pub itself : has rest j ≡ true → has letters j ≡ true
  pub alike : (k : ℕ) → has letters k ≡ true → (has rest k ≡ true) × ((p : ℕ) → p < q → next d p j ≡ next d p k)
  pub each : length column ≡ q
  pub within : All (λ p. p < states d) column
  pub leads : (p : ℕ) → p < q → get_or column p 0 ≡ next d p j

pub kind_none : (d : Deterministic) (rest : List Bool) (j : ℕ) (letters : List Bool) (column : List ℕ) → length rest ≡ length d.over → letters ≡ rest → column ≡ [] → IsKind d rest j 0 letters column
kind_none d rest j letters column size same none = record {
  size = ap length same ∙ size;
  itself = λ there. subst (λ l. has l j ≡ true) (sym same) there;
  alike = λ k there. (subst (λ l. has l k ≡ true) same there, λ p below. absurd (omega arith));
  each = ap length none;
  within = subst (All (λ p. p < states d)) (sym none) (All-nil (λ p. p < states d));
  leads = λ p below. absurd (omega arith);
}

pub kind_more : (d : Deterministic) (rest : List Bool) (j q : ℕ) (letters letters' : List Bool) (column column' : List ℕ) (to : ℕ) → IsKind d rest j q letters column → length letters' ≡ length d.over
    → (has letters j ≡ true → has letters' j ≡ true) → ((k : ℕ) → has letters' k ≡ true → (has letters k ≡ true) × (next d q j ≡ next d q k)) → to ≡ next d q j → to < states d
    → column' ≡ column ++ to ∷ [] → IsKind d rest j (q + 1) letters' column'
kind_more d rest j q letters letters' column column' to is size itself alike leads within pushed = record {
  size = size;
  itself = λ there. itself (is.itself there);
  alike = alike_more d rest letters letters' j q is.alike alike;
  each = ap length pushed ∙ length_push column to ∙ ap (λ n. n + 1) is.each;
  within = subst (All (λ p. p < states d)) (sym pushed) (All-push (λ p. p < states d) column to is.within within);
  leads = λ p below. elim (cases_lt p q) [
    | inl less ↦ ap (λ l. get_or l p 0) pushed ∙ get_or_append_left column (to ∷ []) 0 p (let each = is.each in omega arith) ∙ is.leads p less
    | inr not_less ↦
        let same : q ≡ p = omega arith in
        let last : get_or column' q 0 ≡ next d q j = ap (λ l. get_or l q 0) pushed ∙ get_or_push column to 0 q is.each ∙ leads in
        subst (λ n. get_or column' n 0 ≡ next d n j) same last
  ];
}

pub kind_alike : (d : Deterministic) (rest : List Bool) (j n : ℕ) (letters : List Bool) (column : List ℕ) → n ≡ states d → IsKind d rest j n letters column
    → (k : ℕ) → has letters k ≡ true → (has rest k ≡ true) × LeadAlike d j k
kind_alike d rest j n letters column all is k there = let (in_rest, leads) = is.alike k there in (in_rest, λ q q_in. leads q (omega (arith, all, q_in)))

pub kind_column : (d : Deterministic) (rest : List Bool) (j n : ℕ) (letters : List Bool) (column : List ℕ) → n ≡ states d → IsKind d rest j n letters column → IsColumn d j column
kind_column d rest j n letters column all is = record {
  map_of = record { each = is.each ∙ all; within = is.within };
  leads = λ q q_in. is.leads q (omega (arith, all, q_in));
}

-- a letter that leads as another one has its column
same_column : (d : Deterministic) (j k : ℕ) (column : List ℕ) → LeadAlike d j k → IsColumn d j column → IsColumn d k column
same_column d j k column alike is = record { map_of = is.map_of; leads = λ q q_in. is.leads q q_in ∙ alike q q_in }

-- the columns are those of the letters that are not in the rest
pub record AreColumnsBut (d : Deterministic) (rest : List Bool) (columns : List (List ℕ)) : Type 0 where
  pub size : length rest ≡ length d.over
  pub within : (k : ℕ) → has rest k ≡ true → has d.over k ≡ true
  pub maps : All (IsMap (states d)) columns
  pub own : All (λ column. (k : ℕ) × (has d.over k ≡ true) × IsColumn d k column) columns
  pub each : (k : ℕ) → has d.over k ≡ true → (has rest k ≡ true) ⊎ ((column : List ℕ) × Contains columns column × IsColumn d k column)

pub columns_none : (d : Deterministic) (rest : List Bool) (columns : List (List ℕ)) → rest ≡ d.over → columns ≡ [] → AreColumnsBut d rest columns
columns_none d rest columns same none = record {
  size = ap length same;
  within = λ k there. subst (λ l. has l k ≡ true) same there;
  maps = subst (All (IsMap (states d))) (sym none) (All-nil (IsMap (states d)));
  own = subst (All (λ column. (k : ℕ) × (has d.over k ≡ true) × IsColumn d k column)) (sym none) (All-nil (λ column. (k : ℕ) × (has d.over k ≡ true) × IsColumn d k column));
  each = λ k over. inl (subst (λ l. has l k ≡ true) (sym same) over);
}

pub columns_more : (d : Deterministic) (rest block rest' : List Bool) (columns columns' : List (List ℕ)) (j : ℕ) (column : List ℕ) → AreColumnsBut d rest columns → has rest j ≡ true
    → IsColumn d j column → columns' ≡ columns ++ column ∷ [] → ((k : ℕ) → has block k ≡ true → (has rest k ≡ true) × LeadAlike d j k) → length rest' ≡ length rest
    → ((k : ℕ) → has rest' k ≡ (has rest k && not (has block k))) → AreColumnsBut d rest' columns'
columns_more d rest block rest' columns columns' j column are there is pushed alike size left = record {
  size = size ∙ are.size;
  within = λ k in_rest. are.within k (first_true (has rest k) (not (has block k)) (sym (left k) ∙ in_rest));
  maps = subst (All (IsMap (states d))) (sym pushed) (All-push (IsMap (states d)) columns column are.maps is.map_of);
  own = subst (All (λ c. (k : ℕ) × (has d.over k ≡ true) × IsColumn d k c)) (sym pushed)
      (All-push (λ c. (k : ℕ) × (has d.over k ≡ true) × IsColumn d k c) columns column are.own (j, are.within j there, is));
  each = λ k over. elim (are.each k over) [
    | inl in_rest ↦ elim (cases_Bool (has block k)) [
      | inl inside ↦ inr (column, subst (λ l. Contains l column) (sym pushed) (Contains-push columns column), same_column d j k column (alike k inside).1 is)
      | inr outside ↦ inl (left k ∙ both_true (has rest k) (not (has block k)) in_rest (ap not outside))
    ]
    | inr (earlier, among, leads) ↦ inr (earlier, subst (λ l. Contains l earlier) (sym pushed) (Contains-append_left columns (column ∷ []) earlier among), leads)
  ];
}

pub columns_all : (d : Deterministic) (rest : List Bool) (columns : List (List ℕ)) → AreColumnsBut d rest columns → ((k : ℕ) → has rest k ≡ false) → AreColumns d columns
columns_all d rest columns are none = record {
  maps = are.maps;
  own = are.own;
  each = λ k over. elim (are.each k over) [
    | inl in_rest ↦ absurd (false≢true (sym (none k) ∙ in_rest))
    | inr listed ↦ listed
  ];
}
