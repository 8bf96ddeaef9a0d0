-- The automaton of the sets that have been found, all of them left by their edges.
use Rattle.std.proofs.Common.{◌≡◌, ℕ, ◌+◌, ◌<◌, ◌≤◌, ◌⊎◌, ◌↔◌, Bool, true, false, eqb, List, [], ◌∷◌, ◌++◌, length, get_or, map, sym, ap, ◌∙◌, subst, inl, inr, arith}
use Rattle.std.specs.Bool.{IsTrue}
use Rattle.std.specs.List.{All, list_any}
use Rattle.std.specs.Option.{IsSome, unwrap_or}
use Rattle.std.proofs.lemmas.Bool.{cases_Bool, cases_lt}
use Rattle.std.proofs.lemmas.List.{append-nil, append_assoc, get_or-map, get_or_append_left, get_or_push, length-map}
use Rattle.std.proofs.lemmas.List.Elements.{All-from_get_or, All-get_or, All-head, All-tail}
use Rattle.std.proofs.lemmas.Map.Keys.{IsDistinct-from_apart}
use Rattle.std.proofs.lemmas.Map.Steps.{length-le_from_distinct_below}
use Rattle.std.proofs.lemmas.Map.Views.{Contains-from_any, exact_unsigned_eq}
use Rattle.rela_labels.specs.Letters.{has}
use Rattle.rela_nfa.specs.Automaton.{Automaton, IsMove, Move}
use Rattle.rela_nfa.specs.Runs.{Accepts}
use Rattle.rela_nfa.specs.StateSet.{Lists}
use Rattle.rela_subset.specs.Deterministic.{Deterministic, IsAccepted, IsByArrival, IsDeterministic, IsOver, IsReachable, IsSplit, LeadsTo, led_from, moves_of, next, state_after}
use Rattle.rela_subset.specs.Expansion.{IsExplored, IsOut, IsUpTo}
use Rattle.rela_subset.specs.Sets.{AreDistinct, HasFinal, NextFrom, ReachedBy}
use Rattle.rela_subset.specs.Subsets.{AreApart, KeepsApart, ReachSame, ReachSets}
use Rattle.rela_subset.proofs.Ascending.{apart_lists, same_lists}
use Rattle.rela_subset.proofs.LastLetters.{IsTransitive, before_upto, upto_push, upto_transitive}
use Rattle.rela_subset.proofs.Reached.{reached_next}

module _ (transitive : IsTransitive) (a : Automaton) (over : List Bool) (sets : List (List ℕ)) (d : Deterministic) (is : IsExplored a over sets d.edges)
    (over_is : d.over ≡ over) (start : d.start ≡ 0) (all : length d.edges ≡ length sets) (each : length d.finals ≡ length sets) (distinct : AreDistinct sets) where
  out_of : (q : ℕ) → q < length sets → IsOut a over sets is.words q (moves_of d q)
  out_of q below = is.out q (omega arith)

  each_edges : (P : List Move → Type 0) → ((q : ℕ) → q < length sets → P (moves_of d q)) → All P d.edges
  each_edges P holds = All-from_get_or P d.edges [] (λ q below. holds q (omega arith))

  pub determined : IsDeterministic d
  determined = record {
    automaton = record {
      each = all ∙ sym each;
      starts = let some = is.found.some in omega arith;
      moves = subst (λ n. All (All (IsMove (length d.over) n)) d.edges) (sym each)
          (subst (λ o. All (All (IsMove (length o) (length sets))) d.edges) (sym over_is) (each_edges (All (IsMove (length over) (length sets))) (λ q below. (out_of q below).edges.sized)));
    };
    labelled = each_edges (All (λ (move : Move). IsSome move.label)) (λ q below. (out_of q below).edges.labelled);
    split = subst (λ o. All (IsSplit o) d.edges) (sym over_is) (each_edges (IsSplit over) (λ q below. (out_of q below).split));
  }

  -- a letter leads to the set that follows
  record Steps (q k : ℕ) : Type 0 where
    within : next d q k < length sets
    follows : Lists (NextFrom a (get_or sets q []) k) (get_or sets (next d q k) [])
    early : IsUpTo (get_or is.words (next d q k) []) (get_or is.words q [] ++ k ∷ [])

  steps : (q k : ℕ) → q < length sets → has over k ≡ true → Steps q k
  steps q k below read =
      let lead = (out_of q below).leads k read in
      let at : lead.to ≡ next d q k = sym (ap (λ o. unwrap_or o 0) lead.by) in
      record {
        within = subst (λ n. n < length sets) at lead.arrives.within;
        follows = subst (λ n. Lists (NextFrom a (get_or sets q []) k) (get_or sets n [])) at lead.arrives.follows;
        early = subst (λ n. IsUpTo (get_or is.words n []) (get_or is.words q [] ++ k ∷ [])) at lead.arrives.early;
      }

  -- where a word has led
  record Stands (q : ℕ) (word : List ℕ) : Type 0 where
    within : q < length sets
    reached : Lists (ReachedBy a word) (get_or sets q [])
    early : IsUpTo (get_or is.words q []) word

  stands_on : (rest : List ℕ) (q : ℕ) (before : List ℕ) → Stands q before → IsOver over rest → Stands (led_from d q rest) (before ++ rest)
  stands_on [] q before stands read = subst (λ w. Stands q w) (sym (append-nil before)) stands
  stands_on (k ∷ rest) q before stands read =
      let step = steps q k stands.within (All-head (λ j. has over j ≡ true) k rest read) in
      subst (λ w. Stands (led_from d (next d q k) rest) w) (append_assoc before (k ∷ []) rest)
      (stands_on rest (next d q k) (before ++ k ∷ []) (record {
        within = step.within;
        reached = reached_next a (get_or sets q []) (get_or sets (next d q k) []) k before stands.reached step.follows;
        early = upto_transitive transitive (get_or is.words (next d q k) []) (get_or is.words q [] ++ k ∷ []) (before ++ k ∷ []) step.early (upto_push (get_or is.words q []) before k stands.early);
      }) (All-tail (λ j. has over j ≡ true) k rest read))

  stands : (word : List ℕ) → IsOver over word → Stands (state_after d word) word
  stands word read = stands_on word d.start [] (subst (λ q. Stands q []) (sym start) (record {
    within = is.found.some;
    reached = subst (λ w. Lists (ReachedBy a w) (get_or sets 0 [])) is.found.first (is.found.reached 0 is.found.some);
    early = inl is.found.first;
  })) read

  -- sets that are the same have the same number
  one_number : (p q : ℕ) → p < length sets → q < length sets → get_or sets p [] ≡ get_or sets q [] → p ≡ q
  one_number p q p_in q_in same = elim (cases_lt p q) [
    | inl below ↦ absurd (distinct p q below q_in same)
    | inr not_below ↦ elim (cases_lt q p) [ inl above ↦ absurd (distinct q p above p_in (sym same)) | inr not_above ↦ omega arith ]
  ]

  pub same_state : (v w : List ℕ) → IsOver over v → IsOver over w → (state_after d v ≡ state_after d w) ↔ ReachSame a v w
  same_state v w v_read w_read =
      let at_v = stands v v_read in let at_w = stands w w_read in (
        λ same q. let set_is : Lists (ReachedBy a w) (get_or sets (state_after d v) []) = subst (λ n. Lists (ReachedBy a w) (get_or sets n [])) (sym same) at_w.reached in
            (λ reach. (set_is.members q).0 ((at_v.reached.members q).1 reach), λ reach. (at_v.reached.members q).0 ((set_is.members q).1 reach)),
        λ same. one_number (state_after d v) (state_after d w) at_v.within at_w.within
            (same_lists (ReachedBy a v) (ReachedBy a w) (get_or sets (state_after d v) []) (get_or sets (state_after d w) []) at_v.reached at_w.reached same),
      )

  -- words that lead to sets of two numbers are apart
  pub apart : KeepsApart a over d
  apart v w v_read w_read differ =
      let at_v = stands v v_read in
      let at_w = stands w w_read in
      apart_lists (ReachedBy a v) (ReachedBy a w) (get_or sets (state_after d v) []) (get_or sets (state_after d w) []) at_v.reached at_w.reached
      (λ same. differ (one_number (state_after d v) (state_after d w) at_v.within at_w.within same))

  -- the word by which a set was found leads to it
  word_leads : (q : ℕ) → q < length sets → LeadsTo d q (get_or is.words q [])
  word_leads q below =
      let word = get_or is.words q [] in
      let read = is.found.read q below in
      let at = stands word read in (
        subst (λ o. IsOver o word) (sym over_is) read,
        one_number (state_after d word) q at.within below
            (same_lists (ReachedBy a word) (ReachedBy a word) (get_or sets (state_after d word) []) (get_or sets q []) at.reached (is.found.reached q below) (λ p. (λ r. r, λ r. r))),
      )

  pub reachable : IsReachable d
  reachable q below = (get_or is.words q [], word_leads q (omega arith))

  pub by_arrival : IsByArrival d
  by_arrival p q word before leads =
      let at = stands word (subst (λ o. IsOver o word) over_is leads.0) in
      let within : q < length sets = subst (λ n. n < length sets) leads.1 at.within in
      let early : IsUpTo (get_or is.words q []) word = subst (λ n. IsUpTo (get_or is.words n []) word) leads.1 at.early in (
        get_or is.words p [],
        word_leads p (omega arith),
        before_upto transitive (get_or is.words p []) (get_or is.words q []) word (is.found.ascending p q before within) early,
      )

  pub accepted : ((i : ℕ) → i < length sets → IsTrue (get_or d.finals i false) ↔ HasFinal a (get_or sets i [])) → (word : List ℕ) → IsAccepted d word ↔ (IsOver over word × Accepts a word)
  accepted finals word = (
    λ (read_d, final).
        let read = subst (λ o. IsOver o word) over_is read_d in
        let at = stands word read in
        let (q, among, q_final) = (finals (state_after d word) at.within).0 final in
        (read, (q, (at.reached.members q).0 among, q_final)),
    λ (read, (q, reach, q_final)).
        let at = stands word read in
        (subst (λ o. IsOver o word) (sym over_is) read, (finals (state_after d word) at.within).1 (q, (at.reached.members q).1 reach, q_final)),
  )

  -- no more words are apart than there are sets
  pub few_apart : (n : ℕ) → length sets ≤ n → ¬ ReachSets a over (n + 1)
  few_apart n few reach =
      let numbers : List ℕ = map (state_after d) reach.words in
      let len : length numbers ≡ length reach.words = length-map reach.words (state_after d) in
      let number = λ (i : ℕ) (e : ℕ) (below : i < length reach.words). let at : get_or numbers i e ≡ state_after d (get_or reach.words i []) = get_or-map (state_after d) reach.words i [] e below in at in
      let read = λ (i : ℕ) (below : i < length reach.words). let over_letters : IsOver over (get_or reach.words i []) = All-get_or (IsOver over) reach.words i [] below reach.letters in over_letters in
      let differ = λ (i j e : ℕ) (before : i < j) (within : j < length numbers).
      let i_in : i < length reach.words = omega arith in
      let j_in : j < length reach.words = omega arith in
      let apart : AreApart a (get_or reach.words i []) (get_or reach.words j []) = reach.apart i j [] before j_in in
      elim (cases_Bool (eqb (get_or numbers i e) (get_or numbers j e))) as (λ _. eqb (get_or numbers i e) (get_or numbers j e) ≡ false) [
        | inl same ↦
            let equal : state_after d (get_or reach.words i []) ≡ state_after d (get_or reach.words j []) =
            sym (number i e i_in) ∙ exact_unsigned_eq (get_or numbers i e) (get_or numbers j e) same ∙ number j e j_in in
            let reach_same = (same_state (get_or reach.words i []) (get_or reach.words j []) (read i i_in) (read j j_in)).0 equal in
            absurd (elim apart.1 [
              | inl one ↦ one.1 ((reach_same apart.0).0 one.0)
              | inr one ↦ one.1 ((reach_same apart.0).1 one.0)
            ])
        | inr other ↦ other
      ] in
      let below = λ (q : ℕ) (among : list_any (eqb q) numbers ≡ true).
      let c = Contains-from_any exact_unsigned_eq q numbers among in
      let in_words : c.0 < length reach.words = omega (arith, c.1) in
      let at = stands (get_or reach.words c.0 []) (read c.0 in_words) in
      let within : q < length sets = subst (λ m. m < length sets) (sym (number c.0 q in_words) ∙ c.2) at.within in within in
      let bound : length numbers ≤ length sets = length-le_from_distinct_below numbers (length sets) (IsDistinct-from_apart eqb numbers differ) below in
      let counted = reach.count in
      omega arith

-- what the automaton of the sets is
pub record IsDeterminised (a : Automaton) (over : List Bool) (n : ℕ) (d : Deterministic) : Type 0 where
  pub language : (word : List ℕ) → IsAccepted d word ↔ (IsOver over word × Accepts a word)
  pub same : (v w : List ℕ) → IsOver over v → IsOver over w → (state_after d v ≡ state_after d w) ↔ ReachSame a v w
  pub apart : KeepsApart a over d
  pub reached : IsReachable d
  pub arrival : IsByArrival d
  pub few : ¬ ReachSets a over (n + 1)

pub determinised : (transitive : IsTransitive) (a : Automaton) (over : List Bool) (sets : List (List ℕ)) (d : Deterministic) (n : ℕ) → IsExplored a over sets d.edges → d.over ≡ over → d.start ≡ 0 → length d.edges ≡ length sets
    → length d.finals ≡ length sets → AreDistinct sets → length sets ≤ n
    → ((i : ℕ) → i < length sets → IsTrue (get_or d.finals i false) ↔ HasFinal a (get_or sets i [])) → IsDeterminised a over n d
determinised transitive a over sets d n is over_is start all each distinct few finals = record {
  language = accepted transitive a over sets d is over_is start all each distinct finals;
  same = same_state transitive a over sets d is over_is start all each distinct;
  apart = apart transitive a over sets d is over_is start all each distinct;
  reached = reachable transitive a over sets d is over_is start all each distinct;
  arrival = by_arrival transitive a over sets d is over_is start all each distinct;
  few = few_apart transitive a over sets d is over_is start all each distinct n few;
}

-- one flag more
pub finals_more : (a : Automaton) (sets : List (List ℕ)) (flags flags' : List Bool) (n : ℕ) (b : Bool) → length flags ≡ n → flags' ≡ flags ++ b ∷ []
    → ((i : ℕ) → i < n → IsTrue (get_or flags i false) ↔ HasFinal a (get_or sets i [])) → IsTrue b ↔ HasFinal a (get_or sets n [])
    → (i : ℕ) → i < n + 1 → IsTrue (get_or flags' i false) ↔ HasFinal a (get_or sets i [])
finals_more a sets flags flags' n b len pushed before last i below = elim (cases_lt i n) [
  | inl earlier ↦
      subst (λ f. IsTrue f ↔ HasFinal a (get_or sets i []))
      (sym (ap (λ l. get_or l i false) pushed ∙ get_or_append_left flags (b ∷ []) false i (omega arith))) (before i earlier)
  | inr not_earlier ↦
      let here : n ≡ i = omega arith in
      subst (λ f. IsTrue f ↔ HasFinal a (get_or sets i []))
      (sym (ap (λ l. get_or l i false) pushed ∙ get_or_push flags b false i (len ∙ here))) (subst (λ m. IsTrue b ↔ HasFinal a (get_or sets m [])) here last)
]

-- the first set, numbered
pub first_alone : (old new : List (List ℕ)) (set : List ℕ) (n : ℕ) → old ≡ [] → n < length new → (new ≡ old) ⊎ ((new ≡ old ++ set ∷ []) × (n ≡ length old)) → new ≡ set ∷ []
first_alone old new set n none within grown = elim grown [
  | inl same ↦ let no_set : length new ≡ 0 = ap length (same ∙ none) in absurd (omega arith)
  | inr pushed ↦ pushed.0 ∙ ap (λ l. l ++ set ∷ []) none
]
