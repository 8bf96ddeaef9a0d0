-- What an automaton reads over a finer partition.
use Rattle.std.proofs.Common.{◌≡◌, ℕ, zero, suc, ◌+◌, ◌<◌, ◌≤◌, ◌↔◌, Bool, true, false, List, [], ◌∷◌, ◌++◌, length, get_or, map, Option, None, Some, refl, inl, inr, sym, ap, ◌∙◌, subst, arith, length-append}
use Rattle.std.specs.List.{All, Contains}
use Rattle.std.specs.Option.{option_map, option_to_list}
use Rattle.std.proofs.lemmas.Bool.{cases_lt, false≢true}
use Rattle.std.proofs.lemmas.List.{append-nil, get_or-map, get_or_append_left, get_or_past, get_or_push, length-map, map-append, ext_get_or}
use Rattle.std.proofs.lemmas.List.Elements.{All-map, All-weaker, All-contains, Contains-push, Contains-append_left, Contains-get_or}
use Rattle.rela_labels.specs.Letters.{has}
use Rattle.rela_labels.specs.Partition.{block_of, block_count, IsLeastOf}
use Rattle.rela_nfa.specs.Automaton.{Automaton, Move, IsAutomaton, IsMove, moves_of, states}
use Rattle.rela_nfa.specs.Reading.{takes}
use Rattle.rela_nfa.specs.Relabelling.{IsRelabelled, Refines, relabelled, relabelled_move, blocks_of}
use Rattle.rela_nfa.specs.Runs.{StepIn, HasStep, Reach, Accepts}
use Rattle.rela_nfa.proofs.Moves.{Contains-map, Contains-map_back}
use Rattle.rela_nfa.proofs.Joint.{step_edge, edge_step}
use Rattle.rela_nfa.proofs.Reaching.{reach_start, reach_step, reach_each}

get_or-map_nil : {X Y : Type 0} (f : X → Y) (xs : List (List X)) (k : ℕ) → get_or (map (map f) xs) k [] ≡ map f (get_or xs k [])
get_or-map_nil f [] k = refl
get_or-map_nil f (x ∷ xs) zero = refl
get_or-map_nil f (x ∷ xs) (suc k) = get_or-map_nil f xs k

-- the last of a word that was mapped
map_last : (f : ℕ → ℕ) (w v : List ℕ) (j : ℕ) → v ++ j ∷ [] ≡ map f w → (front : List ℕ) × (s : ℕ) × (w ≡ front ++ s ∷ []) × (v ≡ map f front) × (j ≡ f s)
map_last f [] v j same = absurd (omega (arith, ap length same, length-append v (j ∷ [])))
map_last f (s ∷ []) [] j same = let at : j ≡ f s = cc in ([], s, refl, refl, at)
map_last f (s ∷ t ∷ w) [] j same = absurd (omega (arith, ap length same))
map_last f (s ∷ []) (x ∷ v) j same = absurd (omega (arith, ap length same, length-append v (j ∷ [])))
map_last f (s ∷ t ∷ w) (x ∷ v) j same =
    let head : x ≡ f s = cc in
    let tail : v ++ j ∷ [] ≡ map f (t ∷ w) = cc in
    let last = map_last f (t ∷ w) v j tail in
    (s ∷ last.0, last.1, ap (λ l. s ∷ l) last.2, (λ i. head i ∷ last.3 i), last.4)

all_front : (P : ℕ → Type 0) (front : List ℕ) (s : ℕ) → All P (front ++ s ∷ []) → All P front
all_front P front s each k d below = All-contains P (front ++ s ∷ []) (get_or front k d) each (Contains-append_left front (s ∷ []) (get_or front k d) (Contains-get_or front k d below))

module _ (parents : List ℕ) (a r : Automaton) (built : IsRelabelled parents a r) where
  same_moves : (p : ℕ) → moves_of r p ≡ map (relabelled_move parents) (moves_of a p)
  same_moves p = ap (λ l. get_or l p []) built.edges ∙ get_or-map_nil (relabelled_move parents) a.edges p

  pub relabelled_states : states r ≡ states a
  relabelled_states = ap length built.finals

  pub relabelled_ok : IsAutomaton a → IsAutomaton r
  relabelled_ok ok = record {
    each = ap length built.edges ∙ length-map a.edges (map (relabelled_move parents)) ∙ ok.each ∙ sym relabelled_states;
    starts = omega (arith, ok.starts, relabelled_states, built.start);
    moves =
        subst (λ l. All (All (IsMove r.letters (states r))) l) (sym built.edges)
        (All-map (All (IsMove r.letters (states r))) (map (relabelled_move parents)) a.edges
        (All-weaker (All (IsMove a.letters (states a))) (λ l. All (IsMove r.letters (states r)) (map (relabelled_move parents) l))
        (λ l each. All-map (IsMove r.letters (states r)) (relabelled_move parents) l
        (All-weaker (IsMove a.letters (states a)) (λ m. IsMove r.letters (states r) (relabelled_move parents m)) (λ m is. record {
          sized = λ set e. new_size m.label set e ∙ sym built.letters;
          leads = omega (arith, is.leads, relabelled_states);
        }) l each)) a.edges ok.moves));
  }
    where
      new_size : (label : Option (List Bool)) (set : List Bool) → option_map (relabelled parents) label ≡ Some set → length set ≡ length parents
      new_size None set e = cc
      new_size (Some old) set e = let same : relabelled parents old ≡ set = cc in ap length (sym same) ∙ length-map parents (has old)

  takes_parent : (label : Option (List Bool)) (j : ℕ) → j < length parents → takes (option_map (relabelled parents) label) (Some j) ≡ takes label (Some (get_or parents j 0))
  takes_parent None j below = refl
  takes_parent (Some set) j below = get_or-map (has set) parents j 0 false below

  takes_below : (label : Option (List Bool)) (j : ℕ) → takes (option_map (relabelled parents) label) (Some j) ≡ true → j < length parents
  takes_below None j taken = absurd (false≢true taken)
  takes_below (Some set) j taken = elim (cases_lt j (length parents)) [
    | inl below ↦ below
    | inr past ↦ absurd (false≢true (sym (get_or_past (relabelled parents set) j false (omega (arith, past, length-map parents (has set)))) ∙ taken))
  ]

  takes_silent : (label : Option (List Bool)) → takes (option_map (relabelled parents) label) None ≡ takes label None
  takes_silent None = refl
  takes_silent (Some set) = refl

  silent_back : (p q : ℕ) → HasStep r p None q → HasStep a p None q
  silent_back p q step =
      let edge = step_edge (moves_of r p) None q step in
      let old = Contains-map_back (relabelled_move parents) (moves_of a p) edge.0 (subst (λ l. Contains l edge.0) (same_moves p) edge.1) in
      subst (λ n. HasStep a p None n) (ap (λ (m : Move). m.to) old.1 ∙ edge.2)
      (edge_step (moves_of a p) None old.0 old.2 (sym (takes_silent old.0.label) ∙ ap (λ (m : Move). takes m.label None) old.1 ∙ edge.3))

  silent_on : (p q : ℕ) → HasStep a p None q → HasStep r p None q
  silent_on p q step =
      let edge = step_edge (moves_of a p) None q step in
      subst (λ l. StepIn l None q) (sym (same_moves p))
      (subst (λ n. StepIn (map (relabelled_move parents) (moves_of a p)) None n) edge.2
      (edge_step (map (relabelled_move parents) (moves_of a p)) None (relabelled_move parents edge.0) (Contains-map (relabelled_move parents) (moves_of a p) edge.0 edge.1) (takes_silent edge.0.label ∙ edge.3)))

  letter_back : (p q j : ℕ) → HasStep r p (Some j) q → HasStep a p (Some (get_or parents j 0)) q
  letter_back p q j step =
      let edge = step_edge (moves_of r p) (Some j) q step in
      let old = Contains-map_back (relabelled_move parents) (moves_of a p) edge.0 (subst (λ l. Contains l edge.0) (same_moves p) edge.1) in
      let taken = ap (λ (m : Move). takes m.label (Some j)) old.1 ∙ edge.3 in
      subst (λ n. HasStep a p (Some (get_or parents j 0)) n) (ap (λ (m : Move). m.to) old.1 ∙ edge.2)
      (edge_step (moves_of a p) (Some (get_or parents j 0)) old.0 old.2 (sym (takes_parent old.0.label j (takes_below old.0.label j taken)) ∙ taken))

  letter_on : (p q j : ℕ) → j < length parents → HasStep a p (Some (get_or parents j 0)) q → HasStep r p (Some j) q
  letter_on p q j below step =
      let edge = step_edge (moves_of a p) (Some (get_or parents j 0)) q step in
      subst (λ l. StepIn l (Some j) q) (sym (same_moves p))
      (subst (λ n. StepIn (map (relabelled_move parents) (moves_of a p)) (Some j) n) edge.2
      (edge_step (map (relabelled_move parents) (moves_of a p)) (Some j) (relabelled_move parents edge.0) (Contains-map (relabelled_move parents) (moves_of a p) edge.0 edge.1)
      (takes_parent edge.0.label j below ∙ edge.3)))

  module _ (from to : List ℕ) (count : ℕ) (parent : (s : ℕ) → s < count → get_or parents (block_of to s) 0 ≡ block_of from s)
      (within : (s : ℕ) → s < count → block_of to s < length parents) where
    abbrev Symbols : List ℕ → Type 0
    Symbols w = All (λ s. s < count) w

    back : (q : ℕ) (v : List ℕ) → Reach r q v → (w : List ℕ) → Symbols w → v ≡ blocks_of to w → Reach a q (blocks_of from w)
    back =
        reach_each r (λ q v. (w : List ℕ) → Symbols w → v ≡ blocks_of to w → Reach a q (blocks_of from w)) (λ p q letter v reads there step. one p q letter v there step)
        (λ w each nil. subst (λ u. Reach a r.start (blocks_of from u)) (sym (no_word w (sym nil))) (subst (λ n. Reach a n []) (sym built.start) (reach_start a)))
      where
        no_word : (w : List ℕ) → blocks_of to w ≡ [] → w ≡ []
        no_word [] nil = refl
        no_word (s ∷ w) nil = absurd (omega (arith, ap length nil))

        one : (p q : ℕ) (letter : Option ℕ) (v : List ℕ) → ((w : List ℕ) → Symbols w → v ≡ blocks_of to w → Reach a p (blocks_of from w)) → HasStep r p letter q
            → (w : List ℕ) → Symbols w → v ++ option_to_list letter ≡ blocks_of to w → Reach a q (blocks_of from w)
        one p q None v there step w each same =
            subst (λ u. Reach a q u) (append-nil (blocks_of from w)) (reach_step a p q None (blocks_of from w) (there w each (sym (append-nil v) ∙ same)) (silent_back p q step))
        one p q (Some j) v there step w each same =
            let last = map_last (block_of to) w v j same in
            let s = last.1 in
            let both : Symbols (last.0 ++ s ∷ []) = subst Symbols last.2 each in
            let below : s < count = All-contains (λ t. t < count) (last.0 ++ s ∷ []) s both (Contains-push last.0 s) in
            let letter : get_or parents j 0 ≡ block_of from s = ap (λ k. get_or parents k 0) last.4 ∙ parent s below in
            subst (λ u. Reach a q (blocks_of from u)) (sym last.2)
            (subst (λ u. Reach a q u) (sym (map-append (block_of from) last.0 (s ∷ [])))
            (reach_step a p q (Some (block_of from s)) (blocks_of from last.0) (there last.0 (all_front (λ t. t < count) last.0 s both) last.3)
            (subst (λ k. HasStep a p (Some k) q) letter (letter_back p q j step))))

    on : (q : ℕ) (v : List ℕ) → Reach a q v → (w : List ℕ) → Symbols w → v ≡ blocks_of from w → Reach r q (blocks_of to w)
    on =
        reach_each a (λ q v. (w : List ℕ) → Symbols w → v ≡ blocks_of from w → Reach r q (blocks_of to w)) (λ p q letter v reads there step. one p q letter v there step)
        (λ w each nil. subst (λ u. Reach r a.start (blocks_of to u)) (sym (no_word w (sym nil))) (subst (λ n. Reach r n []) built.start (reach_start r)))
      where
        no_word : (w : List ℕ) → blocks_of from w ≡ [] → w ≡ []
        no_word [] nil = refl
        no_word (s ∷ w) nil = absurd (omega (arith, ap length nil))

        one : (p q : ℕ) (letter : Option ℕ) (v : List ℕ) → ((w : List ℕ) → Symbols w → v ≡ blocks_of from w → Reach r p (blocks_of to w)) → HasStep a p letter q
            → (w : List ℕ) → Symbols w → v ++ option_to_list letter ≡ blocks_of from w → Reach r q (blocks_of to w)
        one p q None v there step w each same =
            subst (λ u. Reach r q u) (append-nil (blocks_of to w)) (reach_step r p q None (blocks_of to w) (there w each (sym (append-nil v) ∙ same)) (silent_on p q step))
        one p q (Some j) v there step w each same =
            let last = map_last (block_of from) w v j same in
            let s = last.1 in
            let both : Symbols (last.0 ++ s ∷ []) = subst Symbols last.2 each in
            let below : s < count = All-contains (λ t. t < count) (last.0 ++ s ∷ []) s both (Contains-push last.0 s) in
            let letter : j ≡ get_or parents (block_of to s) 0 = last.4 ∙ sym (parent s below) in
            subst (λ u. Reach r q (blocks_of to u)) (sym last.2)
            (subst (λ u. Reach r q u) (sym (map-append (block_of to) last.0 (s ∷ [])))
            (reach_step r p q (Some (block_of to s)) (blocks_of to last.0) (there last.0 (all_front (λ t. t < count) last.0 s both) last.3)
            (letter_on p q (block_of to s) (within s below) (subst (λ k. HasStep a p (Some k) q) letter step))))

    pub relabelled_reach : (q : ℕ) (w : List ℕ) → All (λ s. s < count) w → Reach r q (blocks_of to w) ↔ Reach a q (blocks_of from w)
    relabelled_reach q w each = (λ reach. back q (blocks_of to w) reach w each refl, λ reach. on q (blocks_of from w) reach w each refl)

    pub relabelled_language : (w : List ℕ) → All (λ s. s < count) w → Accepts r (blocks_of to w) ↔ Accepts a (blocks_of from w)
    relabelled_language w each = (
      λ (q, reach, final). (q, (relabelled_reach q w each).0 reach, ap (λ l. get_or l q false) (sym built.finals) ∙ final),
      λ (q, reach, final). (q, (relabelled_reach q w each).1 reach, ap (λ l. get_or l q false) built.finals ∙ final),
    )

-- ---- what was built of the partitions

pub block_below : (partition : List ℕ) (s : ℕ) → s < length partition → block_of partition s < block_count partition
unfolding block_count
block_below [] s below = absurd (omega (arith, below))
block_below (b ∷ others) zero below = omega arith
block_below (b ∷ others) (suc s) below = omega (arith, block_below others s (omega (arith, below)))

-- one block more
pub parents_more : (fine coarse before new : List ℕ) (block s : ℕ) → Refines fine coarse → IsLeastOf fine block s → length before ≡ block → new ≡ before ++ block_of coarse s ∷ []
    → ((t : ℕ) → t < length fine → block_of fine t < block → get_or before (block_of fine t) 0 ≡ block_of coarse t)
    → (t : ℕ) → t < length fine → block_of fine t < block + 1 → get_or new (block_of fine t) 0 ≡ block_of coarse t
parents_more fine coarse before new block s refines least len pushed so_far t within below = elim (cases_lt (block_of fine t) block) [
  | inl less ↦
      ap (λ l. get_or l (block_of fine t) 0) pushed ∙ get_or_append_left before (block_of coarse s ∷ []) 0 (block_of fine t) (omega arith)
      ∙ so_far t within less
  | inr not_less ↦
      let here : block ≡ block_of fine t = omega arith in
      ap (λ l. get_or l (block_of fine t) 0) pushed ∙ get_or_push before (block_of coarse s) 0 (block_of fine t) (len ∙ here)
      ∙ refines.together s t least.within within (least.member ∙ here)
]

pub set_relabelled : (old new : List Bool) (parents : List ℕ) (i : ℕ) → length parents ≤ i → length new ≡ length parents
    → ((k : ℕ) → k < i → has new k ≡ has old (get_or parents k 0)) → new ≡ relabelled parents old
set_relabelled old new parents i over size done =
    ext_get_or false new (relabelled parents old) (size ∙ sym (length-map parents (has old))) (λ k below.
    done k (omega (arith, below, size, over)) ∙ sym (get_or-map (has old) parents k 0 false (omega (arith, below, size))))
