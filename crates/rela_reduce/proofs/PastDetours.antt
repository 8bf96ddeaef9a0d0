-- The words that an automaton reads whose edges lead past detours.
use Rattle.std.proofs.Common.{◌≡◌, ℕ, zero, suc, ◌+◌, ◌<◌, ◌↔◌, Bool, List, [], ◌∷◌, ◌++◌, length, get_or, map, Option, None, Some, refl, sym, ap, ◌∙◌, subst, inl, inr, arith}
use Rattle.std.specs.List.{All, Contains}
use Rattle.std.specs.Option.{option_to_list}
use Rattle.std.proofs.lemmas.Bool.{cases_lt}
use Rattle.std.proofs.lemmas.List.{get_or_append_left, get_or_push, length-map}
use Rattle.std.proofs.lemmas.List.Elements.{All-contains, All-map, All-weaker}
use Rattle.rela_nfa.specs.Automaton.{Automaton, Move, IsAutomaton, IsFinal, IsMove, moves_of, states}
use Rattle.rela_nfa.specs.Construction.{silent}
use Rattle.rela_nfa.specs.Detours.{IsDetour, redirected}
use Rattle.rela_nfa.specs.Runs.{Accepts, Follow, HasStep, Reach, Step, StepIn, spelled}
use Rattle.rela_reduce.specs.Apart.{AreApart, ReachSame}
use Rattle.rela_reduce.specs.Passing.{ArePast, LeadsPast}
use Rattle.rela_reduce.proofs.Lists.{contains_mapped, list_of_mapped, mapped_contains, none_some}
use Rattle.rela_reduce.proofs.Saturating.{follow_append, spelled_append}

-- the only edge is silent
only_edge : (x y : Move) → Contains (x ∷ []) y → x ≡ y
only_edge x y (zero, below, at) = at
only_edge x y (suc i, below, at) = absurd (omega (arith, below))

silent_step : (s : ℕ) (letter : Option ℕ) (t : ℕ) → StepIn (silent s ∷ []) letter t → (letter ≡ None) × (t ≡ s)
silent_step s None t among = (refl, ap (λ (m : Move). m.to) (sym (only_edge (silent s) (record { label = None; to = t }) among)))
silent_step s (Some k) t (set, among, in_set) =
    absurd (none_some set (ap (λ (m : Move). m.label) (only_edge (silent s) (record { label = Some set; to = t }) among)))

-- an edge of a state leads to a state
leads_in : (a : Automaton) → IsAutomaton a → (p q : ℕ) (letter : Option ℕ) → p < states a → HasStep a p letter q → q < states a
leads_in a ok p q letter below step = by letter step where
  moves : All (IsMove a.letters (states a)) (moves_of a p)
  moves = ok.moves p [] (omega (arith, below, ok.each))

  by : (letter : Option ℕ) → HasStep a p letter q → q < states a
  by None among = (All-contains (IsMove a.letters (states a)) (moves_of a p) (record { label = None; to = q }) moves among).leads
  by (Some k) (set, among, in_set) = (All-contains (IsMove a.letters (states a)) (moves_of a p) (record { label = Some set; to = q }) moves among).leads

detour_step : (a : Automaton) (q r : ℕ) → IsDetour a q r → HasStep a q None r
detour_step a q r detour = subst (λ ms. Contains ms (silent r)) (sym detour.1) (0, omega arith, refl)

-- a detour leads to a state
pub detour_in : (a : Automaton) → IsAutomaton a → (q r : ℕ) → q < states a → IsDetour a q r → r < states a
detour_in a ok q r below detour = leads_in a ok q r None below (detour_step a q r detour)

-- edges that follow one another lead from p to q and spell the word
abbrev Spells : Automaton → ℕ → List ℕ → ℕ → Type 0
Spells a p word q = (steps : List Step) × Follow a p steps q × (spelled steps ≡ word)

after_step : (a : Automaton) (p t q : ℕ) (letter : Option ℕ) (word : List ℕ) → HasStep a p letter t → Spells a t word q → Spells a p (option_to_list letter ++ word) q
after_step a p t q letter word step (run, leads, spells) =
    (record { letter = letter; to = t } ∷ run, (step, leads), ap (λ (w : List ℕ). option_to_list letter ++ w) spells)

-- what holds of each number and what stands at it holds with one more
pub each_pushed : (P : ℕ → ℕ → Type 0) (xs : List ℕ) (x n : ℕ) → length xs ≡ n → ((q : ℕ) → q < n → P q (get_or xs q 0)) → P n x → (q : ℕ) → q < n + 1 → P q (get_or (xs ++ x ∷ []) q 0)
each_pushed P xs x n len before last q below = elim (cases_lt q n) [
  | inl less ↦ subst (P q) (sym (get_or_append_left xs (x ∷ []) 0 q (omega (arith, less, len)))) (before q less)
  | inr more ↦
      let same : n ≡ q = omega (arith, below, more) in
      subst (P q) (sym (get_or_push xs x 0 q (len ∙ same))) (subst (λ k. P k x) same last)
]

module _ (a r : Automaton) (ok : IsAutomaton a) (ends : List ℕ) (past : ArePast a ends) (built : LeadsPast a ends r) where
  abbrev end : ℕ → ℕ
  end q = get_or ends q 0

  -- no end is passed
  stays : (q : ℕ) → q < states a → end (end q) ≡ end q
  stays q below = elim (past.past q below) [
    | inl same ↦ ap end same
    | inr (detour, none) ↦ elim (past.past (end q) (past.within q below)) [ inl same ↦ same | inr (other, last) ↦ absurd (none (end (end q)) other) ]
  ]

  -- silent edges lead from a state to its end
  to_end : (q : ℕ) → q < states a → Spells a q [] (end q)
  to_end q below = elim (past.past q below) [
    | inl same ↦ ([], sym same, refl)
    | inr (detour, none) ↦ (record { letter = None; to = end q } ∷ [], (detour_step a q (end q) detour, refl), refl)
  ]

  moves_are : (p : ℕ) → moves_of r p ≡ map (redirected ends) (moves_of a p)
  moves_are p = ap (λ l. get_or l p []) built.edges ∙ list_of_mapped (redirected ends) a.edges p

  edge_back : (p : ℕ) (label : Option (List Bool)) (q : ℕ) → Contains (moves_of r p) (record { label = label; to = q }) → (t : ℕ) × Contains (moves_of a p) (record { label = label; to = t }) × (end t ≡ q)
  edge_back p label q among =
      let moved : Move = record { label = label; to = q } in
      let (move, is, there) = mapped_contains (redirected ends) (moves_of a p) moved (subst (λ ms. Contains ms moved) (moves_are p) among) in
      (move.to, subst (λ (l : Option (List Bool)). Contains (moves_of a p) (record { label = l; to = move.to })) (ap (λ (m : Move). m.label) is) there, ap (λ (m : Move). m.to) is)

  edge_forth : (p : ℕ) (label : Option (List Bool)) (t : ℕ) → Contains (moves_of a p) (record { label = label; to = t }) → Contains (moves_of r p) (record { label = label; to = end t })
  edge_forth p label t among =
      let move : Move = record { label = label; to = t } in
      subst (λ ms. Contains ms (redirected ends move)) (sym (moves_are p)) (contains_mapped (redirected ends) (moves_of a p) move among)

  step_back : (p q : ℕ) (letter : Option ℕ) → HasStep r p letter q → (t : ℕ) × HasStep a p letter t × (end t ≡ q)
  step_back p q None among = edge_back p None q among
  step_back p q (Some k) (set, among, in_set) = let (t, there, to) = edge_back p (Some set) q among in (t, (set, there, in_set), to)

  step_forth : (p t : ℕ) (letter : Option ℕ) → HasStep a p letter t → HasStep r p letter (end t)
  step_forth p t None among = edge_forth p None t among
  step_forth p t (Some k) (set, among, in_set) = (set, edge_forth p (Some set) t among, in_set)

  -- a state that is not passed
  abbrev IsKept : ℕ → Type 0
  IsKept q = (end q ≡ q) × (q < states a)

  kept_end : (q : ℕ) → q < states a → IsKept (end q)
  kept_end q below = (stays q below, past.within q below)

  past_end : (p q : ℕ) (word : List ℕ) → p < states a → Spells a (end p) word q → Spells a p word q
  past_end p q word below (run, leads, spells) =
      let (silents, first, none) = to_end p below in
      (silents ++ run, follow_append a silents run p (end p) q first leads, spelled_append silents run ∙ ap (λ (w : List ℕ). w ++ spelled run) none ∙ spells)

  -- from a state that is not passed the new one leads to such states, by words that lead there
  back_along : (steps : List Step) (p q : ℕ) → IsKept p → Follow r p steps q → Spells a p (spelled steps) q × IsKept q
  back_along [] p q kept here = (([], here, refl), subst IsKept here kept)
  back_along (step ∷ rest) p q kept (has, follows) =
      let (t, own, to) = step_back p step.to step.letter has in
      let below : t < states a = leads_in a ok p t step.letter kept.1 own in
      let (run, last) = back_along rest (end t) q (kept_end t below) (subst (λ n. Follow r n rest q) (sym to) follows) in
      (after_step a p t q step.letter (spelled rest) own (past_end t q (spelled rest) below run), last)

  -- a state that the new one reaches is reached by the same word, and is not passed
  back : (q : ℕ) (word : List ℕ) → Reach r q word → Reach a q word × IsKept q
  back q word (steps, follows, spells) =
      let (run, kept) = back_along steps (end a.start) q (kept_end a.start ok.starts) (subst (λ n. Follow r n steps q) built.start follows) in
      (subst (λ w. Spells a a.start w q) spells (past_end a.start q (spelled steps) ok.starts run), kept)

  -- a word that leads to a state leads from the end to its end in the new one
  forth_along : (steps : List Step) (p q : ℕ) → p < states a → Follow a p steps q → Spells r (end p) (spelled steps) (end q) × (q < states a)
  forth_along [] p q below here = (([], ap end here, refl), subst (λ n. n < states a) here below)
  forth_along (step ∷ rest) p q below (has, follows) =
      let (run, last) = forth_along rest step.to q (leads_in a ok p step.to step.letter below has) follows in
      elim (past.past p below) [
        | inl same ↦ (after_step r (end p) (end step.to) (end q) step.letter (spelled rest) (subst (λ n. HasStep r n step.letter (end step.to)) (sym same) (step_forth p step.to step.letter has)) run, last)
        | inr (detour, none) ↦
            let (silently, to) = silent_step (end p) step.letter step.to (subst (λ ms. StepIn ms step.letter step.to) detour.1 has) in
            let onward : Spells r (end p) (spelled rest) (end q) = subst (λ n. Spells r n (spelled rest) (end q)) (ap end to ∙ stays p below) run in
            (subst (λ l. Spells r (end p) (option_to_list l ++ spelled rest) (end q)) (sym silently) onward, last)
      ]

  forth : (q : ℕ) (word : List ℕ) → Reach a q word → Reach r (end q) word × (q < states a)
  forth q word (steps, follows, spells) =
      let (run, below) = forth_along steps a.start q ok.starts follows in
      (subst (λ w. Spells r r.start w (end q)) spells (subst (λ n. Spells r n (spelled steps) (end q)) (sym built.start) run), below)

  again : (q : ℕ) (word : List ℕ) → end q ≡ q → Reach a q word → Reach r q word
  again q word same reach = subst (λ n. Reach r n word) same (forth q word reach).0

  final_stays : (q : ℕ) → q < states a → IsFinal a q → end q ≡ q
  final_stays q below final = elim (past.past q below) [ inl same ↦ same | inr (detour, none) ↦ absurd (detour.0 final) ]

  pub past_language : (w : List ℕ) → Accepts r w ↔ Accepts a w
  past_language w = (
    λ (q, reach, final). let (own, kept) = back q w reach in (q, own, (built.finals q kept.1 kept.0).0 final),
    λ (q, reach, final).
        let below : q < states a = (forth q w reach).1 in
        let same = final_stays q below final in
        (q, again q w same reach, (built.finals q below same).1 final),
  )

  pub past_same : (v w : List ℕ) → ReachSame a v w → ReachSame r v w
  past_same v w same q = (
    λ reach. let (own, kept) = back q v reach in again q w kept.0 ((same q).0 own),
    λ reach. let (own, kept) = back q w reach in again q v kept.0 ((same q).1 own),
  )

  pub past_apart : (v w : List ℕ) → AreApart r v w → AreApart a v w
  past_apart v w (q, inl (reach, other)) = let (own, kept) = back q v reach in (q, inl (own, λ reaches. other (again q w kept.0 reaches)))
  past_apart v w (q, inr (reach, other)) = let (own, kept) = back q w reach in (q, inr (own, λ reaches. other (again q v kept.0 reaches)))

  pub past_ok : IsAutomaton r
  past_ok = record {
    each = ap length built.edges ∙ length-map a.edges (map (redirected ends)) ∙ ok.each ∙ sym built.count;
    starts = omega (arith, past.within a.start ok.starts, built.start, built.count);
    moves =
        subst (λ n. All (All (IsMove n (states r))) r.edges) (sym built.letters)
        (subst (λ n. All (All (IsMove a.letters n)) r.edges) (sym built.count)
        (subst (λ (l : List (List Move)). All (All (IsMove a.letters (states a))) l) (sym built.edges)
        (All-map (All (IsMove a.letters (states a))) (map (redirected ends)) a.edges
        (All-weaker (All (IsMove a.letters (states a))) (λ moves. All (IsMove a.letters (states a)) (map (redirected ends) moves))
        (λ moves all.
        All-map (IsMove a.letters (states a)) (redirected ends) moves
        (All-weaker (IsMove a.letters (states a)) (λ m. IsMove a.letters (states a) (redirected ends m))
        (λ m one. record { sized = one.sized; leads = past.within m.to one.leads }) moves all)) a.edges ok.moves))));
  }
