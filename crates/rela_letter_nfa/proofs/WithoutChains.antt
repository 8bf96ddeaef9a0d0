-- The language of an automaton whose steps lead on at once.
use Rattle.std.proofs.Common.{◌≡◌, ℕ, ◌<◌, ◌↔◌, ◌&&◌, true, false, not, eqb, if◌then◌else◌, List, [], ◌∷◌, ◌++◌, length, get_or, map, Option, None, Some, refl, sym, ap, ◌∙◌, subst, inl, inr, arith}
use Rattle.std.specs.List.{All, Contains, flat_map, range_with_len}
use Rattle.std.specs.Option.{option_to_list}
use Rattle.std.proofs.lemmas.Bool.{and_parts, cases_Bool, cases_lt, eqb-true, false≢true}
use Rattle.std.proofs.lemmas.List.{get_or_past, get_or-map, length-map}
use Rattle.std.proofs.lemmas.List.Elements.{All-map, Contains-append_cases, Contains-append_left, Contains-append_right, Contains-get_or}
use Rattle.std.proofs.lemmas.List.FromFn.{get_or-map-range_with_len, length-map-range_with_len}
use Rattle.rela_letter_nfa.specs.Chains.{AreEnds, ByLinks, HasChain, IsDirect, IsEnd, IsLink, direct_edges, direct_silents, is_single, kept_silent, moved, pulled_edges}
use Rattle.rela_letter_nfa.specs.LetterAutomaton.{LetterAutomaton, IsFinal, IsLetterAutomaton, edges_of, silents_of, states}
use Rattle.rela_letter_nfa.specs.Runs.{Accepts, Follow, HasStep, Step, spelled}
use Rattle.rela_letter_nfa.specs.Sets.{Leads}
use Rattle.rela_letter_nfa.specs.declared.edge.LetterEdge.{LetterEdge}
use Rattle.rela_letter_nfa.proofs.ChainEnds.{link_below, silents_below}
use Rattle.rela_letter_nfa.proofs.EdgesOut.{step_within}
use Rattle.rela_letter_nfa.proofs.Members.{Contains-cons_cases, Contains-head, Contains-nil, Contains-tail}
use Rattle.rela_letter_nfa.proofs.Reached.{follow_join, spelled_join}

-- ---- lists

from_each : {X Y : Type 0} (f : X → List Y) (xs : List X) (y : Y) → Contains (flat_map f xs) y → (x : X) × Contains xs x × Contains (f x) y
from_each f [] y c = absurd (Contains-nil y c)
from_each f (x ∷ xs) y c = elim (Contains-append_cases (f x) (flat_map f xs) y c) [
  | inl here ↦ (x, Contains-head x xs, here)
  | inr later ↦ let found = from_each f xs y later in (found.0, Contains-tail x xs found.0 found.1, found.2)
]

to_each : {X Y : Type 0} (f : X → List Y) (xs : List X) (x : X) (y : Y) → Contains xs x → Contains (f x) y → Contains (flat_map f xs) y
to_each f [] x y among c = absurd (Contains-nil x among)
to_each f (first ∷ xs) x y among c = elim (Contains-cons_cases first xs x among) [
  | inl here ↦ Contains-append_left (f first) (flat_map f xs) y (subst (λ z. Contains (f z) y) (sym here) c)
  | inr later ↦ Contains-append_right (f first) (flat_map f xs) y (to_each f xs x y later c)
]

to_map : {X Y : Type 0} (f : X → Y) (xs : List X) (x : X) → Contains xs x → Contains (map f xs) (f x)
to_map f xs x c = (c.0, omega (arith, c.1, length-map xs f), get_or-map f xs c.0 x (f x) c.1 ∙ ap f c.2)

from_map : {X Y : Type 0} (f : X → Y) (xs : List X) (y : Y) → Contains (map f xs) y → (x : X) × (f x ≡ y) × Contains xs x
from_map f [] y c = absurd (Contains-nil y c)
from_map f (x ∷ xs) y c = elim (Contains-cons_cases (f x) (map f xs) y c) [
  | inl here ↦ (x, here, Contains-head x xs)
  | inr later ↦ let found = from_map f xs y later in (found.0, found.1, Contains-tail x xs found.0 found.2)
]

empty_list : {X : Type 0} (xs : List X) → eqb (length xs) 0 ≡ true → xs ≡ []
empty_list [] none = refl
empty_list (x ∷ xs) none = absurd (let z = eqb-true (length (x ∷ xs)) 0 none in omega arith)

nothing_more : (l : List ℕ) → l ++ [] ≡ l
nothing_more [] = refl
nothing_more (k ∷ l) = ap (λ m. k ∷ m) (nothing_more l)

append_nothing : (whole v x y : List ℕ) → whole ≡ x ++ y → x ≡ v → y ≡ [] → whole ≡ v
append_nothing whole v x y is first second = is ∙ ap (λ l. l ++ y) first ∙ ap (λ l. v ++ l) second ∙ nothing_more v

-- ---- runs

module _ (a : LetterAutomaton) where
  leads_join : (v w : List ℕ) (p q s : ℕ) → Leads a p v q → Leads a q w s → Leads a p (v ++ w) s
  leads_join v w p q s first second = (
    first.0 ++ second.0,
    follow_join a first.0 second.0 p q s first.1 second.1,
    spelled_join first.0 second.0 ∙ ap (λ l. l ++ spelled second.0) first.2 ∙ ap (λ l. v ++ l) second.2,
  )

  one_step : (p q : ℕ) (letter : Option ℕ) → HasStep a p letter q → Leads a p (option_to_list letter) q
  one_step p q None step = (record { letter = None; to = q } ∷ [], (step, refl), refl)
  one_step p q (Some k) step = (record { letter = Some k; to = q } ∷ [], (step, refl), refl)

  chain_leads : (path : List ℕ) (p q : ℕ) → ByLinks a p path q → Leads a p [] q
  chain_leads [] p q here = ([], here, refl)
  chain_leads (s ∷ rest) p q leads =
      leads_join [] [] p s q (one_step p s None (subst (λ (l : List ℕ). Contains l s) (sym leads.0.silent) (Contains-head s []))) (chain_leads rest s q leads.1)

  -- a run that begins with a chain
  leads_past : (v : List ℕ) (p q s : ℕ) → Leads a p v q → HasChain a q s → Leads a p v s
  leads_past v p q s first (path, links) = let on = chain_leads path q s links in (
    first.0 ++ on.0,
    follow_join a first.0 on.0 p q s first.1 on.1,
    append_nothing (spelled (first.0 ++ on.0)) v (spelled first.0) (spelled on.0) (spelled_join first.0 on.0) first.2 on.2,
  )

  single_other : (q : ℕ) → is_single a q ≡ true → ¬ IsFinal a q
  single_other q single final =
      let parts = and_parts (not (get_or a.finals q false) && eqb (length (silents_of a q)) 0) (eqb (length (edges_of a q)) 1) single in
      let more = and_parts (not (get_or a.finals q false)) (eqb (length (silents_of a q)) 0) parts.0 in
      false≢true (ap not (sym final) ∙ more.0)

  single_silent : (q : ℕ) → is_single a q ≡ true → silents_of a q ≡ []
  single_silent q single =
      let parts = and_parts (not (get_or a.finals q false) && eqb (length (silents_of a q)) 0) (eqb (length (edges_of a q)) 1) single in
      let more = and_parts (not (get_or a.finals q false)) (eqb (length (silents_of a q)) 0) parts.0 in
      empty_list (silents_of a q) more.1

-- ---- the direct automaton

module _ (ends : List ℕ) (a r : LetterAutomaton) (ok : IsLetterAutomaton a) (built : IsDirect a ends r) where
  abbrev end : ℕ → ℕ
  end q = get_or ends q 0

  same_silents : (p : ℕ) → silents_of r p ≡ direct_silents a ends p
  same_silents p = elim (cases_lt p (states a)) [
    | inl below ↦ ap (λ l. get_or l p []) built.silents ∙ get_or-map-range_with_len (direct_silents a ends) 0 (states a) p p [] below (omega arith)
    | inr past ↦
        get_or_past r.silents p [] (omega (arith, past, ap length built.silents, length-map-range_with_len (direct_silents a ends) 0 (states a)))
        ∙ ap (flat_map (kept_silent a ends)) (sym (get_or_past a.silents p [] (omega (arith, past, ok.each_silents))))
  ]

  same_edges : (p : ℕ) → edges_of r p ≡ direct_edges a ends p
  same_edges p = elim (cases_lt p (states a)) [
    | inl below ↦ ap (λ l. get_or l p []) built.edges ∙ get_or-map-range_with_len (direct_edges a ends) 0 (states a) p p [] below (omega arith)
    | inr past ↦
        get_or_past r.edges p [] (omega (arith, past, ap length built.edges, length-map-range_with_len (direct_edges a ends) 0 (states a)))
        ∙ ap (flat_map (pulled_edges a ends)) (sym (get_or_past a.silents p [] (omega (arith, past, ok.each_silents))))
        ∙ ap (λ l. map (moved ends) l ++ flat_map (pulled_edges a ends) (silents_of a p)) (sym (get_or_past a.edges p [] (omega (arith, past, ok.each_edges))))
  ]

  direct_states : states r ≡ states a
  direct_states = ap length built.finals

  -- what is pulled past a state with a single edge
  pulled_single : (s : ℕ) → is_single a (end s) ≡ true → pulled_edges a ends s ≡ map (moved ends) (edges_of a (end s))
  pulled_single s single = ap (λ b. if b then map (moved ends) (edges_of a (end s)) else []) single

  pulled_other : (s : ℕ) → is_single a (end s) ≡ false → pulled_edges a ends s ≡ []
  pulled_other s other = ap (λ b. if b then map (moved ends) (edges_of a (end s)) else []) other

  kept_single : (s : ℕ) → is_single a (end s) ≡ true → kept_silent a ends s ≡ []
  kept_single s single = ap (λ b. if b then [] else end s ∷ []) single

  kept_other : (s : ℕ) → is_single a (end s) ≡ false → kept_silent a ends s ≡ end s ∷ []
  kept_other s other = ap (λ b. if b then [] else end s ∷ []) other

  -- a silent step there is one here, from which a chain leads on to no state with a single edge
  silent_from : (p q : ℕ) → HasStep r p None q → (s : ℕ) × HasStep a p None s × (end s ≡ q) × (is_single a q ≡ false)
  silent_from p q step =
      let found = from_each (kept_silent a ends) (silents_of a p) q (subst (λ (l : List ℕ). Contains l q) (same_silents p) step) in
      let s = found.0 in
      elim (cases_Bool (is_single a (end s))) [
        | inl single ↦ absurd (Contains-nil q (subst (λ (l : List ℕ). Contains l q) (kept_single s single) found.2))
        | inr other ↦ elim (Contains-cons_cases (end s) [] q (subst (λ (l : List ℕ). Contains l q) (kept_other s other) found.2)) [
          | inl here ↦ (s, found.1, here, subst (λ n. is_single a n ≡ false) here other)
          | inr none ↦ absurd (Contains-nil q none)
        ]
      ]

  moved_from : (p k q : ℕ) → Contains (map (moved ends) (edges_of a p)) (record { letter = k; to = q }) → (s : ℕ) × HasStep a p (Some k) s × (end s ≡ q)
  moved_from p k q c =
      let found = from_map (moved ends) (edges_of a p) (record { letter = k; to = q }) c in
      let edge : LetterEdge = found.0 in (
        edge.to,
        subst (λ n. HasStep a p (Some n) edge.to) (ap (λ (e : LetterEdge). e.letter) found.1) found.2,
        ap (λ (e : LetterEdge). e.to) found.1,
      )

  module _ (are : AreEnds a ends) where
    step_below : (p q : ℕ) (letter : Option ℕ) → HasStep a p letter q → q < states a
    step_below p q None step = silents_below a ok p q step
    step_below p q (Some k) step = step_within a ok p k q step

    -- a step there is a run here, from which a chain leads on
    step_from : (p q : ℕ) (letter : Option ℕ) → HasStep r p letter q → (s : ℕ) × (s < states a) × (end s ≡ q) × Leads a p (option_to_list letter) s
    step_from p q None step = let found = silent_from p q step in (found.0, step_below p found.0 None found.1, found.2, one_step a p found.0 None found.1)
    step_from p q (Some k) step =
        elim (Contains-append_cases (map (moved ends) (edges_of a p)) (flat_map (pulled_edges a ends) (silents_of a p)) _ (subst (λ (l : List LetterEdge). Contains l (record { letter = k; to = q })) (same_edges p) step)) [
          | inl own ↦ let found = moved_from p k q own in (found.0, step_below p found.0 (Some k) found.1, found.2, one_step a p found.0 (Some k) found.1)
          | inr pulled ↦
              let found = from_each (pulled_edges a ends) (silents_of a p) _ pulled in
              let s = found.0 in
              elim (cases_Bool (is_single a (end s))) [
                | inl single ↦
                    let last = moved_from (end s) k q (subst (λ (l : List LetterEdge). Contains l (record { letter = k; to = q })) (pulled_single s single) found.2) in
                    let first = leads_past a [] p s (end s) (one_step a p s None found.1) (are.led s (step_below p s None found.1)) in
                    (last.0, step_below (end s) last.0 (Some k) last.1, last.2, leads_join a [] (k ∷ []) p (end s) last.0 first (one_step a (end s) last.0 (Some k) last.1))
                | inr other ↦ absurd (Contains-nil _ (subst (λ (l : List LetterEdge). Contains l (record { letter = k; to = q })) (pulled_other s other) found.2))
              ]
        ]

    back : (steps : List Step) (p q : ℕ) → Follow r p steps q → Leads a p (spelled steps) q
    back [] p q here = ([], here, refl)
    back (step ∷ rest) p q follows =
        let found = step_from p step.to step.letter follows.0 in
        let first = leads_past a (option_to_list step.letter) p found.0 step.to found.3 (subst (HasChain a found.0) found.2 (are.led found.0 found.1)) in
        leads_join a (option_to_list step.letter) (spelled rest) p step.to q first (back rest step.to q follows.1)

    -- what leads on from the end of a chain leads on from the state before it
    silent_on : (p s q : ℕ) → HasStep a p None s → (steps : List Step) → Follow r (end s) steps q → IsFinal a q → is_single a (end s) ≡ true → Leads r p (spelled steps) q
    silent_on p s q step [] here final single = absurd (single_other a (end s) single (subst (IsFinal a) (sym here) final))
    silent_on p s q step (first ∷ rest) follows final single = read first.letter refl follows.0
      where
        read : (letter : Option ℕ) → first.letter ≡ letter → HasStep r (end s) letter first.to → Leads r p (option_to_list first.letter ++ spelled rest) q
        read None is there =
            let none : silents_of r (end s) ≡ [] = same_silents (end s) ∙ ap (flat_map (kept_silent a ends)) (single_silent a (end s) single) in
            absurd (Contains-nil first.to (subst (λ (l : List ℕ). Contains l first.to) none there))
        read (Some k) is there =
            let edge : LetterEdge = record { letter = k; to = first.to } in
            let among = subst (λ (l : List LetterEdge). Contains l edge)
            (same_edges (end s) ∙ ap (λ l. map (moved ends) (edges_of a (end s)) ++ flat_map (pulled_edges a ends) l) (single_silent a (end s) single)) there in
            let own : Contains (map (moved ends) (edges_of a (end s))) edge = elim (Contains-append_cases (map (moved ends) (edges_of a (end s))) [] edge among) [ inl here ↦ here | inr none ↦ absurd (Contains-nil edge none) ] in
            let pulled = to_each (pulled_edges a ends) (silents_of a p) s edge step (subst (λ (l : List LetterEdge). Contains l edge) (sym (pulled_single s single)) own) in
            let here : HasStep r p (Some k) first.to =
            subst (λ (l : List LetterEdge). Contains l edge) (sym (same_edges p)) (Contains-append_right (map (moved ends) (edges_of a p)) (flat_map (pulled_edges a ends) (silents_of a p)) edge pulled) in
            (record { letter = Some k; to = first.to } ∷ rest, (here, follows.1), ap (λ l. option_to_list l ++ spelled rest) (sym is))

    step_on : (p s q : ℕ) (letter : Option ℕ) (word : List ℕ) → HasStep a p letter s → Leads r (end s) word q → IsFinal a q → Leads r p (option_to_list letter ++ word) q
    step_on p s q None word step on final = elim (cases_Bool (is_single a (end s))) [
      | inl single ↦ let more = silent_on p s q step on.0 on.1 final single in (more.0, more.1, more.2 ∙ on.2)
      | inr other ↦
          let kept = to_each (kept_silent a ends) (silents_of a p) s (end s) step (subst (λ (l : List ℕ). Contains l (end s)) (sym (kept_other s other)) (Contains-head (end s) [])) in
          (record { letter = None; to = end s } ∷ on.0, (subst (λ (l : List ℕ). Contains l (end s)) (sym (same_silents p)) kept, on.1), on.2)
    ]
    step_on p s q (Some k) word step on final =
        let edge : LetterEdge = record { letter = k; to = end s } in
        let own : Contains (map (moved ends) (edges_of a p)) edge = to_map (moved ends) (edges_of a p) (record { letter = k; to = s }) step in
        let here : HasStep r p (Some k) (end s) =
        subst (λ (l : List LetterEdge). Contains l edge) (sym (same_edges p)) (Contains-append_left (map (moved ends) (edges_of a p)) (flat_map (pulled_edges a ends) (silents_of a p)) edge own) in
        (record { letter = Some k; to = end s } ∷ on.0, (here, on.1), ap (λ l. k ∷ l) on.2)

    only_link : (p s t : ℕ) (letter : Option ℕ) → IsLink a p s → HasStep a p letter t → (letter ≡ None) × (s ≡ t)
    only_link p s t None link there = elim (Contains-cons_cases s [] t (subst (λ (l : List ℕ). Contains l t) link.silent there)) [
      | inl same ↦ (refl, same)
      | inr none ↦ absurd (Contains-nil t none)
    ]
    only_link p s t (Some k) link there = absurd (Contains-nil _ (subst (λ (l : List LetterEdge). Contains l (record { letter = k; to = t })) link.edgeless there))

    final_end : (p q : ℕ) → p ≡ q → IsFinal a q → HasChain a p (end p) → Leads r (end p) [] q
    final_end p q here final ([], same) = ([], sym same ∙ here, refl)
    final_end p q here final (s ∷ path, links) = absurd (links.0.other (subst (IsFinal a) (sym here) final))

    -- what a step and a run do from a state, they do from the end of its chain
    end_on : (p t q : ℕ) (letter : Option ℕ) (word : List ℕ) → p < states a → HasStep a p letter t → Leads r p (option_to_list letter ++ word) q → Leads r (end t) word q → HasChain a p (end p)
        → Leads r (end p) (option_to_list letter ++ word) q
    end_on p t q letter word below there here later ([], same) = subst (λ n. Leads r n (option_to_list letter ++ word) q) same here
    end_on p t q letter word below there here later (s ∷ path, links) =
        let only = only_link p s t letter links.0 there in
        let same : end p ≡ end t = are.same p s below links.0 ∙ ap (λ n. get_or ends n 0) only.1 in
        subst (λ n. Leads r n (option_to_list letter ++ word) q) (sym same) (subst (λ l. Leads r (end t) (option_to_list l ++ word) q) (sym only.0) later)

    -- what a run here does to a final state, one there does, and one there from the end of the chain
    on : (steps : List Step) (p q : ℕ) → p < states a → Follow a p steps q → IsFinal a q → Leads r p (spelled steps) q × Leads r (end p) (spelled steps) q
    on [] p q below here final = (([], here, refl), final_end p q here final (are.led p below))
    on (step ∷ rest) p q below follows final =
        let later = on rest step.to q (step_below p step.to step.letter follows.0) follows.1 final in
        let here = step_on p step.to q step.letter (spelled rest) follows.0 later.1 final in
        (here, end_on p step.to q step.letter (spelled rest) below follows.0 here later.1 (are.led p below))

    pub direct_language : (word : List ℕ) → Accepts r word ↔ Accepts a word
    direct_language word = (
      λ (q, (steps, follows, is), final).
          let there = back steps r.start q follows in
          let first = leads_past a [] a.start a.start r.start ([], refl, refl) (subst (HasChain a a.start) (sym built.start) (are.led a.start ok.starts)) in
          let whole = leads_join a [] (spelled steps) a.start r.start q first there in
          (q, (whole.0, whole.1, whole.2 ∙ is), ap (λ l. get_or l q false) (sym built.finals) ∙ final),
      λ (q, (steps, follows, is), final).
          let run = (on steps a.start q ok.starts follows final).1 in
          (q, (run.0, subst (λ n. Follow r n run.0 q) (sym built.start) run.1, run.2 ∙ is), ap (λ l. get_or l q false) built.finals ∙ final),
    )

    -- ---- where steps lead

    chain_same : (path : List ℕ) (p q : ℕ) → p < states a → ByLinks a p path q → end p ≡ end q
    chain_same [] p q below here = ap (λ n. get_or ends n 0) here
    chain_same (s ∷ path) p q below links = are.same p s below links.0 ∙ chain_same path s q (link_below a ok p s links.0) links.1

    chain_within : (path : List ℕ) (p q : ℕ) → p < states a → ByLinks a p path q → q < states a
    chain_within [] p q below here = subst (λ n. n < states a) here below
    chain_within (s ∷ path) p q below links = chain_within path s q (link_below a ok p s links.0) links.1

    is_end : (q : ℕ) → q < states a → IsEnd a (end q)
    is_end q below s link =
        let path = are.led q below in
        let same : end q ≡ end (end q) = chain_same path.0 q (end q) below path.1 in
        let within : end q < states a = chain_within path.0 q (end q) below path.1 in
        subst (HasChain a s) (sym (same ∙ are.same (end q) s within link)) (are.led s (link_below a ok (end q) s link))

    pub direct_begins : IsEnd a r.start
    direct_begins = subst (IsEnd a) (sym built.start) (is_end a.start ok.starts)

    pub direct_leads : (p q : ℕ) (letter : Option ℕ) → HasStep r p letter q → IsEnd a q
    direct_leads p q letter step = let found = step_from p q letter step in subst (IsEnd a) found.2 (is_end found.0 found.1)

    pub direct_pulled : (p q : ℕ) → HasStep r p None q → is_single a q ≡ false
    direct_pulled p q step = (silent_from p q step).3

  -- ---- the steps lead to states

  module _ (below : All (λ e. e < states a) ends) (count : length ends ≡ states a) where
    end_below : (q : ℕ) → q < states a → end q < states r
    end_below q within = let e : end q < states a = below q 0 (omega (arith, within, count)) in omega (arith, e, direct_states)

    silent_ok : (p : ℕ) → All (λ q. q < states r) (direct_silents a ends p)
    silent_ok p k d within =
        let q = get_or (direct_silents a ends p) k d in
        let found = silent_from p q (subst (λ (l : List ℕ). Contains l q) (sym (same_silents p)) (Contains-get_or (direct_silents a ends p) k d within)) in
        subst (λ n. n < states r) found.2 (end_below found.0 (silents_below a ok p found.0 found.1))

    moved_ok : (p : ℕ) (edge : LetterEdge) → Contains (map (moved ends) (edges_of a p)) edge → edge.to < states r
    moved_ok p edge c = let found = moved_from p edge.letter edge.to c in subst (λ n. n < states r) found.2 (end_below found.0 (step_within a ok p edge.letter found.0 found.1))

    edge_ok : (p : ℕ) (edge : LetterEdge) → Contains (direct_edges a ends p) edge → edge.to < states r
    edge_ok p edge c = elim (Contains-append_cases (map (moved ends) (edges_of a p)) (flat_map (pulled_edges a ends) (silents_of a p)) edge c) [
      | inl own ↦ moved_ok p edge own
      | inr pulled ↦
          let found = from_each (pulled_edges a ends) (silents_of a p) edge pulled in
          let s = found.0 in
          elim (cases_Bool (is_single a (end s))) [
            | inl single ↦ moved_ok (end s) edge (subst (λ (l : List LetterEdge). Contains l edge) (pulled_single s single) found.2)
            | inr other ↦ absurd (Contains-nil edge (subst (λ (l : List LetterEdge). Contains l edge) (pulled_other s other) found.2))
          ]
    ]

    edges_ok : (p : ℕ) → All (λ (edge : LetterEdge). edge.to < states r) (direct_edges a ends p)
    edges_ok p k d within = edge_ok p (get_or (direct_edges a ends p) k d) (Contains-get_or (direct_edges a ends p) k d within)

    pub direct_ok : IsLetterAutomaton r
    direct_ok = record {
      starts = let e = end_below a.start ok.starts in omega (arith, e, built.start);
      each_silents = ap length built.silents ∙ length-map-range_with_len (direct_silents a ends) 0 (states a) ∙ sym direct_states;
      each_edges = ap length built.edges ∙ length-map-range_with_len (direct_edges a ends) 0 (states a) ∙ sym direct_states;
      silents =
          subst (λ l. All (All (λ q. q < states r)) l) (sym built.silents)
          (All-map (All (λ q. q < states r)) (direct_silents a ends) (range_with_len 0 (states a)) (λ k d within. silent_ok (get_or (range_with_len 0 (states a)) k d)));
      edges =
          subst (λ l. All (All (λ (edge : LetterEdge). edge.to < states r)) l) (sym built.edges)
          (All-map (All (λ (edge : LetterEdge). edge.to < states r)) (direct_edges a ends) (range_with_len 0 (states a)) (λ k d within. edges_ok (get_or (range_with_len 0 (states a)) k d)));
    }
