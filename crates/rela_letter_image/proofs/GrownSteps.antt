-- How a product grows by one step after another.
use Rattle.std.proofs.Common.{◌≡◌, ℕ, Bool, true, false, cond, if◌then◌else◌, filter, zero, suc, ◌⊎◌, List, [], ◌∷◌, ◌++◌, Option, None, Some, refl, sym, ap, ◌∙◌, subst, inl, inr, append_assoc, arith, length, map, take, get_or, ◌+◌, ◌<◌}
use Rattle.std.specs.List.{All, Contains, flat_map, range_with_len, slice_get}
use Rattle.std.proofs.lemmas.List.{append-nil, map-append, map_more, take_more}
use Rattle.std.proofs.lemmas.List.Concat.{flat_map-append}
use Rattle.std.proofs.lemmas.List.FromFn.{map-range_with_len_more}
use Rattle.std.proofs.lemmas.List.Elements.{All-push, Contains-append_left, Contains-append_right, Contains-append_cases, filter-append}
use Rattle.rela_letter_nfa.specs.LetterAutomaton.{LetterAutomaton, LetterParts, edges_of, silents_of, with_edge, with_silent}
use Rattle.rela_pairs.specs.Places.{Fits}
use Rattle.rela_pairs.specs.declared.shape.Shape.{Shape}
use Rattle.rela_pairs.specs.declared.pair.Pair.{Pair}
use Rattle.rela_trans.specs.Machine.{Machine, moves_of}
use Rattle.rela_trans.specs.declared.moves.Move.{Move}
use Rattle.rela_letter_nfa.specs.Counted.{edge_to}
use Rattle.rela_letter_image.specs.Growth.{Growth, HasEnd, Stand, Grows, IsFoundIn, with_parts}
use Rattle.rela_letter_image.specs.Needs.{IsLive, Told}
use Rattle.rela_letter_nfa.specs.declared.edge.LetterEdge.{LetterEdge}
use Rattle.rela_letter_image.specs.Steps.{JointStep, alone_steps, edge_steps, silent_steps, step_if, step_to, steps_from}
use Rattle.rela_letter_image.proofs.StepsGo.{Contains-nil, Contains-cons_cases, first_in}

-- a pair keeps its number where more are found
pub still_at : (pairs more : List Pair) (q : ℕ) (y : Pair) → slice_get pairs q ≡ Some y → slice_get (pairs ++ more) q ≡ Some y
still_at [] more q y at = absurd (cc)
still_at (x ∷ pairs) more zero y at = at
still_at (x ∷ pairs) more (suc q) y at = still_at pairs more q y at

-- each pair fits where the one that was found does
pub all_fit : (shape : Shape) (old new : List Pair) (x : Pair) → All (Fits shape) old → Fits shape x → IsFoundIn old new x → All (Fits shape) new
all_fit shape old new x fit fits found = elim found [
  | inl same ↦ subst (λ l. All (Fits shape) l) (sym same) fit
  | inr one ↦ subst (λ l. All (Fits shape) l) (sym one) (All-push (Fits shape) old x fit fits)
]

-- ---- ends in lists that stand one behind the other

module _ (silents others : List ℕ) (edges more : List LetterEdge) where
  pub end_left : (letter : Option ℕ) (q : ℕ) → HasEnd silents edges letter q → HasEnd (silents ++ others) (edges ++ more) letter q
  end_left None q end = Contains-append_left silents others q end
  end_left (Some k) q end = Contains-append_left edges more _ end

  pub end_right : (letter : Option ℕ) (q : ℕ) → HasEnd others more letter q → HasEnd (silents ++ others) (edges ++ more) letter q
  end_right None q end = Contains-append_right silents others q end
  end_right (Some k) q end = Contains-append_right edges more _ end

  pub end_cases : (letter : Option ℕ) (q : ℕ) → HasEnd (silents ++ others) (edges ++ more) letter q → HasEnd silents edges letter q ⊎ HasEnd others more letter q
  end_cases None q end = Contains-append_cases silents others q end
  end_cases (Some k) q end = Contains-append_cases edges more _ end

pub no_end : (letter : Option ℕ) (q : ℕ) → HasEnd [] [] letter q → ⊥
no_end None q end = Contains-nil q end
no_end (Some k) q end = Contains-nil _ end

-- ---- targets and edges that are steps

pub stand_none : (told : Told) (pairs : List Pair) → Stand told pairs [] [] []
stand_none told pairs = record { only = λ letter q end. absurd (no_end letter q end); all = λ letter y among live. absurd (Contains-nil _ among) }

pub stand_longer : (told : Told) (pairs more : List Pair) (steps : List JointStep) (silents : List ℕ) (edges : List LetterEdge) → Stand told pairs steps silents edges
    → Stand told (pairs ++ more) steps silents edges
stand_longer told pairs more steps silents edges stand = record {
  only = λ letter q end. let found = stand.only letter q end in (found.0, still_at pairs more q found.0 found.1, found.2);
  all = λ letter y among live. let found = stand.all letter y among live in (found.0, still_at pairs more found.0 y found.1, found.2);
}

pub stand_both : (told : Told) (pairs : List Pair) (steps later : List JointStep) (silents others : List ℕ) (edges more : List LetterEdge) → Stand told pairs steps silents edges
    → Stand told pairs later others more → Stand told pairs (steps ++ later) (silents ++ others) (edges ++ more)
stand_both told pairs steps later silents others edges more one two = record {
  only = λ letter q end. elim (end_cases silents others edges more letter q end) [
    | inl left ↦ let found = one.only letter q left in (found.0, found.1, Contains-append_left steps later _ found.2)
    | inr right ↦ let found = two.only letter q right in (found.0, found.1, Contains-append_right steps later _ found.2)
  ];
  all = λ letter y among live. elim (Contains-append_cases steps later _ among) [
    | inl left ↦ let found = one.all letter y left live in (found.0, found.1, end_left silents others edges more letter found.0 found.2)
    | inr right ↦ let found = two.all letter y right live in (found.0, found.1, end_right silents others edges more letter found.0 found.2)
  ];
}

pub only_one : {X : Type 0} (x y : X) → Contains (x ∷ []) y → x ≡ y
only_one x y among = elim (Contains-cons_cases x [] y among) [ inl here ↦ here | inr none ↦ absurd (Contains-nil y none) ]

-- a step to a pair that isn't live may be left out
pub stand_dead : (told : Told) (pairs : List Pair) (letter : Option ℕ) (y : Pair) → ¬ IsLive told y → Stand told pairs (step_to letter y ∷ []) [] []
stand_dead told pairs letter y dead = record {
  only = λ k q end. absurd (no_end k q end);
  all = λ k z among live. absurd (dead (subst (λ (s : JointStep). IsLive told s.to) (sym (only_one (step_to letter y) (step_to k z) among)) live));
}

pub stand_silent : (told : Told) (pairs : List Pair) (q : ℕ) (y : Pair) → slice_get pairs q ≡ Some y → Stand told pairs (step_to None y ∷ []) (q ∷ []) []
stand_silent told pairs q y at = record { only = only; all = all }
  where
    only : (letter : Option ℕ) (p : ℕ) → HasEnd (q ∷ []) [] letter p → (z : Pair) × (slice_get pairs p ≡ Some z) × Contains (step_to None y ∷ []) (step_to letter z)
    only None p end = (y, ap (slice_get pairs) (sym (only_one q p end)) ∙ at, first_in (step_to None y) [])
    only (Some k) p end = absurd (Contains-nil _ end)

    all : (letter : Option ℕ) (z : Pair) → Contains (step_to None y ∷ []) (step_to letter z) → IsLive told z → (p : ℕ) × (slice_get pairs p ≡ Some z) × HasEnd (q ∷ []) [] letter p
    all letter z among live =
        let same = only_one (step_to None y) (step_to letter z) among in
        (q, at ∙ ap (λ (s : JointStep). Some s.to) same, subst (λ (s : JointStep). HasEnd (q ∷ []) [] s.letter q) same (first_in q []))

pub stand_edge : (told : Told) (pairs : List Pair) (k q : ℕ) (y : Pair) → slice_get pairs q ≡ Some y → Stand told pairs (step_to (Some k) y ∷ []) [] (edge_to k q ∷ [])
stand_edge told pairs k q y at = record { only = only; all = all }
  where
    only : (letter : Option ℕ) (p : ℕ) → HasEnd [] (edge_to k q ∷ []) letter p → (z : Pair) × (slice_get pairs p ≡ Some z) × Contains (step_to (Some k) y ∷ []) (step_to letter z)
    only None p end = absurd (Contains-nil _ end)
    only (Some j) p end =
        let same : edge_to k q ≡ edge_to j p = only_one (edge_to k q) (edge_to j p) end in
        (y, ap (λ (e : LetterEdge). slice_get pairs e.to) (sym same) ∙ at, subst (λ (e : LetterEdge). Contains (step_to (Some k) y ∷ []) (step_to (Some e.letter) y)) same (first_in (step_to (Some k) y) []))

    all : (letter : Option ℕ) (z : Pair) → Contains (step_to (Some k) y ∷ []) (step_to letter z) → IsLive told z → (p : ℕ) × (slice_get pairs p ≡ Some z) × HasEnd [] (edge_to k q ∷ []) letter p
    all letter z among live =
        let same = only_one (step_to (Some k) y) (step_to letter z) among in
        (q, at ∙ ap (λ (s : JointStep). Some s.to) same, subst (λ (s : JointStep). HasEnd [] (edge_to k q ∷ []) s.letter q) same (first_in (edge_to k q) []))

-- ---- growth

pub grows_none : (g : Growth) → Grows [] g g
grows_none g = record {
  shape = refl;
  told = refl;
  finals = refl;
  silents = refl;
  edges = refl;
  found = ([], sym (append-nil g.pairs));
  added = ([], [], sym (append-nil g.parts.next_silents), sym (append-nil g.parts.next_edges), stand_none g.told g.pairs);
}

-- no growth by a step to a pair that isn't live
pub grows_dead : (g : Growth) (letter : Option ℕ) (y : Pair) → ¬ IsLive g.told y → Grows (step_to letter y ∷ []) g g
grows_dead g letter y dead = record {
  shape = refl;
  told = refl;
  finals = refl;
  silents = refl;
  edges = refl;
  found = ([], sym (append-nil g.pairs));
  added = ([], [], sym (append-nil g.parts.next_silents), sym (append-nil g.parts.next_edges), stand_dead g.told g.pairs letter y dead);
}

-- growth by some steps and then by others
pub grows_both : (steps later : List JointStep) (g h i : Growth) → Grows steps g h → Grows later h i → Grows (steps ++ later) g i
grows_both steps later g h i one two = record {
  shape = two.shape ∙ one.shape;
  told = two.told ∙ one.told;
  finals = two.finals ∙ one.finals;
  silents = two.silents ∙ one.silents;
  edges = two.edges ∙ one.edges;
  found = (
    one.found.0 ++ two.found.0,
    two.found.1 ∙ ap (λ l. l ++ two.found.0) one.found.1 ∙ append_assoc g.pairs one.found.0 two.found.0,
  );
  added = (
    one.added.0 ++ two.added.0,
    one.added.1 ++ two.added.1,
    two.added.2 ∙ ap (λ l. l ++ two.added.0) one.added.2 ∙ append_assoc g.parts.next_silents one.added.0 two.added.0,
    two.added.3 ∙ ap (λ l. l ++ two.added.1) one.added.3 ∙ append_assoc g.parts.next_edges one.added.1 two.added.1,
    stand_both g.told i.pairs steps later one.added.0 two.added.0 one.added.1 two.added.1
        (subst (λ l. Stand g.told l steps one.added.0 one.added.1) (sym two.found.1) (stand_longer g.told h.pairs two.found.0 steps one.added.0 one.added.1 one.added.4))
        (subst (λ d. Stand d i.pairs later two.added.0 two.added.1) one.told two.added.4),
  );
}

-- growth by more pairs alone
pub grows_found : (g h : Growth) (x : Pair) → h.shape ≡ g.shape → h.told ≡ g.told → h.parts ≡ g.parts → IsFoundIn g.pairs h.pairs x → Grows [] g h
grows_found g h x shape told parts finds = record {
  shape = shape;
  told = told;
  finals = ap (λ (p : LetterParts). p.finals) parts;
  silents = ap (λ (p : LetterParts). p.silents) parts;
  edges = ap (λ (p : LetterParts). p.edges) parts;
  found = elim finds [ inl same ↦ ([], same ∙ sym (append-nil g.pairs)) | inr one ↦ (x ∷ [], one) ];
  added = (
    [],
    [],
    ap (λ (p : LetterParts). p.next_silents) parts ∙ sym (append-nil g.parts.next_silents),
    ap (λ (p : LetterParts). p.next_edges) parts ∙ sym (append-nil g.parts.next_edges),
    stand_none g.told h.pairs,
  );
}

pub grows_silent : (g : Growth) (q : ℕ) (y : Pair) → slice_get g.pairs q ≡ Some y → Grows (step_to None y ∷ []) g (with_parts g (with_silent g.parts q))
grows_silent g q y at = record {
  shape = refl;
  told = refl;
  finals = refl;
  silents = refl;
  edges = refl;
  found = ([], sym (append-nil g.pairs));
  added = (q ∷ [], [], refl, sym (append-nil g.parts.next_edges), stand_silent g.told g.pairs q y at);
}

pub grows_edge : (g : Growth) (k q : ℕ) (y : Pair) → slice_get g.pairs q ≡ Some y → Grows (step_to (Some k) y ∷ []) g (with_parts g (with_edge g.parts (edge_to k q)))
grows_edge g k q y at = record {
  shape = refl;
  told = refl;
  finals = refl;
  silents = refl;
  edges = refl;
  found = ([], sym (append-nil g.pairs));
  added = ([], edge_to k q ∷ [], sym (append-nil g.parts.next_silents), refl, stand_edge g.told g.pairs k q y at);
}

-- ---- loops

-- growth by one more step or by more of them
grows_next : (before one after : List JointStep) → after ≡ before ++ one → (g h k : Growth) → Grows before g h → Grows one h k → Grows after g k
grows_next before one after all g h k so_far next = subst (λ l. Grows l g k) (sym all) (grows_both before one g h k so_far next)

module _ {X : Type 0} (xs : List X) (i : ℕ) (x : X) (below : i < length xs) (at : get_or xs i x ≡ x) (g h k : Growth) where
  -- where each has one step
  pub grows_one_more : (f : X → JointStep) → Grows (map f (take i xs)) g h → Grows (f x ∷ []) h k → Grows (map f (take (i + 1) xs)) g k
  grows_one_more f = grows_next (map f (take i xs)) (f x ∷ []) (map f (take (i + 1) xs)) (map_more f xs i x below ∙ ap (λ y. map f (take i xs) ++ f y ∷ []) at) g h k

  -- where each has some steps
  pub grows_more : {Y : Type 0} (f : X → Y) (steps : Y → List JointStep) → Grows (flat_map steps (map f (take i xs))) g h → Grows (steps (f x)) h k
      → Grows (flat_map steps (map f (take (i + 1) xs))) g k
  grows_more f steps =
      let before = map f (take i xs) in
      grows_next (flat_map steps before) (steps (f x)) (flat_map steps (map f (take (i + 1) xs)))
      (ap (flat_map steps) (map_more f xs i x below ∙ ap (λ y. before ++ f y ∷ []) at) ∙ flat_map-append steps before (f x ∷ []) ∙ ap (λ l. flat_map steps before ++ l) (append-nil (steps (f x)))) g h k

  -- where each itself has some steps
  pub grows_flat_more : (steps : X → List JointStep) → Grows (flat_map steps (take i xs)) g h → Grows (steps x) h k → Grows (flat_map steps (take (i + 1) xs)) g k
  grows_flat_more steps =
      let before = take i xs in
      grows_next (flat_map steps before) (steps x) (flat_map steps (take (i + 1) xs))
      (ap (flat_map steps) (take_more xs i x below ∙ ap (λ y. before ++ y ∷ []) at) ∙ flat_map-append steps before (x ∷ []) ∙ ap (λ l. flat_map steps before ++ l) (append-nil (steps x))) g h k

-- ---- edges by several letters

pub map_cond : {X Y : Type 0} (f : X → Y) (b : Bool) (x : X) → map f (cond b (x ∷ []) []) ≡ cond b (f x ∷ []) []
map_cond f true x = refl
map_cond f false x = refl

pub range_push : (n : ℕ) → range_with_len 0 (n + 1) ≡ range_with_len 0 n ++ n ∷ []
range_push n = sym (map_id (range_with_len 0 (n + 1))) ∙ map-range_with_len_more (λ k. k) 0 n n (omega arith) ∙ ap (λ l. l ++ n ∷ []) (map_id (range_with_len 0 n))
  where
    map_id : (l : List ℕ) → map (λ k. k) l ≡ l
    map_id [] = refl
    map_id (k ∷ l) = ap (λ m. k ∷ m) (map_id l)

module _ (test : ℕ → Bool) (y : Pair) where
  abbrev pub edges_below : ℕ → List JointStep
  edges_below n = map (λ k. step_to (Some k) y) (filter test (range_with_len 0 n))

  edges_below_more : (n : ℕ) → edges_below (n + 1) ≡ edges_below n ++ step_if (test n) (step_to (Some n) y)
  edges_below_more n =
      let f : ℕ → JointStep = λ k. step_to (Some k) y in
      ap (λ l. map f (filter test l)) (range_push n) ∙ ap (map f) (filter-append test (range_with_len 0 n) (n ∷ []))
      ∙ map-append f (filter test (range_with_len 0 n)) (cond (test n) (n ∷ []) []) ∙ ap (λ l. edges_below n ++ l) (map_cond f (test n) n)

  -- the edge by one more letter, if it passes the test
  pub grows_letter : (n q : ℕ) (added : Bool) (g h k : Growth) → added ≡ test n → slice_get h.pairs q ≡ Some y
      → k ≡ (if added then with_parts h (with_edge h.parts (edge_to n q)) else h) → Grows (edges_below n) g h → Grows (edges_below (n + 1)) g k
  grows_letter n q added g h k is at new so_far =
      grows_next (edges_below n) (step_if added (step_to (Some n) y)) (edges_below (n + 1)) (edges_below_more n ∙ ap (λ b. edges_below n ++ step_if b (step_to (Some n) y)) (sym is)) g h k so_far
      (subst (λ (v : Growth). Grows (step_if added (step_to (Some n) y)) h v) (sym new) (one added))
    where
      one : (b : Bool) → Grows (step_if b (step_to (Some n) y)) h (if b then with_parts h (with_edge h.parts (edge_to n q)) else h)
      one true = grows_edge h n q y at
      one false = grows_none h

  -- the pairs are the same
  pub same_pairs : (n q : ℕ) (added : Bool) (h k : Growth) → k ≡ (if added then with_parts h (with_edge h.parts (edge_to n q)) else h) → slice_get h.pairs q ≡ Some y → slice_get k.pairs q ≡ Some y
  same_pairs n q added h k new at = ap (λ (v : Growth). slice_get v.pairs q) new ∙ same added ∙ at
    where
      same : (b : Bool) → slice_get (if b then with_parts h (with_edge h.parts (edge_to n q)) else h).pairs q ≡ slice_get h.pairs q
      same true = refl
      same false = refl

-- ---- all steps from a pair

pub grows_steps : (coarse : List ℕ) (a : LetterAutomaton) (t : Machine) (x : Pair) (letters : ℕ) (ends : List ℕ) (moves : List (Move (List Bool))) (edges : List LetterEdge)
    → ends ≡ silents_of a x.left → moves ≡ moves_of t x.right → edges ≡ edges_of a x.left → letters ≡ t.letters → (g h i k : Growth)
    → Grows (silent_steps x.right ends) g h → Grows (alone_steps coarse x.left moves) h i → Grows (edge_steps letters coarse moves edges) i k → Grows (steps_from coarse a t x) g k
grows_steps coarse a t x letters ends moves edges ends_are moves_are edges_are letters_are g h i k silents alones reads =
    subst (λ l. Grows l g k)
    (λ j. silent_steps x.right (ends_are j) ++ alone_steps coarse x.left (moves_are j) ++ edge_steps (letters_are j) coarse (moves_are j) (edges_are j))
    (grows_both (silent_steps x.right ends ++ alone_steps coarse x.left moves) (edge_steps letters coarse moves edges) g i k
    (grows_both (silent_steps x.right ends) (alone_steps coarse x.left moves) g h i silents alones) reads)
