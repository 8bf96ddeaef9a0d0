-- How an automaton of sources grows by one step after another.
use Rattle.std.proofs.Common.{◌≡◌, ℕ, Bool, zero, suc, ◌⊎◌, List, [], ◌∷◌, ◌++◌, Option, None, Some, refl, sym, ap, ◌∙◌, subst, inl, inr, append_assoc, length, map, take, get_or, ◌+◌, ◌<◌}
use Rattle.std.specs.List.{All, Contains, flat_map, slice_get}
use Rattle.std.proofs.lemmas.List.{append-nil, map_more, take_more}
use Rattle.std.proofs.lemmas.List.Concat.{flat_map-append}
use Rattle.std.proofs.lemmas.List.Elements.{All-push, Contains-append_left, Contains-append_right, Contains-append_cases}
use Rattle.rela_letter_nfa.specs.LetterAutomaton.{LetterAutomaton, LetterParts, edges_of, silents_of, with_edge, with_silent}
use Rattle.rela_letter_source.specs.Growth.{Fits}
use Rattle.rela_pairs.specs.declared.shape.Shape.{Shape}
use Rattle.rela_letter_source.specs.declared.configuration.Configuration.{Configuration}
use Rattle.rela_trans.specs.Machine.{Machine, moves_of}
use Rattle.rela_trans.specs.declared.moves.Move.{Move}
use Rattle.rela_letter_nfa.specs.Counted.{edge_to}
use Rattle.rela_letter_source.specs.Growth.{Growth, HasEnd, Stand, Grows, IsFoundIn, with_parts}
use Rattle.rela_letter_nfa.specs.declared.edge.LetterEdge.{LetterEdge}
use Rattle.rela_letter_source.specs.Steps.{JointStep, alone_steps, edge_steps, next_of, silent_steps, step_to, steps_from}
use Rattle.rela_letter_source.specs.declared.next.Next.{Next}
use Rattle.rela_letter_source.proofs.StepsGo.{Contains-nil, Contains-cons_cases, first_in}

-- a configuration keeps its number where more are found
pub still_at : (found more : List Configuration) (q : ℕ) (y : Configuration) → slice_get found q ≡ Some y → slice_get (found ++ more) q ≡ Some y
still_at [] more q y at = absurd (cc)
still_at (x ∷ found) more zero y at = at
still_at (x ∷ found) more (suc q) y at = still_at found more q y at

-- each configuration fits where the one that was found does
pub all_fit : (shape : Shape) (old new : List Configuration) (x : Configuration) → All (Fits shape) old → Fits shape x → IsFoundIn old new x → All (Fits shape) new
all_fit shape old new x fit fits found = elim found [
  | inl same ↦ subst (λ l. All (Fits shape) l) (sym same) fit
  | inr one ↦ subst (λ l. All (Fits shape) l) (sym one) (All-push (Fits shape) old x fit fits)
]

-- ---- ends in lists that stand one behind the other

module _ (silents others : List ℕ) (edges more : List LetterEdge) where
  pub end_left : (letter : Option ℕ) (q : ℕ) → HasEnd silents edges letter q → HasEnd (silents ++ others) (edges ++ more) letter q
  end_left None q end = Contains-append_left silents others q end
  end_left (Some k) q end = Contains-append_left edges more _ end

  pub end_right : (letter : Option ℕ) (q : ℕ) → HasEnd others more letter q → HasEnd (silents ++ others) (edges ++ more) letter q
  end_right None q end = Contains-append_right silents others q end
  end_right (Some k) q end = Contains-append_right edges more _ end

  pub end_cases : (letter : Option ℕ) (q : ℕ) → HasEnd (silents ++ others) (edges ++ more) letter q → HasEnd silents edges letter q ⊎ HasEnd others more letter q
  end_cases None q end = Contains-append_cases silents others q end
  end_cases (Some k) q end = Contains-append_cases edges more _ end

pub no_end : (letter : Option ℕ) (q : ℕ) → HasEnd [] [] letter q → ⊥
no_end None q end = Contains-nil q end
no_end (Some k) q end = Contains-nil _ end

-- ---- targets and edges that are steps

pub stand_none : (found : List Configuration) → Stand found [] [] []
stand_none found = record { only = λ letter q end. absurd (no_end letter q end); all = λ letter y among. absurd (Contains-nil _ among) }

pub stand_longer : (found more : List Configuration) (steps : List JointStep) (silents : List ℕ) (edges : List LetterEdge) → Stand found steps silents edges → Stand (found ++ more) steps silents edges
stand_longer found more steps silents edges stand = record {
  only = λ letter q end. let one = stand.only letter q end in (one.0, still_at found more q one.0 one.1, one.2);
  all = λ letter y among. let one = stand.all letter y among in (one.0, still_at found more one.0 y one.1, one.2);
}

pub stand_both : (found : List Configuration) (steps later : List JointStep) (silents others : List ℕ) (edges more : List LetterEdge) → Stand found steps silents edges → Stand found later others more
    → Stand found (steps ++ later) (silents ++ others) (edges ++ more)
stand_both found steps later silents others edges more one two = record {
  only = λ letter q end. elim (end_cases silents others edges more letter q end) [
    | inl left ↦ let end_at = one.only letter q left in (end_at.0, end_at.1, Contains-append_left steps later _ end_at.2)
    | inr right ↦ let end_at = two.only letter q right in (end_at.0, end_at.1, Contains-append_right steps later _ end_at.2)
  ];
  all = λ letter y among. elim (Contains-append_cases steps later _ among) [
    | inl left ↦ let end_at = one.all letter y left in (end_at.0, end_at.1, end_left silents others edges more letter end_at.0 end_at.2)
    | inr right ↦ let end_at = two.all letter y right in (end_at.0, end_at.1, end_right silents others edges more letter end_at.0 end_at.2)
  ];
}

pub only_one : {X : Type 0} (x y : X) → Contains (x ∷ []) y → x ≡ y
only_one x y among = elim (Contains-cons_cases x [] y among) [ inl here ↦ here | inr none ↦ absurd (Contains-nil y none) ]

pub stand_silent : (found : List Configuration) (q : ℕ) (y : Configuration) → slice_get found q ≡ Some y → Stand found (step_to None y ∷ []) (q ∷ []) []
stand_silent found q y at = record { only = only; all = all }
  where
    only : (letter : Option ℕ) (p : ℕ) → HasEnd (q ∷ []) [] letter p → (z : Configuration) × (slice_get found p ≡ Some z) × Contains (step_to None y ∷ []) (step_to letter z)
    only None p end = (y, ap (slice_get found) (sym (only_one q p end)) ∙ at, first_in (step_to None y) [])
    only (Some k) p end = absurd (Contains-nil _ end)

    all : (letter : Option ℕ) (z : Configuration) → Contains (step_to None y ∷ []) (step_to letter z) → (p : ℕ) × (slice_get found p ≡ Some z) × HasEnd (q ∷ []) [] letter p
    all letter z among =
        let same = only_one (step_to None y) (step_to letter z) among in
        (q, at ∙ ap (λ (s : JointStep). Some s.to) same, subst (λ (s : JointStep). HasEnd (q ∷ []) [] s.letter q) same (first_in q []))

pub stand_edge : (found : List Configuration) (k q : ℕ) (y : Configuration) → slice_get found q ≡ Some y → Stand found (step_to (Some k) y ∷ []) [] (edge_to k q ∷ [])
stand_edge found k q y at = record { only = only; all = all }
  where
    only : (letter : Option ℕ) (p : ℕ) → HasEnd [] (edge_to k q ∷ []) letter p → (z : Configuration) × (slice_get found p ≡ Some z) × Contains (step_to (Some k) y ∷ []) (step_to letter z)
    only None p end = absurd (Contains-nil _ end)
    only (Some j) p end =
        let same : edge_to k q ≡ edge_to j p = only_one (edge_to k q) (edge_to j p) end in
        (y, ap (λ (e : LetterEdge). slice_get found e.to) (sym same) ∙ at, subst (λ (e : LetterEdge). Contains (step_to (Some k) y ∷ []) (step_to (Some e.letter) y)) same (first_in (step_to (Some k) y) []))

    all : (letter : Option ℕ) (z : Configuration) → Contains (step_to (Some k) y ∷ []) (step_to letter z) → (p : ℕ) × (slice_get found p ≡ Some z) × HasEnd [] (edge_to k q ∷ []) letter p
    all letter z among =
        let same = only_one (step_to (Some k) y) (step_to letter z) among in
        (q, at ∙ ap (λ (s : JointStep). Some s.to) same, subst (λ (s : JointStep). HasEnd [] (edge_to k q ∷ []) s.letter q) same (first_in (edge_to k q) []))

-- ---- growth

pub grows_none : (g : Growth) → Grows [] g g
grows_none g = record {
  shape = refl;
  finals = refl;
  silents = refl;
  edges = refl;
  found = ([], sym (append-nil g.found));
  added = ([], [], sym (append-nil g.parts.next_silents), sym (append-nil g.parts.next_edges), stand_none g.found);
}

-- growth by some steps and then by others
pub grows_both : (steps later : List JointStep) (g h i : Growth) → Grows steps g h → Grows later h i → Grows (steps ++ later) g i
grows_both steps later g h i one two = record {
  shape = two.shape ∙ one.shape;
  finals = two.finals ∙ one.finals;
  silents = two.silents ∙ one.silents;
  edges = two.edges ∙ one.edges;
  found = (
    one.found.0 ++ two.found.0,
    two.found.1 ∙ ap (λ l. l ++ two.found.0) one.found.1 ∙ append_assoc g.found one.found.0 two.found.0,
  );
  added = (
    one.added.0 ++ two.added.0,
    one.added.1 ++ two.added.1,
    two.added.2 ∙ ap (λ l. l ++ two.added.0) one.added.2 ∙ append_assoc g.parts.next_silents one.added.0 two.added.0,
    two.added.3 ∙ ap (λ l. l ++ two.added.1) one.added.3 ∙ append_assoc g.parts.next_edges one.added.1 two.added.1,
    stand_both i.found steps later one.added.0 two.added.0 one.added.1 two.added.1
        (subst (λ l. Stand l steps one.added.0 one.added.1) (sym two.found.1) (stand_longer h.found two.found.0 steps one.added.0 one.added.1 one.added.4)) two.added.4,
  );
}

-- growth by more configurations alone
pub grows_found : (g h : Growth) (x : Configuration) → h.shape ≡ g.shape → h.parts ≡ g.parts → IsFoundIn g.found h.found x → Grows [] g h
grows_found g h x shape parts finds = record {
  shape = shape;
  finals = ap (λ (p : LetterParts). p.finals) parts;
  silents = ap (λ (p : LetterParts). p.silents) parts;
  edges = ap (λ (p : LetterParts). p.edges) parts;
  found = elim finds [ inl same ↦ ([], same ∙ sym (append-nil g.found)) | inr one ↦ (x ∷ [], one) ];
  added = (
    [],
    [],
    ap (λ (p : LetterParts). p.next_silents) parts ∙ sym (append-nil g.parts.next_silents),
    ap (λ (p : LetterParts). p.next_edges) parts ∙ sym (append-nil g.parts.next_edges),
    stand_none h.found,
  );
}

pub grows_silent : (g : Growth) (q : ℕ) (y : Configuration) → slice_get g.found q ≡ Some y → Grows (step_to None y ∷ []) g (with_parts g (with_silent g.parts q))
grows_silent g q y at = record {
  shape = refl;
  finals = refl;
  silents = refl;
  edges = refl;
  found = ([], sym (append-nil g.found));
  added = (q ∷ [], [], refl, sym (append-nil g.parts.next_edges), stand_silent g.found q y at);
}

pub grows_edge : (g : Growth) (k q : ℕ) (y : Configuration) → slice_get g.found q ≡ Some y → Grows (step_to (Some k) y ∷ []) g (with_parts g (with_edge g.parts (edge_to k q)))
grows_edge g k q y at = record {
  shape = refl;
  finals = refl;
  silents = refl;
  edges = refl;
  found = ([], sym (append-nil g.found));
  added = ([], edge_to k q ∷ [], sym (append-nil g.parts.next_silents), refl, stand_edge g.found k q y at);
}

-- ---- loops

-- growth by one more step or by more of them
grows_next : (before one after : List JointStep) → after ≡ before ++ one → (g h k : Growth) → Grows before g h → Grows one h k → Grows after g k
grows_next before one after all g h k so_far next = subst (λ l. Grows l g k) (sym all) (grows_both before one g h k so_far next)

module _ {X : Type 0} (xs : List X) (i : ℕ) (x : X) (below : i < length xs) (at : get_or xs i x ≡ x) (g h k : Growth) where
  -- where each has one step
  pub grows_one_more : (f : X → JointStep) → Grows (map f (take i xs)) g h → Grows (f x ∷ []) h k → Grows (map f (take (i + 1) xs)) g k
  grows_one_more f = grows_next (map f (take i xs)) (f x ∷ []) (map f (take (i + 1) xs)) (map_more f xs i x below ∙ ap (λ y. map f (take i xs) ++ f y ∷ []) at) g h k

  -- where each has some steps
  pub grows_more : {Y : Type 0} (f : X → Y) (steps : Y → List JointStep) → Grows (flat_map steps (map f (take i xs))) g h → Grows (steps (f x)) h k
      → Grows (flat_map steps (map f (take (i + 1) xs))) g k
  grows_more f steps =
      let before = map f (take i xs) in
      grows_next (flat_map steps before) (steps (f x)) (flat_map steps (map f (take (i + 1) xs)))
      (ap (flat_map steps) (map_more f xs i x below ∙ ap (λ y. before ++ f y ∷ []) at) ∙ flat_map-append steps before (f x ∷ []) ∙ ap (λ l. flat_map steps before ++ l) (append-nil (steps (f x)))) g h k

  -- where each itself has some steps
  pub grows_flat_more : (steps : X → List JointStep) → Grows (flat_map steps (take i xs)) g h → Grows (steps x) h k → Grows (flat_map steps (take (i + 1) xs)) g k
  grows_flat_more steps =
      let before = take i xs in
      grows_next (flat_map steps before) (steps x) (flat_map steps (take (i + 1) xs))
      (ap (flat_map steps) (take_more xs i x below ∙ ap (λ y. before ++ y ∷ []) at) ∙ flat_map-append steps before (x ∷ []) ∙ ap (λ l. flat_map steps before ++ l) (append-nil (steps x))) g h k

-- ---- all steps from a configuration

pub grows_steps : (coarse word : List ℕ) (a : LetterAutomaton) (t : Machine) (x : Configuration) (letters : ℕ) (next : Option Next) (ends : List ℕ) (moves : List (Move (List Bool))) (edges : List LetterEdge)
    → ends ≡ silents_of a x.path → moves ≡ moves_of t x.machine → edges ≡ edges_of a x.path → letters ≡ t.letters → next ≡ next_of letters coarse word x.written → (g h i k : Growth)
    → Grows (silent_steps x ends) g h → Grows (alone_steps next x moves) h i → Grows (edge_steps letters coarse next x.written moves edges) i k → Grows (steps_from coarse word a t x) g k
grows_steps coarse word a t x letters next ends moves edges ends_are moves_are edges_are letters_are next_is g h i k silents alones reads =
    let is : next ≡ next_of t.letters coarse word x.written = next_is ∙ ap (λ n. next_of n coarse word x.written) letters_are in
    subst (λ l. Grows l g k)
    (λ j. silent_steps x (ends_are j) ++ alone_steps (is j) x (moves_are j) ++ edge_steps (letters_are j) coarse (is j) x.written (moves_are j) (edges_are j))
    (grows_both (silent_steps x ends ++ alone_steps next x moves) (edge_steps letters coarse next x.written moves edges) g i k
    (grows_both (silent_steps x ends) (alone_steps next x moves) g h i silents alones) reads)
