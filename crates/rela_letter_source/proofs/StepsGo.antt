-- The steps that are listed from a configuration are just those by which the two go.
use Rattle.std.proofs.Common.{◌≡◌, ℕ, ◌+◌, suc, zero, ◌⊎◌, Bool, true, false, List, [], ◌∷◌, ◌++◌, map, Option, None, Some, refl, sym, ap, ◌∙◌, subst, inl, inr, arith}
use Rattle.std.specs.List.{Contains, flat_map, slice_get}
use Rattle.std.specs.Prelude.{nat_eq, if◌then◌else◌}
use Rattle.std.proofs.lemmas.Bool.{eq-eqb, eqb-true}
use Rattle.std.proofs.lemmas.List.{get_or-map, length-map}
use Rattle.std.proofs.lemmas.List.Elements.{Contains-append_left, Contains-append_right, Contains-append_cases}
use Rattle.rela_labels.specs.Letters.{has}
use Rattle.rela_letter_image.specs.Coarse.{coarse_of}
use Rattle.rela_letter_nfa.specs.declared.edge.LetterEdge.{LetterEdge}
use Rattle.rela_letter_nfa.specs.LetterAutomaton.{LetterAutomaton, silents_of, edges_of}
use Rattle.rela_trans.specs.Machine.{Machine, Kind, moves_of}
use Rattle.rela_trans.specs.declared.moves.Move.{Move}
use Rattle.rela_trans.specs.declared.moves.MoveKind.TheVariants.{Silent, In, Out, Same}
use Rattle.rela_trans.specs.Runs.{Does}
use Rattle.rela_letter_source.specs.Product.{Goes, GoesAlone, GoesSilently, GoTogether, StandsAt}
use Rattle.rela_letter_source.specs.Steps.{JointStep, after_letter, alone_by, alone_steps, next_from, next_of, read_by, read_steps, reading_of, same_by, silent_steps, standing, step_if, step_to, steps_from, write_by}
use Rattle.rela_letter_source.specs.declared.configuration.Configuration.{Configuration}
use Rattle.rela_letter_source.specs.declared.next.Next.{Next}
use Rattle.rela_letter_source.specs.declared.next.Reading.{Reading}

-- ---- lists

pub Contains-nil : {X : Type 0} (x : X) → Contains [] x → ⊥
Contains-nil x c = omega (arith, c.1)

pub Contains-cons_cases : {X : Type 0} (y : X) (xs : List X) (x : X) → Contains (y ∷ xs) x → (y ≡ x) ⊎ Contains xs x
Contains-cons_cases y xs x (zero, below, at) = inl at
Contains-cons_cases y xs x (suc k, below, at) = inr (k, omega (arith, below), at)

pub first_in : {X : Type 0} (x : X) (xs : List X) → Contains (x ∷ xs) x
first_in x xs = (0, omega arith, refl)

pub later_in : {X : Type 0} (y : X) (xs : List X) (x : X) → Contains xs x → Contains (y ∷ xs) x
later_in y xs x c = (suc c.0, omega (arith, c.1), c.2)

pub Contains-map : {X Y : Type 0} (f : X → Y) (xs : List X) (x : X) → Contains xs x → Contains (map f xs) (f x)
Contains-map f xs x c = (c.0, omega (arith, c.1, length-map xs f), get_or-map f xs c.0 x (f x) c.1 ∙ ap f c.2)

pub Contains-map_back : {X Y : Type 0} (f : X → Y) (xs : List X) (y : Y) → Contains (map f xs) y → (x : X) × (f x ≡ y) × Contains xs x
Contains-map_back f [] y c = absurd (Contains-nil y c)
Contains-map_back f (x ∷ xs) y c = elim (Contains-cons_cases (f x) (map f xs) y c) [
  | inl here ↦ (x, here, first_in x xs)
  | inr later ↦ let found = Contains-map_back f xs y later in (found.0, found.1, later_in x xs found.0 found.2)
]

in_flat_map : {X Y : Type 0} (f : X → List Y) (xs : List X) (x : X) (y : Y) → Contains xs x → Contains (f x) y → Contains (flat_map f xs) y
in_flat_map f [] x y among here = absurd (Contains-nil x among)
in_flat_map f (z ∷ xs) x y among here = elim (Contains-cons_cases z xs x among) [
  | inl first ↦ Contains-append_left (f z) (flat_map f xs) y (subst (λ u. Contains (f u) y) (sym first) here)
  | inr later ↦ Contains-append_right (f z) (flat_map f xs) y (in_flat_map f xs x y later here)
]

from_flat_map : {X Y : Type 0} (f : X → List Y) (xs : List X) (y : Y) → Contains (flat_map f xs) y → (x : X) × Contains xs x × Contains (f x) y
from_flat_map f [] y among = absurd (Contains-nil y among)
from_flat_map f (z ∷ xs) y among = elim (Contains-append_cases (f z) (flat_map f xs) y among) [
  | inl first ↦ (z, first_in z xs, first)
  | inr later ↦ let found = from_flat_map f xs y later in (found.0, later_in z xs found.0 found.1, found.2)
]

-- ---- one step that may be taken

in_step_if : (can : Bool) (step : JointStep) → can ≡ true → Contains (step_if can step) step
in_step_if can step holds = subst (λ b. Contains (step_if b step) step) (sym holds) (first_in step [])

from_step_if : (can : Bool) (step other : JointStep) → Contains (step_if can step) other → (can ≡ true) × (step ≡ other)
from_step_if true step other among = elim (Contains-cons_cases step [] other among) [ inl here ↦ (refl, here) | inr none ↦ absurd (Contains-nil other none) ]
from_step_if false step other among = absurd (Contains-nil other among)

-- ---- what is written next

module _ (letters : ℕ) (coarse word : List ℕ) (n : ℕ) where
  -- it is a letter of the word
  next_stands : (next : Next) → next_of letters coarse word n ≡ Some next
      → (slice_get word n ≡ Some next.letter) × (next.coarse ≡ coarse_of letters coarse next.letter) × (next.after ≡ n + 1)
  next_stands next is = from (slice_get word n) refl is
    where
      from : (found : Option ℕ) → slice_get word n ≡ found → next_from letters coarse n found ≡ Some next
          → (slice_get word n ≡ Some next.letter) × (next.coarse ≡ coarse_of letters coarse next.letter) × (next.after ≡ n + 1)
      from None none e = absurd (cc)
      from (Some k) at e =
          let made : Next = record { letter = k; coarse = coarse_of letters coarse k; after = n + 1 } in
          let same : made ≡ next = cc in
          (at ∙ ap (λ (m : Next). Some m.letter) same, subst (λ (m : Next). m.coarse ≡ coarse_of letters coarse m.letter) same refl, subst (λ (m : Next). m.after ≡ n + 1) same refl)

  -- a letter of the word is
  stands_next : (k : ℕ) → slice_get word n ≡ Some k → next_of letters coarse word n ≡ Some (record { letter = k; coarse = coarse_of letters coarse k; after = n + 1 })
  stands_next k at = ap (next_from letters coarse n) at

-- the number after a letter is told where the letter is the next
after_is : (next : Option Next) (k m : ℕ) → after_letter next k ≡ Some m → (one : Next) × (next ≡ Some one) × (one.letter ≡ k) × (one.after ≡ m)
after_is None k m e = absurd (cc)
after_is (Some next) k m e = told (nat_eq next.letter k) refl e
  where
    told : (b : Bool) → nat_eq next.letter k ≡ b → (if b then Some next.after else None) ≡ Some m → (one : Next) × (Some next ≡ Some one) × (one.letter ≡ k) × (one.after ≡ m)
    told true is f = (next, refl, eqb-true next.letter k is, cc)
    told false is f = absurd (cc)

is_after : (next : Next) (k : ℕ) → next.letter ≡ k → after_letter (Some next) k ≡ Some next.after
is_after next k same = ap (λ b. if b then Some next.after else None) (eq-eqb next.letter k same)

-- a word of one letter
same_letter : {j k : ℕ} → j ∷ [] ≡ k ∷ [] → j ≡ k
same_letter e = cc

no_letter : {k : ℕ} → [] ≡ k ∷ [] → ⊥
no_letter e = cc

some_letter : {k : ℕ} → k ∷ [] ≡ [] → ⊥
some_letter e = cc

module _ (coarse word : List ℕ) (a : LetterAutomaton) (t : Machine) where
  abbrev read : ℕ → ℕ
  read = coarse_of t.letters coarse

  -- one letter stands next
  stands_one : (n k m : ℕ) → slice_get word n ≡ Some k → m ≡ n + 1 → StandsAt word n (k ∷ []) m
  stands_one n k m at is = (at, sym is)

  module _ (x : Configuration) where
    abbrev next : Option Next
    next = next_of t.letters coarse word x.written

    abbrev silents : List JointStep
    silents = silent_steps x (silents_of a x.path)

    abbrev alones : List JointStep
    alones = alone_steps next x (moves_of t x.machine)

    abbrev reading : LetterEdge → Reading
    reading e = reading_of t.letters coarse next x.written e

    abbrev reads_by : LetterEdge → List JointStep
    reads_by e = read_steps (reading e) (moves_of t x.machine)

    abbrev reads : List JointStep
    reads = flat_map reads_by (edges_of a x.path)

    -- ---- from the list

    abbrev GoesBy : JointStep → Type 0
    GoesBy step = Goes read a t word x step.letter step.to

    abbrev HasMoveTo : Kind → ℕ → Type 0
    HasMoveTo kind to = Contains (moves_of t x.machine) (record { kind = kind; to = to })

    goes_silently : (step : JointStep) → Contains silents step → GoesBy step
    goes_silently step among =
        let found = Contains-map_back (λ q. step_to None (standing q x.machine x.written)) (silents_of a x.path) step among in
        subst GoesBy found.1 (inl (found.2, refl, refl))

    write_does : (set : List Bool) (to : ℕ) (step : JointStep) → HasMoveTo (Out set) to → (told : Option Next) → next ≡ told → Contains (write_by told set x.path to) step → GoesBy step
    write_does set to step move None is among = absurd (Contains-nil step among)
    write_does set to step move (Some one) is among =
        let can = from_step_if (has set one.coarse) (step_to None (standing x.path to one.after)) step among in
        let stands = next_stands t.letters coarse word x.written one is in
        let passes : has set (read one.letter) ≡ true = ap (has set) (sym stands.1) ∙ can.0 in
        subst GoesBy can.1 (inr (refl, (one.letter ∷ [], (Out set, move, (refl, (one.letter, passes, refl))), stands_one x.written one.letter one.after stands.0 stands.2)))

    alone_does : (kind : Kind) (to : ℕ) (step : JointStep) → HasMoveTo kind to → Contains (alone_by next x kind to) step → GoesBy step
    alone_does Silent to step move among = elim (Contains-cons_cases _ [] step among) [
      | inl here ↦ subst GoesBy here (inr (refl, ([], (Silent, move, (refl, refl)), refl)))
      | inr none ↦ absurd (Contains-nil step none)
    ]
    alone_does (In set) to step move among = absurd (Contains-nil step among)
    alone_does (Out set) to step move among = write_does set to step move next refl among
    alone_does (Same set) to step move among = absurd (Contains-nil step among)

    same_does : (e : LetterEdge) (set : List Bool) (to : ℕ) (step : JointStep) → Contains (edges_of a x.path) e → HasMoveTo (Same set) to → (told : Option ℕ) → after_letter next e.letter ≡ told
        → Contains (same_by told (reading e) set to) step → GoesBy step
    same_does e set to step edge move None is among = absurd (Contains-nil step among)
    same_does e set to step edge move (Some after) is among =
        let can = from_step_if (has set (read e.letter)) (step_to (Some e.letter) (standing e.to to after)) step among in
        let told = after_is next e.letter after is in
        let stands = next_stands t.letters coarse word x.written told.0 told.1 in
        let at : slice_get word x.written ≡ Some e.letter = stands.0 ∙ ap (λ (k : ℕ). Some k) told.2 in
        subst GoesBy can.1
        (edge, (e.letter ∷ [], (Same set, move, ((e.letter, can.0, refl), refl)), stands_one x.written e.letter after at (sym told.3 ∙ stands.2)))

    read_does : (e : LetterEdge) (kind : Kind) (to : ℕ) (step : JointStep) → Contains (edges_of a x.path) e → HasMoveTo kind to → Contains (read_by (reading e) kind to) step → GoesBy step
    read_does e Silent to step edge move among = absurd (Contains-nil step among)
    read_does e (In set) to step edge move among =
        let can = from_step_if (has set (read e.letter)) (step_to (Some e.letter) (standing e.to to x.written)) step among in
        subst GoesBy can.1 (edge, ([], (In set, move, ((e.letter, can.0, refl), refl)), refl))
    read_does e (Out set) to step edge move among = absurd (Contains-nil step among)
    read_does e (Same set) to step edge move among = same_does e set to step edge move (after_letter next e.letter) refl among

    pub steps_go : (step : JointStep) → Contains (steps_from coarse word a t x) step → GoesBy step
    steps_go step among = elim (Contains-append_cases (silents ++ alones) reads step among) [
      | inl alone ↦ elim (Contains-append_cases silents alones step alone) [
        | inl silent ↦ goes_silently step silent
        | inr by ↦
            let found = from_flat_map (λ m. alone_by next x m.kind m.to) (moves_of t x.machine) step by in
            alone_does found.0.kind found.0.to step found.1 found.2
      ]
      | inr both ↦
          let edge = from_flat_map reads_by (edges_of a x.path) step both in
          let move = from_flat_map (λ m. read_by (reading edge.0) m.kind m.to) (moves_of t x.machine) step edge.2 in
          read_does edge.0 move.0.kind move.0.to step edge.1 move.1 move.2
    ]

    -- ---- into the list

    abbrev Listed : Option ℕ → Configuration → Type 0
    Listed letter y = Contains (steps_from coarse word a t x) (step_to letter y)

    silent_listed : (y : Configuration) → GoesSilently a x y → Listed None y
    silent_listed y goes =
        let at : Contains silents (step_to None (standing y.path x.machine x.written)) = Contains-map (λ q. step_to None (standing q x.machine x.written)) (silents_of a x.path) y.path goes.0 in
        let same : step_to None (standing y.path x.machine x.written) ≡ step_to None y = λ i. step_to None (standing y.path (goes.1 i) (goes.2 i)) in
        Contains-append_left (silents ++ alones) reads (step_to None y) (Contains-append_left silents alones (step_to None y) (subst (Contains silents) same at))

    -- where one letter was written, it is the next
    written_one : (output : List ℕ) (k m : ℕ) → output ≡ k ∷ [] → StandsAt word x.written output m → (slice_get word x.written ≡ Some k) × (x.written + 1 ≡ m)
    written_one output k m is stands = subst (λ l. StandsAt word x.written l m) is stands

    written_none : (output : List ℕ) (m : ℕ) → output ≡ [] → StandsAt word x.written output m → x.written ≡ m
    written_none output m is stands = subst (λ l. StandsAt word x.written l m) is stands

    alone_in : (kind : Kind) (to m : ℕ) (output : List ℕ) → Does read kind [] output → StandsAt word x.written output m → Contains (alone_by next x kind to) (step_to None (standing x.path to m))
    alone_in Silent to m output does stands =
        subst (λ n. Contains (alone_by next x Silent to) (step_to None (standing x.path to n))) (written_none output m does.1 stands) (first_in _ [])
    alone_in (In set) to m output does stands = absurd (no_letter does.0.2)
    alone_in (Out set) to m output does stands =
        let k = does.1.0 in
        let at = written_one output k m does.1.2 stands in
        let one : Next = record { letter = k; coarse = read k; after = x.written + 1 } in
        subst (λ (told : Option Next). Contains (write_by told set x.path to) (step_to None (standing x.path to m))) (sym (stands_next t.letters coarse word x.written k at.0))
        (subst (λ n. Contains (write_by (Some one) set x.path to) (step_to None (standing x.path to n))) at.1
        (in_step_if (has set (read k)) (step_to None (standing x.path to (x.written + 1))) does.1.1))
    alone_in (Same set) to m output does stands = absurd (no_letter does.0.2)

    alone_listed : (y : Configuration) → GoesAlone read t word x y → Listed None y
    alone_listed y (stays, (output, (kind, move, does), stands)) =
        let m : Move (List Bool) = record { kind = kind; to = y.machine } in
        let here = alone_in kind y.machine y.written output does stands in
        let step = step_to None (standing x.path y.machine y.written) in
        let at : Contains alones step = in_flat_map (λ n. alone_by next x n.kind n.to) (moves_of t x.machine) m step move here in
        let same : step ≡ step_to None y = λ i. step_to None (standing (stays i) y.machine y.written) in
        Contains-append_left (silents ++ alones) reads (step_to None y) (Contains-append_right silents alones (step_to None y) (subst (Contains alones) same at))

    read_in : (k p : ℕ) (kind : Kind) (to m : ℕ) (output : List ℕ) → Does read kind (k ∷ []) output → StandsAt word x.written output m
        → Contains (read_by (reading (record { letter = k; to = p })) kind to) (step_to (Some k) (standing p to m))
    read_in k p Silent to m output does stands = absurd (some_letter does.0)
    read_in k p (In set) to m output does stands =
        let e : LetterEdge = record { letter = k; to = p } in
        subst (λ n. Contains (read_by (reading e) (In set) to) (step_to (Some k) (standing p to n))) (written_none output m does.1 stands)
        (in_step_if (has set (read k)) (step_to (Some k) (standing p to x.written)) (subst (λ j. has set (read j) ≡ true) (sym (same_letter does.0.2)) does.0.1))
    read_in k p (Out set) to m output does stands = absurd (some_letter does.0)
    read_in k p (Same set) to m output does stands =
        let e : LetterEdge = record { letter = k; to = p } in
        let at = written_one output k m does.1 stands in
        let one : Next = record { letter = k; coarse = read k; after = x.written + 1 } in
        let after : after_letter next k ≡ Some (x.written + 1) = ap (λ (told : Option Next). after_letter told k) (stands_next t.letters coarse word x.written k at.0) ∙ is_after one k refl in
        subst (λ (told : Option ℕ). Contains (same_by told (reading e) set to) (step_to (Some k) (standing p to m))) (sym after)
        (subst (λ n. Contains (same_by (Some (x.written + 1)) (reading e) set to) (step_to (Some k) (standing p to n))) at.1
        (in_step_if (has set (read k)) (step_to (Some k) (standing p to (x.written + 1))) (subst (λ j. has set (read j) ≡ true) (sym (same_letter does.0.2)) does.0.1)))

    both_listed : (k : ℕ) (y : Configuration) → GoTogether read a t word x k y → Listed (Some k) y
    both_listed k y (edge, (output, (kind, move, does), stands)) =
        let e : LetterEdge = record { letter = k; to = y.path } in
        let m : Move (List Bool) = record { kind = kind; to = y.machine } in
        let step = step_to (Some k) y in
        let at = in_flat_map (λ n. read_by (reading e) n.kind n.to) (moves_of t x.machine) m step move (read_in k y.path kind y.machine y.written output does stands) in
        Contains-append_right (silents ++ alones) reads step (in_flat_map reads_by (edges_of a x.path) e step edge at)

    pub goes_listed : (letter : Option ℕ) (y : Configuration) → Goes read a t word x letter y → Contains (steps_from coarse word a t x) (step_to letter y)
    goes_listed None y goes = elim goes [ inl silent ↦ silent_listed y silent | inr alone ↦ alone_listed y alone ]
    goes_listed (Some k) y goes = both_listed k y goes
