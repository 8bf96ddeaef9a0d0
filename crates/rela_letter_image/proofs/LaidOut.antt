-- Moves that are laid out by what they read: the set of a letter alone, and what an automaton and a state with these moves do.
use Rattle.std.proofs.Common.{◌≡◌, ℕ, ◌<◌, Bool, true, false, List, [], ◌∷◌, ◌++◌, length, get_or, map, Option, None, Some, refl, sym, ap, ◌∙◌, subst, inl, inr, arith}
use Rattle.std.specs.Prelude.{nat_eq, ◌==◌, IfSome}
use Rattle.std.specs.List.{All, Contains, flat_map}
use Rattle.std.specs.Option.{ForSome}
use Rattle.std.proofs.lemmas.Bool.{cases_lt, ne_eqb}
use Rattle.std.proofs.lemmas.List.{append-nil, ext_get_or, get_or_past, get_or-map, length-map}
use Rattle.std.proofs.lemmas.List.Concat.{flat_map-append}
use Rattle.std.proofs.lemmas.List.Elements.{All-head, All-tail, All-contains, Contains-append_left, Contains-append_right, Contains-get_or}
use Rattle.std.proofs.lemmas.Option.{same_Some}
use Rattle.std.proofs.lemmas.List.FromFn.{get_or-map-range_with_len, length-map-range_with_len}
use Rattle.rela_labels.specs.Letters.{has}
use Rattle.rela_pairs.specs.declared.pair.Pair.{Pair}
use Rattle.rela_nfa.specs.Meeting.{pair_of}
use Rattle.rela_letter_nfa.specs.declared.edge.LetterEdge.{LetterEdge}
use Rattle.rela_trans.specs.Machine.{Machine, IsMachine, IsMove, machine_states}
use Rattle.rela_trans.specs.declared.moves.Move.{Move}
use Rattle.rela_letter_image.specs.Coarse.{coarse_of}
use Rattle.rela_letter_image.specs.LetterMoves.{Laid, AreLettersOf, LeadBelow, all_moves, alone_move, letter_move, only_letter, reading, set_move, writing}
use Rattle.rela_letter_image.specs.Steps.{JointStep, alone_by, alone_steps, edge_steps, laid_out_steps, letter_steps, read_by, read_steps, step_if, step_to, written_by}
use Rattle.rela_letter_image.specs.declared.letter_moves.LetterMove.{LetterMove}

-- ---- the set of a letter alone

pub has_only : (letters k c : ℕ) → k < letters → has (only_letter letters k) c ≡ nat_eq k c
has_only letters k c within = elim (cases_lt c letters) [
  | inl below ↦ get_or-map-range_with_len (λ i. nat_eq k i) 0 letters c c false below (omega arith)
  | inr past ↦ get_or_past (only_letter letters k) c false (omega (arith, past, length-map-range_with_len (λ i. nat_eq k i) 0 letters)) ∙ sym (ne_eqb k c (λ same. absurd (omega (arith, same, past, within))))
]

pub only_is : (set : List Bool) (k : ℕ) → ((j : ℕ) → has set j ≡ (k == j)) → only_letter (length set) k ≡ set
only_is set k one = ext_get_or false (only_letter (length set) k) set (length-map-range_with_len (λ i. nat_eq k i) 0 (length set))
    (λ j below. get_or-map-range_with_len (λ i. nat_eq k i) 0 (length set) j j false (omega (arith, below, length-map-range_with_len (λ i. nat_eq k i) 0 (length set))) (omega arith) ∙ sym (one j))

-- the set is that of the letter that answers, if one does
pub only_answers : (set : List Bool) (answer : Option ℕ) → IfSome answer (λ k. (j : ℕ) → has set j ≡ (k == j)) → ForSome answer (λ k. only_letter (length set) k ≡ set)
only_answers set (Some k) one letter is = subst (λ n. only_letter (length set) n ≡ set) (same_Some k letter is) (only_is set k one)
only_answers set None one letter is = cc

-- ---- what is done by them

nothing_flat : {X Y : Type 0} (f : X → List Y) (xs : List X) → ((x : X) → f x ≡ []) → flat_map f xs ≡ []
nothing_flat f [] none = refl
nothing_flat f (x ∷ xs) none = ap (λ l. l ++ flat_map f xs) (none x) ∙ nothing_flat f xs none

pub flat_map-map : {X Y Z : Type 0} (f : Y → List Z) (g : X → Y) (xs : List X) → flat_map f (map g xs) ≡ flat_map (λ x. f (g x)) xs
flat_map-map f g [] = refl
flat_map-map f g (x ∷ xs) = ap (λ l. f (g x) ++ l) (flat_map-map f g xs)

pub read_is : (c k : ℕ) (set : List Bool) (writes : Bool) (to : Pair) → read_by c k (reading set writes) to ≡ step_if (has set c) (step_to (written_by k writes) to)
read_is c k set true to = refl
read_is c k set false to = refl

alone_reads : (c k : ℕ) (written : Option (List Bool)) (to : Pair) → read_by c k (writing written) to ≡ []
alone_reads c k None to = refl
alone_reads c k (Some set) to = refl

reads_not_alone : (coarse : List ℕ) (set : List Bool) (writes : Bool) (to : Pair) → alone_by coarse (reading set writes) to ≡ []
reads_not_alone coarse set true to = refl
reads_not_alone coarse set false to = refl

-- the moves of a state that read nothing are all by which it goes alone
pub alone_all : (coarse : List ℕ) (left letters : ℕ) (state : Laid) → alone_steps coarse left (map alone_move state.alone) ≡ alone_steps coarse left (all_moves letters state)
alone_all coarse left letters state =
    let f : Move (List Bool) → List JointStep = λ m. alone_by coarse m.kind (pair_of left m.to) in
    let alone = map alone_move state.alone in
    let by_set = map set_move state.by_set in
    let by_letter = map (letter_move letters) state.by_letter in
    let no_set : flat_map f by_set ≡ [] = flat_map-map f set_move state.by_set ∙ nothing_flat (λ m. f (set_move m)) state.by_set (λ m. reads_not_alone coarse m.set m.writes (pair_of left m.to)) in
    let no_letter : flat_map f by_letter ≡ [] =
    flat_map-map f (letter_move letters) state.by_letter
    ∙ nothing_flat (λ m. f (letter_move letters m)) state.by_letter (λ m. reads_not_alone coarse (only_letter letters m.letter) m.writes (pair_of left m.to)) in
    sym
    (flat_map-append f (alone ++ by_set) by_letter ∙ ap (λ l. l ++ flat_map f by_letter) (flat_map-append f alone by_set) ∙ ap (λ l. flat_map f alone ++ l ++ flat_map f by_letter) no_set
    ∙ ap (λ l. flat_map f alone ++ [] ++ l) no_letter ∙ append-nil (flat_map f alone ++ []) ∙ append-nil (flat_map f alone))

letters_read : (letters c : ℕ) (edge : LetterEdge) (moves : List LetterMove) → All (λ m. m.letter < letters) moves → read_steps c edge (map (letter_move letters) moves) ≡ letter_steps c edge moves
letters_read letters c edge [] below = refl
letters_read letters c edge (m ∷ moves) below =
    let here = All-head (λ n. n.letter < letters) m moves below in
    let to = pair_of edge.to m.to in
    let step = step_to (written_by edge.letter m.writes) to in
    ap (λ l. l ++ read_steps c edge (map (letter_move letters) moves)) (read_is c edge.letter (only_letter letters m.letter) m.writes to ∙ ap (λ b. step_if b step) (has_only letters m.letter c here))
    ∙ ap (λ l. step_if (nat_eq m.letter c) step ++ l) (letters_read letters c edge moves (All-tail (λ n. n.letter < letters) m moves below))

-- the others are all by which it reads
pub read_all : (letters c : ℕ) (edge : LetterEdge) (state : Laid) → AreLettersOf letters state → laid_out_steps c edge state ≡ read_steps c edge (all_moves letters state)
read_all letters c edge state below =
    let f : Move (List Bool) → List JointStep = λ m. read_by c edge.letter m.kind (pair_of edge.to m.to) in
    let alone = map alone_move state.alone in
    let by_set = map set_move state.by_set in
    let by_letter = map (letter_move letters) state.by_letter in
    let no_alone : flat_map f alone ≡ [] = flat_map-map f alone_move state.alone ∙ nothing_flat (λ m. f (alone_move m)) state.alone (λ m. alone_reads c edge.letter m.written (pair_of edge.to m.to)) in
    sym
    (flat_map-append f (alone ++ by_set) by_letter ∙ ap (λ l. l ++ flat_map f by_letter) (flat_map-append f alone by_set) ∙ ap (λ l. l ++ flat_map f by_set ++ flat_map f by_letter) no_alone
    ∙ ap (λ l. flat_map f by_set ++ l) (letters_read letters c edge state.by_letter below))

-- where no move reads, nothing is done by edges
pub none_read : (letters : ℕ) (coarse : List ℕ) (edges : List LetterEdge) (state : Laid) → AreLettersOf letters state → state.by_set ≡ [] → state.by_letter ≡ []
    → edge_steps letters coarse (all_moves letters state) edges ≡ []
none_read letters coarse edges state below no_set no_letter =
    nothing_flat (λ e. read_steps (coarse_of letters coarse e.letter) e (all_moves letters state)) edges
    (λ e. sym (read_all letters (coarse_of letters coarse e.letter) e state below) ∙ (λ i. read_steps (coarse_of letters coarse e.letter) e (map set_move (no_set i)) ++ letter_steps (coarse_of letters coarse e.letter) e (no_letter i)))

-- ---- where they lead

-- a list within another one that has the property has it
All-within : {X : Type 0} (P : X → Type 0) (xs ys : List X) → All P ys → ((x : X) → Contains xs x → Contains ys x) → All P xs
All-within P xs ys all within k d below = All-contains P ys (get_or xs k d) all (within (get_or xs k d) (Contains-get_or xs k d below))

-- a property of what is made of each
All-made : {X Y : Type 0} (P : Y → Type 0) (f : X → Y) (xs : List X) → All P (map f xs) → All (λ x. P (f x)) xs
All-made P f xs all k d below = subst P (get_or-map f xs k d (f d) below) (all k (f d) (omega (arith, below, length-map xs f)))

pub all_lead : (letters states : ℕ) (state : Laid) → All (IsMove letters states) (all_moves letters state) → LeadBelow states state
all_lead letters states state all =
    let alone = map alone_move state.alone in
    let by_set = map set_move state.by_set in
    let by_letter = map (letter_move letters) state.by_letter in
    let one = All-within (IsMove letters states) alone (all_moves letters state) all (λ m among. Contains-append_left (alone ++ by_set) by_letter m (Contains-append_left alone by_set m among)) in
    let two = All-within (IsMove letters states) by_set (all_moves letters state) all (λ m among. Contains-append_left (alone ++ by_set) by_letter m (Contains-append_right alone by_set m among)) in
    let three = All-within (IsMove letters states) by_letter (all_moves letters state) all (λ m among. Contains-append_right (alone ++ by_set) by_letter m among) in
    record {
      alone = λ k d below. (All-made (IsMove letters states) alone_move state.alone one k d below).leads;
      by_set = λ k d below. (All-made (IsMove letters states) set_move state.by_set two k d below).leads;
      by_letter = λ k d below. (All-made (IsMove letters states) (letter_move letters) state.by_letter three k d below).leads;
    }

-- the moves of one state of a machine, which are laid out
pub state_leads : (t : Machine) (states : List Laid) (finals : List Bool) (letters start q : ℕ) (state none : Laid)
    → record { letters = letters; start = start; finals = finals; moves = map (all_moves letters) states } ≡ t → IsMachine t → q < machine_states t → state ≡ get_or states q none → LeadBelow (machine_states t) state
state_leads t states finals letters start q state none is ok below at =
    let made : Machine = record { letters = letters; start = start; finals = finals; moves = map (all_moves letters) states } in
    let good : IsMachine made = subst IsMachine (sym is) ok in
    let count : machine_states made ≡ machine_states t = ap machine_states is in
    let within : q < length states = omega (arith, below, count, good.each, length-map states (all_moves letters)) in
    let moves = good.moves q (all_moves letters none) (omega (arith, below, count, good.each)) in
    let here : All (IsMove letters (machine_states made)) (all_moves letters state) =
    subst (λ l. All (IsMove letters (machine_states made)) l) (get_or-map (all_moves letters) states q none (all_moves letters none) within ∙ ap (all_moves letters) (sym at)) moves in
    subst (λ n. LeadBelow n state) count (all_lead letters (machine_states made) state here)
