-- Moves that are laid out by what they read, and what an automaton and a state with these moves do.
use Rattle.std.proofs.Common.{◌≡◌, ℕ, ◌<◌, Bool, true, false, List, [], ◌∷◌, ◌++◌, map, Option, None, Some, refl, sym, ap, ◌∙◌, inl, inr, arith}
use Rattle.std.specs.Prelude.{nat_eq, if◌then◌else◌}
use Rattle.std.specs.List.{All, flat_map}
use Rattle.std.proofs.lemmas.Bool.{cases_lt, ne_eqb}
use Rattle.std.proofs.lemmas.List.{append-nil, get_or_past}
use Rattle.std.proofs.lemmas.List.Concat.{flat_map-append}
use Rattle.std.proofs.lemmas.List.Elements.{All-head, All-tail}
use Rattle.std.proofs.lemmas.List.FromFn.{get_or-map-range_with_len, length-map-range_with_len}
use Rattle.rela_labels.specs.Letters.{has}
use Rattle.rela_letter_nfa.specs.declared.edge.LetterEdge.{LetterEdge}
use Rattle.rela_trans.specs.declared.moves.Move.{Move}
use Rattle.rela_letter_image.specs.LetterMoves.{Laid, AreLettersOf, all_moves, alone_move, letter_move, only_letter, reading, set_move, writing}
use Rattle.rela_letter_image.specs.declared.letter_moves.LetterMove.{LetterMove}
use Rattle.rela_letter_source.specs.Steps.{JointStep, alone_by, alone_steps, edge_steps, laid_out_steps, letter_steps, read_by, read_if, read_steps, read_to, reading_of, same_by}
use Rattle.rela_letter_source.specs.declared.configuration.Configuration.{Configuration}
use Rattle.rela_letter_source.specs.declared.next.Next.{Next}
use Rattle.rela_letter_source.specs.declared.next.Reading.{Reading}

-- ---- lists

nothing_flat : {X Y : Type 0} (f : X → List Y) (xs : List X) → ((x : X) → f x ≡ []) → flat_map f xs ≡ []
nothing_flat f [] none = refl
nothing_flat f (x ∷ xs) none = ap (λ l. l ++ flat_map f xs) (none x) ∙ nothing_flat f xs none

flat_map-map : {X Y Z : Type 0} (f : Y → List Z) (g : X → Y) (xs : List X) → flat_map f (map g xs) ≡ flat_map (λ x. f (g x)) xs
flat_map-map f g [] = refl
flat_map-map f g (x ∷ xs) = ap (λ l. f (g x) ++ l) (flat_map-map f g xs)

-- ---- one move

-- what the set of one letter has
has_only : (letters k c : ℕ) → k < letters → has (only_letter letters k) c ≡ nat_eq k c
has_only letters k c within = elim (cases_lt c letters) [
  | inl below ↦ get_or-map-range_with_len (λ i. nat_eq k i) 0 letters c c false below (omega arith)
  | inr past ↦ get_or_past (only_letter letters k) c false (omega (arith, past, length-map-range_with_len (λ i. nat_eq k i) 0 letters)) ∙ sym (ne_eqb k c (λ same. absurd (omega (arith, same, past, within))))
]

both_ways : (can : Bool) (steps : List JointStep) → steps ≡ (if can then steps else steps)
both_ways true steps = refl
both_ways false steps = refl

same_is : (after : Option ℕ) (edge : Reading) (set : List Bool) (to : ℕ) → same_by after edge set to ≡ (if has set edge.coarse then read_to after edge to else [])
same_is None edge set to = both_ways (has set edge.coarse) []
same_is (Some after) edge set to = refl

pub read_is : (edge : Reading) (set : List Bool) (writes : Bool) (to : ℕ) → read_by edge (reading set writes) to ≡ read_if (has set edge.coarse) edge writes to
read_is edge set true to = same_is edge.after edge set to
read_is edge set false to = refl

alone_reads : (edge : Reading) (written : Option (List Bool)) (to : ℕ) → read_by edge (writing written) to ≡ []
alone_reads edge None to = refl
alone_reads edge (Some set) to = refl

reads_not_alone : (next : Option Next) (x : Configuration) (set : List Bool) (writes : Bool) (to : ℕ) → alone_by next x (reading set writes) to ≡ []
reads_not_alone next x set true to = refl
reads_not_alone next x set false to = refl

-- ---- all moves of a state

-- the moves of a state that read nothing are all by which it goes alone
pub alone_all : (next : Option Next) (x : Configuration) (letters : ℕ) (state : Laid) → alone_steps next x (map alone_move state.alone) ≡ alone_steps next x (all_moves letters state)
alone_all next x letters state =
    let f : Move (List Bool) → List JointStep = λ m. alone_by next x m.kind m.to in
    let alone = map alone_move state.alone in
    let by_set = map set_move state.by_set in
    let by_letter = map (letter_move letters) state.by_letter in
    let no_set : flat_map f by_set ≡ [] = flat_map-map f set_move state.by_set ∙ nothing_flat (λ m. f (set_move m)) state.by_set (λ m. reads_not_alone next x m.set m.writes m.to) in
    let no_letter : flat_map f by_letter ≡ [] =
    flat_map-map f (letter_move letters) state.by_letter
    ∙ nothing_flat (λ m. f (letter_move letters m)) state.by_letter (λ m. reads_not_alone next x (only_letter letters m.letter) m.writes m.to) in
    sym
    (flat_map-append f (alone ++ by_set) by_letter ∙ ap (λ l. l ++ flat_map f by_letter) (flat_map-append f alone by_set) ∙ ap (λ l. flat_map f alone ++ l ++ flat_map f by_letter) no_set
    ∙ ap (λ l. flat_map f alone ++ [] ++ l) no_letter ∙ append-nil (flat_map f alone ++ []) ∙ append-nil (flat_map f alone))

letters_read : (letters : ℕ) (edge : Reading) (moves : List LetterMove) → All (λ m. m.letter < letters) moves → read_steps edge (map (letter_move letters) moves) ≡ letter_steps edge moves
letters_read letters edge [] below = refl
letters_read letters edge (m ∷ moves) below =
    let here = All-head (λ n. n.letter < letters) m moves below in
    ap (λ l. l ++ read_steps edge (map (letter_move letters) moves))
    (read_is edge (only_letter letters m.letter) m.writes m.to ∙ ap (λ b. read_if b edge m.writes m.to) (has_only letters m.letter edge.coarse here))
    ∙ ap (λ l. read_if (nat_eq m.letter edge.coarse) edge m.writes m.to ++ l) (letters_read letters edge moves (All-tail (λ n. n.letter < letters) m moves below))

-- the others are all by which it reads
pub read_all : (letters : ℕ) (edge : Reading) (state : Laid) → AreLettersOf letters state → laid_out_steps edge state ≡ read_steps edge (all_moves letters state)
read_all letters edge state below =
    let f : Move (List Bool) → List JointStep = λ m. read_by edge m.kind m.to in
    let alone = map alone_move state.alone in
    let by_set = map set_move state.by_set in
    let by_letter = map (letter_move letters) state.by_letter in
    let no_alone : flat_map f alone ≡ [] = flat_map-map f alone_move state.alone ∙ nothing_flat (λ m. f (alone_move m)) state.alone (λ m. alone_reads edge m.written m.to) in
    sym
    (flat_map-append f (alone ++ by_set) by_letter ∙ ap (λ l. l ++ flat_map f by_letter) (flat_map-append f alone by_set) ∙ ap (λ l. l ++ flat_map f by_set ++ flat_map f by_letter) no_alone
    ∙ ap (λ l. flat_map f by_set ++ l) (letters_read letters edge state.by_letter below))

-- where no move reads, nothing is done by edges
pub none_read : (letters : ℕ) (coarse : List ℕ) (next : Option Next) (n : ℕ) (edges : List LetterEdge) (state : Laid) → AreLettersOf letters state → state.by_set ≡ [] → state.by_letter ≡ []
    → edge_steps letters coarse next n (all_moves letters state) edges ≡ []
none_read letters coarse next n edges state below no_set no_letter =
    nothing_flat (λ e. read_steps (reading_of letters coarse next n e) (all_moves letters state)) edges
    (λ e. sym (read_all letters (reading_of letters coarse next n e) state below) ∙ (λ i. read_steps (reading_of letters coarse next n e) (map set_move (no_set i)) ++ letter_steps (reading_of letters coarse next n e) (no_letter i)))
