-- Letters that states need, and letters ahead of paths.
use Rattle.std.proofs.Common.{◌≡◌, ℕ, zero, suc, ◌<◌, ◌≤◌, ◌^◌, ◌*◌, ◌%◌, ◌⊎◌, Bool, true, false, List, [], ◌∷◌, Option, None, Some, length, get_or, map, nat_eq, bit_and, bit_or, refl, sym, ap, ◌∙◌, subst, inl, inr, arith}
use Rattle.std.specs.Int.{bit_at, w64}
use Rattle.std.specs.List.{Contains, slice_index}
use Rattle.std.proofs.Math.Nat.{min-le_right, min-eq_left}
use Rattle.std.proofs.lemmas.Bool.{cases_eq, cases_lt, eqb-true, false≢true}
use Rattle.std.proofs.lemmas.List.{get_or-map, get_or_past, length-map}
use Rattle.std.proofs.lemmas.List.Elements.{All-contains, Contains-append_left, Contains-append_right}
use Rattle.std.proofs.lemmas.List.FromFn.{get_or-map-range_with_len, length-map-range_with_len}
use Rattle.std.proofs.lemmas.Nat.{and_le_l}
use Rattle.std.proofs.lemmas.Nat.Bits.{bit_at-zero, bit_at_and, bit_at_set_same, bit_at_set_other, bit_at-lt, same_from_bits_below}
use Rattle.rela_labels.specs.Letters.{has}
use Rattle.rela_letter_nfa.specs.LetterAutomaton.{LetterAutomaton, IsLetterAutomaton, edges_of, silents_of, states}
use Rattle.rela_letter_nfa.specs.Runs.{spelled, Follow as FollowLetters, HasStep as HasLetterStep, Step as LetterStep}
use Rattle.rela_letter_nfa.specs.declared.edge.LetterEdge.{LetterEdge}
use Rattle.rela_trans.specs.Machine.{Machine, IsFinal, Kind, moves_of}
use Rattle.rela_trans.specs.Runs.{Does, Follow, HasStep, Step, inputs}
use Rattle.rela_trans.specs.declared.moves.Move.{Move}
use Rattle.rela_letter_image.specs.LetterMoves.{Laid, all_moves, alone_move, letter_move, only_letter, reading, set_move}
use Rattle.rela_letter_image.specs.Needs.{AreAhead, AreKept, AreNeeds, Has, IsEdgeAhead, IsToldAhead, IsWithin, TellsLive}
use Rattle.rela_letter_image.specs.declared.letter_moves.AloneMove.{AloneMove}
use Rattle.rela_letter_image.specs.declared.letter_moves.LetterMove.{LetterMove}
use Rattle.rela_letter_image.specs.declared.letter_moves.SetMove.{SetMove}
use Rattle.rela_letter_image.proofs.Laying.{three_cases}
use Rattle.rela_letter_image.proofs.StepsGo.{Contains-cons_cases, Contains-map_back, Contains-nil}

-- ---- words of letters

pub none_had : (k : ℕ) → ¬ Has 0 k
none_had k had = omega (arith, had, bit_at-zero k)

-- the letters that two words share
both_had : (word other k : ℕ) → Has (bit_and word other) k → Has other k
both_had word other k had = omega (arith, had, bit_at_and word other k, min-le_right (bit_at word k) (bit_at other k), bit_at-lt other k)

pub within_same : (word other : ℕ) → bit_and word other ≡ word → IsWithin word other
within_same word other same k small had = both_had word other k (ap (λ n. bit_at n k) same ∙ had)

pub same_within : (word other : ℕ) → word < 2 ^ 64 → IsWithin word other → bit_and word other ≡ word
same_within word other fits within = same_from_bits_below 64 (bit_and word other) word (omega (arith, fits, and_le_l word other)) fits (λ k small. bit_at_and word other k ∙ min-eq_left (less k small))
  where
    less : (k : ℕ) → k < 64 → bit_at word k ≤ bit_at other k
    less k small = elim (cases_eq (bit_at word k) 1) [
      | inl had ↦ omega (arith, had, within k small had)
      | inr not ↦ omega (arith, not, bit_at-lt word k)
    ]

module _ (word letter : ℕ) (small : letter < 64) where
  abbrev more : ℕ
  more = bit_or word (1 * 2 ^ letter % 2 ^ 64)

  pub letter_here : Has more letter
  letter_here = bit_at_set_same w64 word letter small

  pub letter_kept : (k : ℕ) → Has word k → Has more k
  letter_kept k had = elim (cases_eq k letter) [
    | inl same ↦ subst (Has more) (sym same) letter_here
    | inr other ↦ bit_at_set_other w64 word letter small k other ∙ had
  ]

  pub letter_others : (k : ℕ) → Has more k → Has word k ⊎ (k ≡ letter)
  letter_others k had = elim (cases_eq k letter) [
    | inl same ↦ inr same
    | inr other ↦ inl (sym (bit_at_set_other w64 word letter small k other) ∙ had)
  ]

-- ---- what is needed

at_place : {X : Type 0} (xs : List X) (q : ℕ) → q < length xs → (x : X) × ((d : X) → get_or xs q d ≡ x)
at_place [] q below = absurd (omega (arith, below))
at_place (x ∷ xs) zero below = (x, λ d. refl)
at_place (x ∷ xs) (suc q) below = at_place xs q (omega (arith, below))

only_has : (letters k c : ℕ) → has (only_letter letters k) c ≡ true → c ≡ k
only_has letters k c among = elim (cases_lt c letters) [
  | inl below ↦ sym (eqb-true k c (sym (get_or-map-range_with_len (λ i. nat_eq k i) 0 letters c c false below (omega arith)) ∙ among))
  | inr past ↦ absurd (false≢true (sym (get_or_past (only_letter letters k) c false (omega (arith, past, length-map-range_with_len (λ i. nat_eq k i) 0 letters))) ∙ among))
]

-- a move that reads a letter of the set
reads_one : (read : ℕ → ℕ) (set : List Bool) (writes : Bool) (input output : List ℕ) → Does read (reading set writes) input output → (c : ℕ) × (has set (read c) ≡ true) × (input ≡ c ∷ [])
reads_one read set true input output does = does.0
reads_one read set false input output does = does.0

module _ (letters start : ℕ) (finals : List Bool) (laid : List Laid) (needs : List ℕ) where
  abbrev t : Machine
  t = record { letters = letters; start = start; finals = finals; moves = map (all_moves letters) laid }

  -- what is needed is read by the move, or needed behind it
  abbrev ReadOrBehind : (ℕ → ℕ) → ℕ → Step → Type 0
  ReadOrBehind read k step = Has (slice_index needs step.to) k ⊎ ((c : ℕ) × Contains step.input c × (read c ≡ k))

  by_move : (read : ℕ → ℕ) (need k : ℕ) (state : Laid) (step : Step) (kind : Kind) → k < 64 → AreKept needs need state → Has need k
      → Contains (all_moves letters state) (record { kind = kind; to = step.to }) → Does read kind step.input step.output → ReadOrBehind read k step
  by_move read need k state step kind small kept had among does =
      let m : Move (List Bool) = record { kind = kind; to = step.to } in
      elim (three_cases (map alone_move state.alone) (map set_move state.by_set) (map (letter_move letters) state.by_letter) m among) [
        | inl one ↦
            let found = Contains-map_back alone_move state.alone m one in
            inl (subst (λ q. Has (slice_index needs q) k) (ap (λ (n : Move (List Bool)). n.to) found.1)
            (All-contains (λ (move : AloneMove). IsWithin need (slice_index needs move.to)) state.alone found.0 kept.alone found.2 k small had))
        | inr others ↦ elim others [
          | inl two ↦
              let found = Contains-map_back set_move state.by_set m two in
              inl (subst (λ q. Has (slice_index needs q) k) (ap (λ (n : Move (List Bool)). n.to) found.1)
              (All-contains (λ (move : SetMove). IsWithin need (slice_index needs move.to)) state.by_set found.0 kept.by_set found.2 k small had))
          | inr three ↦
              let found = Contains-map_back (letter_move letters) state.by_letter m three in
              elim (All-contains (λ (move : LetterMove). (j : ℕ) → j < 64 → Has need j → Has (slice_index needs move.to) j ⊎ (j ≡ move.letter)) state.by_letter found.0 kept.by_letter found.2 k small had) [
                | inl behind ↦ inl (subst (λ q. Has (slice_index needs q) k) (ap (λ (n : Move (List Bool)). n.to) found.1) behind)
                | inr own ↦
                    let does_it = subst (λ (x : Kind). Does read x step.input step.output) (sym (ap (λ (n : Move (List Bool)). n.kind) found.1)) does in
                    let one = reads_one read (only_letter letters found.0.letter) found.0.writes step.input step.output does_it in
                    inr (one.0, subst (λ l. Contains l one.0) (sym one.2) (0, omega arith, refl), only_has letters found.0.letter (read one.0) one.1 ∙ sym own)
              ]
        ]
      ]

  module _ (final : (q : ℕ) → IsFinal t q → slice_index needs q ≡ 0) (kept : (q : ℕ) (d : Laid) → q < length laid → AreKept needs (slice_index needs q) (get_or laid q d)) where
    by_step : (read : ℕ → ℕ) (q k : ℕ) (step : Step) → k < 64 → Has (slice_index needs q) k → HasStep read t q step.input step.output step.to → ReadOrBehind read k step
    by_step read q k step small had (kind, among, does) = elim (cases_lt q (length laid)) [
      | inl below ↦
          let state = at_place laid q below in
          let moves : moves_of t q ≡ all_moves letters state.0 = get_or-map (all_moves letters) laid q state.0 [] below ∙ ap (all_moves letters) (state.1 state.0) in
          by_move read (slice_index needs q) k state.0 step kind small (subst (AreKept needs (slice_index needs q)) (state.1 state.0) (kept q state.0 below)) had
          (subst (λ l. Contains l (record { kind = kind; to = step.to })) moves among) does
      | inr past ↦ absurd (Contains-nil _ (subst (λ l. Contains l (record { kind = kind; to = step.to })) (get_or_past t.moves q [] (omega (arith, past, length-map laid (all_moves letters)))) among))
    ]

    needed : (read : ℕ → ℕ) (steps : List Step) (q f k : ℕ) → k < 64 → Has (slice_index needs q) k → Follow read t q steps f → IsFinal t f → (c : ℕ) × Contains (inputs steps) c × (read c ≡ k)
    needed read [] q f k small had here ends = absurd (none_had k (subst (λ w. Has w k) (final q (subst (IsFinal t) (sym here) ends)) had))
    needed read (step ∷ rest) q f k small had (goes, later) ends = elim (by_step read q k step small had goes) [
      | inl behind ↦ let found = needed read rest step.to f k small behind later ends in (found.0, Contains-append_right step.input (inputs rest) found.0 found.1, found.2)
      | inr (c, among, is) ↦ (c, Contains-append_left step.input (inputs rest) c among, is)
    ]

    pub are_needs : AreNeeds t needs
    are_needs q k small had read steps f follows ends = needed read steps q f k small had follows ends

pub no_needs : (t : Machine) → AreNeeds t []
no_needs t q k small had = absurd (none_had k had)

-- ---- what is ahead

module _ (read : ℕ → ℕ) (a : LetterAutomaton) (ahead : List ℕ) (ok : IsLetterAutomaton a) (told : (p : ℕ) → p < states a → IsToldAhead read a ahead p) where
  leaves : (p q : ℕ) (letter : Option ℕ) → HasLetterStep a p letter q → p < states a
  leaves p q letter goes = elim (cases_lt p (states a)) [ inl below ↦ below | inr past ↦ absurd (none letter past goes) ]
    where
      none : (l : Option ℕ) → states a ≤ p → HasLetterStep a p l q → ⊥
      none None past step = Contains-nil _ (subst (λ l. Contains l q) (get_or_past a.silents p [] (omega (arith, past, ok.each_silents))) step)
      none (Some k) past step = Contains-nil _ (subst (λ (l : List LetterEdge). Contains l (record { letter = k; to = q })) (get_or_past a.edges p [] (omega (arith, past, ok.each_edges))) step)

  abbrev Comes : ℕ → List LetterStep → Type 0
  Comes p steps = (q c : ℕ) → FollowLetters a p steps q → Contains (spelled steps) c → read c < 64 → Has (slice_index ahead p) (read c)

  comes_by : (letter : Option ℕ) (p to : ℕ) (rest : List LetterStep) → Comes to rest → Comes p (record { letter = letter; to = to } ∷ rest)
  comes_by None p to rest later q c (goes, follows) among small =
      All-contains (λ r. IsWithin (slice_index ahead r) (slice_index ahead p)) (silents_of a p) to (told p (leaves p to None goes)).silents goes (read c) small (later q c follows among small)
  comes_by (Some k) p to rest later q c (goes, follows) among small =
      let edge = All-contains (IsEdgeAhead read ahead (slice_index ahead p)) (edges_of a p) (record { letter = k; to = to }) (told p (leaves p to (Some k) goes)).edges goes in
      elim (Contains-cons_cases k (spelled rest) c among) [
        | inl own ↦ subst (λ j. Has (slice_index ahead p) (read j)) own (edge.own (subst (λ j. read j < 64) (sym own) small))
        | inr others ↦ edge.later (read c) small (later q c follows others small)
      ]

  comes : (steps : List LetterStep) (p : ℕ) → Comes p steps
  comes [] p = λ q c follows among small. absurd (Contains-nil c among)
  comes (step ∷ rest) p = comes_by step.letter p step.to rest (comes rest step.to)

  pub are_ahead : AreAhead read a ahead
  are_ahead p q c steps follows among small = comes steps p q c follows among small

-- ---- live pairs

pub tells_live : (read : ℕ → ℕ) (a : LetterAutomaton) (t : Machine) (needs ahead : List ℕ) → AreNeeds t needs → AreAhead read a ahead → TellsLive read a t (record { needs = needs; ahead = ahead })
tells_live read a t needs ahead are_needed are_to_come x first p second f follows moves reads ends k small had =
    let found = are_needed x.right k small had read second f moves ends in
    subst (Has (slice_index ahead x.left)) found.2
    (are_to_come x.left p found.0 first follows (subst (λ l. Contains l found.0) reads found.1) (subst (λ j. j < 64) (sym found.2) small))

pub all_live : (read : ℕ → ℕ) (a : LetterAutomaton) (t : Machine) (ahead : List ℕ) → TellsLive read a t (record { needs = []; ahead = ahead })
all_live read a t ahead x first p second f follows moves reads ends k small had = absurd (none_had k had)
