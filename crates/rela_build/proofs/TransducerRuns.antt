-- What transducers reach: only states, and words of symbols just as the words of their letters.
use Rattle.std.proofs.Common.{◌≡◌, ℕ, ◌<◌, Bool, true, false, List, [], ◌∷◌, ◌++◌, length, map, refl, inl, inr, sym, ap, ◌∙◌, subst, arith}
use Rattle.std.specs.List.{All}
use Rattle.std.proofs.lemmas.Bool.{cases_lt, false≢true}
use Rattle.std.proofs.lemmas.List.{get_or_past, map-append}
use Rattle.std.proofs.lemmas.List.Elements.{All-nil, All-contains}
use Rattle.rela_labels.specs.Letters.{has}
use Rattle.rela_trans.specs.Composition.{Covers}
use Rattle.rela_trans.specs.Machine.{Machine, Kind, IsMachine, IsMove, IsSized, moves_of, machine_states}
use Rattle.rela_trans.specs.Runs.{Step, IsSymbolOf, Does, HasStep, Follow, inputs, outputs, ReachR}
use Rattle.rela_trans.specs.declared.moves.MoveKind.TheVariants.{Silent, In, Out, Same}

-- ---- moves

-- the moves of a state lead to states, by sets of the right size
moves_ok : (t : Machine) → IsMachine t → (p : ℕ) → All (IsMove t.letters (machine_states t)) (moves_of t p)
moves_ok t ok p = elim (cases_lt p (machine_states t)) [
  | inl below ↦ ok.moves p [] (omega (arith, ok.each))
  | inr past ↦ subst (λ l. All (IsMove t.letters (machine_states t)) l) (sym (get_or_past t.moves p [] (omega (arith, ok.each)))) (All-nil (IsMove t.letters (machine_states t)))
]

pub move_ok : (read : ℕ → ℕ) (t : Machine) → IsMachine t → (p q : ℕ) (input output : List ℕ) (step : HasStep read t p input output q) →
    IsMove t.letters (machine_states t) (record { kind = step.0; to = q })
move_ok read t ok p q input output step = All-contains (IsMove t.letters (machine_states t)) (moves_of t p) (record { kind = step.0; to = q }) (moves_ok t ok p) step.1

module _ (read : ℕ → ℕ) (t : Machine) (ok : IsMachine t) where
  state_after : (steps : List Step) (p q : ℕ) → p < machine_states t → Follow read t p steps q → q < machine_states t
  state_after [] p q below here = subst (λ n. n < machine_states t) here below
  state_after (step ∷ rest) p q below follows = state_after rest step.to q (move_ok read t ok p step.to step.input step.output follows.0).leads follows.1

  -- only states are reached
  pub state_of_reach : (q : ℕ) (u v : List ℕ) → ReachR read t q u v → q < machine_states t
  state_of_reach q u v reach = state_after reach.0 t.start q ok.starts reach.1

-- ---- what words were mapped from

no_word : (f : ℕ → ℕ) (w : List ℕ) → [] ≡ map f w → w ≡ []
no_word f [] e = refl
no_word f (s ∷ w) e = absurd (omega (arith, ap length e))

one_symbol : (f : ℕ → ℕ) (w : List ℕ) (k : ℕ) → k ∷ [] ≡ map f w → (s : ℕ) × (w ≡ s ∷ []) × (f s ≡ k)
one_symbol f [] k e = absurd (omega (arith, ap length e))
one_symbol f (s ∷ []) k e = let same : k ≡ f s = cc in (s, refl, sym same)
one_symbol f (s ∷ t ∷ w) k e = absurd (omega (arith, ap length e))

-- what was mapped to a word in two parts has two parts too
split_word : (f : ℕ → ℕ) (x y w : List ℕ) → x ++ y ≡ map f w → (front : List ℕ) × (rest : List ℕ) × (w ≡ front ++ rest) × (x ≡ map f front) × (y ≡ map f rest)
split_word f [] y w e = ([], w, refl, refl, e)
split_word f (k ∷ x) y [] e = absurd (omega (arith, ap length e))
split_word f (k ∷ x) y (s ∷ w) e =
    let head : k ≡ f s = cc in
    let tail : x ++ y ≡ map f w = cc in
    let parts = split_word f x y w tail in
    (s ∷ parts.0, parts.1, ap (λ l. s ∷ l) parts.2, (λ i. head i ∷ parts.3 i), parts.4)

letter_below : (set : List Bool) (k : ℕ) → has set k ≡ true → k < length set
letter_below set k among = elim (cases_lt k (length set)) [ inl below ↦ below | inr past ↦ absurd (false≢true (sym (get_or_past set k false past) ∙ among)) ]

-- ---- from symbols to letters

module _ (read : ℕ → ℕ) where
  letter_of : (set : List Bool) (w : List ℕ) → IsSymbolOf read set w → IsSymbolOf (λ k. k) set (map read w)
  letter_of set w (s, among, e) = (read s, among, ap (λ l. map read l) e)

  does_letters : (kind : Kind) (input output : List ℕ) → Does read kind input output → Does (λ k. k) kind (map read input) (map read output)
  does_letters Silent input output does = (ap (λ l. map read l) does.0, ap (λ l. map read l) does.1)
  does_letters (In set) input output does = (letter_of set input does.0, ap (λ l. map read l) does.1)
  does_letters (Out set) input output does = (ap (λ l. map read l) does.0, letter_of set output does.1)
  does_letters (Same set) input output does = (letter_of set input does.0, ap (λ l. map read l) does.1)

  abbrev lettered : Step → Step
  lettered step = record { input = map read step.input; output = map read step.output; to = step.to }

  inputs_lettered : (steps : List Step) → inputs (map lettered steps) ≡ map read (inputs steps)
  inputs_lettered [] = refl
  inputs_lettered (step ∷ rest) = ap (λ l. map read step.input ++ l) (inputs_lettered rest) ∙ sym (map-append read step.input (inputs rest))

  outputs_lettered : (steps : List Step) → outputs (map lettered steps) ≡ map read (outputs steps)
  outputs_lettered [] = refl
  outputs_lettered (step ∷ rest) = ap (λ l. map read step.output ++ l) (outputs_lettered rest) ∙ sym (map-append read step.output (outputs rest))

  follow_lettered : (t : Machine) (steps : List Step) (p q : ℕ) → Follow read t p steps q → Follow (λ k. k) t p (map lettered steps) q
  follow_lettered t [] p q here = here
  follow_lettered t (step ∷ rest) p q follows =
      ((follows.0.0, follows.0.1, does_letters follows.0.0 step.input step.output follows.0.2), follow_lettered t rest step.to q follows.1)

  pub letters_reached : (t : Machine) (q : ℕ) (u v : List ℕ) → ReachR read t q u v → ReachR (λ k. k) t q (map read u) (map read v)
  letters_reached t q u v reach = (
    map lettered reach.0,
    follow_lettered t reach.0 t.start q reach.1,
    inputs_lettered reach.0 ∙ ap (λ w. map read w) reach.2,
    outputs_lettered reach.0 ∙ ap (λ w. map read w) reach.3,
  )

  -- ---- from letters to symbols

  -- some symbols with the letters that were read, and the symbols that are to be written
  abbrev Lifts : Kind → List ℕ → List ℕ → Type 0
  Lifts kind input written = (source : List ℕ) × (map read source ≡ input) × Does read kind source written

  does_symbols : (letters : ℕ) → Covers read letters → (kind : Kind) (input written : List ℕ) → IsSized letters kind → Does (λ k. k) kind input (map read written) → Lifts kind input written
  does_symbols letters covers Silent input written size does = ([], sym does.0, (refl, no_word read written (sym does.1)))
  does_symbols letters covers (In set) input written size does =
      let k = does.0.0 in
      let symbol = covers k (omega (arith, letter_below set k does.0.1, size)) in (
        symbol.0 ∷ [],
        ap (λ j. j ∷ []) symbol.1 ∙ sym does.0.2,
        ((symbol.0, subst (λ j. has set j ≡ true) (sym symbol.1) does.0.1, refl), no_word read written (sym does.1)),
      )
  does_symbols letters covers (Out set) input written size does =
      let symbol = one_symbol read written does.1.0 (sym does.1.2) in
      ([], sym does.0, (refl, (symbol.0, subst (λ j. has set j ≡ true) (sym symbol.2) does.1.1, symbol.1)))
  does_symbols letters covers (Same set) input written size does =
      let symbol = one_symbol read written does.0.0 (sym (does.1 ∙ does.0.2)) in
      (written, does.1, ((symbol.0, subst (λ j. has set j ≡ true) (sym symbol.2) does.0.1, symbol.1), refl))

  module _ (t : Machine) (ok : IsMachine t) (covers : Covers read t.letters) where
    -- moves on symbols with the letters that were read, which write v
    abbrev MovesOn : ℕ → ℕ → List ℕ → List ℕ → Type 0
    MovesOn p q letters v = (steps : List Step) × Follow read t p steps q × (map read (inputs steps) ≡ letters) × (outputs steps ≡ v)

    moves_on : (steps : List Step) (p q : ℕ) (v : List ℕ) → Follow (λ k. k) t p steps q → outputs steps ≡ map read v → MovesOn p q (inputs steps) v
    moves_on [] p q v here e = ([], here, refl, sym (no_word read v e))
    moves_on (step ∷ rest) p q v follows e =
        let kind = follows.0.0 in
        let parts = split_word read step.output (outputs rest) v e in
        let sized = (move_ok (λ k. k) t ok p step.to step.input step.output follows.0).sized in
        let made = does_symbols t.letters covers kind step.input parts.0 sized (subst (λ w. Does (λ k. k) kind step.input w) parts.3 follows.0.2) in
        let later = moves_on rest step.to q parts.1 follows.1 parts.4 in (
          record { input = made.0; output = parts.0; to = step.to } ∷ later.0,
          ((kind, follows.0.1, made.2), later.1),
          map-append read made.0 (inputs later.0) ∙ (λ i. made.1 i ++ later.2 i),
          ap (λ w. parts.0 ++ w) later.3 ∙ sym parts.2,
        )

    pub symbols_reached : (q : ℕ) (letters v : List ℕ) → ReachR (λ k. k) t q letters (map read v) → (u : List ℕ) × (map read u ≡ letters) × ReachR read t q u v
    symbols_reached q letters v reach =
        let found = moves_on reach.0 t.start q v reach.1 reach.3 in
        (inputs found.0, found.2 ∙ reach.2, (found.0, found.1, refl, found.3))
