-- Edges whose labels have a letter, and the states to which letters and words lead.
use Rattle.std.proofs.Common.{◌≡◌, ℕ, zero, suc, ◌+◌, ◌<◌, ◌≤◌, Bool, true, false, cond, List, [], ◌∷◌, length, get_or, Option, None, Some, refl, sym, ap, ◌∙◌, inl, inr, arith}
use Rattle.std.specs.List.{All, Contains, count_by}
use Rattle.std.specs.Option.{option_map_or, unwrap_or}
use Rattle.std.proofs.lemmas.Bool.{cases_Bool, false≢true}
use Rattle.std.proofs.lemmas.List.Elements.{All-contains, All-get_or, All-head, All-tail}
use Rattle.std.proofs.lemmas.List.Sums.{get_or-le-sum_by, sum_by-cons}
use Rattle.rela_labels.specs.Letters.{has}
use Rattle.rela_nfa.specs.Automaton.{IsMove, Move}
use Rattle.rela_subset.specs.Deterministic.{Deterministic, IsDeterministic, IsOver, IsSplit, led_from, moves_of, next, states, takes, target}

abbrev takes_one : ℕ → Move → ℕ
takes_one k move = cond (takes k move) 1 0

label_with : (k : ℕ) (label : Option (List Bool)) → option_map_or (λ set. has set k) label false ≡ true → (set : List Bool) × (label ≡ Some set) × (has set k ≡ true)
label_with k None taken = absurd (false≢true taken)
label_with k (Some set) taken = (set, refl, taken)

-- an edge leads to the target whose label has the letter
pub target_step : (moves : List Move) (k t : ℕ) → target moves k ≡ Some t → (set : List Bool) × Contains moves (record { label = Some set; to = t }) × (has set k ≡ true)
target_step [] k t is = let never : None ≡ Some t = is in absurd (cc)
target_step (move ∷ others) k t is = elim (cases_Bool (takes k move)) [
  | inl yes' ↦
      let (set, label, inside) = label_with k move.label yes' in
      let at : Some move.to ≡ Some t = sym (ap (λ b. cond b (Some move.to) (target others k)) yes') ∙ is in
      let to : move.to ≡ t = cc in (
        set,
        (0, omega arith, ap (λ l. let m : Move = record { label = l; to = move.to } in m) label ∙ ap (λ n. let m : Move = record { label = Some set; to = n } in m) to),
        inside,
      )
  | inr no' ↦
      let (set, (i, below, at), inside) = target_step others k t (sym (ap (λ b. cond b (Some move.to) (target others k)) no') ∙ is) in
      (set, (suc i, omega (arith, below), at), inside)
]

-- where one edge at most takes the letter, it leads to the target
pub step_target : (moves : List Move) (k : ℕ) (set : List Bool) (t : ℕ) → count_by (takes k) moves ≤ 1 → Contains moves (record { label = Some set; to = t }) → has set k ≡ true → target moves k ≡ Some t
step_target [] k set t one (i, below, at) inside = absurd (omega (arith, below))
step_target (move ∷ others) k set t one (zero, below, at) inside =
    ap (λ (m : Move). target (m ∷ others) k) at ∙ ap (λ b. cond b (Some t) (target others k)) inside
step_target (move ∷ others) k set t one (suc i, below, at) inside =
    let edge : Move = record { label = Some set; to = t } in
    let later : i < length others = omega (arith, below) in
    let taken : takes_one k (get_or others i edge) ≡ 1 = ap (takes_one k) at ∙ ap (λ b. cond b 1 0) inside in
    let counted : takes_one k (get_or others i edge) ≤ count_by (takes k) others = get_or-le-sum_by (takes_one k) others i edge later in
    let both : count_by (takes k) (move ∷ others) ≡ takes_one k move + count_by (takes k) others = sum_by-cons (takes_one k) move others in
    elim (cases_Bool (takes k move)) [
      | inl yes' ↦ let here : takes_one k move ≡ 1 = ap (λ b. cond b 1 0) yes' in absurd (omega (arith, one, taken, counted, both, here))
      | inr no' ↦
          ap (λ b. cond b (Some move.to) (target others k)) no'
          ∙ step_target others k set t (omega (arith, one, both)) (i, later, at) inside
    ]

some_target : (moves : List Move) (k : ℕ) → 1 ≤ count_by (takes k) moves → (t : ℕ) × (target moves k ≡ Some t)
some_target [] k counted = absurd (omega (arith, counted))
some_target (move ∷ others) k counted =
    let both : count_by (takes k) (move ∷ others) ≡ takes_one k move + count_by (takes k) others = sum_by-cons (takes_one k) move others in
    elim (cases_Bool (takes k move)) [
      | inl yes' ↦ (move.to, ap (λ b. cond b (Some move.to) (target others k)) yes')
      | inr no' ↦
          let none : takes_one k move ≡ 0 = ap (λ b. cond b 1 0) no' in
          let (t, is) = some_target others k (omega (arith, counted, both, none)) in
          (t, ap (λ b. cond b (Some move.to) (target others k)) no' ∙ is)
    ]

module _ (d : Deterministic) (ok : IsDeterministic d) where
  pub moves_at : (q : ℕ) → q < states d → All (IsMove (length d.over) (states d)) (moves_of d q)
  moves_at q below = All-get_or (All (IsMove (length d.over) (states d))) d.edges q [] (let each = ok.automaton.each in omega arith) ok.automaton.moves

  pub split_at : (q : ℕ) → q < states d → IsSplit d.over (moves_of d q)
  split_at q below = All-get_or (IsSplit d.over) d.edges q [] (let each = ok.automaton.each in omega arith) ok.split

  -- a letter that is read has a target, which is a state
  pub target_at : (q k : ℕ) → q < states d → has d.over k ≡ true → target (moves_of d q) k ≡ Some (next d q k)
  target_at q k below over =
      let one : count_by (takes k) (moves_of d q) ≡ 1 = split_at q below k ∙ ap (λ b. cond b 1 0) over in
      let (t, is) = some_target (moves_of d q) k (omega (arith, one)) in
      is ∙ ap Some (sym (ap (λ o. unwrap_or o 0) is))

  pub next_within : (q k : ℕ) → q < states d → has d.over k ≡ true → next d q k < states d
  next_within q k below over =
      let (set, among, inside) = target_step (moves_of d q) k (next d q k) (target_at q k below over) in
      (All-contains (IsMove (length d.over) (states d)) (moves_of d q) (record { label = Some set; to = next d q k }) (moves_at q below) among).leads

  -- and so does a word
  pub led_within : (word : List ℕ) (p : ℕ) → p < states d → IsOver d.over word → led_from d p word < states d
  led_within [] p below over = below
  led_within (k ∷ rest) p below over =
      led_within rest (next d p k) (next_within p k below (All-head (λ j. has d.over j ≡ true) k rest over)) (All-tail (λ j. has d.over j ≡ true) k rest over)
