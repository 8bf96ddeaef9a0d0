-- An edge that is put among others, or joined to one of them.
use Rattle.std.proofs.Common.{◌≡◌, ℕ, zero, suc, ◌+◌, ◌<◌, Bool, true, false, cond, ◌||◌, List, [], ◌∷◌, ◌++◌, length, get_or, set, None, Some, refl, sym, ap, ◌∙◌, subst, inl, inr, arith}
use Rattle.std.specs.List.{All, Contains, count_by}
use Rattle.std.specs.Option.{IsSome}
use Rattle.std.proofs.lemmas.Bool.{cases_Bool}
use Rattle.std.proofs.lemmas.List.{get_or-set_same, length-set}
use Rattle.std.proofs.lemmas.List.Elements.{All-push, All-set, Contains-push}
use Rattle.std.proofs.lemmas.List.Sums.{sum_by-set, sum_by_push, get_or-le-sum_by}
use Rattle.rela_labels.specs.Letters.{has}
use Rattle.rela_nfa.specs.Automaton.{Move, IsMove}
use Rattle.rela_subset.specs.Deterministic.{takes, target}
use Rattle.rela_subset.specs.Expansion.{AreLabelled, IsPutIn}
use Rattle.rela_subset.proofs.Targets.{step_target}

-- the edge with this label and end
abbrev pub edge_of : List Bool → ℕ → Move
edge_of label to = record { label = Some label; to = to }

abbrev takes_one : ℕ → Move → ℕ
takes_one k move = cond (takes k move) 1 0

abbrev pub digit : Bool → ℕ
digit b = cond b 1 0

target_push : (moves : List Move) (move : Move) (k : ℕ) → takes k move ≡ false → target (moves ++ move ∷ []) k ≡ target moves k
target_push [] move k not_taken = ap (λ b. cond b (Some move.to) None) not_taken
target_push (first ∷ others) move k not_taken = ap (λ t. cond (takes k first) (Some first.to) t) (target_push others move k not_taken)

target_set : (moves : List Move) (i : ℕ) (move : Move) (k : ℕ) → takes k move ≡ takes k (get_or moves i move) → move.to ≡ (get_or moves i move).to → target (set moves i move) k ≡ target moves k
target_set [] i move k same at = refl
target_set (first ∷ others) zero move k same at =
    ap (λ b. cond b (Some move.to) (target others k)) same ∙ ap (λ to. cond (takes k first) (Some to) (target others k)) at
target_set (first ∷ others) (suc i) move k same at = ap (λ t. cond (takes k first) (Some first.to) t) (target_set others i move k same at)

or_false : (a b : Bool) → b ≡ false → (a || b) ≡ a
or_false true b e = refl
or_false false b e = e

or_true : (a b : Bool) → b ≡ true → (a || b) ≡ true
or_true true b e = refl
or_true false b e = e

module _ (label : List Bool) (to : ℕ) (old new : List Move) (put : IsPutIn label to old new) where
  -- letters of the label that no edge took are taken by one
  pub put_count : (k : ℕ) → (has label k ≡ true → count_by (takes k) old ≡ 0) → count_by (takes k) new ≡ count_by (takes k) old + digit (has label k)
  put_count k free = elim put [
    | inl pushed ↦ ap (count_by (takes k)) pushed ∙ sum_by_push (takes_one k) old (edge_of label to)
    | inr joined ↦
        let i = joined.0 in let both = joined.1 in let below = joined.2 in
        let move = edge_of both to in
        let before : Move = get_or old i move in
        let sums : count_by (takes k) (set old i move) + takes_one k before ≡ count_by (takes k) old + takes_one k move = sum_by-set (takes_one k) old i move move below in
        let either : takes k move ≡ (takes k before || has label k) = joined.6 k move in
        let at : count_by (takes k) new ≡ count_by (takes k) (set old i move) = ap (count_by (takes k)) joined.3 in
        elim (cases_Bool (has label k)) [
          | inl yes' ↦
              let none = free yes' in
              let least = get_or-le-sum_by (takes_one k) old i move below in
              let one : takes_one k move ≡ 1 = ap (λ b. cond b 1 0) (either ∙ or_true (takes k before) (has label k) yes') in
              let new_one : digit (has label k) ≡ 1 = ap (λ b. cond b 1 0) yes' in
              omega (arith, sums, at, none, least, one, new_one)
          | inr no' ↦
              let same : takes_one k move ≡ takes_one k before = ap (λ b. cond b 1 0) (either ∙ or_false (takes k before) (has label k) no') in
              let zero' : digit (has label k) ≡ 0 = ap (λ b. cond b 1 0) no' in
              omega (arith, sums, at, same, zero')
        ]
  ]

  -- they lead to the end
  pub put_target : (k : ℕ) → has label k ≡ true → count_by (takes k) old ≡ 0 → target new k ≡ Some to
  put_target k yes' none =
      let counted = put_count k (λ _. none) in
      let one : digit (has label k) ≡ 1 = ap (λ b. cond b 1 0) yes' in
      step_target new k to (omega (arith, counted, one, none)) (elim put [
        | inl pushed ↦ (label, subst (λ l. Contains l (edge_of label to)) (sym pushed) (Contains-push old (edge_of label to)), yes')
        | inr joined ↦
            let i = joined.0 in let both = joined.1 in
            let move = edge_of both to in
            let there : Contains (set old i move) move = (i, omega (arith, joined.2, length-set old i move), get_or-set_same old i move move joined.2) in
            (both, subst (λ l. Contains l move) (sym joined.3) there, joined.6 k move ∙ or_true (takes k (get_or old i move)) (has label k) yes')
      ])

  -- and other letters where they led
  pub put_target_old : (k : ℕ) → has label k ≡ false → target new k ≡ target old k
  put_target_old k no' = elim put [
    | inl pushed ↦ ap (λ l. target l k) pushed ∙ target_push old (edge_of label to) k no'
    | inr joined ↦
        let i = joined.0 in let move = edge_of joined.1 to in
        ap (λ l. target l k) joined.3 ∙ target_set old i move k (joined.6 k move ∙ or_false (takes k (get_or old i move)) (has label k) no') (sym (joined.4 move))
  ]

  pub put_labelled : (size n : ℕ) → length label ≡ size → to < n → AreLabelled size n old → AreLabelled size n new
  put_labelled size n len below are =
      let is_move = λ (both : List Bool) (same : length both ≡ size). let made : IsMove size n (edge_of both to) = record { sized = λ x e. subst (λ s. length s ≡ size) (same_label both x e) same; leads = below } in made in
      elim put [
        | inl pushed ↦ record {
          sized = subst (All (IsMove size n)) (sym pushed) (All-push (IsMove size n) old (edge_of label to) are.sized (is_move label len));
          labelled = subst (All (λ move. IsSome move.label)) (sym pushed) (All-push (λ (move : Move). IsSome move.label) old (edge_of label to) are.labelled refl);
        }
        | inr joined ↦
            let i = joined.0 in let move = edge_of joined.1 to in record {
              sized = subst (All (IsMove size n)) (sym joined.3) (All-set (IsMove size n) old i move (is_move joined.1 (joined.5 ∙ len)) are.sized);
              labelled = subst (All (λ move. IsSome move.label)) (sym joined.3) (All-set (λ (m : Move). IsSome m.label) old i move refl are.labelled);
            }
      ]
    where
      same_label : (both x : List Bool) → Some both ≡ Some x → both ≡ x
      same_label both x e = cc
