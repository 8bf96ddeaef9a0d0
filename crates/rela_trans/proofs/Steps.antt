-- Steps by the moves of a list.
use Rattle.std.proofs.Common.{◌≡◌, ℕ, ◌+◌, ◌⊎◌, Bool, List, [], ◌++◌, map, refl, sym, ap, subst, inl, inr}
use Rattle.std.specs.List.{Contains}
use Rattle.std.proofs.lemmas.List.Elements.{Contains-append_left, Contains-append_right, Contains-append_cases}
use Rattle.rela_trans.specs.Machine.{Kind}
use Rattle.rela_trans.specs.Runs.{Does, StepIn}
use Rattle.rela_trans.specs.Construction.{shifted, silent}
use Rattle.rela_trans.specs.declared.moves.Move.{Move}
use Rattle.rela_trans.specs.declared.moves.MoveKind.TheVariants.{Silent}
use Rattle.rela_trans.proofs.ListLaws.{Contains-nil, Contains-map, Contains-map_back}

module _ (read : ℕ → ℕ) (input output : List ℕ) (q : ℕ) where
  module _ (xs ys : List (Move (List Bool))) where
    pub step_left : StepIn read xs input output q → StepIn read (xs ++ ys) input output q
    step_left step = (step.0, Contains-append_left xs ys _ step.1, step.2)

    pub step_right : StepIn read ys input output q → StepIn read (xs ++ ys) input output q
    step_right step = (step.0, Contains-append_right xs ys _ step.1, step.2)

    pub step_cases : StepIn read (xs ++ ys) input output q → StepIn read xs input output q ⊎ StepIn read ys input output q
    step_cases step = elim (Contains-append_cases xs ys _ step.1) [ inl left ↦ inl (step.0, left, step.2) | inr right ↦ inr (step.0, right, step.2) ]

  pub no_step : StepIn read [] input output q → ⊥
  no_step step = Contains-nil _ step.1

  -- a step by a list of silent moves
  pub silent_step_only : (ends : List ℕ) → StepIn read (map silent ends) input output q → (input ≡ []) × (output ≡ []) × Contains ends q
  silent_step_only ends step =
      let found = Contains-map_back silent ends _ step.1 in
      let kind : step.0 ≡ Silent = sym (ap (λ (m : Move (List Bool)). m.kind) found.1) in
      let does = subst (λ (k : Kind). Does read k input output) kind step.2 in
      (does.0, does.1, subst (λ n. Contains ends n) (ap (λ (m : Move (List Bool)). m.to) found.1) found.2)

  module _ (by : ℕ) (moves : List (Move (List Bool))) where
    pub shifted_step : StepIn read moves input output q → StepIn read (map (shifted by) moves) input output (by + q)
    shifted_step step = (step.0, Contains-map (shifted by) moves _ step.1, step.2)

    pub shifted_step_back : StepIn read (map (shifted by) moves) input output q → (p : ℕ) × (by + p ≡ q) × StepIn read moves input output p
    shifted_step_back step =
        let found = Contains-map_back (shifted by) moves _ step.1 in (
          found.0.to,
          ap (λ (m : Move (List Bool)). m.to) found.1,
          (found.0.kind, found.2, subst (λ (k : Kind). Does read k input output) (sym (ap (λ (m : Move (List Bool)). m.kind) found.1)) step.2),
        )

pub silent_step : (read : ℕ → ℕ) (ends : List ℕ) (q : ℕ) → Contains ends q → StepIn read (map silent ends) [] [] q
silent_step read ends q among = (Silent, Contains-map silent ends q among, (refl, refl))
