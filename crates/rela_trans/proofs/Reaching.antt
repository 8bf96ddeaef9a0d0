-- What a transducer reaches is the least relation that the start begins and that moves carry on.
use Rattle.std.proofs.Common.{◌≡◌, ℕ, List, [], ◌∷◌, ◌++◌, refl, sym, ap, ◌∙◌, subst, append_assoc}
use Rattle.std.proofs.lemmas.List.{append-nil}
use Rattle.rela_trans.specs.Machine.{Machine}
use Rattle.rela_trans.specs.Runs.{Step, HasStep, Follow, inputs, outputs, ReachR}

-- what holds of a pair of words holds of the same pair written otherwise
pub subst_pair : (P : List ℕ → List ℕ → Type 0) {u x v y : List ℕ} → u ≡ x → v ≡ y → P u v → P x y
subst_pair P {u} {x} {v} {y} e f holds = subst (λ w. P w y) e (subst (λ w. P u w) f holds)

inputs_push : (steps : List Step) (step : Step) → inputs (steps ++ step ∷ []) ≡ inputs steps ++ step.input
inputs_push [] step = append-nil step.input
inputs_push (first ∷ rest) step = ap (λ l. first.input ++ l) (inputs_push rest step) ∙ sym (append_assoc first.input (inputs rest) step.input)

outputs_push : (steps : List Step) (step : Step) → outputs (steps ++ step ∷ []) ≡ outputs steps ++ step.output
outputs_push [] step = append-nil step.output
outputs_push (first ∷ rest) step = ap (λ l. first.output ++ l) (outputs_push rest step) ∙ sym (append_assoc first.output (outputs rest) step.output)

module _ (read : ℕ → ℕ) (t : Machine) where
  follow_push : (x p q : ℕ) (input output : List ℕ) (steps : List Step) → Follow read t x steps p → HasStep read t p input output q
      → Follow read t x (steps ++ record { input = input; output = output; to = q } ∷ []) q
  follow_push x p q input output [] here step = (subst (λ n. HasStep read t n input output q) (sym here) step, refl)
  follow_push x p q input output (first ∷ rest) follows step = (follows.0, follow_push first.to p q input output rest follows.1 step)

  -- the empty words reach the start
  pub reach_start : ReachR read t t.start [] []
  reach_start = ([], refl, refl, refl)

  -- a move leads on
  pub reach_step : (p q : ℕ) (u v input output : List ℕ) → ReachR read t p u v → HasStep read t p input output q → ReachR read t q (u ++ input) (v ++ output)
  reach_step p q u v input output reach step =
      let next : Step = record { input = input; output = output; to = q } in (
        reach.0 ++ next ∷ [],
        follow_push t.start p q input output reach.0 reach.1 step,
        inputs_push reach.0 next ∙ ap (λ w. w ++ input) reach.2,
        outputs_push reach.0 next ∙ ap (λ w. w ++ output) reach.3,
      )

  -- a silent move leads on by the same words
  pub reach_silent : (p q : ℕ) (u v : List ℕ) → ReachR read t p u v → HasStep read t p [] [] q → ReachR read t q u v
  reach_silent p q u v reach step = subst_pair (ReachR read t q) (append-nil u) (append-nil v) (reach_step p q u v [] [] reach step)

-- P holds of the state and what was read and written, and each move keeps it
abbrev pub KeptBy : (ℕ → ℕ) → Machine → (ℕ → List ℕ → List ℕ → Type 0) → Type 0
KeptBy read t P =
    (p q : ℕ) (u v input output : List ℕ) → ReachR read t p u v → P p u v → HasStep read t p input output q → P q (u ++ input) (v ++ output)

module _ (read : ℕ → ℕ) (t : Machine) (P : ℕ → List ℕ → List ℕ → Type 0) (kept : KeptBy read t P) where
  follow_each : (steps : List Step) (p q : ℕ) (u v : List ℕ) → ReachR read t p u v → P p u v → Follow read t p steps q → P q (u ++ inputs steps) (v ++ outputs steps)
  follow_each [] p q u v reach holds here = subst (λ n. P n (u ++ []) (v ++ [])) here (subst_pair (P p) (sym (append-nil u)) (sym (append-nil v)) holds)
  follow_each (first ∷ rest) p q u v reach holds follows =
      subst_pair (P q) (append_assoc u first.input (inputs rest)) (append_assoc v first.output (outputs rest))
      (follow_each rest first.to q (u ++ first.input) (v ++ first.output) (reach_step read t p first.to u v first.input first.output reach follows.0)
      (kept p first.to u v first.input first.output reach holds follows.0) follows.1)

  -- what holds at the start and is kept by each move holds of all that is reached
  pub reach_each : P t.start [] [] → (q : ℕ) (u v : List ℕ) → ReachR read t q u v → P q u v
  reach_each starts q u v reach = subst_pair (P q) reach.2 reach.3 (follow_each reach.0 t.start q [] [] (reach_start read t) starts reach.1)

-- the moves of one transducer are moves of another, with the states renamed
abbrev pub Renames : (ℕ → ℕ) → (ℕ → ℕ) → Machine → Machine → Type 0
Renames read to a b = (p q : ℕ) (input output : List ℕ) → HasStep read a p input output q → HasStep read b (to p) input output (to q)

-- so what is reached here is reached there, after what reaches the start
pub reach_renamed : (read : ℕ → ℕ) (a b : Machine) (to : ℕ → ℕ) → Renames read to a b → (x y : List ℕ) → ReachR read b (to a.start) x y
    → (q : ℕ) (u v : List ℕ) → ReachR read a q u v → ReachR read b (to q) (x ++ u) (y ++ v)
reach_renamed read a b to renames x y starts =
    reach_each read a (λ q u v. ReachR read b (to q) (x ++ u) (y ++ v))
    (λ p q u v input output reach there step. subst_pair (ReachR read b (to q)) (append_assoc x u input) (append_assoc y v output)
    (reach_step read b (to p) (to q) (x ++ u) (y ++ v) input output there (renames p q input output step)))
    (subst_pair (ReachR read b (to a.start)) (sym (append-nil x)) (sym (append-nil y)) starts)
