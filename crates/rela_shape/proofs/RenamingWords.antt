-- What a transducer relates is still related where the symbols are renamed and each is read as before.
use Rattle.std.proofs.Common.{◌≡◌, ◌∙◌, ℕ, Bool, List, [], ◌∷◌, ◌++◌, map, refl, sym, ap}
use Rattle.std.proofs.lemmas.List.{map-append}
use Rattle.rela_labels.specs.Letters.{has}
use Rattle.rela_trans.specs.Machine.{Machine, Kind}
use Rattle.rela_trans.specs.Runs.{IsSymbolOf, Does, Step, HasStep, Follow, inputs, outputs, Relates}
use Rattle.rela_trans.specs.declared.moves.MoveKind.TheVariants.{Silent, In, Out, Same}

module _ (read to : ℕ → ℕ) (keeps : (s : ℕ) → read (to s) ≡ read s) where
  symbol_renamed : (set : List Bool) (word : List ℕ) → IsSymbolOf read set word → IsSymbolOf read set (map to word)
  symbol_renamed set word (s, among, is) = (to s, ap (has set) (keeps s) ∙ among, ap (map to) is)

  done_renamed : (kind : Kind) (input output : List ℕ) → Does read kind input output → Does read kind (map to input) (map to output)
  done_renamed Silent input output does = (ap (map to) does.0, ap (map to) does.1)
  done_renamed (In set) input output does = (symbol_renamed set input does.0, ap (map to) does.1)
  done_renamed (Out set) input output does = (ap (map to) does.0, symbol_renamed set output does.1)
  done_renamed (Same set) input output does = (symbol_renamed set input does.0, ap (map to) does.1)

  -- the step with what was read and what was written renamed
  abbrev renamed_step : Step → Step
  renamed_step step = record { input = map to step.input; output = map to step.output; to = step.to }

  inputs_renamed : (steps : List Step) → inputs (map renamed_step steps) ≡ map to (inputs steps)
  inputs_renamed [] = refl
  inputs_renamed (step ∷ rest) =
      ap (λ (l : List ℕ). map to step.input ++ l) (inputs_renamed rest) ∙ sym (map-append to step.input (inputs rest))

  outputs_renamed : (steps : List Step) → outputs (map renamed_step steps) ≡ map to (outputs steps)
  outputs_renamed [] = refl
  outputs_renamed (step ∷ rest) =
      ap (λ (l : List ℕ). map to step.output ++ l) (outputs_renamed rest) ∙ sym (map-append to step.output (outputs rest))

  module _ (t : Machine) where
    step_renamed : (p q : ℕ) (input output : List ℕ) → HasStep read t p input output q → HasStep read t p (map to input) (map to output) q
    step_renamed p q input output (kind, among, does) = (kind, among, done_renamed kind input output does)

    follow_renamed : (p q : ℕ) (steps : List Step) → Follow read t p steps q → Follow read t p (map renamed_step steps) q
    follow_renamed p q [] follows = follows
    follow_renamed p q (step ∷ rest) follows =
        (step_renamed p step.to step.input step.output follows.0, follow_renamed step.to q rest follows.1)

    pub related_there : (u v : List ℕ) → Relates read t u v → Relates read t (map to u) (map to v)
    related_there u v (q, (steps, follows, reads, writes), final) = (
      q,
      (
        map renamed_step steps,
        follow_renamed t.start q steps follows,
        inputs_renamed steps ∙ ap (map to) reads,
        outputs_renamed steps ∙ ap (map to) writes,
      ),
      final,
    )
