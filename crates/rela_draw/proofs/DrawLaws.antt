-- What is drawn of tables, or what there is too much of.
use Rattle.std.proofs.Common.{◌≡◌, ℕ, true, List, Result, Ok, Err, refl, sym, subst}
use Rattle.rela_fib.specs.Loading.{LoadsAs}
use Rattle.rela_fib.specs.Snapshot.{IsSnapshotOf, IsTooLong, IsTooMany}
use Rattle.rela_fib.specs.declared.error.FibError.{FibError}
use Rattle.rela_fib.specs.declared.error.FibError.TheVariants as fib
use Rattle.rela_locations.specs.Network.{Network}
use Rattle.rela_tables.specs.Forwarding.{Forwarding}
use Rattle.rela_inputs.specs.Answer.{Answer}
use Rattle.rela_draw.specs.Draws.{IsDrawnAs, drawing_of, IsDrawing, SameDrawings}
use Rattle.rela_inputs.specs.Given.{Agrees, IsRead}
use Rattle.rela_inputs.specs.Halts.{fib_halt}
use Rattle.rela_inputs.specs.declared.reading.Halt.{Halt}
use Rattle.rela_inputs.specs.declared.refusal.Input.TheVariants.{Tables}
use Rattle.rela_inputs.specs.declared.refusal.Reason.TheVariants.{Snapshot}
use Rattle.rela_inputs.specs.declared.refusal.Refusal.{Refusal}

abbrev answer : List ℕ → Answer
answer text = record { text = text; status = 0 }

abbrev too : FibError → Refusal
too e = record { input = Tables; reason = Snapshot e }

module _ (network : Network) (tables other : Forwarding) where
  text_alone : (text : List ℕ) (y : Result (List ℕ) FibError) (x : Result Answer Refusal) → IsDrawnAs network tables other (Ok text) → IsDrawnAs network tables other y → x ≡ drawing_of y
      → Agrees true SameDrawings (Ok (answer text)) x
  text_alone text (Ok drawn) x is drawing same = subst (λ (r : Result Answer Refusal). Agrees true SameDrawings (Ok (answer text)) r) (sym same) refl
  text_alone text (Err fib.TooMany) x is drawing same = absurd (is.2 drawing)
  text_alone text (Err fib.TooLong) x is drawing same = absurd (is.3 drawing.0)
  text_alone text (Err fib.Memory) x is drawing same = absurd drawing

  pub drawn : (text : List ℕ) → IsSnapshotOf network tables other text → LoadsAs network tables other text → ¬ IsTooMany network tables other → ¬ IsTooLong network tables other
      → IsRead SameDrawings (IsDrawing network tables other) (Ok (answer text))
  unfolding IsDrawing
  drawn text is loads few short = record {
    given = record {
      told_by = (Ok text, (is, loads, few, short), refl);
      alone = λ t x steps. text_alone text steps.0 x (is, loads, few, short) steps.1 steps.2;
    };
    halts = tt;
  }

  many_alone : (y : Result (List ℕ) FibError) (x : Result Answer Refusal) → IsTooMany network tables other → IsDrawnAs network tables other y → x ≡ drawing_of y → x ≡ Err (too fib.TooMany)
  many_alone (Ok text) x many drawing same = absurd (drawing.2 many)
  many_alone (Err fib.TooMany) x many drawing same = same
  many_alone (Err fib.TooLong) x many drawing same = absurd (drawing.1 many)
  many_alone (Err fib.Memory) x many drawing same = absurd drawing

  long_alone : (y : Result (List ℕ) FibError) (x : Result Answer Refusal) → IsTooLong network tables other → ¬ IsTooMany network tables other → IsDrawnAs network tables other y → x ≡ drawing_of y
      → x ≡ Err (too fib.TooLong)
  long_alone (Ok text) x long few drawing same = absurd (drawing.3 long)
  long_alone (Err fib.TooMany) x long few drawing same = absurd (few drawing)
  long_alone (Err fib.TooLong) x long few drawing same = same
  long_alone (Err fib.Memory) x long few drawing same = absurd drawing

  pub too_large : (e : FibError) (halt : Halt) → halt ≡ fib_halt e → (e ≡ fib.TooMany → IsTooMany network tables other) → (e ≡ fib.TooLong → IsTooLong network tables other)
      → (e ≡ fib.TooLong → ¬ IsTooMany network tables other) → IsRead SameDrawings (IsDrawing network tables other) (Err halt)
  unfolding IsDrawing
  too_large fib.TooMany halt is many long few = rw is (record {
    given = record {
      told_by = (Err fib.TooMany, many refl, refl);
      alone = λ t x steps. rw (many_alone steps.0 x (many refl) steps.1 steps.2) refl;
    };
    halts = refl;
  })
  too_large fib.TooLong halt is many long few = rw is (record {
    given = record {
      told_by = (Err fib.TooLong, (long refl, few refl), refl);
      alone = λ t x steps. rw (long_alone steps.0 x (long refl) (few refl) steps.1 steps.2) refl;
    };
    halts = refl;
  })
  too_large fib.Memory halt is many long few = rw is (record { given = record { told_by = tt; alone = λ t x steps. tt }; halts = tt })
