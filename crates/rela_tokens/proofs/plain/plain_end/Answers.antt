use Rattle.std.proofs.Common.{refl, sym, ap, ◌∙◌, arith}
use lib.Count.{count_trailing_zeros}
use Rattle.json.specs.Run.{is_plain, is_stop}
use Rattle.rela_tokens.proofs.PlainRuns.{run_bound, run_stops, run_through}
use Rattle.rela_tokens.proofs.plain.plain_end.Goals as goal

pub returns-then-found-ne0-clause-end : goal.returns-then-found-ne0-clause-end
returns-then-found-ne0-clause-end c =
    let found = c.stops-found in
    let run = run_stops is_stop is_plain (λ x. refl) c.args.text.now c.vectors.end 16 (omega arith) (omega arith) (omega (arith, found.ensures)) ∙ ap (count_trailing_zeros 64) (sym found.ensures) in
    omega (arith, run, c.vectors.invariant.same)

pub returns-then-found-ne0-clause-within : goal.returns-then-found-ne0-clause-within
returns-then-found-ne0-clause-within c =
    let found = c.stops-found in
    let run = run_stops is_stop is_plain (λ x. refl) c.args.text.now c.vectors.end 16 (omega arith) (omega arith) (omega (arith, found.ensures)) ∙ ap (count_trailing_zeros 64) (sym found.ensures) in
    omega (arith, run, run_bound is_plain c.args.text.now c.vectors.end c.vectors.invariant.within)

pub vectors-preserved : goal.vectors-preserved
vectors-preserved c =
    let run = run_through is_stop is_plain (λ x. refl) c.args.text.now c.vectors.end 16 (omega arith) (omega (arith, c.stops-found.ensures)) in
    record { same = omega (arith, run, c.vectors.invariant.same); within = omega arith }
