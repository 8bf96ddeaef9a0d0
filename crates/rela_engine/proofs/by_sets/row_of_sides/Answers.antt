use Rattle.std.proofs.Common.{◌+◌, ◌∙◌, ℕ, Bool, inl, inr, refl, sym, subst}
use Rattle.std.proofs.lemmas.Result.{err_from_is_err_and}
use Rattle.rela_compare.specs.Comparison.{ReachPairsBefore}
use Rattle.rela_nfa.specs.Runs.{Accepts}
use Rattle.rela_translate.specs.Verdict.{Offends}
use Rattle.rela_engine.proofs.by_sets.row_of_sides.Goals as goal

pub first_offence-requires : goal.first_offence-requires
first_offence-requires g c = c.requires.before.of_image ∙ sym c.requires.after.of_image

pub row_of_offence-requires-clause-offends : goal.row_of_offence-requires-clause-offends
row_of_offence-requires-clause-offends g c = rw c.in-Some.is at c.in_ok-first_offence.ensures.side

pub returns-in-None-clause-row : goal.returns-in-None-clause-row
returns-in-None-clause-row g c =
    inl (refl, rw c.at_most-at_most.ensures at (rw c.in-None.is at c.in_ok-first_offence.ensures.none))

pub returns-in_ok-row_of_offence-in-Some-clause-row : goal.returns-in_ok-row_of_offence-in-Some-clause-row
returns-in_ok-row_of_offence-in-Some-clause-row g c =
    inr (record {
      letters = c.in-Some.offence.letters;
      of = c.in-Some.offence.side;
      first = rw c.at_most-at_most.ensures at (rw c.in-Some.is at c.in_ok-first_offence.ensures.first);
      accepted = rw c.in-Some.is at c.in_ok-first_offence.ensures.side;
      told = c.in_ok-row_of_offence-in-Some.ensures;
    })

pub returns-in_err-first_offence-clause-limit : goal.returns-in_err-first_offence-clause-limit
returns-in_err-first_offence-clause-limit g c =
    let k = c.args.compiled.now in
    let a = c.args.before.now.image in
    let b = c.args.after.now.image in
    let p = err_from_is_err_and c.from_residual.result c.from_residual.ensures.1 in
    rw (p.1, p.2)
    (λ is.
    subst (λ (n : ℕ). ReachPairsBefore a b (Offends k.check.at_most (Accepts a) (Accepts b)) (n + 1)) c.states-states.ensures.states
    (subst (λ (q : Bool). ReachPairsBefore a b (Offends q (Accepts a) (Accepts b)) (c.states-states.result + 1)) c.at_most-at_most.ensures
    (c.in_err-first_offence.ensures.limit is)))

pub returns-in_err-row_of_offence-in-Some-clause-limit : goal.returns-in_err-row_of_offence-in-Some-clause-limit
returns-in_err-row_of_offence-in-Some-clause-limit g c =
    let p = err_from_is_err_and c.from_residual-in_err-row_of_offence-in-Some.result c.from_residual-in_err-row_of_offence-in-Some.ensures.1 in
    rw (p.1, p.2) (λ is. absurd cc)
