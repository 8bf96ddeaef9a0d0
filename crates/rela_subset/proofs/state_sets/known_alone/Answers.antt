use Rattle.std.proofs.Common.{sym, ◌∙◌}
use Rattle.rela_subset.proofs.SetsFound.{read_at}
use Rattle.rela_subset.proofs.state_sets.known_alone.Goals as goal

pub returns-then-eq-clause-at : goal.returns-then-eq-clause-at
returns-then-eq-clause-at c =
    read_at c.args.sets.now c.in_ok-number.number c.in_ok-known.known.now c.as_slice.result.now c.args.set.now c.in_ok-known.ensures.lookup.3.0 c.in_ok-known.ensures.lookup.1
    c.as_slice.ensures.value (sym c.eq.ensures ∙ c.if-eq.true)
