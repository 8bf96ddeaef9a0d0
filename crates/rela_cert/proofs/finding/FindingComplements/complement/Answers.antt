use Rattle.std.proofs.Common.{List, [], ◌∷◌, subst, sym}
use Rattle.rela_closed.specs.Closed.{IsClosed}
use Rattle.rela_closed.specs.Words.{words_of}
use Rattle.rela_closed.specs.declared.step.Step.{Step}
use Rattle.rela_cert.specs.Found.{AreFound}
use Rattle.rela_cert.proofs.finding.FindingComplements.complement.Goals as goal

pub unreachable-requires : goal.unreachable-requires
unreachable-requires c =
    let opened = rw c.in-None.is at c.in_ok-nfa.ensures.open_list in
    opened (subst (λ (steps : List Step). IsClosed c.args.over.now (c.args.a.now ∷ []) (words_of steps)) (sym c.as_slice.ensures.value) c.in_ok-steps.ensures.closed)

pub returns-clause-answered : goal.returns-clause-answered
returns-clause-answered c =
    subst (AreFound c.args.over.now (c.args.a.now ∷ [])) (sym c.from_vec.ensures)
    (record {
      ordered = c.in_ok-steps.ensures.ordered;
      closed = c.in_ok-steps.ensures.closed;
      first = c.in_ok-steps.ensures.first;
      ascending = c.in_ok-steps.ensures.ascending;
    })
