use Rattle.std.proofs.Common.{[], get_or, sym, ◌∙◌, subst, arith}
use Rattle.std.proofs.lemmas.List.Elements.{All-get_or}
use Rattle.rela_closed.specs.Sets.{AreMet}
use Rattle.rela_closed.proofs.Leaving.{followed_as, left_more}
use Rattle.rela_closed.proofs.closedness.is_closed.Goals as goal

pub is_followed-requires-clause-met : goal.is_followed-requires-clause-met
is_followed-requires-clause-met g c =
    subst (λ l. AreMet l (get_or c.loop-number.table c.loop-number.number [])) (sym c.loop-number.invariant.same)
    (subst (λ t. AreMet c.args.reader.now (get_or t c.loop-number.number [])) (sym c.loop-number.invariant.kept)
    (All-get_or (AreMet c.args.reader.now) c.args.table.now c.loop-number.number [] (omega (arith, c.loop-number-test.true)) c.requires))

pub loop-number-preserved : goal.loop-number-preserved
loop-number-preserved g c = record {
  same = c.in_ok-is_followed.ensures.same ∙ c.loop-number.invariant.same;
  kept = c.in_ok-is_followed.ensures.kept c.if-not-branch.false ∙ c.loop-number.invariant.kept;
  followed =
      left_more (g.L.LabelSet.letters c.args.over.now) c.args.reader.now c.args.table.now c.loop-number.number c.loop-number.invariant.followed
      (λ k read. followed_as c.args.reader.now c.loop-number.reader c.args.table.now c.loop-number.table c.loop-number.number k c.loop-number.invariant.same
      c.loop-number.invariant.kept (c.in_ok-is_followed.ensures.followed c.if-not-branch.false k read));
}
