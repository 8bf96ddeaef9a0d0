use Rattle.std.proofs.Common.{◌+◌, below_more, sym, ◌∙◌, arith}
use Rattle.std.proofs.lemmas.Bool.{false≢true}
use Rattle.std.proofs.lemmas.List.{get_or_default}
use Rattle.rela_compare.proofs.sought.has_final.Goals as goal

pub loop-state-preserved : goal.loop-state-preserved
loop-state-preserved g c = below_more _ _ c.loop-state.invariant (λ copy. false≢true (sym c.if-is_final_copy.false ∙ c.is_final_copy.ensures.1 copy))

pub returns : goal.returns
returns g c = (
  λ never. absurd (false≢true never),
  λ (q, (i, below, at), final).
      absurd (c.loop-state.invariant i (omega (arith, below, c.loop-state-test.false)) (q, sym (get_or_default c.args.set.now i 0 (c.args.from + q) below ∙ at), final)),
)
