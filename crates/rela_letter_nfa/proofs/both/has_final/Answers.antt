use Rattle.std.proofs.Common.{◌+◌, below_more, sym, ◌∙◌, arith}
use Rattle.std.proofs.lemmas.Bool.{false≢true}
use Rattle.std.proofs.lemmas.List.{get_or_default}
use Rattle.rela_letter_nfa.proofs.both.has_final.Goals as goal

pub loop-q-preserved : goal.loop-q-preserved
loop-q-preserved c = below_more _ _ c.loop-q.invariant (λ copy. false≢true (sym c.if-is_final_from.false ∙ c.is_final_from.ensures.1 copy))

pub returns : goal.returns
returns c = (
  λ never. absurd (false≢true never),
  λ (q, (i, below, at), final).
      absurd (c.loop-q.invariant i (omega (arith, below, c.loop-q-test.false)) (q, sym (get_or_default c.args.set.now i 0 (c.args.before + q) below ∙ at), final)),
)
