use Rattle.std.proofs.Common.{sym, ◌∙◌}
use Rattle.std.proofs.lemmas.Result.{IfOk-weaker}
use Rattle.rela_labels.specs.Letters.{has}
use Rattle.rela_closed.proofs.Narrowing.{less_together, met_together}
use Rattle.rela_closed.proofs.blocks.cut.Goals as goal

pub returns-then-contains-clause-together : goal.returns-then-contains-clause-together
returns-then-contains-clause-together g c =
    let letters = g.L.LabelSet.letters in
    IfOk-weaker c.meet.result _ _ (λ part both k.
    met_together (has (letters part) k) (has (letters c.args.block.now) k) (has (letters c.args.label.now) k) (has (letters c.args.label.now) c.args.letter) (both k)
    (sym c.contains.ensures.has ∙ c.if-contains.true)) c.meet.ensures.both

pub returns-else-contains-clause-together : goal.returns-else-contains-clause-together
returns-else-contains-clause-together g c =
    let letters = g.L.LabelSet.letters in
    IfOk-weaker c.minus.result _ _ (λ part alone k.
    less_together (has (letters part) k) (has (letters c.args.block.now) k) (has (letters c.args.label.now) k) (has (letters c.args.label.now) c.args.letter) (alone k)
    (sym c.contains.ensures.has ∙ c.if-contains.false)) c.minus.ensures.first_only
