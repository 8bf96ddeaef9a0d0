use Rattle.std.proofs.Common.{arith}
use Rattle.std.proofs.lemmas.Result.{IfOk-weaker}
use Rattle.rela_subset.proofs.Splitting.{without_letters, without_none}
use Rattle.rela_subset.proofs.blocks.without.Goals as goal

pub returns-then-is_empty-clause-letters : goal.returns-then-is_empty-clause-letters
returns-then-is_empty-clause-letters g c =
    let letters = g.L.LabelSet.letters in
    IfOk-weaker c.copy.result _ _ (λ rest same.
    without_none (letters c.args.set.now) (letters rest) c.args.edges.now (grind (arith, c.if-is_empty.ensures)) same) c.copy.ensures.same

pub returns-clause-letters : goal.returns-clause-letters
returns-clause-letters g c =
    let letters = g.L.LabelSet.letters in
    IfOk-weaker c.minus.result _ _ (λ rest cut.
    without_letters (letters c.args.set.now) (letters c.in_ok-letters.letters) (letters rest) c.args.edges.now c.in_ok-letters.ensures.letters cut) c.minus.ensures.first_only
