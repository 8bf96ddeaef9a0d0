use Rattle.std.proofs.Common.{◌≡◌, ◌&&◌, Bool, true, false, refl, ap, ◌∙◌}
use Rattle.rela_labels.specs.Letters.{has}
use Rattle.rela_minimise.proofs.columns.common.Goals as goal

twice : (b : Bool) → b ≡ (b && b)
twice true = refl
twice false = refl

pub returns-then-same-clause-both : goal.returns-then-same-clause-both
returns-then-same-clause-both g c k =
    let block = has (g.L.LabelSet.letters c.args.block) k in
    twice block ∙ ap (λ set. block && has set k) (c.same.ensures.0 c.if-same.true)
