use Rattle.std.proofs.Common.{◌++◌, Bor, List, ap, ◌∙◌}
use Rattle.rela_branches.specs.Alternatives.{alternatives_of}
use Rattle.rela_translate.specs.declared.body.Core.{Core}
use Rattle.rela_branches.proofs.Blames.{now_of}
use Rattle.rela_branches.proofs.Sizes.{few_items}
use Rattle.rela_branches.proofs.claiming.branches_of.Goals as goal

pub invariant_of-result : goal.invariant_of-result
invariant_of-result c =
    let whole = c.in_ok-push_alternatives.ensures
    ∙ ap (λ (items : List (Bor Core)). now_of items ++ alternatives_of c.body.result.now) c.new-alternatives.ensures.items
    ∙ ap alternatives_of c.body.ensures.body in record {
      whole = whole;
      few = few_items c.args.check.now c.push_alternatives.new.pushed.items c.body.ensures.check whole;
    }
