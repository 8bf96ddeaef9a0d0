use Rattle.std.proofs.Common.{◌∙◌}
use Rattle.rela_nfa.proofs.Chains.{letters_single}
use Rattle.rela_nfa.proofs.copying.one_letter.Goals as goal

pub returns : goal.returns
returns g c =
    letters_single c.args.size c.args.letter (g.L.LabelSet.letters c.add.new.self) (c.in_ok-add.ensures.size ∙ c.in_ok-set.ensures.size) c.requires.below c.in_ok-add.ensures.added
    (λ j apart. c.in_ok-add.ensures.others j apart ∙ c.in_ok-set.ensures.empty j)
