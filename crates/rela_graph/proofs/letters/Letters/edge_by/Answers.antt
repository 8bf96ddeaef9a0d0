use Rattle.std.proofs.Common.{Some, ap, ◌∙◌}
use Rattle.rela_graph.proofs.Stepping.{letters_single}
use Rattle.rela_graph.proofs.letters.Letters.edge_by.Goals as goal

pub returns : goal.returns
returns g c =
    ap (λ set. record { label = Some set; to = c.args.to })
    (letters_single c.args.self.now.count c.args.letter (g.L.LabelSet.letters c.add.new.self) (c.in_ok-add.ensures.size ∙ c.in_ok-label.ensures.size) c.requires.below c.in_ok-add.ensures.added
    (λ j apart. c.in_ok-add.ensures.others j apart ∙ c.in_ok-label.ensures.empty j))
