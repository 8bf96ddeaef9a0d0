use Rattle.std.proofs.Common.{sym, ◌∙◌}
use Rattle.rela_nfa.specs.Stored.{move_of}
use Rattle.rela_nfa.proofs.Growing.{followed}
use Rattle.rela_nfa.proofs.edge.Edge.follow.Goals as goal

pub returns-in_ok-insert-clause-adds : goal.returns-in_ok-insert-clause-adds
returns-in_ok-insert-clause-adds g c =
    followed (move_of g.L.LabelSet.letters c.args.self.now) c.args.letter c.args.set.now.states c.insert.new.self.states (sym c.takes.ensures ∙ c.if-takes.true) c.in_ok-insert.ensures.inserted
