use Rattle.std.proofs.lemmas.Bool.{false≢true}
use Rattle.std.proofs.Common.{sym, ◌∙◌}
use Rattle.rela_nfa.specs.Stored.{move_of}
use Rattle.rela_restriction.proofs.Searching.{edge_closed, edge_opens}
use Rattle.rela_restriction.proofs.emptiness.insert_end.Goals as goal

pub returns-in_ok-insert-clause-finds : goal.returns-in_ok-insert-clause-finds
returns-in_ok-insert-clause-finds g c =
    edge_opens (g.L.LabelSet.letters c.args.over.now) (move_of g.L.LabelSet.letters c.args.edge.now) c.args.found.now c.args.waiting.now.items
    c.insert.new.found c.insert.new.waiting.items (c.in_ok-is_open.ensures.0 c.if-branch.true) c.in_ok-insert.ensures.finds

pub returns-else-branch-clause-finds : goal.returns-else-branch-clause-finds
returns-else-branch-clause-finds g c =
    edge_closed (g.L.LabelSet.letters c.args.over.now) (move_of g.L.LabelSet.letters c.args.edge.now) c.args.found.now c.args.waiting.now.items
    (λ opens. false≢true (sym c.if-branch.false ∙ c.in_ok-is_open.ensures.1 opens))
