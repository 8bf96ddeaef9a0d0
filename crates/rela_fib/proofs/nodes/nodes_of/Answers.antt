use Rattle.std.proofs.Common.{◌∙◌}
use Rattle.rela_fib.proofs.Found.{nodes_are}
use Rattle.rela_fib.proofs.nodes.nodes_of.Goals as goal

pub returns : goal.returns
returns c = nodes_are _ _ _ _ _ c.in_ok-push_hops.ensures (c.in_ok-interfaces.ensures.items ∙ c.starts.ensures) c.tables.ensures.tables c.ascending.ensures.rising c.ascending.ensures.same
