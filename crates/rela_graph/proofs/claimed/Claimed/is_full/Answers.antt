use Rattle.rela_graph.proofs.claimed.Claimed.is_full.Goals as goal

pub returns : goal.returns
returns c = rw (← c.self.view_is) c.is_full.ensures
