use Rattle.rela_subset.proofs.SetsFound.{found_if, lacking_if}
use Rattle.rela_subset.proofs.state_sets.StateSets.found.Goals as goal

pub returns-clause-at : goal.returns-clause-at
returns-clause-at c = found_if c.self.inside.sets.keys c.args.self.now c.args.set.now c.get_index_of.result c.self.view_is c.get_index_of.ensures.index

pub returns-clause-lacking : goal.returns-clause-lacking
returns-clause-lacking c =
    lacking_if c.self.inside.sets.keys c.args.self.now c.args.set.now c.get_index_of.result c.self.view_is (rw (← c.self.view_is) c.self.invariant) c.get_index_of.ensures.found
