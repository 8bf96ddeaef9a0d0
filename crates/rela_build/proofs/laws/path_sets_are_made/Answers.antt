use Rattle.rela_build.proofs.MadeLeaves as leaves
use Rattle.rela_build.proofs.laws.path_sets_are_made.Goals as goal

pub returns-clause-before : goal.returns-clause-before
returns-clause-before g c at l a built = leaves.pre (Unit {0}) l (g.F.NamedPaths.paths.of at) a built

pub returns-clause-after : goal.returns-clause-after
returns-clause-after g c at l a built = leaves.post (Unit {0}) l (g.F.NamedPaths.paths.of at) a built
