use Rattle.rela_assert.proofs.Points.{Point, chain}
use Rattle.rela_assert.proofs.loading.load_claims.Given as goal

abbrev pub ghosts-steps_chain : goal.ghosts-steps_chain
ghosts-steps_chain g a = record { Point = Point; chain = chain }
