use Rattle.rela_assert.proofs.Points.{Point, chain}
use Rattle.rela_assert.proofs.claiming.read_claims.Given as goal

abbrev pub ghosts-steps_chain : goal.ghosts-steps_chain
ghosts-steps_chain a = record { Point = Point; chain = chain }
