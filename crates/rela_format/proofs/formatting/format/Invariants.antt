use Rattle.rela_format.proofs.Points.{Point, chain}
use Rattle.rela_format.proofs.formatting.format.Given as goal

abbrev pub ghosts-steps_chain : goal.ghosts-steps_chain
ghosts-steps_chain g a = record { Point = Point; chain = chain }
