use Rattle.rela_zone.proofs.Points.{Point, chain}
use Rattle.rela_zone.proofs.zoning.show_zone.Given as goal

abbrev pub ghosts-steps_chain : goal.ghosts-steps_chain
ghosts-steps_chain g a = record { Point = Point; chain = chain }
