use Rattle.rela_zone.proofs.Points.{Point, chain}
use Rattle.rela_zone.proofs.zoning.zone_asked_for.Given as goal

abbrev pub ghosts-steps_chain : goal.ghosts-steps_chain
ghosts-steps_chain a = record { Point = Point; chain = chain }
