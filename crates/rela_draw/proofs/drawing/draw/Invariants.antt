use Rattle.rela_draw.proofs.Points.{Point, chain}
use Rattle.rela_draw.proofs.drawing.draw.Given as goal

abbrev pub ghosts-steps_chain : goal.ghosts-steps_chain
ghosts-steps_chain g a = record { Point = Point; chain = chain }
