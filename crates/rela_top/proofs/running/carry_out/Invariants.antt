use Rattle.rela_top.proofs.Points.{Point, chain}
use Rattle.rela_top.proofs.running.carry_out.Given as goal

abbrev pub ghosts-steps_chain : goal.ghosts-steps_chain
ghosts-steps_chain g a = record { Point = Point; chain = chain }
