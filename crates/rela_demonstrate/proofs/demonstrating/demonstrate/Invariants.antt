use Rattle.rela_demonstrate.proofs.Points.{Point, chain}
use Rattle.rela_demonstrate.proofs.demonstrating.demonstrate.Given as goal

abbrev pub ghosts-steps_chain : goal.ghosts-steps_chain
ghosts-steps_chain a = record { Point = Point; chain = chain }
