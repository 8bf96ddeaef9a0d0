use Rattle.rela_check.proofs.Points.{Point, chain}
use Rattle.rela_check.proofs.reporting.report.Given as goal

abbrev pub ghosts-steps_chain : goal.ghosts-steps_chain
ghosts-steps_chain g a = record { Point = Point; chain = chain }
