use Rattle.rela_audit.proofs.Points.{Point, chain}
use Rattle.rela_audit.proofs.certifying.certify_files.Given as goal

abbrev pub ghosts-steps_chain : goal.ghosts-steps_chain
ghosts-steps_chain g a = record { Point = Point; chain = chain }
