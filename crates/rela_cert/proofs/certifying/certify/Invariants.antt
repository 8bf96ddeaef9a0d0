use Rattle.rela_cert.specs.Certified.{IsBegun}
use Rattle.rela_cert.specs.Inputs.{subject_of}
use Rattle.rela_cert.specs.Sharing.{AreFoundRows}
use Rattle.rela_cert.proofs.certifying.certify.Given as goal

-- the text as far as the rows before the place go, and what is found so far
abbrev pub invariant-loop-place : goal.invariant-loop-place
invariant-loop-place l = record {
  begun : IsBegun (subject_of l.inputs) l.layout.planned l.states l.place l.writer;
  kept : AreFoundRows (subject_of l.inputs) l.states l.kept;
}
