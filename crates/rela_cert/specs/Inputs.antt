-- What a certificate that is made from some inputs speaks of.
use Rattle.rela_cert.specs.Subject.{Subject, subject}
use Rattle.rela_cert.specs.declared.inputs.Inputs.{Inputs}

abbrev pub subject_of : Inputs → Subject
subject_of inputs = subject inputs.checks.now inputs.pairs.now inputs.alphabet.now
