use Rattle.rela_tokens.proofs.Grown.{number_taken}
use Rattle.rela_tokens.proofs.number.read_number.Goals as goal

pub returns-in-Some-clause-number : goal.returns-in-Some-clause-number
returns-in-Some-clause-number c = number_taken 0 _ _ _ c.in-Some.ensures.number
