use Rattle.rela_lex.proofs.Cuts.{same_tokens, spelled_has_no_fault, same_fault}
use Rattle.rela_lex.proofs.Reached.{always_read}
use Rattle.rela_lex.proofs.readings.one_reading.Goals as goal

pub returns-clause-some : goal.returns-clause-some
returns-clause-some c = always_read

pub returns-clause-apart : goal.returns-clause-apart
returns-clause-apart c = spelled_has_no_fault

pub returns-clause-tokens : goal.returns-clause-tokens
returns-clause-tokens c = same_tokens

pub returns-clause-fault : goal.returns-clause-fault
returns-clause-fault c = same_fault
