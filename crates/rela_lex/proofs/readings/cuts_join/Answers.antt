use Rattle.rela_lex.proofs.Cuts.{cut_join, tokens_join}
use Rattle.rela_lex.proofs.readings.cuts_join.Goals as goal

pub returns-clause-cut : goal.returns-clause-cut
returns-clause-cut c = cut_join

pub returns-clause-tokens : goal.returns-clause-tokens
returns-clause-tokens c = tokens_join
