use Rattle.rela_trans.proofs.SymbolLetters.{reached_letters, related_letters}
use Rattle.rela_trans.proofs.laws.symbols_give_letters.Goals as goal

pub returns : goal.returns
returns c = record {
  reached = reached_letters;
  relation = related_letters;
}
