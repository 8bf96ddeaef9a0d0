use Rattle.rela_trans.proofs.SymbolLetters.{reached_symbols, related_symbols}
use Rattle.rela_trans.proofs.laws.letters_give_symbols.Goals as goal

pub returns : goal.returns
returns c = record {
  reached = reached_symbols;
  relation = related_symbols;
}
