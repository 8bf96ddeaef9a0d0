use Rattle.std.proofs.Common.{subst}
use Rattle.rela_names.specs.Alphabet.{IsAlphabet}
use Rattle.rela_names.proofs.SymbolsInOrder.{in_order}
use Rattle.rela_names.proofs.alphabet.Alphabet.symbols_are_in_order.Goals as goal

pub returns : goal.returns
returns c =
    let alphabet = subst IsAlphabet c.self.view_is c.self.invariant in
    in_order c.args.self.now alphabet.ascending
