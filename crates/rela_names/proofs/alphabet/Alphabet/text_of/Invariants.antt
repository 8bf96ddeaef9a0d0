use Rattle.std.proofs.Common.{◌≡◌, ◌++◌, ◌∷◌, take, get_or}
use Rattle.std.specs.List.{flat_map}
use Rattle.rela_names.specs.Symbol.{symbol_text}
use Rattle.rela_names.proofs.alphabet.Alphabet.text_of.Given as goal

-- the text of the symbols so far
abbrev pub invariant-loop-symbol : goal.invariant-loop-symbol
invariant-loop-symbol l =
    l.text.items ≡ symbol_text l.self (get_or l.word 0 0) ++ flat_map (λ t. 32 ∷ symbol_text l.self t) (take l.symbol-index l.others)
