use Rattle.std.proofs.Common.{◌≡◌, ◌<◌, ◌≤◌, ◌+◌, ◌∷◌, ◌++◌, ℕ, List, length, take, get_or, ap}
use Rattle.std.specs.List.{flat_map}
use Rattle.std.proofs.lemmas.List.{take_all}
use Rattle.std.proofs.lemmas.List.Elements.{All-rest}
use Rattle.rela_names.specs.Alphabet.{path_symbols}
use Rattle.rela_names.specs.Symbol.{symbol_text, word_text}
use Rattle.rela_names.proofs.alphabet.Alphabet.text_of.Goals as goal

pub push_symbol-requires-in-loop-symbol : goal.push_symbol-requires-in-loop-symbol
push_symbol-requires-in-loop-symbol c =
    All-rest (λ s. s < path_symbols c.args.self.now + 20000) c.in-Some.first.now c.in-Some.others.now c.args.word.now
    c.in-Some.ensures.cases.0 c.requires c.loop-symbol.symbol-index 0 c.loop-symbol-test.true

-- the loop is over, and has written each symbol
whole_text : (names : List (List ℕ)) (word others text : List ℕ) (first i : ℕ) → word ≡ first ∷ others → length others ≤ i
    → text ≡ symbol_text names (get_or word 0 0) ++ flat_map (λ t. 32 ∷ symbol_text names t) (take i others) → text ≡ word_text names word
whole_text names word others text first i split over so_far =
    rw (so_far, split) (ap (λ some. symbol_text names first ++ flat_map (λ t. 32 ∷ symbol_text names t) some) (take_all i others over))

pub returns : goal.returns
returns c =
    whole_text c.args.self.now c.args.word.now c.in-Some.others.now c.loop-symbol.text.items c.in-Some.first.now c.loop-symbol.symbol-index
    c.in-Some.ensures.cases.0 c.loop-symbol-test.false c.loop-symbol.invariant
