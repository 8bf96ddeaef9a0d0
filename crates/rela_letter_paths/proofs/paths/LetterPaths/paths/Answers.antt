use Rattle.std.proofs.Common.{◌≡◌, ◌<◌, length, subst, arith}
use Rattle.std.specs.List.{All}
use Rattle.rela_names.specs.Alphabet.{path_symbols}
use Rattle.rela_graph.specs.Paths.{Paths}
use Rattle.rela_letter_paths.specs.Letters.{HasLettersBelow}
use Rattle.rela_letter_paths.proofs.SymbolWords.{words_of_symbols}
use Rattle.rela_letter_paths.proofs.paths.LetterPaths.paths.Goals as goal

pub returns-clause-language : goal.returns-clause-language
returns-clause-language c =
    λ made some.
    let finest = c.self.inside.finest in
    let count : path_symbols c.args.alphabet.now ≡ length finest = omega (arith, c.requires.symbols, c.self.view_is) in
    let bound : c.len.result ≡ length finest = omega (arith, c.len.ensures.len, count) in
    let below : HasLettersBelow (length finest) made = subst (λ n. HasLettersBelow n made) bound (c.in_ok-found.ensures.letters made some) in
    words_of_symbols finest c.self.invariant made c.in_ok-nfa.nfa (Paths c.args.graph.now c.args.level c.args.alphabet.now)
    (c.in_ok-found.ensures.language made some) below c.in_ok-nfa.ensures.language
    (λ w path. subst (λ n. All (λ s. s < n) w) count (c.in_ok-nfa.ensures.of_path_symbols w path))
