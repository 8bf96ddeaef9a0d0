use Rattle.std.proofs.Common.{◌≡◌, [], length, map}
use Rattle.std.specs.List.{range_with_len}
use Rattle.rela_nfa.specs.Construction.{single, link}
use Rattle.rela_nfa.proofs.words.edges_of_word.Given as goal

abbrev pub invariant-loop-letter : goal.invariant-loop-letter
invariant-loop-letter g l =
    (l.leaving.items ≡ []) × (length l.edges ≡ l.letter-index) × (l.edges ≡ map (link (map (single l.letters) l.word)) (range_with_len 0 l.letter-index))
