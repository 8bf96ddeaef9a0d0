use Rattle.std.proofs.Common.{◌≡◌, ◌+◌, [], ◌∷◌, refl, ap, ◌∙◌, arith}
use Rattle.std.specs.List.{slice_get}
use Rattle.rela_certfile.specs.Listed.{words_of}
use Rattle.rela_certfile.proofs.Derived.{word_next, words_count, words_stay}
use Rattle.rela_certfile.proofs.laws.block_words.Goals as goal

pub returns-clause-count : goal.returns-clause-count
returns-clause-count c = λ steps. omega (arith, words_count ([] ∷ []) steps)

pub returns-clause-first : goal.returns-clause-first
returns-clause-first c = λ steps. words_stay ([] ∷ []) steps 0 [] refl

pub returns-clause-others : goal.returns-clause-others
returns-clause-others c = λ bound steps j step are is.
    ap (λ n. slice_get (words_of steps) n) (let place : j + 1 ≡ 1 + j = omega arith in place)
    ∙ word_next bound ([] ∷ []) steps j step are is
