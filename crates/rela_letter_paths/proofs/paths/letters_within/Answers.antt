use Rattle.std.proofs.Common.{◌≡◌, ◌↔◌, subst}
use Rattle.rela_letter_nfa.specs.LetterAutomaton.{LetterAutomaton}
use Rattle.rela_letter_nfa.specs.Runs.{Accepts as AcceptsLetters}
use Rattle.rela_nfa.specs.Runs.{Accepts}
use Rattle.rela_letter_paths.proofs.paths.letters_within.Goals as goal

pub returns-then-has_letters_below-clause-language : goal.returns-then-has_letters_below-clause-language
returns-then-has_letters_below-clause-language g c =
    λ made some word.
    let same : c.in_ok-short.short ≡ made = let given = some in cc in
    let whole = c.in_ok-whole.ensures.language c.in-Some.whole c.in-Some.is word in
    let short = c.in_ok-short.ensures.language word in
    subst (λ (a : LetterAutomaton). AcceptsLetters a word ↔ Accepts c.args.nfa.now word) same
    (λ accepts. whole.0 (short.0 accepts), λ accepts. short.1 (whole.1 accepts))
