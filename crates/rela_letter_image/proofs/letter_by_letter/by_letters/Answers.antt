use Rattle.std.proofs.Common.{ℕ, ◌↔◌, List, subst}
use Rattle.std.proofs.lemmas.Option.{same_Some}
use Rattle.rela_letter_nfa.specs.LetterAutomaton.{LetterAutomaton}
use Rattle.rela_letter_nfa.specs.Runs.{Accepts as AcceptsLetters}
use Rattle.rela_nfa.specs.Runs.{Accepts}
use Rattle.rela_letter_image.proofs.LetterWords.{letter_words}
use Rattle.rela_letter_image.proofs.letter_by_letter.by_letters.Goals as goal

pub returns-in-Ok : goal.returns-in-Ok
returns-in-Ok g c =
    let a = c.args.nfa.now in
    record {
      language = λ made is.
          subst (λ (r : LetterAutomaton). (word : List ℕ) → AcceptsLetters r word ↔ Accepts a word) (same_Some c.in-Ok.made made is) (letter_words a c.in-Ok.made c.in-Ok.ensures);
    }
