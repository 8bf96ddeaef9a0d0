use Rattle.std.proofs.Common.{ℕ, ◌↔◌, List, subst}
use Rattle.std.proofs.lemmas.Option.{same_Some}
use Rattle.rela_letter_nfa.specs.LetterAutomaton.{LetterAutomaton}
use Rattle.rela_letter_nfa.specs.Runs.{Accepts as AcceptsLetters}
use Rattle.rela_trans.specs.Runs.{Relates}
use Rattle.rela_letter_image.specs.Coarse.{coarse_of}
use Rattle.rela_letter_image.proofs.ProductWords.{product_words}
use Rattle.rela_letter_image.proofs.imaging.letter_image.Goals as goal

pub returns-in-Ok : goal.returns-in-Ok
returns-in-Ok c =
    let a = c.args.paths.now in
    let t = c.args.relation.now in
    let read = coarse_of t.letters c.args.coarse.now in
    let is = c.in-Ok.ensures in
    record {
      language = λ image same.
          subst (λ (r : LetterAutomaton). (v : List ℕ) → AcceptsLetters r v ↔ ((u : List ℕ) × AcceptsLetters a u × Relates read t u v)) (same_Some c.in-Ok.image image same)
          (product_words read a t is.0 is.2 is.1 c.in-Ok.image is.3);
    }
