use Rattle.std.proofs.Common.{◌∙◌, sym}
use Rattle.std.proofs.lemmas.Result.{err_from_is_err_and}
use Rattle.rela_cert.proofs.flow_images.written.Goals as goal

pub image-requires-clause-letters : goal.image-requires-clause-letters
image-requires-clause-letters c = c.requires.words ∙ sym c.in_ok-refined.ensures.letters

pub returns-clause-written : goal.returns-clause-written
returns-clause-written c = (
  c.in_ok-refined.refined,
  c.in_ok-refined.ensures,
  record {
    automaton = c.start.ensures.automaton;
    letters = c.in_ok-image.ensures.letters;
    pairs = c.in_ok-image.ensures.pairs;
    language = c.in_ok-image.ensures.language;
  },
)

pub returns-in_err-image-clause-limit : goal.returns-in_err-image-clause-limit
returns-in_err-image-clause-limit c =
    let p = err_from_is_err_and c.from_residual-in_err-image.result c.from_residual-in_err-image.ensures.1 in
    rw (p.1, p.2) (λ is. (c.in_ok-refined.refined, c.in_ok-refined.ensures, c.in_err-image.ensures.limit is))
