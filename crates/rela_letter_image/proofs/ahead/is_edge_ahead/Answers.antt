use Rattle.std.proofs.Common.{◌<◌, subst, sym}
use Rattle.rela_letter_image.specs.Needs.{Has}
use Rattle.rela_letter_image.proofs.ahead.is_edge_ahead.Goals as goal

pub returns : goal.returns
returns c = λ yes. record {
  later = λ k small had. c.is_within.ensures.0 yes k small (c.with_letter.ensures.kept k (subst (λ w. Has w k) (sym c.word_at.ensures) had));
  own = λ small.
      let letter = c.coarse_letter-letter.result in
      let here : Has c.args.here letter = c.is_within.ensures.0 yes letter (subst (λ k. k < 64) (sym c.coarse_letter-letter.ensures) small) (c.with_letter.ensures.here (subst (λ k. k < 64) (sym c.coarse_letter-letter.ensures) small)) in
      subst (Has c.args.here) c.coarse_letter-letter.ensures here;
}
