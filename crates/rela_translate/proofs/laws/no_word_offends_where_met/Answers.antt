use Rattle.rela_translate.specs.Verdict.{BeforeImage, AfterImage}
use Rattle.rela_translate.proofs.Verdicts.{none_offends}
use Rattle.rela_translate.proofs.laws.no_word_offends_where_met.Goals as goal

pub returns : goal.returns
returns g c check locations met w offends =
    none_offends check.at_most (BeforeImage check locations g.X.WordSet.contains) (AfterImage check locations g.Y.WordSet.contains) met w offends
