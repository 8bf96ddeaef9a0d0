use Rattle.std.proofs.Common.{List, subst}
use Rattle.rela_closed.specs.Words.{words_of}
use Rattle.rela_closed.specs.declared.step.Step.{Step}
use Rattle.rela_cert.specs.WordsJudged.{JudgesWords}
use Rattle.rela_cert.proofs.FlagWords.{not_met, offence}
use Rattle.rela_cert.proofs.row_words.words_if_met.Goals as goal

pub returns-in-OpenComplement : goal.returns-in-OpenComplement
returns-in-OpenComplement c =
    let a = c.args.images.now.before in
    let b = c.args.images.now.after in
    let judgement = c.in_ok-judge_words.field-0 in
    let told = subst (λ (steps : List Step). JudgesWords c.args.at_most a b c.args.over.now (words_of steps) judgement) c.as_slice.ensures.value c.in_ok-judge_words.ensures in
    record {
      same = tt;
      met = tt;
      offends = offence c.args.at_most a b c.args.over.now (words_of c.args.steps.items) c.requires.closed judgement told (not_met judgement c.in-OpenComplement.is);
    }
