use Rattle.std.proofs.Common.{refl, sym, ◌∙◌}
use Rattle.rela_words.specs.Parts.{parts_of}
use Rattle.rela_words.proofs.Operands.{limit_given, one_word}
use Rattle.rela_words.proofs.parts.Parts.states.Goals as goal

pub returns-in-Some-len1 : goal.returns-in-Some-len1
returns-in-Some-len1 c =
    limit_given (parts_of c.args.self.now).limits _ c.number_of.result
    (sym c.limits.ensures ∙ one_word c.limits.result c.in-Some-len1.field-0 c.in-Some-len1.is _ _ c.in-Some-len1.len_at_least c.in-Some-len1.len_below refl)
    c.number_of.ensures
