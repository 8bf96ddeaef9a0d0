use Rattle.std.proofs.Common.{arith, rules, string_bytes, sym, ◌∙◌}
use Rattle.rela_words.specs.Parts.{parts_of}
use Rattle.rela_words.proofs.Fits.{fmt_just}
use Rattle.rela_words.proofs.Operands.{one_word}
use Rattle.rela_words.proofs.commands.read_fmt.Goals as goal

pub returns-clause-fits : goal.returns-clause-fits
returns-clause-fits c =
    fmt_just (parts_of c.args.parts.now) (string_bytes c.in_ok-from_str.field-0)
    (sym c.operands.ensures
    ∙ one_word c.operands.result c.in-Some-len1.field-0 c.in-Some-len1.is (string_bytes c.in_ok-from_str.field-0)
    _ c.in-Some-len1.len_at_least c.in-Some-len1.len_below c.in_ok-from_str.ensures.ok)
    (c.have_no_options.ensures.0 (first_of (search rules, grind arith)))
