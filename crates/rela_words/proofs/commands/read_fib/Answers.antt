use Rattle.std.proofs.Common.{arith, rules, string_bytes, sym, ◌∙◌}
use Rattle.rela_words.specs.Parts.{parts_of}
use Rattle.rela_words.proofs.Fits.{fib_just}
use Rattle.rela_words.proofs.Operands.{three_words}
use Rattle.rela_words.proofs.commands.read_fib.Goals as goal

pub returns-clause-fits : goal.returns-clause-fits
returns-clause-fits c =
    fib_just (parts_of c.args.parts.now) (string_bytes c.in_ok-tables.tables) (string_bytes c.in_ok-tables.other) (string_bytes c.in_ok-tables.locations)
    (sym c.operands.ensures
    ∙ three_words c.operands.result c.in-Some-len3.field-0 c.in-Some-len3.is (string_bytes c.in_ok-tables.tables) (string_bytes c.in_ok-tables.other) (string_bytes c.in_ok-tables.locations)
    _ _ _ c.in-Some-len3.len_at_least c.in-Some-len3.len_below c.in_ok-tables.ensures.first c.in_ok-tables.ensures.second c.in_ok-tables.ensures.third)
    (c.have_no_options.ensures.0 (first_of (search rules, grind arith)))
