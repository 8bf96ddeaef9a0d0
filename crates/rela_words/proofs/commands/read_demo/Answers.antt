use Rattle.std.proofs.Common.{arith, refl, rules, sym, ◌∙◌}
use Rattle.rela_words.specs.Parts.{IsNumber, parts_of}
use Rattle.rela_words.proofs.Fits.{if_bad, just_read, none_read, demo_just, demo_unnumbered}
use Rattle.rela_words.proofs.Operands.{one_word}
use Rattle.rela_words.proofs.commands.read_demo.Goals as goal

pub returns-in_err-layers-clause-bad : goal.returns-in_err-layers-clause-bad
returns-in_err-layers-clause-bad c = if_bad c.from_residual.result _
    (demo_unnumbered (parts_of c.args.parts.now) _
    (sym c.operands.ensures ∙ one_word c.operands.result c.in-Some-len1.field-0 c.in-Some-len1.is _ _ c.in-Some-len1.len_at_least c.in-Some-len1.len_below refl)
    (none_read (IsNumber 200 _) c.number_of.result c.number_of.ensures c.in_err-layers.ensures.ok_part))

pub returns-clause-fits : goal.returns-clause-fits
returns-clause-fits c =
    demo_just (parts_of c.args.parts.now) _ c.in_ok-layers.layers
    (sym c.operands.ensures ∙ one_word c.operands.result c.in-Some-len1.field-0 c.in-Some-len1.is _ _ c.in-Some-len1.len_at_least c.in-Some-len1.len_below refl)
    (c.have_no_options.ensures.0 (first_of (search rules, grind arith)))
    (just_read (IsNumber 200 _) c.number_of.result c.number_of.ensures c.in_ok-layers.layers c.in_ok-layers.ensures.ok_part)
