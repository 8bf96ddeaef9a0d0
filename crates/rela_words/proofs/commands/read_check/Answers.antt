use Rattle.std.proofs.Common.{string_bytes, sym, ◌∙◌}
use Rattle.rela_words.specs.Parts.{IsLimitUpTo, parts_of}
use Rattle.rela_words.proofs.Fits.{if_bad, just_read, none_read, check_just, check_unlimited}
use Rattle.rela_words.proofs.Operands.{four_words}
use Rattle.rela_words.proofs.commands.read_check.Goals as goal

pub returns-in_err-states-clause-bad : goal.returns-in_err-states-clause-bad
returns-in_err-states-clause-bad c = if_bad c.from_residual.result _
    (check_unlimited (parts_of c.args.parts.now)
    (none_read (IsLimitUpTo 4000000 (parts_of c.args.parts.now).limits) c.states.result c.states.ensures c.in_err-states.ensures.ok_part))

pub returns-clause-fits : goal.returns-clause-fits
returns-clause-fits c =
    check_just (parts_of c.args.parts.now) (string_bytes c.in_ok-before.before) (string_bytes c.in_ok-before.after) (string_bytes c.in_ok-before.locations) (string_bytes c.in_ok-spec.spec) c.in_ok-states.states
    (sym c.operands.ensures
    ∙ four_words c.operands.result c.in-Some-len4.field-0 c.in-Some-len4.is (string_bytes c.in_ok-before.before) (string_bytes c.in_ok-before.after) (string_bytes c.in_ok-before.locations) (string_bytes c.in_ok-spec.spec)
    _ _ _ _ c.in-Some-len4.len_at_least c.in-Some-len4.len_below c.in_ok-before.ensures.first c.in_ok-before.ensures.second c.in_ok-before.ensures.third c.in_ok-spec.ensures.ok)
    (just_read (IsLimitUpTo 4000000 (parts_of c.args.parts.now).limits) c.states.result c.states.ensures c.in_ok-states.states c.in_ok-states.ensures.ok_part)
