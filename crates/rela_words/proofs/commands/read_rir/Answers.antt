use Rattle.std.proofs.Common.{◌≡◌, false, string_bytes, sym, ◌∙◌}
use Rattle.rela_words.specs.Parts.{IsLimitUpTo, parts_of}
use Rattle.rela_words.proofs.Fits.{if_bad, just_read, none_read, rir_just, rir_unlimited}
use Rattle.rela_words.proofs.Operands.{four_words}
use Rattle.rela_words.proofs.commands.read_rir.Goals as goal

pub returns-in_err-states-clause-bad : goal.returns-in_err-states-clause-bad
returns-in_err-states-clause-bad c = if_bad c.from_residual.result _
    (rir_unlimited (parts_of c.args.parts.now)
    (none_read (λ n. IsLimitUpTo 4000000 (parts_of c.args.parts.now).limits n × (c.args.parts.now.blame ≡ false)) c.states_without_flag.result c.states_without_flag.ensures c.in_err-states.ensures.ok_part))

pub returns-clause-fits : goal.returns-clause-fits
returns-clause-fits c =
    rir_just (parts_of c.args.parts.now) (string_bytes c.in_ok-before.before) (string_bytes c.in_ok-before.after) (string_bytes c.in_ok-before.locations) (string_bytes c.in_ok-assertions.assertions) c.in_ok-states.states
    (sym c.operands.ensures
    ∙ four_words c.operands.result c.in-Some-len4.field-0 c.in-Some-len4.is (string_bytes c.in_ok-before.before) (string_bytes c.in_ok-before.after) (string_bytes c.in_ok-before.locations) (string_bytes c.in_ok-assertions.assertions)
    _ _ _ _ c.in-Some-len4.len_at_least c.in-Some-len4.len_below c.in_ok-before.ensures.first c.in_ok-before.ensures.second c.in_ok-before.ensures.third c.in_ok-assertions.ensures.ok)
    (just_read (λ n. IsLimitUpTo 4000000 (parts_of c.args.parts.now).limits n × (c.args.parts.now.blame ≡ false)) c.states_without_flag.result c.states_without_flag.ensures c.in_ok-states.states c.in_ok-states.ensures.ok_part)
