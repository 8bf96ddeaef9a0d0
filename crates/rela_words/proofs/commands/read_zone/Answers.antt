use Rattle.std.proofs.Common.{◌≡◌, false, string_bytes, sym, ◌∙◌}
use Rattle.rela_words.specs.Parts.{IsLimitUpTo, parts_of}
use Rattle.rela_words.proofs.Fits.{if_bad, just_read, none_read, zone_just, zone_unlimited}
use Rattle.rela_words.proofs.Operands.{three_words}
use Rattle.rela_words.proofs.commands.read_zone.Goals as goal

pub returns-in_err-states-clause-bad : goal.returns-in_err-states-clause-bad
returns-in_err-states-clause-bad c = if_bad c.from_residual.result _
    (zone_unlimited (parts_of c.args.parts.now)
    (none_read (λ n. IsLimitUpTo 4000000 (parts_of c.args.parts.now).limits n × (c.args.parts.now.blame ≡ false)) c.states_without_flag.result c.states_without_flag.ensures c.in_err-states.ensures.ok_part))

pub returns-clause-fits : goal.returns-clause-fits
returns-clause-fits c =
    zone_just (parts_of c.args.parts.now) (string_bytes c.in_ok-locations.locations) (string_bytes c.in_ok-locations.spec) (string_bytes c.in_ok-locations.name) c.in_ok-states.states
    (sym c.operands.ensures
    ∙ three_words c.operands.result c.in-Some-len3.field-0 c.in-Some-len3.is (string_bytes c.in_ok-locations.locations) (string_bytes c.in_ok-locations.spec) (string_bytes c.in_ok-locations.name)
    _ _ _ c.in-Some-len3.len_at_least c.in-Some-len3.len_below c.in_ok-locations.ensures.first c.in_ok-locations.ensures.second c.in_ok-locations.ensures.third)
    (just_read (λ n. IsLimitUpTo 4000000 (parts_of c.args.parts.now).limits n × (c.args.parts.now.blame ≡ false)) c.states_without_flag.result c.states_without_flag.ensures c.in_ok-states.states c.in_ok-states.ensures.ok_part)
