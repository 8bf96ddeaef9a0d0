use Rattle.std.proofs.Common.{arith, rules, string_bytes, sym, ◌∙◌}
use Rattle.rela_words.specs.Parts.{parts_of}
use Rattle.rela_words.proofs.Fits.{audit_just}
use Rattle.rela_words.proofs.Operands.{five_words}
use Rattle.rela_words.proofs.commands.read_audit.Goals as goal

pub returns-clause-fits : goal.returns-clause-fits
returns-clause-fits c =
    audit_just (parts_of c.args.parts.now) (string_bytes c.in_ok-before.before) (string_bytes c.in_ok-before.after) (string_bytes c.in_ok-before.locations) (string_bytes c.in_ok-spec.spec) (string_bytes c.in_ok-certificate.certificate)
    (sym c.operands.ensures
    ∙ five_words c.operands.result c.in-Some-len5.field-0 c.in-Some-len5.is (string_bytes c.in_ok-before.before) (string_bytes c.in_ok-before.after) (string_bytes c.in_ok-before.locations) (string_bytes c.in_ok-spec.spec) (string_bytes c.in_ok-certificate.certificate)
    _ _ _ _ _ c.in-Some-len5.len_at_least c.in-Some-len5.len_below c.in_ok-before.ensures.first c.in_ok-before.ensures.second c.in_ok-before.ensures.third c.in_ok-spec.ensures.ok c.in_ok-certificate.ensures.ok)
    (c.have_no_options.ensures.0 (first_of (search rules, grind arith)))
