use Rattle.std.proofs.Common.{map, ◌∙◌}
use Rattle.std.specs.Prelude.{string_bytes}
use Rattle.clap.specs.Words.{app_of}
use Rattle.rela_words.proofs.Matched.{matched, refused, texts_of}
use Rattle.rela_words.proofs.parts.parse.Goals as goal

pub returns-in-Ok-clause-parts : goal.returns-in-Ok-clause-parts
returns-in-Ok-clause-parts c =
    matched (app_of c.in_ok-options.field-0) (map string_bytes c.args.words.now) c.in_ok-options.ensures (texts_of c.args.words.now) c.in-Ok.matches
    c.get_flag-blame.result (record { if_true = c.get_flag-blame.ensures.value; if_false = c.get_flag-blame.ensures.other })
    c.in-Ok.ensures.kinds c.in-Ok.ensures.matches

pub returns-clause-bad : goal.returns-clause-bad
returns-clause-bad c = λ bad.
    refused (app_of c.in_ok-options.field-0) (map string_bytes c.args.words.now) c.in_ok-options.ensures (texts_of c.args.words.now) c.in-Err.error
    c.in-Err.ensures.kinds (λ memory. c.in_default.not-OutOfMemory (c.kind.ensures ∙ memory))
