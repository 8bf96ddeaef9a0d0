use Rattle.std.proofs.Common.{◌≡◌, true, get_or, arith}
use Rattle.rela_tokens.proofs.Lexemes.{behind_comma}
use Rattle.rela_tokens.proofs.scan.value_from.Goals as goal

pub returns-clause-begins : goal.returns-clause-begins
returns-clause-begins c =
    let d = c.args.text.now in
    let comma : get_or d c.args.at 32 ≡ 44 = omega (arith, c.byte_at.ensures.byte) in
    let after : c.args.after_value ≡ true = grind arith in
    behind_comma d c.args.after_value c.args.at c.solid_from.result after comma c.solid_from.ensures.same
