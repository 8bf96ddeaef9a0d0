use Rattle.std.proofs.Common.{◌<◌, ◌∙◌, length, ap, sym, arith}
use Rattle.json.specs.Word.{is_space}
use Rattle.rela_tokens.proofs.Lexemes.{blank}
use Rattle.rela_tokens.proofs.scan.solid_from.Goals as goal

pub blanks-preserved : goal.blanks-preserved
blanks-preserved c =
    let l = c.blanks in
    let lt : l.solid < length c.args.text.now = omega arith in
    record {
      same = sym (blank c.args.text.now l.solid lt (ap is_space (sym c.byte_at.ensures.byte) ∙ sym c.is_blank.ensures ∙ c.if-is_blank.true)) ∙ l.invariant.same;
      within = omega arith;
    }
