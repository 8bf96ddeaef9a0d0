use Rattle.std.proofs.Common.{◌<◌, arith}
use Rattle.rela_snapshot.proofs.PlainLaws.{name_kept}
use Rattle.rela_snapshot.proofs.plain_flow.name_in.Goals as goal

pub returns-clause-name : goal.returns-clause-name
returns-clause-name c =
    let room : c.args.row < 10000 = omega arith in
    name_kept _ _ _ _ _ _ c.requires.row room c.as_bytes.ensures.value c.in_ok-text.ensures c.in-Ok.ensures.name
