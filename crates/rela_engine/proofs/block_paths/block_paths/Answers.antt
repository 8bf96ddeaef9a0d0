use Rattle.std.proofs.Common.{length, refl}
use Rattle.rela_engine.proofs.Placed.{placed}
use Rattle.rela_engine.proofs.block_paths.block_paths.Goals as goal

pub read_over-requires-clause-placed : goal.read_over-requires-clause-placed
read_over-requires-clause-placed c =
    let case = c.args.case.now in
    placed case.alphabet.now case.compiled.now.check.level case.compiled.now.check.level (length case.alphabet.now) case.pair.now.before refl refl c.requires.case.located.0

pub read_over-requires-2-clause-placed : goal.read_over-requires-2-clause-placed
read_over-requires-2-clause-placed c =
    let case = c.args.case.now in
    placed case.alphabet.now case.compiled.now.check.level case.compiled.now.check.level (length case.alphabet.now) case.pair.now.after refl refl c.requires.case.located.1
