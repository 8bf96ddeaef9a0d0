use Rattle.std.proofs.Common.{◌∙◌, sym}
use Rattle.rela_engine.proofs.Placed.{placed}
use Rattle.rela_engine.proofs.by_automata.row_by_automata.Goals as goal

pub finer_blocks-requires-clause-before : goal.finer_blocks-requires-clause-before
finer_blocks-requires-clause-before c =
    placed c.args.alphabet.now c.args.compiled.now.check.level c.level.result c.locations.result c.args.pair.now.before
    c.level.ensures (c.locations.ensures ∙ sym c.requires.alphabet) c.requires.located.0

pub finer_blocks-requires-clause-after : goal.finer_blocks-requires-clause-after
finer_blocks-requires-clause-after c =
    placed c.args.alphabet.now c.args.compiled.now.check.level c.level.result c.locations.result c.args.pair.now.after
    c.level.ensures (c.locations.ensures ∙ sym c.requires.alphabet) c.requires.located.1
