use Rattle.std.proofs.Common.{◌≡◌, length, arith}
use Rattle.rela_blocks.specs.RowBlocks.{symbols_of}
use Rattle.rela_cert.proofs.MappedWords.{in_order}
use Rattle.rela_cert.proofs.OneShape.{places_below}
use Rattle.rela_cert.proofs.row_forms.form_of.Goals as goal

pub of-requires : goal.of-requires
of-requires c =
    let row = c.args.row.now in
    places_below row.check.now row.alphabet.now c.args.blocks.now row.pair.now c.level-level.result c.level-level.ensures c.requires.blocks c.requires.located

pub renamed_block-requires : goal.renamed_block-requires
renamed_block-requires c =
    let row = c.args.row.now in
    let blocks = c.args.blocks.now in
    let bound = symbols_of row.check.now (length row.alphabet.now) in
    let symbols : length blocks ≡ bound = c.requires.blocks.letters.symbols in
    (in_order blocks bound (length blocks) c.args.images.now (omega (arith, symbols)) c.requires.images).0
