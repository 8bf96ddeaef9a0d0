use Rattle.std.proofs.Common.{◌∙◌}
use Rattle.rela_certfile.proofs.Written.{has_check, row_written, begun_more}
use Rattle.rela_certfile.proofs.writing.Writer.push_row.Goals as goal

pub push_row_line-requires : goal.push_row_line-requires
push_row_line-requires c = has_check _ c.args.row.now c.requires

pub returns : goal.returns
returns c = λ rows begun.
    rw (c.in_ok-push_block.ensures, c.in_ok-push_complements.ensures, c.in_ok-push_row_line.ensures, c.as_slice.ensures, c.as_slice-2.ensures, c.as_slice-3.ensures)
    (row_written c.args.layout.now c.args.row.now c.self.inside.text.items
    ∙ begun_more c.args.layout.now rows c.args.row.now c.self.inside.text.items (c.self.view_is ∙ begun))
