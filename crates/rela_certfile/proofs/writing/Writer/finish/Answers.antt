use Rattle.std.proofs.Common.{◌∙◌}
use Rattle.rela_certfile.proofs.Written.{begun_ended}
use Rattle.rela_certfile.proofs.writing.Writer.finish.Goals as goal

pub returns : goal.returns
returns c = λ l rows begun.
    rw (c.in_ok-extend_from_slice.ensures.items, c.as_slice.ensures)
    (begun_ended l rows c.self.inside.text.items (c.self.view_is ∙ begun))
