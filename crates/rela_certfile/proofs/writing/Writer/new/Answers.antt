use Rattle.std.proofs.Common.{◌∙◌}
use Rattle.rela_certfile.proofs.Written.{begun_first}
use Rattle.rela_certfile.proofs.writing.Writer.new.Goals as goal

pub returns : goal.returns
returns c = λ l. c.in_ok-text.ensures.items ∙ c.as_slice.ensures ∙ begun_first l
