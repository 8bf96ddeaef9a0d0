-- The answer that a listed row gives an audit.
use Rattle.std.specs.Prelude.{ℕ, List, Option, None, Some}
use Rattle.rela_certfile.specs.Blocks.{head_line}
use Rattle.rela_certfile.specs.declared.rows.ListedRow.{ListedRow}
use Rattle.rela_cert.specs.declared.answer.Audit.{Audit}
use Rattle.rela_cert.specs.declared.answer.Audit.TheVariants as audit
use Rattle.rela_cert.specs.declared.judgement.Judgement.{Judgement}
use Rattle.rela_cert.specs.declared.judgement.Judgement.TheVariants.{Met, OpenComplement, BadImages, TooLarge}

-- by the judgement of the row at this place, which has so many complement blocks: none where its check is met, and for
-- a bad block the line of its head
abbrev pub answer_by : List ListedRow → ℕ → ℕ → Judgement → Option Audit
answer_by rows place complements Met = None
answer_by rows place complements (OpenComplement block) =
    Some (audit.Rejected (head_line rows place block))
answer_by rows place complements BadImages =
    Some (audit.Rejected (head_line rows place complements))
answer_by rows place complements TooLarge = Some audit.TooLarge
