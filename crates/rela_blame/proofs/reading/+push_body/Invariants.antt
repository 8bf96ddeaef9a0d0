use Rattle.rela_blame.specs.Alternatives.{leads_of}
use Rattle.rela_blame.specs.Tables.{named_by}
use Rattle.rela_blame.specs.Units.{unit_offsets}
use Rattle.rela_blame.proofs.Readings.{Reading}
use Rattle.rela_blame.proofs.reading.+push_body.Given as goal

abbrev pub invariant-push_parts-loop-part : goal.invariant-push_parts-loop-part
invariant-push_parts-loop-part l =
    Reading l.table (leads_of (named_by l.table)) l.parts (unit_offsets l.initial.units.tokens.now) l.initial.leads.items l.part-index (unit_offsets l.units.tokens.now) l.leads.items
