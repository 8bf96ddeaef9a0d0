use Rattle.std.proofs.Common.{◌*◌, ◌^◌, ◌<◌, ◌≤◌, ◌↔◌, length, option_copied}
use Rattle.rela_flows.specs.declared.prefix.reading.Fields.{Fields}
use Rattle.rela_flows.specs.Fields.{separator_of, bits_of, parts_of, Write}
use Rattle.rela_flows.proofs.FieldRuns.{Continues}
use Rattle.rela_flows.proofs.prefix.reading.read_fields.Given as goal

abbrev pub invariant-loop-rest : goal.invariant-loop-rest
invariant-loop-rest l = record {
  few : l.read.count ≤ 8;
  small : l.read.number < 2 ^ (bits_of l.notation * l.read.count);
  run : (fields : Fields) → Write l.notation l.text fields ↔ Continues l.notation l.read.count l.read.number (parts_of (separator_of l.notation) (option_copied l.rest)) fields;
}

abbrev pub decreases-loop-rest : goal.decreases-loop-rest
decreases-loop-rest l = length (parts_of (separator_of l.notation) (option_copied l.rest))
