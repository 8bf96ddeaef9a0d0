use Rattle.std.proofs.Common.{sym, ◌∙◌}
use Rattle.rela_cert.specs.Inputs.{subject_of}
use Rattle.rela_cert.proofs.SharedRows.{found_less}
use Rattle.rela_cert.proofs.found_rows.take_or_find.Goals as goal

pub returns-in-Some : goal.returns-in-Some
returns-in-Some c = record {
  found = c.requires.kept c.args.flow c.args.check c.in-Some.found (sym c.remove.ensures.value ∙ c.in-Some.is);
  kept = found_less (subject_of c.args.inputs.now) c.args.states c.args.kept.now c.remove.new.self c.args.flow c.args.check c.remove.ensures.updates.0 c.requires.kept;
}

pub returns-in-None : goal.returns-in-None
returns-in-None c = record {
  found = c.find_row.ensures;
  kept = found_less (subject_of c.args.inputs.now) c.args.states c.args.kept.now c.remove.new.self c.args.flow c.args.check c.remove.ensures.updates.0 c.requires.kept;
}
