use Rattle.rela_inputs.proofs.GivenLaws.{ends_inside, no_read_fault}
use Rattle.rela_inputs.proofs.step_laws.calls_inside_end.Goals as goal

pub returns : goal.returns
returns g c = record { ends = ends_inside; no_fault = no_read_fault }
