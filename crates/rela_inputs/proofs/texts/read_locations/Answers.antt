use Rattle.rela_inputs.proofs.TextLaws.{network_read, network_refused}
use Rattle.rela_inputs.proofs.texts.read_locations.Goals as goal

pub returns-in-Ok : goal.returns-in-Ok
returns-in-Ok c = network_read _ c.in-Ok.locations c.in-Ok.ensures.network

pub returns-in-Err : goal.returns-in-Err
returns-in-Err c = network_refused _ c.in-Err.error _ c.load_halt.ensures c.in-Err.ensures.fault
