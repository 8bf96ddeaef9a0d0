use Rattle.rela_fib.proofs.Steps.{within_longest}
use Rattle.rela_fib.proofs.device.Device.choice.Goals as goal

pub returns-clause-within : goal.returns-clause-within
returns-clause-within c = within_longest c.args.self.now c.args.address c.longest.result c.longest.ensures c.requires
