use Rattle.std.proofs.Common.{◌∙◌}
use Rattle.rela_fib.proofs.device.Device.new.Goals as goal

pub returns : goal.returns
returns c = record { prefixes = c.in_ok-prefixes-2.ensures ∙ c.in_ok-prefixes.ensures; steps = c.in_ok-steps.ensures; otherwise = c.without_route.ensures c.args.nodes.now }
