use Rattle.std.proofs.Common.{ℕ, List, get_or, subst}
use Rattle.rela_tables.specs.Forwarding.{routes_of}
use Rattle.rela_tables.specs.declared.route.Route.{Route}
use Rattle.rela_fib.specs.Steps.{IsDevice}
use Rattle.rela_fib.specs.declared.device.Device.{Device}
use Rattle.rela_fib.proofs.Steps.{read_again, zip_more}
use Rattle.rela_fib.proofs.devices.devices_at.Goals as goal

pub loop-name-preserved : goal.loop-name-preserved
loop-name-preserved c =
    let i = c.loop-name.name-index in
    let names = c.args.names.now in
    let nodes = c.args.nodes.now in
    zip_more (λ (name : ℕ) (device : Device). IsDevice nodes (routes_of c.args.tables.now name) device) names c.loop-name.devices.items _ i (get_or names i 0) c.in_ok-device.device c.loop-name-test.true (read_again names i c.loop-name-test.true) c.in_ok-push.ensures.items c.loop-name.invariant
    (subst (λ (rs : List Route). IsDevice nodes rs c.in_ok-device.device) c.routes_of-routes.ensures.routes c.in_ok-device.ensures)
