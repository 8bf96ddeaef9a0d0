use Rattle.std.proofs.Common.{◌≡◌, Err, arith}
use Rattle.std.proofs.lemmas.Grind.{common_steps}
use Rattle.rela_fib.specs.declared.error.FibError.TheVariants.{TooMany}
use Rattle.rela_fib.proofs.Flows.{flow_more, many_in}
use Rattle.rela_fib.proofs.writing.push_flows.Goals as goal

pub returns-in_err-push_class-clause-too_many : goal.returns-in_err-push_class-clause-too_many
returns-in_err-push_class-clause-too_many c = λ e.
    let is : c.push_class.result ≡ Err TooMany = grind (arith, common_steps, e, c.from_residual-in_err-push_class.ensures, c.in_err-push_class.was) in
    many_in c.args.devices.now c.args.classes.now c.loop-place.place c.index-classes-place.result c.loop-place-test.true c.index-classes-place.is (c.push_class.ensures.too_many is)

pub loop-place-preserved : goal.loop-place-preserved
loop-place-preserved c = record {
  added = flow_more c.args.devices.now c.args.end.now c.args.classes.now c.loop-place.place c.index-classes-place.result c.args.text.now.items c.loop-place.text.items c.push_class.new.text.items c.loop-place-test.true c.index-classes-place.is c.loop-place.invariant.added c.in_ok-push_class.ensures.flow;
  drawing = c.in_ok-push_class.ensures.drawing;
}
