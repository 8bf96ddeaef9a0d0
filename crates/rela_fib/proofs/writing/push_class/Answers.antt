use Rattle.std.proofs.Common.{◌≡◌, Bor, Err, List, Option, arith, map, subst, sym, ℕ}
use Rattle.std.proofs.lemmas.Grind.{common_steps}
use Rattle.rela_fib.specs.Steps.{AreChoices, AreStepsWith}
use Rattle.rela_fib.specs.Writing.{AreManySteps}
use Rattle.rela_fib.specs.declared.error.FibError.TheVariants.{TooMany}
use Rattle.rela_fib.specs.declared.step.Step.{Step}
use Rattle.rela_fib.proofs.Chains.{flow_added, flow_skipped, too_many_steps}
use Rattle.rela_fib.proofs.writing.push_class.Goals as goal

pub returns-in_err-few_steps-clause-too_many : goal.returns-in_err-few_steps-clause-too_many
returns-in_err-few_steps-clause-too_many c = λ e.
    let is : c.few_steps.result ≡ Err TooMany = grind (arith, common_steps, e, c.from_residual.ensures, c.in_err-few_steps.was) in
    too_many_steps c.args.devices.now c.args.class c.choose.new.self.choices.items c.choose.ensures.chosen (subst (AreManySteps c.args.devices.now) c.as_slice.ensures.value (c.few_steps.ensures.too_many is))

pub returns-then-len-gt-MAX_BYTES-clause-flow : goal.returns-then-len-gt-MAX_BYTES-clause-flow
returns-then-len-gt-MAX_BYTES-clause-flow c =
    let steps = map (λ (s : Bor Step). s.now) c.in_ok-few_steps.field-0.items in
    let are = subst (λ (cs : List (Option ℕ)). AreStepsWith c.args.devices.now cs steps) c.as_slice.ensures.value c.in_ok-few_steps.ensures.steps in
    flow_skipped c.args.devices.now c.args.end.now c.args.class c.args.later c.args.text.now.items c.choose.new.self.choices.items steps c.choose.ensures.chosen are c.in_ok-few_steps.ensures.few (omega (arith, c.if-len-gt-MAX_BYTES.true, c.len.ensures, c.args.text.now.ok.0))

pub returns-in_err-draw-clause-too_many : goal.returns-in_err-draw-clause-too_many
returns-in_err-draw-clause-too_many c = λ e.
    let is : c.draw.result ≡ Err TooMany = grind (arith, common_steps, e, c.from_residual-in_err-draw.ensures, c.in_err-draw.was) in
    too_many_steps c.args.devices.now c.args.class c.choose.new.self.choices.items c.choose.ensures.chosen (c.draw.ensures.too_many is)

pub returns-clause-flow : goal.returns-clause-flow
returns-clause-flow c =
    let drawing = c.draw.new.self in
    let chosen = subst (AreChoices c.args.devices.now.devices.items c.args.class.address) (sym c.in_ok-draw.ensures.choices) c.choose.ensures.chosen in
    flow_added c.args.devices.now c.args.end.now c.args.class c.args.later c.args.text.now.items c.push_comma.new.text.items c.push_flow.new.text.items drawing.choices.items drawing.graph chosen
    (c.in_ok-draw.ensures.drawing.drawn c.in_ok-draw.ensures.drawn) (omega (arith, c.if-len-gt-MAX_BYTES.false, c.len.ensures, c.args.text.now.ok.0)) c.in_ok-push_comma.ensures c.in_ok-push_flow.ensures
