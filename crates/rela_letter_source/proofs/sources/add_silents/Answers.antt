use Rattle.std.proofs.Common.{None, get_or}
use Rattle.std.proofs.lemmas.List.{get_or_default}
use Rattle.rela_letter_source.specs.Steps.{standing, step_to}
use Rattle.rela_letter_source.proofs.GrownSteps.{grows_none, grows_one_more}
use Rattle.rela_letter_source.proofs.sources.add_silents.Goals as goal

pub loop-end-init : goal.loop-end-init
loop-end-init c = grows_none c.args.growing.now

pub loop-end-preserved : goal.loop-end-preserved
loop-end-preserved c =
    let ends = c.args.ends.now in
    let i = c.loop-end.end-index in
    grows_one_more ends i (get_or ends i 0) c.loop-end-test.true (get_or_default ends i (get_or ends i 0) 0 c.loop-end-test.true) c.args.growing.now c.loop-end.growing c.add_silent.new.self
    (λ q. step_to None (standing q c.args.x.machine c.args.x.written)) c.loop-end.invariant c.in_ok-add_silent.ensures
