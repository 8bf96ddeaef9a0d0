use Rattle.std.proofs.Common.{ℕ, ◌↔◌, ◌⊎◌, arith, subst}
use Rattle.std.specs.List.{Contains}
use Rattle.std.proofs.lemmas.List.{take_all}
use Rattle.rela_letter_image.proofs.Passing.{added_more}
use Rattle.rela_letter_image.proofs.branches.add_all.Goals as goal

pub loop-state-preserved : goal.loop-state-preserved
loop-state-preserved c =
    added_more c.args.states.now c.loop-state.state-index 0 c.loop-state-test.true c.args.ends.now.items c.loop-state.ends.items c.add_new.new.ends.items c.loop-state.invariant c.in_ok-add_new.ensures

pub returns : goal.returns
returns c =
    subst (λ l. (e : ℕ) → Contains c.loop-state.ends.items e ↔ (Contains c.args.ends.now.items e ⊎ Contains l e)) (take_all c.loop-state.state-index c.args.states.now (omega (arith, c.loop-state-test.false)))
    c.loop-state.invariant
