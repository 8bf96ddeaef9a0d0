use Rattle.std.proofs.Common.{◌∙◌, ◌<◌, ℕ, length, get_or, ap, arith}
use Rattle.std.proofs.lemmas.List.{get_or_default}
use Rattle.std.proofs.lemmas.Result.{on_ok_weaker}
use Rattle.rela_engine.proofs.StateTexts.{state_written}
use Rattle.rela_engine.proofs.state_lines.push_state.Goals as goal

pub returns : goal.returns
returns c =
    let inside : c.loop_symbol.result < length c.args.row.now = omega (arith, c.loop_symbol.ensures.number, c.requires) in
    on_ok_weaker c.push_line.result
    (λ last states below.
    state_written c.args.alphabet.now c.args.row.now c.args.q c.args.accepts _ c.deref.result.now c.args.text.now.items
    c.push_state_line.new.text.items c.push_targets.new.text.items c.push_line.new.text.items
    (get_or_default c.args.row.now c.loop_symbol.result _ 0 inside ∙ ap (λ (j : ℕ). get_or c.args.row.now j 0) c.loop_symbol.ensures.number)
    c.in_ok-push_state_line.ensures c.in_ok-push_targets.ensures last states (c.deref.ensures.value ∙ c.in_ok-targets.ensures.targets states below))
    c.push_line.ensures
