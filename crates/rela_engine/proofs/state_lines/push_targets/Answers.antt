use Rattle.std.proofs.Common.{◌∙◌, get_or, refl, arith}
use Rattle.std.proofs.lemmas.List.{get_or_default}
use Rattle.rela_engine.proofs.StateTexts.{line_more, piece_is, read_list, symbols_have_texts}
use Rattle.rela_engine.proofs.state_lines.push_targets.Goals as goal

pub symbols_by_target-requires-clause-few : goal.symbols_by_target-requires-clause-few
symbols_by_target-requires-clause-few c = omega (arith, c.requires.row, c.len.ensures.alphabet.few)

pub push_target-requires : goal.push_target-requires
push_target-requires c =
    let to = get_or c.args.targets.now c.loop-i.i 0 in
    symbols_have_texts c.args.alphabet.now c.args.row.now c.deref.result.now to c.requires.row
    (c.deref.ensures.value
    ∙ read_list c.args.alphabet.now c.args.row.now (λ v. v.items) c.args.targets.now c.in_ok-symbols.symbols.items c.loop-i.i c.index.result.now
    c.in_ok-symbols.ensures c.loop-i-test.true c.index.ensures to refl)

pub loop-i-preserved : goal.loop-i-preserved
loop-i-preserved c =
    line_more c.args.alphabet.now c.args.row.now c.args.targets.now c.loop-i.i _ c.args.text.now.items c.loop-i.text.items c.push_target.new.text.items _
    c.loop-i-test.true (get_or_default c.args.targets.now c.loop-i.i _ 0 c.loop-i-test.true) c.in_ok-push_target.ensures
    (piece_is c.args.alphabet.now c.args.row.now _ c.deref.result.now
    (c.deref.ensures.value
    ∙ read_list c.args.alphabet.now c.args.row.now (λ v. v.items) c.args.targets.now c.in_ok-symbols.symbols.items c.loop-i.i c.index.result.now
    c.in_ok-symbols.ensures c.loop-i-test.true c.index.ensures _ (get_or_default c.args.targets.now c.loop-i.i _ 0 c.loop-i-test.true)))
    c.loop-i.invariant
