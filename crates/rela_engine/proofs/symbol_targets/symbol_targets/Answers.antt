use Rattle.std.proofs.Common.{◌<◌, length, subst, sym}
use Rattle.std.proofs.lemmas.List.{get_or_default}
use Rattle.rela_labels.specs.Partition.{block_of}
use Rattle.rela_engine.proofs.SymbolLists.{row_more}
use Rattle.rela_engine.proofs.symbol_targets.symbol_targets.Goals as goal

pub loop-s-preserved : goal.loop-s-preserved
loop-s-preserved c =
    let inside : c.block_of.result < length c.args.by_letter.now = subst (λ n. c.block_of.result < n) (sym c.requires.letters) c.block_of.ensures.below in
    row_more c.args.by_letter.now (block_of c.args.blocks.now) c.loop-s.s c.block_of.result _ c.loop-s.row.items c.push.new.self.items
    (get_or_default c.args.by_letter.now c.block_of.result _ 0 inside) c.block_of.ensures.block c.in_ok-push.ensures.items c.loop-s.invariant
