use Rattle.std.proofs.Common.{◌≡◌, length, ap, sym, ◌∙◌}
use Rattle.rela_closed.proofs.Narrowing.{narrowed_all, narrowed_more, narrowed_none}
use Rattle.rela_closed.proofs.Readers.{all_at}
use Rattle.rela_closed.proofs.blocks.narrowed.Goals as goal

pub loop-label-init : goal.loop-label-init
loop-label-init g c =
    let letters = g.L.LabelSet.letters in
    record {
      size = ap length c.in_ok-block.ensures.same;
      together = narrowed_none (λ label. letters label.now) c.args.labels.now c.args.letter (letters c.args.set.now) (letters c.in_ok-block.block) c.in_ok-block.ensures.same;
    }

pub cut-requires : goal.cut-requires
cut-requires g c =
    let letters = g.L.LabelSet.letters in
    c.loop-label.invariant.size
    ∙ sym (all_at (λ label. length label ≡ length (letters c.args.set.now)) (λ label. letters label.now) c.args.labels.now c.loop-label.label-index c.label-item.result c.loop-label-test.true
    c.label-item.is c.requires)

pub loop-label-preserved : goal.loop-label-preserved
loop-label-preserved g c =
    let letters = g.L.LabelSet.letters in
    record {
      size = c.in_ok-block-2.ensures.size ∙ c.loop-label.invariant.size;
      together =
          narrowed_more (λ label. letters label.now) c.args.labels.now c.args.letter (letters c.args.set.now) c.loop-label.label-index c.label-item.result (letters c.loop-label.block)
          (letters c.in_ok-block-2.block) c.loop-label-test.true c.label-item.is c.loop-label.invariant.together c.in_ok-block-2.ensures.together;
    }

pub returns-clause-together : goal.returns-clause-together
returns-clause-together g c =
    let letters = g.L.LabelSet.letters in
    narrowed_all (λ label. letters label.now) c.args.labels.now c.args.letter (letters c.args.set.now) c.loop-label.label-index (letters c.loop-label.block) c.loop-label-test.false
    c.loop-label.invariant.together
