use Rattle.std.proofs.Common.{◌∙◌, get_or, refl, arith}
use Rattle.rela_build.proofs.Gathered.{listed_more, listed_all}
use Rattle.rela_build.proofs.letter_sets.letters_of.Goals as goal

pub loop-s-preserved : goal.loop-s-preserved
loop-s-preserved c = record {
  symbols = c.loop-s.invariant.symbols;
  size = c.in_ok-add.ensures.size ∙ c.loop-s.invariant.size;
  letters =
      listed_more c.args.blocks.now c.args.symbols.now c.loop-s.set c.add.new.self c.loop-s.s-index (get_or c.args.symbols.now c.loop-s.s-index 0) c.block_of.result
      (omega arith) refl c.block_of.ensures.block c.loop-s.invariant.letters c.in_ok-add.ensures.added c.in_ok-add.ensures.others;
}

pub returns-clause-letters : goal.returns-clause-letters
returns-clause-letters c = listed_all c.args.blocks.now c.args.symbols.now c.loop-s.set c.loop-s.s-index (omega arith) c.loop-s.invariant.letters
