use Rattle.std.proofs.Common.{◌∙◌, sym}
use Rattle.rela_build.specs.Reading.{read_by}
use Rattle.rela_engine.proofs.differing.compared.Goals as goal

pub of-requires-clause-letters : goal.of-requires-clause-letters
of-requires-clause-letters c = c.requires.first ∙ sym c.requires.second

pub of-requires-2-clause-letters : goal.of-requires-2-clause-letters
of-requires-2-clause-letters c = c.requires.second ∙ sym c.requires.first

pub returns : goal.returns
returns c = record {
  lost_letters = c.in_ok-lost.ensures.letters ∙ c.requires.first;
  added_letters = c.in_ok-added.ensures.letters ∙ c.requires.second;
  lost = c.in_ok-lost.ensures.covers (read_by c.args.blocks.now);
  added = c.in_ok-added.ensures.covers (read_by c.args.blocks.now);
}
