use Rattle.std.proofs.Common.{◌≡◌, take}
use Rattle.rela_closed.specs.Listing.{AreListed}
use Rattle.rela_closed.specs.Words.{words_of}
use Rattle.rela_closed.proofs.numbering.number_words.Given as goal

abbrev pub invariant-loop-step : goal.invariant-loop-step
invariant-loop-step g l = record {
  same : l.reader ≡ l.fn.reader;
  listed : AreListed l.reader (words_of (take l.step-index l.steps)) l.table l.numbers.items;
}
