use Rattle.rela_subset.proofs.Splitting.{left_all}
use Rattle.rela_subset.proofs.blocks.Blocks.new.Goals as goal

pub invariant_of-result : goal.invariant_of-result
invariant_of-result g c = (
  record {
    size = c.in_ok-rest.ensures.size;
    rising = c.requires.rising;
    among = λ k q here. here;
    apart = λ k q h. ((c.in_ok-rest.ensures.letters k).0 h).1 q;
    first = record { none = c.least-least.ensures.none; member = c.least-least.ensures.member; before = c.least-least.ensures.least };
  },
  c.requires.labels,
)

pub returns-clause-left : goal.returns-clause-left
returns-clause-left g c =
    left_all (g.L.LabelSet.letters c.args.over.now) c.args.singles.now (g.L.LabelSet.letters c.in_ok-rest.rest) c.in_ok-rest.ensures.size c.in_ok-rest.ensures.letters
