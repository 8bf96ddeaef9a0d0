use Rattle.rela_nfa.specs.Stored.{move_of}
use Rattle.std.proofs.Common.{length, map, sym}
use Rattle.rela_subset.proofs.Narrowing.{in_common}
use Rattle.rela_subset.proofs.alike.near.Goals as goal

pub meet-requires : goal.meet-requires
meet-requires g c = sym (c.in-Some.ensures.sized (length (g.L.LabelSet.letters c.args.rest.now)) c.requires)

pub returns-in-Some-clause-alike : goal.returns-in-Some-clause-alike
returns-in-Some-clause-alike g c =
    in_common g.L.LabelSet.letters (map (λ edge. move_of g.L.LabelSet.letters edge.now) c.args.edges.now) (g.L.LabelSet.letters c.args.rest.now) (g.L.LabelSet.letters c.in-Some.label.now)
    c.args.letter c.meet.result c.in-Some.ensures.taken c.meet.ensures.both
