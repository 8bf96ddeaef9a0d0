use Rattle.std.proofs.Common.{◌≡◌, [], replicate}
use Rattle.rela_witness.specs.Linked.{lists_of}
use Rattle.rela_witness.proofs.links.Links.new.Given as goal

abbrev pub invariant-loop : goal.invariant-loop
invariant-loop l = lists_of l.lists.items ≡ replicate l.counter []
