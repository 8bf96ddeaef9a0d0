use Rattle.rela_witness.specs.Linked.{lists_of}
use Rattle.rela_witness.proofs.Linking.{no_links, no_links_ok}
use Rattle.rela_witness.proofs.links.Links.new.Goals as goal

pub invariant_of-result : goal.invariant_of-result
invariant_of-result c = no_links_ok (lists_of c.loop.lists.items) c.loop.counter c.loop.invariant

pub returns-clause-none : goal.returns-clause-none
returns-clause-none c = no_links (lists_of c.loop.lists.items) c.loop.counter c.loop.invariant
