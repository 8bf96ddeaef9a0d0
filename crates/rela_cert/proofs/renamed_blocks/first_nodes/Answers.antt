use Rattle.std.proofs.Common.{◌++◌, [], List, map, refl, subst}
use Rattle.std.proofs.lemmas.List.{length-map}
use Rattle.rela_graph.specs.Topology.{symbol_at}
use Rattle.rela_graph.specs.declared.node.Node.{Node}
use Rattle.rela_cert.specs.RenamedBlocks.{AreFirstPlaces}
use Rattle.rela_cert.proofs.FirstPlaces.{none_noted}
use Rattle.rela_cert.proofs.renamed_blocks.first_nodes.Goals as goal

pub returns : goal.returns
returns c =
    let at = symbol_at c.args.level in
    subst (λ (ns : List Node). AreFirstPlaces (map at ns ++ map at c.args.pair.now.after.nodes) c.note_nodes-2.new.first) c.nodes-before.ensures.nodes
    (subst (λ (ns : List Node). AreFirstPlaces (map at c.nodes-before.result.now ++ map at ns) c.note_nodes-2.new.first) c.nodes-after.ensures.nodes
    (c.in_ok-note_nodes-2.ensures (map at c.nodes-before.result.now) (length-map c.nodes-before.result.now at)
    (c.in_ok-note_nodes.ensures [] refl (none_noted c.in_ok-first.first c.in_ok-first.ensures.empty))))
