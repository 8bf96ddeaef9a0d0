use Rattle.std.proofs.Common.{map, ap, ◌∙◌, arith}
use Rattle.rela_claims.specs.Classes.{Place, number_in}
use Rattle.rela_claims.specs.Named.{symbols_in_tree}
use Rattle.rela_claims.specs.Written.{class_of}
use Rattle.rela_claims.proofs.Fitting.{fits_tree}
use Rattle.rela_claims.proofs.Making.{claim_made, few_mentions}
use Rattle.rela_claims.proofs.resolving.made.Goals as goal

pub tree-requires : goal.tree-requires
tree-requires c =
    let place : Place = record { network = c.args.locations.now; level = c.args.level } in
    omega (arith, few_mentions place c.args.assertion.now c.args.mentions.now c.requires.mentioned, c.in_ok-table.ensures.few, c.requires.small)

pub returns-clause-claim : goal.returns-clause-claim
returns-clause-claim c =
    let place : Place = record { network = c.args.locations.now; level = c.args.level } in
    claim_made place c.args.assertion.now c.args.mentions.now c.requires.mentioned c.requires.found c.requires.small c.in_ok-table.table.keys c.in_ok-table.ensures.each
    (record { name = c.in_ok-name.name; tree = c.in_ok-tree.tree; classes = c.in_ok-classes.classes }) c.in_ok-name.ensures c.in_ok-tree.ensures.made c.in_ok-classes.ensures.listed

pub returns-clause-plain : goal.returns-clause-plain
returns-clause-plain c =
    ap symbols_in_tree c.in_ok-tree.ensures.made
    ∙ (fits_tree c.args.level (number_in (map class_of c.in_ok-table.table.keys)) c.args.assertion.now.tree).plain
