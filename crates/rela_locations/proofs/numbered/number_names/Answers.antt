use Rattle.std.proofs.Common.{ap, ◌∙◌}
use Rattle.rela_locations.specs.Numbered.{named}
use Rattle.rela_locations.proofs.Known.{known_item}
use Rattle.rela_locations.proofs.Numbering.{mapped_all, mapped_more, named_at}
use Rattle.rela_locations.proofs.numbered.number_names.Goals as goal

pub symbol_near-symbol-requires : goal.symbol_near-symbol-requires
symbol_near-symbol-requires c = c.requires c.name-item.result (known_item c.args.names.now c.loop-name.name-index c.name-item.result c.loop-name-test.true c.name-item.is)

pub loop-name-preserved : goal.loop-name-preserved
loop-name-preserved c =
    let known = c.requires c.name-item.result (known_item c.args.names.now c.loop-name.name-index c.name-item.result c.loop-name-test.true c.name-item.is) in
    let told = ap (named c.args.alphabet.now) c.symbol_near-symbol.ensures ∙ named_at c.args.alphabet.now c.name-item.result known in
    mapped_more (named c.args.alphabet.now) c.args.names.now c.loop-name.name-index c.name-item.result _ _ _ c.loop-name-test.true c.name-item.is c.loop-name.invariant c.in_ok-push.ensures.items told

pub returns : goal.returns
returns c = mapped_all (named c.args.alphabet.now) _ _ _ c.loop-name-test.false c.loop-name.invariant
