use Rattle.std.proofs.Common.{Some, ◌∙◌, sym, ap}
use Rattle.rela_locations.specs.Tables.{index_of}
use Rattle.rela_locations.proofs.Indexes.{index_of_known}
use Rattle.rela_locations.proofs.pairs.symbol_near.Goals as goal

pub unreachable-requires : goal.unreachable-requires
unreachable-requires c =
    let stands = index_of_known c.args.alphabet.now c.args.name.now c.requires in
    let found = (c.in-None.ensures.found (index_of c.args.alphabet.now c.args.name.now)).1 (stands ∙ ap Some (sym c.as_bytes.ensures.bytes)) in
    cc

pub returns : goal.returns
returns c =
    let stands = index_of_known c.args.alphabet.now c.args.name.now c.requires in
    let found = (c.in-Some.ensures.found (index_of c.args.alphabet.now c.args.name.now)).1 (stands ∙ ap Some (sym c.as_bytes.ensures.bytes)) in
    cc
