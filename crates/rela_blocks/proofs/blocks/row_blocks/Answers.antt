use Rattle.std.proofs.Common.{◌∙◌, ◌<◌, ℕ, List, length, refl, sym, subst}
use Rattle.std.specs.List.{All}
use Rattle.rela_blocks.proofs.Placed.{placed}
use Rattle.rela_blocks.proofs.RowPartitions.{finer_result, parts_below, row_result}
use Rattle.rela_blocks.specs.RowBlocks.{symbols_of}
use Rattle.rela_blocks.proofs.blocks.row_blocks.Goals as goal

pub with_alone-requires : goal.with_alone-requires
with_alone-requires c =
    let check = c.args.check.now in
    let names = c.args.alphabet.now in
    subst (λ (bound : ℕ). All (λ s. s < bound) c.as_slice.result.now) (sym c.requires.blocks.letters.symbols)
    (subst (λ (l : List ℕ). All (λ s. s < symbols_of check (length names)) l) (sym (c.as_slice.ensures.value ∙ c.in_ok-nodes.ensures))
    (parts_below check names c.args.pair.now.before c.args.pair.now.after
    (placed names check.level check.level (length names) c.args.pair.now.before refl refl c.requires.located.0)
    (placed names check.level check.level (length names) c.args.pair.now.after refl refl c.requires.located.1)))

pub returns-clause-blocks : goal.returns-clause-blocks
returns-clause-blocks c =
    let check = c.args.check.now in
    let names = c.args.alphabet.now in
    row_result check names c.args.pair.now.before c.args.pair.now.after c.args.blocks.now c.as_slice.result.now
    (c.as_slice.ensures.value ∙ c.in_ok-nodes.ensures) c.requires.blocks c.body.ensures.check
    (record { before = c.named_symbols_are_alone.ensures.before; after = c.named_symbols_are_alone.ensures.after }) c.with_alone.result
    c.with_alone.ensures.symbols c.with_alone.ensures.partition c.with_alone.ensures.together
    (placed names check.level check.level (length names) c.args.pair.now.before refl refl c.requires.located.0)
    (placed names check.level check.level (length names) c.args.pair.now.after refl refl c.requires.located.1)

pub returns-clause-finer : goal.returns-clause-finer
returns-clause-finer c =
    let check = c.args.check.now in
    let names = c.args.alphabet.now in
    finer_result check names c.args.pair.now.before c.args.pair.now.after c.args.blocks.now c.as_slice.result.now
    (c.as_slice.ensures.value ∙ c.in_ok-nodes.ensures) c.requires.blocks c.body.ensures.check c.with_alone.result
    c.with_alone.ensures.symbols c.with_alone.ensures.partition c.with_alone.ensures.together
