use Rattle.std.proofs.Common.{◌≡◌, ◌∙◌, ◌<◌, ◌↔◌, ℕ, List, length, sym, subst, arith}
use Rattle.std.specs.List.{All}
use Rattle.rela_build.specs.Lettering.{AreListedAlike}
use Rattle.rela_labels.specs.Partition.{Together}
use Rattle.rela_rir.specs.declared.set.SymbolSet.{SymbolSet}
use Rattle.rela_blocks.proofs.RowPartitions.{blocks_result, check_result, tail_below}
use Rattle.rela_blocks.specs.RowBlocks.{symbols_of}
use Rattle.rela_blocks.proofs.blocks.check_blocks.Goals as goal

pub with_alone-requires : goal.with_alone-requires
with_alone-requires c =
    let check = c.args.check.now in
    let n = length c.args.alphabet.now in
    let few : length c.in_ok-split.split ≡ symbols_of check n = c.in_ok-split.ensures.symbols ∙ c.symbols_of-symbols.ensures.count in
    subst (λ (bound : ℕ). All (λ s. s < bound) c.as_slice.result.now) (sym few)
    (subst (λ (l : List ℕ). All (λ s. s < symbols_of check n) l) (sym (c.as_slice.ensures.value ∙ c.in_ok-apart.ensures)) (tail_below check n))

pub returns-clause-blocks : goal.returns-clause-blocks
returns-clause-blocks c =
    let check = c.args.check.now in
    let n = length c.args.alphabet.now in
    let count : c.symbols_of-symbols.result ≡ symbols_of check n = c.symbols_of-symbols.ensures.count in
    check_result check n (record { before = c.named_symbols_are_alone.ensures.before; after = c.named_symbols_are_alone.ensures.after }) c.in_ok-split.split c.as_slice.result.now c.with_alone.result
    (c.as_slice.ensures.value ∙ c.in_ok-apart.ensures) (c.in_ok-split.ensures.symbols ∙ count)
    (λ s t s_in t_in.
    subst (λ (classes : List SymbolSet). Together c.in_ok-split.split s t ↔ AreListedAlike classes s t) c.classes.ensures
    (c.in_ok-split.ensures.split s t (omega (arith, s_in, count)) (omega (arith, t_in, count))))
    c.with_alone.ensures.symbols c.with_alone.ensures.partition c.with_alone.ensures.together c.symbols_of-symbols.ensures.check

pub returns-clause-together : goal.returns-clause-together
returns-clause-together c =
    let check = c.args.check.now in
    let n = length c.args.alphabet.now in
    let count : c.symbols_of-symbols.result ≡ symbols_of check n = c.symbols_of-symbols.ensures.count in
    blocks_result check n c.in_ok-split.split c.as_slice.result.now c.with_alone.result
    (c.as_slice.ensures.value ∙ c.in_ok-apart.ensures) (c.in_ok-split.ensures.symbols ∙ count)
    (λ s t s_in t_in.
    subst (λ (classes : List SymbolSet). Together c.in_ok-split.split s t ↔ AreListedAlike classes s t) c.classes.ensures
    (c.in_ok-split.ensures.split s t (omega (arith, s_in, count)) (omega (arith, t_in, count))))
    c.with_alone.ensures.symbols c.with_alone.ensures.partition c.with_alone.ensures.together
