use Rattle.std.proofs.Common.{◌≡◌, ◌∙◌, ◌+◌, ◌<◌, ℕ, List, length, refl, sym, subst, arith}
use Rattle.std.specs.List.{All}
use Rattle.rela_engine.proofs.Placed.{placed}
use Rattle.rela_engine.proofs.PlainPartitions.{parts_below, plain_result}
use Rattle.rela_engine.proofs.plain_blocks.plain_blocks.Goals as goal

pub with_alone-requires : goal.with_alone-requires
with_alone-requires c =
    let names = c.args.alphabet.now in
    let few : length c.in_ok-coarse.coarse ≡ length names + 2 = c.in_ok-coarse.ensures.symbols ∙ c.len.ensures.len in
    subst (λ (bound : ℕ). All (λ s. s < bound) c.as_slice.result.now) (sym few)
    (subst (λ (l : List ℕ). All (λ s. s < length names + 2) l) (sym (c.as_slice.ensures.value ∙ c.in_ok-apart.ensures))
    (parts_below c.args.assertion.now c.args.level names c.args.pair.now.before c.args.pair.now.after c.requires.named
    (placed names c.args.level c.args.level (length names) c.args.pair.now.before refl refl c.requires.located.0)
    (placed names c.args.level c.args.level (length names) c.args.pair.now.after refl refl c.requires.located.1)))

pub returns : goal.returns
returns c =
    let names = c.args.alphabet.now in
    plain_result c.args.assertion.now c.args.classes.now c.args.level names c.args.pair.now.before c.args.pair.now.after c.in_ok-coarse.coarse c.as_slice.result.now c.with_alone.result
    (c.as_slice.ensures.value ∙ c.in_ok-apart.ensures) (c.in_ok-coarse.ensures.symbols ∙ c.len.ensures.len)
    (λ s t s_in t_in one. (c.in_ok-coarse.ensures.split s t (omega (arith, s_in, c.len.ensures.len)) (omega (arith, t_in, c.len.ensures.len))).0 one)
    c.with_alone.ensures.symbols c.with_alone.ensures.partition c.with_alone.ensures.together c.requires.named
    (placed names c.args.level c.args.level (length names) c.args.pair.now.before refl refl c.requires.located.0)
    (placed names c.args.level c.args.level (length names) c.args.pair.now.after refl refl c.requires.located.1)
