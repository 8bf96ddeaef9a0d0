use Rattle.std.proofs.Common.{◌≡◌, ◌∙◌, ◌<◌, ℕ, List, length, ap, sym, arith}
use Rattle.std.proofs.lemmas.Result.{IfOk-weaker}
use Rattle.rela_labels.specs.Partition.{block_of}
use Rattle.rela_blocks.proofs.split.blocks_of_classes.Goals as goal

pub returns-clause-split : goal.returns-clause-split
returns-clause-split c =
    let old : length c.in_ok-splitter.splitter ≡ c.args.symbols = ap length c.in_ok-splitter.ensures ∙ c.in_ok-whole.ensures.symbols in
    let new : length c.split_by_classes.new.splitter ≡ c.args.symbols = c.split_by_classes.ensures.symbols ∙ old in
    let first : (s : ℕ) → s < c.args.symbols → block_of c.in_ok-splitter.splitter s ≡ 0 =
    λ s below. ap (λ (l : List ℕ). block_of l s) c.in_ok-splitter.ensures ∙ c.in_ok-whole.ensures.one_block s below in
    IfOk-weaker c.into_partition.result _ _
    (λ blocks told s t s_in t_in.
    let split = c.in_ok-split_by_classes.ensures.split s t (omega (arith, s_in, old)) (omega (arith, t_in, old)) in
    let kept = told s t (omega (arith, s_in, new)) (omega (arith, t_in, new)) in (
      λ one. (split.0 (kept.0 one)).1,
      λ alike. kept.1 (split.1 (first s s_in ∙ sym (first t t_in), alike)),
    ))
    c.into_partition.ensures.together
