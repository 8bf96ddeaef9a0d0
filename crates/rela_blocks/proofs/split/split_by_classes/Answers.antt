use Rattle.std.proofs.Common.{◌≡◌, ◌↔◌, ◌∙◌, List, ℕ, length, subst, arith}
use Rattle.std.specs.Prelude.{Contains}
use Rattle.rela_labels.specs.Partition.{Together}
use Rattle.rela_blocks.proofs.ClassSplits.{listed_step, listed_all}
use Rattle.rela_blocks.proofs.split.split_by_classes.Goals as goal

pub loop-set-preserved : goal.loop-set-preserved
loop-set-preserved c =
    let same : length c.split.new.self ≡ length c.args.splitter.now = c.split.ensures.symbols ∙ c.loop-set.invariant.symbols in record {
      symbols = same;
      split = λ s t s_in t_in.
          listed_step (Together c.split.new.self s t) (Together c.loop-set.splitter s t) (Together c.args.splitter.now s t)
          c.args.classes.now c.set-item.result c.loop-set.set-index s t (omega arith) c.set-item.is
          (subst (λ (members : List ℕ). Together c.split.new.self s t ↔ (Together c.loop-set.splitter s t × (Contains members s ↔ Contains members t))) c.as_slice.ensures
          (c.in_ok-split.ensures.split s t (omega (arith, s_in, c.loop-set.invariant.symbols)) (omega (arith, t_in, c.loop-set.invariant.symbols))))
          (c.loop-set.invariant.split s t s_in t_in);
    }

pub returns-clause-split : goal.returns-clause-split
returns-clause-split c s t s_in t_in =
    listed_all (Together c.loop-set.splitter s t) (Together c.args.splitter.now s t) c.args.classes.now c.loop-set.set-index s t (omega arith)
    (c.loop-set.invariant.split s t s_in t_in)
