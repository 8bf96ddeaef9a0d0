use Rattle.std.proofs.Common.{ℕ, ◌+◌, List, get_or, take, refl, sym, subst, ◌∙◌, arith}
use Rattle.std.specs.List.{Contains}
use Rattle.std.proofs.lemmas.List.{take_all}
use Rattle.rela_restriction.specs.Acts.{IsActOn}
use Rattle.rela_restriction.proofs.ActLetters.{act_more, input_more, still, writing_alone}
use Rattle.rela_restriction.proofs.acts.acts_on.Goals as goal

pub loop-input-init : goal.loop-input-init
loop-input-init g c = record {
  size = c.in_ok-set.ensures.size;
  writes = λ k below. c.in_ok-set.ensures.all (c.args.letters + k) (omega arith) (omega (arith, below));
  reads = λ k among. absurd (omega (arith, among.1));
  keeps = λ k among. absurd (omega (arith, among.1));
  only = λ x among. writing_alone c.args.letters (take 0 c.args.inputs.now) x (c.in_ok-set.ensures.only x among);
}

pub loop-input-preserved : goal.loop-input-preserved
loop-input-preserved g c =
    let n = c.args.letters in
    let inputs = c.args.inputs.now in
    let i = c.loop-input.input-index in
    let k = get_or inputs i 0 in
    let old = g.L.LabelSet.letters c.loop-input.set in
    let mid = g.L.LabelSet.letters c.add.new.self in
    let new = g.L.LabelSet.letters c.add-in-loop-input.new.self in
    let first = still k old mid c.in_ok-add.ensures.added c.in_ok-add.ensures.others in
    let second = still (n + (n + k)) mid new c.in_ok-add-2.ensures.added c.in_ok-add-2.ensures.others in
    record {
      size = c.in_ok-add-2.ensures.size ∙ c.in_ok-add.ensures.size ∙ c.loop-input.invariant.size;
      writes = λ j below. second (n + j) (first (n + j) (c.loop-input.invariant.writes j below));
      reads = input_more (λ j. j) inputs i k old new c.loop-input-test.true refl c.loop-input.invariant.reads (λ x among. second x (first x among))
          (second k c.in_ok-add.ensures.added);
      keeps = input_more (λ j. n + (n + j)) inputs i k old new c.loop-input-test.true refl c.loop-input.invariant.keeps (λ x among. second x (first x among))
          c.in_ok-add-2.ensures.added;
      only = act_more n inputs i k old mid new c.loop-input-test.true refl c.loop-input.invariant.only c.in_ok-add.ensures.others c.in_ok-add-2.ensures.others;
    }

pub returns-clause-reads : goal.returns-clause-reads
returns-clause-reads g c k among =
    c.loop-input.invariant.reads k (subst (λ (l : List ℕ). Contains l k) (sym (take_all c.loop-input.input-index c.args.inputs.now c.loop-input-test.false)) among)

pub returns-clause-keeps : goal.returns-clause-keeps
returns-clause-keeps g c k among =
    c.loop-input.invariant.keeps k (subst (λ (l : List ℕ). Contains l k) (sym (take_all c.loop-input.input-index c.args.inputs.now c.loop-input-test.false)) among)

pub returns-clause-only : goal.returns-clause-only
returns-clause-only g c x among =
    subst (λ (l : List ℕ). IsActOn c.args.letters l x) (take_all c.loop-input.input-index c.args.inputs.now c.loop-input-test.false) (c.loop-input.invariant.only x among)
