use Rattle.std.proofs.Common.{◌≡◌, ◌+◌, length, ap, sym, subst, ◌∙◌, arith}
use Rattle.std.proofs.lemmas.List.{length-map}
use Rattle.rela_minimise.specs.Refining.{HasFound}
use Rattle.rela_minimise.specs.Stored.{lists_of, stage_of}
use Rattle.rela_minimise.proofs.Targeting.{each_more, goes_more, used_more}
use Rattle.rela_minimise.proofs.refinement.Refinement.targets.Goals as goal
use Rattle.rela_minimise.proofs.refinement.Refinement.targets.Goals.{In_ok-push}

module _ (g : Rattle.rela_minimise.proofs.refinement.Refinement.targets.Given.Over) (c : In_ok-push g) where
  count : length (lists_of c.args.self.now.members.items) ≡ length c.args.self.now.members.items
  count = length-map c.args.self.now.members.items (λ v. v.items)

  has : HasFound (length (lists_of c.args.self.now.members.items)) c.loop-q.found c.target.new.found c.in_ok-target.field-0
  has = subst (λ n. HasFound n c.loop-q.found c.target.new.found c.in_ok-target.field-0) (sym count) c.in_ok-target.ensures.found

pub loop-q-preserved : goal.loop-q-preserved
loop-q-preserved g c = record {
  each = each_more c.args.dfa.now (lists_of c.args.columns.now) (stage_of c.args.self.now) c.args.waiting.now c.loop-q.targets.items c.push.new.self.items c.loop-q.found c.target.new.found c.loop-q.q-index c.in_ok-target.field-0
      c.loop-q.invariant.each c.in_ok-push.ensures.items (has g c);
  goes = goes_more c.args.dfa.now (lists_of c.args.columns.now) (stage_of c.args.self.now) c.args.waiting.now c.loop-q.targets.items c.push.new.self.items c.loop-q.found c.target.new.found c.loop-q.q-index c.in_ok-target.field-0
      c.loop-q.invariant.each c.in_ok-push.ensures.items (has g c) c.loop-q.invariant.goes c.in_ok-target.ensures.goes;
  used = λ j below.
      let (k, k_in, at) = used_more c.args.dfa.now (lists_of c.args.columns.now) (stage_of c.args.self.now) c.args.waiting.now c.loop-q.targets.items c.push.new.self.items c.loop-q.found c.target.new.found c.loop-q.q-index c.in_ok-target.field-0
      c.loop-q.invariant.each c.in_ok-push.ensures.items (has g c)
      (λ i i_in. let (m, m_in, is) = c.loop-q.invariant.used i i_in in (m, m_in, is ∙ ap (λ n. n + i) (sym (count g c)))) j below in
      (k, k_in, at ∙ ap (λ n. n + j) (count g c));
}

pub returns-clause-used : goal.returns-clause-used
returns-clause-used g c j below = let (k, k_in, at) = c.loop-q.invariant.used j below in (k, (let end = c.loop-q.auto.q-index-end in omega arith), at)
