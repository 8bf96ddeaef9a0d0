use Rattle.std.proofs.Common.{◌<◌, ◌≤◌, subst, sym, ◌∙◌}
use Rattle.std.proofs.lemmas.List.{length-map}
use Rattle.rela_minimise.specs.Stored.{lists_of}
use Rattle.rela_minimise.proofs.Heads.{edges_lead}
use Rattle.rela_minimise.proofs.Putting.{precede_all, precede_more}
use Rattle.rela_minimise.proofs.predecessors.predecessors.Goals as goal

pub add_all-requires : goal.add_all-requires
add_all-requires g c =
    edges_lead g.L.LabelSet.letters c.edges.result.now c.args.dfa.now c.requires _ c.loop-p.p (sym (length-map c.loop-p.lists.items (λ list. list.items)) ∙ c.loop-p.invariant.each) (subst (λ n. c.loop-p.p < n) c.states-p-end.ensures.states c.loop-p-test.true) c.edges.ensures

pub loop-p-preserved : goal.loop-p-preserved
loop-p-preserved g c =
    precede_more c.args.dfa.now c.loop-p.p _ (lists_of c.loop-p.lists.items) (lists_of c.add_all.new.lists.items) (subst (λ n. c.loop-p.p < n) c.states-p-end.ensures.states c.loop-p-test.true) c.edges.ensures c.loop-p.invariant c.in_ok-add_all.ensures.added

pub returns : goal.returns
returns g c = precede_all c.args.dfa.now c.loop-p.p (lists_of c.loop-p.lists.items) (subst (λ n. n ≤ c.loop-p.p) c.states-p-end.ensures.states c.loop-p-test.false) c.loop-p.invariant
