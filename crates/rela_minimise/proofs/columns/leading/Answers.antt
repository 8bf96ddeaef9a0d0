use Rattle.std.proofs.Common.{◌∙◌, map, ap, sym}
use Rattle.std.proofs.lemmas.List.{drop_all}
use Rattle.rela_nfa.specs.Stored.{move_of}
use Rattle.rela_subset.specs.Deterministic.{target}
use Rattle.rela_minimise.proofs.LeadingAlike.{has_target, label_sized, meets_alike, meets_leads, meets_within}
use Rattle.rela_minimise.proofs.columns.leading.Goals as goal

pub common-requires : goal.common-requires
common-requires g c =
    c.requires.size
    ∙ sym (label_sized g.L.LabelSet.letters c.args.dfa.now c.requires.deterministic c.args.q c.requires.state c.edges-edges.result.now c.edges-edges.ensures c.loop-edge.edge-index c.edge-item.result
    c.loop-edge-test.true c.edge-item.is c.in-Some.label c.in-Some.is)

pub returns-then-contains-clause-alike : goal.returns-then-contains-clause-alike
returns-then-contains-clause-alike g c =
    meets_alike g.L.LabelSet.letters c.args.dfa.now c.requires.deterministic c.args.q c.requires.state c.edges-edges.result.now c.edges-edges.ensures c.loop-edge.edge-index c.edge-item.result
    c.loop-edge-test.true c.edge-item.is c.in-Some.label c.in-Some.is (g.L.LabelSet.letters c.args.block) (g.L.LabelSet.letters c.in_ok-letters.letters) c.args.letter (sym c.contains.ensures.has ∙ c.if-contains.true) c.in_ok-letters.ensures.both

pub returns-then-contains-clause-leads : goal.returns-then-contains-clause-leads
returns-then-contains-clause-leads g c =
    meets_leads g.L.LabelSet.letters c.args.dfa.now c.requires.deterministic c.args.q c.requires.state c.edges-edges.result.now c.edges-edges.ensures c.loop-edge.edge-index c.edge-item.result
    c.loop-edge-test.true c.edge-item.is c.in-Some.label c.in-Some.is c.args.letter (sym c.contains.ensures.has ∙ c.if-contains.true)

pub returns-then-contains-clause-state : goal.returns-then-contains-clause-state
returns-then-contains-clause-state g c =
    meets_within g.L.LabelSet.letters c.args.dfa.now c.requires.deterministic c.args.q c.requires.state c.edges-edges.result.now c.edges-edges.ensures c.loop-edge.edge-index c.edge-item.result
    c.loop-edge-test.true c.edge-item.is c.in-Some.label c.in-Some.is

pub returns-clause-alike : goal.returns-clause-alike
returns-clause-alike g c =
    absurd (has_target c.args.dfa.now c.requires.deterministic c.args.q c.args.letter c.requires.state c.requires.letter
    (c.loop-edge.invariant ∙ ap (λ es. target (map (move_of g.L.LabelSet.letters) es) c.args.letter) (drop_all c.loop-edge.edge-index c.edges-edges.result.now c.loop-edge-test.false)))

pub returns-clause-leads : goal.returns-clause-leads
returns-clause-leads g c =
    absurd (has_target c.args.dfa.now c.requires.deterministic c.args.q c.args.letter c.requires.state c.requires.letter
    (c.loop-edge.invariant ∙ ap (λ es. target (map (move_of g.L.LabelSet.letters) es) c.args.letter) (drop_all c.loop-edge.edge-index c.edges-edges.result.now c.loop-edge-test.false)))
