use Rattle.std.proofs.Common.{◌≡◌, ◌+◌, List, ℕ, Option, arith, sym, ap, subst}
use Rattle.std.proofs.lemmas.Bool.{both_ways}
use Rattle.rela_nfa.specs.Automaton.{states}
use Rattle.rela_witness.specs.Numbered.{HasNumber}
use Rattle.rela_witness.proofs.Growing.{Passing, passing_none, passing_more, passing_past, grows_weaker}
use Rattle.rela_witness.proofs.Leading.{EdgeLeads, edge_within, edges_entered}
use Rattle.rela_witness.proofs.onward.enter_ends.Goals.{then-leads+in_ok-enter, else-leads}
use Rattle.rela_witness.proofs.onward.enter_ends.Goals as goal

pub loop-edge-init : goal.loop-edge-init
loop-edge-init g c =
    passing_none (EdgeLeads g.L.LabelSet.letters c.args.distances.now c.args.distance c.args.letter) c.args.distance c.args.numbers.now.items c.args.layer.now.items c.edges-edge-items.result.now

pub leads-requires : goal.leads-requires
leads-requires g c =
    let to =
    edge_within c.edges-edge-items.result.now (states c.args.a.now) c.loop-edge.edge-index c.edge-item.result c.edges-edge-items.ensures.lead c.loop-edge-test.true c.edge-item.is in
    omega (arith, to, c.requires.distances)

pub enter-requires : goal.enter-requires
enter-requires g c =
    let to =
    edge_within c.edges-edge-items.result.now (states c.args.a.now) c.loop-edge.edge-index c.edge-item.result c.edges-edge-items.ensures.lead c.loop-edge-test.true c.edge-item.is in
    omega (arith, to, c.requires.numbers, c.loop-edge.invariant.grows.count, c.args.numbers.now.ok.0, c.loop-edge.numbers.ok.0)

pub loop-edge-preserved : goal.loop-edge-preserved
loop-edge-preserved g c =
    let Leads = EdgeLeads g.L.LabelSet.letters c.args.distances.now c.args.distance c.args.letter in
    let edges = c.edges-edge-items.result.now in
    let i = c.loop-edge.edge-index in
    let edge = c.edge-item.result in
    let old = c.args.numbers.now.items in
    let before = c.args.layer.now.items in
    let now = c.loop-edge.numbers.items in
    let layer = c.loop-edge.layer.items in
    elim c.if-leads.branch [
      | then-leads+in_ok-enter w ↦
          let goes = c.leads.ensures.0 w.if-leads.true in
          let one =
          grows_weaker (λ q. edge.to ≡ q) (Leads edge) c.args.distance now w.enter.new.numbers.items layer w.enter.new.layer.items w.in_ok-enter.ensures.grows (λ q to. (to, goes)) in
          subst (λ (new : List (Option ℕ)). Passing Leads c.args.distance old new before c.if-leads.layer.items edges (i + 1)) (sym (ap (λ v. v.items) w.numbers-is))
          (subst (λ (after : List ℕ). Passing Leads c.args.distance old w.enter.new.numbers.items before after edges (i + 1)) (sym (ap (λ v. v.items) w.layer-is))
          (passing_more Leads c.args.distance old before edges now w.enter.new.numbers.items layer w.enter.new.layer.items i edge c.loop-edge-test.true c.edge-item.is c.loop-edge.invariant one
          (λ q leads. subst (λ n. HasNumber w.enter.new.numbers.items n) leads.0 w.in_ok-enter.ensures.entered)))
      | else-leads w ↦
          subst (λ (new : List (Option ℕ)). Passing Leads c.args.distance old new before c.if-leads.layer.items edges (i + 1)) (sym (ap (λ v. v.items) w.numbers-is))
          (subst (λ (after : List ℕ). Passing Leads c.args.distance old now before after edges (i + 1)) (sym (ap (λ v. v.items) w.layer-is))
          (passing_past Leads c.args.distance old before edges now layer i edge c.loop-edge-test.true c.edge-item.is c.loop-edge.invariant
          (λ q leads. both_ways c.leads.result w.if-leads.false (c.leads.ensures.1 leads.1))))
    ]

pub returns-clause-grows : goal.returns-clause-grows
returns-clause-grows g c =
    (edges_entered g.L.LabelSet.letters c.edges-edge-items.result.now c.args.a.now c.args.p c.edges-edge-items.ensures.moves c.args.distances.now c.args.distance c.args.letter
    c.args.numbers.now.items c.loop-edge.numbers.items c.args.layer.now.items c.loop-edge.layer.items c.loop-edge.edge-index c.loop-edge-test.false c.loop-edge.invariant).0

pub returns-clause-entered : goal.returns-clause-entered
returns-clause-entered g c =
    (edges_entered g.L.LabelSet.letters c.edges-edge-items.result.now c.args.a.now c.args.p c.edges-edge-items.ensures.moves c.args.distances.now c.args.distance c.args.letter
    c.args.numbers.now.items c.loop-edge.numbers.items c.args.layer.now.items c.loop-edge.layer.items c.loop-edge.edge-index c.loop-edge-test.false c.loop-edge.invariant).1
