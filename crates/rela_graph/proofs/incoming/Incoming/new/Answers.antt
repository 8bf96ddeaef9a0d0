use Rattle.std.proofs.Common.{◌≡◌, ◌<◌, ◌++◌, ◌∷◌, [], None, Some, length, get_or, replicate, arith, ap, ◌∙◌, rules}
use Rattle.std.proofs.lemmas.List.{get_or_default, length-set}
use Rattle.rela_graph.specs.declared.node.Link.{Link}
use Rattle.rela_graph.proofs.Chaining.{no_chain, one_chained}
use Rattle.rela_graph.proofs.incoming.Incoming.new.Goals as goal

pub loop-place-init : goal.loop-place-init
loop-place-init c =
    let none : c.in_ok-last.last.items ≡ replicate c.args.count None = c.in_ok-last.ensures.items_if_clones_equal (λ y e. search rules) in
    record {
      nodes = search rules;
      edges_len = search rules;
      chained = no_chain c.args.edges.now c.args.count c.in_ok-last.last.items c.in_ok-before.before.items none;
    }

pub loop-place-preserved : goal.loop-place-preserved
loop-place-preserved c =
    let edges = c.args.edges.now in
    let last = c.loop-place.last.items in
    let i = c.loop-place.place in
    let n = (get_or edges i (record { a = 0; b = 0 })).b in
    let node : n < length last = let in_range = c.requires.ends i (record { a = 0; b = 0 }) c.loop-place-test.true in let len = c.loop-place.invariant.nodes in omega arith in
    let pushed : c.push.new.self.items ≡ c.loop-place.before.items ++ get_or last n None ∷ [] =
    c.in_ok-push.ensures.items ∙ ap (λ o. c.loop-place.before.items ++ o ∷ []) (c.index.ensures ∙ get_or_default last n c.index.result.now None node) in
    record {
      nodes = length-set last n (Some i) ∙ c.loop-place.invariant.nodes;
      edges_len = search rules;
      chained = rw pushed
          (one_chained edges i n last c.loop-place.before.items c.loop-place.invariant.chained c.loop-place-test.true node c.loop-place.invariant.edges_len
          (λ d. ap (λ (l : Link). l.b) (get_or_default edges i d (record { a = 0; b = 0 }) c.loop-place-test.true)));
    }

pub returns : goal.returns
returns c =
    let all = c.loop-place-test.false in
    let upto = c.loop-place.auto.place-end in
    record {
      nodes = c.loop-place.invariant.nodes;
      edges_len = let len = c.loop-place.invariant.edges_len in omega arith;
      into = λ n k d e. let found = c.loop-place.invariant.chained.into n k d e in (let b = found.0 in omega arith, found.1);
      earlier = λ j k d below e. c.loop-place.invariant.chained.earlier j k d (omega arith) e;
    }
