use Rattle.std.proofs.Common.{◌<◌, ◌≡◌, ℕ, None, Some, length, get_or, ap, sym, ◌∙◌, arith}
use Rattle.std.specs.Prelude.{slice_index}
use Rattle.std.proofs.lemmas.List.{get_or_default}
use Rattle.std.proofs.lemmas.List.Elements.{All-contains}
use Rattle.rela_graph.specs.Component.{Reaches}
use Rattle.rela_graph.specs.Topology.{HasEdge, JoinsNodes}
use Rattle.rela_graph.specs.declared.node.Link.{Link}
use Rattle.rela_graph.proofs.Chaining.{chain_falls}
use Rattle.rela_graph.proofs.Claiming.{same_frame, frame_then, claim_behind, reach_after}
use Rattle.rela_graph.proofs.graph.Graph.claim_sources.Goals as goal

pub loop-at-init : goal.loop-at-init
loop-at-init c =
    let last = c.args.incoming.now.last.items in
    let node : c.args.n < length last = let n = c.requires.node in let len = c.requires.chained.nodes in omega arith in
    record {
      frame = same_frame c.args.claimed.now;
      behind = c.requires.behind;
      into = λ k d e. c.requires.chained.into c.args.n k d (get_or_default last c.args.n None c.index-at.result.now node ∙ sym c.index-at.ensures ∙ e);
    }

pub bounds-edges-place : goal.bounds-edges-place
bounds-edges-place c = rw c.edges-edges.ensures.edges (c.loop-at.invariant.into c.in-Some.place (record { a = 0; b = 0 }) c.in-Some.is).0

next_into : (c : goal.After-at-in-Some-1) (k : ℕ) (d : Link) → c.index-at-in-Some.result.now ≡ Some k
    → (k < c.in-Some.place) × ((get_or c.args.self.now.edges k d).b ≡ (get_or c.args.self.now.edges c.in-Some.place d).b)
next_into c k d e =
    let before = c.args.incoming.now.before.items in
    let place = c.in-Some.place in
    let here = (c.loop-at.invariant.into place d c.in-Some.is).0 in
    let node : place < length before = let len = c.requires.chained.edges_len in omega arith in
    c.requires.chained.earlier place k d here (get_or_default before place None c.index-at-in-Some.result.now node ∙ sym c.index-at-in-Some.ensures ∙ e)

pub loop-at-smaller : goal.loop-at-smaller
loop-at-smaller c = chain_falls c.loop-at.at c.index-at-in-Some.result.now c.in-Some.place c.in-Some.is (λ k e. (next_into c k (record { a = 0; b = 0 }) e).0)

pub loop-at-preserved : goal.loop-at-preserved
loop-at-preserved c =
    let g = c.args.self.now in
    let n = c.args.n in
    let now = c.loop-at.claimed in
    let place = c.in-Some.place in
    let d : Link = record { a = 0; b = 0 } in
    let link : Link = get_or c.edges-edges.result.now place d in
    let into = c.loop-at.invariant.into place d c.in-Some.is in
    let link_is : link ≡ get_or g.edges place d = ap (λ l. get_or l place d) c.edges-edges.ensures.edges in
    let edge : HasEdge g link.a n =
    (place, into.0, get_or_default g.edges place (record { a = link.a; b = n }) d into.0 ∙ sym link_is ∙ ap (λ (b : ℕ). record { a = link.a; b = b }) (ap (λ (l : Link). l.b) link_is ∙ into.1)) in
    let root = get_or c.places.result.now n 0 in
    let frame = c.loop-at.invariant.frame in
    let to : Reaches g n (slice_index now.roots root) = rw (frame.roots, c.places.ensures.places) (c.requires.behind n c.requires.member) in
    let within : link.a < length now.places =
    let joins = All-contains (JoinsNodes (length g.nodes)) g.edges (record { a = link.a; b = n }) c.edges-edges.ensures.topology.joins edge in
    let len = c.places.ensures.len in let count = c.requires.count in let same = frame.len in let below = joins.0 in omega arith in
    record {
      frame = frame_then c.args.claimed.now now c.claim.new.self frame c.claim.ensures.frame;
      behind =
          claim_behind now c.claim.new.self link.a root within c.claim.ensures.frame c.in_ok-claim.ensures.claims g c.loop-at.invariant.behind
          (reach_after g link.a n (slice_index now.roots root) edge to);
      into = λ k e is.
          let earlier = next_into c k e is in
          let here = c.loop-at.invariant.into place e c.in-Some.is in
          (let less = earlier.0 in let below = here.0 in omega arith, earlier.1 ∙ here.1);
    }
