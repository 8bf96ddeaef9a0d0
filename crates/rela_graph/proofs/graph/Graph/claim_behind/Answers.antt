use Rattle.std.proofs.Common.{◌<◌, ◌≡◌, length, get_or, ap, inl, refl, arith}
use Rattle.rela_graph.proofs.Claiming.{claim_behind}
use Rattle.rela_graph.proofs.graph.Graph.claim_behind.Goals as goal

pub follow_back-requires-clause-behind : goal.follow_back-requires-clause-behind
follow_back-requires-clause-behind c =
    let g = c.args.self.now in
    let now = c.loop-place.claimed in
    let root = get_or c.args.roots.now c.loop-place.place 0 in
    let here : get_or now.roots c.loop-place.place 0 ≡ root = ap (λ l. get_or l c.loop-place.place 0) c.loop-place.invariant.roots in
    let within : root < length now.places =
    let below = c.requires c.loop-place.place 0 c.loop-place-test.true in
    let len = c.members-done.ensures.places in let count = c.loop-place.invariant.count in omega arith in
    claim_behind now c.claim.new.self root c.loop-place.place within c.claim.ensures.frame c.in_ok-claim.ensures.claims g c.loop-place.invariant.behind
    (inl (rw here refl))
