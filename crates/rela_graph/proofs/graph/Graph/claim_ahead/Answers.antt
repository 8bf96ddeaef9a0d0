use Rattle.std.proofs.Common.{◌<◌, ◌≡◌, length, get_or, ap, inl, refl, arith}
use Rattle.rela_graph.proofs.Claiming.{claim_ahead}
use Rattle.rela_graph.proofs.graph.Graph.claim_ahead.Goals as goal

pub follow_on-requires-clause-ahead : goal.follow_on-requires-clause-ahead
follow_on-requires-clause-ahead c =
    let g = c.args.self.now in
    let now = c.loop-place.claimed in
    let root = get_or c.args.roots.now c.loop-place.place 0 in
    let here : get_or now.roots c.loop-place.place 0 ≡ root = ap (λ l. get_or l c.loop-place.place 0) c.loop-place.invariant.roots in
    let within : root < length now.places =
    let below = c.requires.roots c.loop-place.place 0 c.loop-place-test.true in
    let len = c.members-done.ensures.places in let count = c.loop-place.invariant.count in omega arith in
    claim_ahead now c.claim.new.self root c.loop-place.place within c.claim.ensures.frame c.in_ok-claim.ensures.claims g c.loop-place.invariant.ahead
    (inl (rw here refl))
