use Rattle.std.proofs.Common.{◌<◌, List, ℕ, get_or, subst, take, arith}
use Rattle.std.specs.List.{All}
use Rattle.std.proofs.lemmas.List.{take_all, take_more}
use Rattle.rela_snapshot.proofs.Kept.{All-push}
use Rattle.rela_snapshot.proofs.plain_graph.below.Goals as goal

pub loop-n-preserved : goal.loop-n-preserved
loop-n-preserved c =
    let ns = c.args.numbers.now in
    let i = c.loop-n.n-index in
    let below : get_or ns i 0 < c.args.count = omega arith in
    All-push (λ n. n < c.args.count) (take i ns) _ (get_or ns i 0) (take_more ns i 0 c.loop-n-test.true) c.loop-n.invariant below

pub returns-clause-within : goal.returns-clause-within
returns-clause-within c =
    subst (λ (ns : List ℕ). All (λ n. n < c.args.count) ns) (take_all c.loop-n.n-index c.args.numbers.now c.loop-n-test.false) c.loop-n.invariant
