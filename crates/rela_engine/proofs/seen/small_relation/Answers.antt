use Rattle.std.proofs.Common.{map}
use Rattle.std.proofs.lemmas.Result.{IfOk-weaker}
use Rattle.rela_build.specs.Reading.{read_by}
use Rattle.rela_nfa.specs.Runs.{Accepts}
use Rattle.rela_trans.specs.Runs.{Relates}
use Rattle.rela_engine.specs.Reading.{Realises, RealisesFrom}
use Rattle.rela_engine.proofs.Rereading.{realises_all}
use Rattle.rela_engine.proofs.seen.small_relation.Goals as goal

pub returns-then-states-clause-relation : goal.returns-then-states-clause-relation
returns-then-states-clause-relation g c =
    let blocks = c.args.blocks.now in
    let pairs = Relates (read_by c.args.coarse.now) c.args.relation.now in
    IfOk-weaker c.whole_relation.result (Realises blocks pairs) (RealisesFrom blocks (λ u. Accepts c.args.paths.now (map (read_by blocks) u)) pairs)
    (realises_all blocks (λ u. Accepts c.args.paths.now (map (read_by blocks) u)) pairs) c.whole_relation.ensures.relation
