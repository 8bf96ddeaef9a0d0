use Rattle.std.proofs.Common.{◌≡◌, ◌≤◌, length, arith}
use Rattle.rela_translate.specs.Checked.{markers_of}
use Rattle.rela_blocks.proofs.ClassSplits.{few_markers}
use Rattle.rela_blocks.proofs.blocks.markers.Goals as goal

pub count_markers-requires : goal.count_markers-requires
count_markers-requires c =
    let few : length (markers_of c.args.check.now.body) ≤ 20000 = few_markers c.args.check.now c.body.ensures.check c.body.ensures.markers in
    rw c.body.ensures.body few

pub returns-clause-few : goal.returns-clause-few
returns-clause-few c =
    let few : length (markers_of c.args.check.now.body) ≤ 20000 = few_markers c.args.check.now c.body.ensures.check c.body.ensures.markers in
    let count : c.count_markers.result ≡ length (markers_of c.args.check.now.body) = rw c.body.ensures.body at c.count_markers.ensures in
    omega (arith, few, count)
