use Rattle.std.proofs.Common.{length}
use Rattle.rela_branches.proofs.Members.{row_below}
use Rattle.rela_branches.proofs.places.mark_row.Goals as goal

pub mark_all-requires : goal.mark_all-requires
mark_all-requires c =
    row_below c.args.rows.now (length c.args.rows.now) (length c.args.marks.now) c.args.place c.index-rows-place.result c.as_slice.result.now c.requires.rows c.requires.place
    c.index-rows-place.is c.as_slice.ensures c.requires.length
