use Rattle.std.proofs.Common.{length, refl}
use Rattle.std.proofs.lemmas.Option.{slice_get_read}
use Rattle.rela_certfile.proofs.Derived.{listed_from}
use Rattle.rela_certfile.proofs.writing.text.Goals as goal

pub push_row-requires : goal.push_row-requires
push_row-requires c =
    (listed_from c.args.layout.now 0 c.args.rows.now c.loop-row.row-index c.row-item.result c.requires
    (slice_get_read c.args.rows.now (length c.args.rows.now) c.loop-row.row-index c.row-item.result refl c.loop-row-test.true c.row-item.is)).1
