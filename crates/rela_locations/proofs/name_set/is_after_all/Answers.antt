use Rattle.std.proofs.Common.{sym}
use Rattle.std.specs.Ordering.{is_gt}
use Rattle.std.specs.Bool.{IsTrue}
use Rattle.rela_names.specs.Name.{bytes_cmp}
use Rattle.rela_locations.proofs.RisingNames.{after_all, greater_when}
use Rattle.rela_locations.proofs.name_set.is_after_all.Goals as goal

pub returns-in-Some : goal.returns-in-Some
returns-in-Some c = λ later.
    let more : IsTrue (is_gt (bytes_cmp c.args.name.now c.in-Some.last.now)) = rw (← c.gt.ensures) later in
    after_all c.args.names.now c.args.name.now c.in-Some.last.now c.requires (sym c.in-Some.ensures.value) (greater_when _ more)
