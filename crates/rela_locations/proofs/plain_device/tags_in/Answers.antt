use Rattle.std.proofs.Common.{codes}
use Rattle.rela_locations.specs.Plain.{entry_of}
use Rattle.rela_locations.proofs.PlainLaws.{found_is, tags_listed}
use Rattle.rela_locations.proofs.plain_device.tags_in.Goals as goal

pub returns-in_ok-tags-in-Some : goal.returns-in_ok-tags-in-Some
returns-in_ok-tags-in-Some c =
    tags_listed (entry_of c.args.members.now) _ _ (found_is (codes "tags") c.args.members.now _ _ _ c.find.ensures.found c.in-Some.is c.in_ok-texts-in-Some.ensures.texts) c.in_ok-tags-in-Some.ensures
