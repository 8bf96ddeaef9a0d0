use Rattle.std.proofs.Common.{◌≡◌, ◌++◌, ◌∷◌, [], ◌∙◌, arith}
use Rattle.std.proofs.lemmas.Grind.{common_steps}
use Rattle.std.specs.Vec.Iter.{into_iter_items}
use Rattle.rela_locations.specs.Names.{with_name}
use Rattle.rela_locations.proofs.RisingNames.{after_those_before, with_last}
use Rattle.rela_locations.proofs.name_set.set_of.Goals as goal

pub loop-name-preserved : goal.loop-name-preserved
loop-name-preserved c =
    let parts : c.loop-name.yielded ++ c.in-Some.name ∷ into_iter_items c.next.new.self ≡ c.args.names.items = grind (arith, common_steps) in
    let after = after_those_before c.args.names.items c.loop-name.yielded (into_iter_items c.next.new.self) c.in-Some.name c.requires parts in
    let last : with_name c.loop-name.yielded c.in-Some.name ≡ c.loop-name.yielded ++ c.in-Some.name ∷ [] = with_last c.loop-name.yielded c.in-Some.name after in
    (c.in_ok-insert.ensures.keys ∙ rw c.loop-name.invariant.0 last, grind (arith, common_steps))
