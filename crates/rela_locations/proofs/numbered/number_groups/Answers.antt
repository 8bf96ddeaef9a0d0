use Rattle.std.proofs.Common.{ap, ◌∙◌}
use Rattle.rela_locations.specs.Names.{has_name}
use Rattle.rela_locations.specs.Network.{Group}
use Rattle.rela_locations.specs.Numbered.{group_of, network_of}
use Rattle.rela_locations.specs.Tables.{device_names, interface_names}
use Rattle.rela_locations.proofs.Known.{device_names_by_group, interface_names_by_group, known_field, known_inside}
use Rattle.rela_locations.proofs.Numbering.{mapped_all, mapped_more}
use Rattle.rela_locations.proofs.numbered.number_groups.Goals as goal

pub number_group-requires-clause-group : goal.number_group-requires-clause-group
number_group-requires-clause-group c =
    c.requires.groups c.group-item.result.name
    (known_field (λ (g : Group). g.name) c.args.groups.now c.loop-group.group-index c.group-item.result c.loop-group-test.true c.group-item.is)

pub number_group-requires-clause-devices : goal.number_group-requires-clause-devices
number_group-requires-clause-devices c = λ n has.
    c.requires.devices n
    (ap (λ names. has_name names n) (device_names_by_group c.args.groups.now)
    ∙ known_inside (λ (g : Group). device_names g.devices) c.args.groups.now c.loop-group.group-index c.group-item.result c.loop-group-test.true c.group-item.is n has)

pub number_group-requires-clause-interfaces : goal.number_group-requires-clause-interfaces
number_group-requires-clause-interfaces c = λ n has.
    c.requires.interfaces n
    (ap (λ names. has_name names n) (interface_names_by_group c.args.groups.now)
    ∙ known_inside (λ (g : Group). interface_names g.devices) c.args.groups.now c.loop-group.group-index c.group-item.result c.loop-group-test.true c.group-item.is n has)

pub loop-group-preserved : goal.loop-group-preserved
loop-group-preserved c =
    mapped_more (group_of c.args.alphabets.now) c.args.groups.now c.loop-group.group-index c.group-item.result _ _ _ c.loop-group-test.true c.group-item.is c.loop-group.invariant
    c.in_ok-push.ensures.items c.in_ok-next.ensures

pub returns : goal.returns
unfolding network_of
returns c = mapped_all (group_of c.args.alphabets.now) _ _ _ c.loop-group-test.false c.loop-group.invariant
