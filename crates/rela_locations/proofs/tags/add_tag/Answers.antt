use Rattle.std.proofs.Common.{◌≡◌, ℕ, Some, ◌||◌, ◌==◌, [], ap, sym, ◌∙◌, Vec, Global, Option, true}
use Rattle.std.specs.BTreeMap.{Updates}
use Rattle.std.specs.Option.{option_map_or}
use Rattle.rela_names.specs.Name.{bytes_cmp}
use Rattle.rela_locations.specs.Tables.{devices_for, has_number}
use Rattle.rela_locations.proofs.Bools.{or_false}
use Rattle.rela_locations.proofs.TagLaws.{tag_more, tag_there, number_pushed, last_is_there, there_already, list_at, some_at}
use Rattle.rela_locations.proofs.tags.add_tag.Goals as goal

pub returns-in_ok-push-clause-with_tag : goal.returns-in_ok-push-clause-with_tag
returns-in_ok-push-clause-with_tag c =
    let updates = (c.get_mut.follows.holds c.push.new.self).3 (some_at _ _ c.in-Some.ensures.value) in
    let old : c.in-Some.devices.now.items ≡ devices_for c.args.tagged.now c.args.tag.now = list_at c.args.tagged.now c.args.tag.now c.in-Some.devices.now c.in-Some.ensures.value in
    tag_more c.args.tagged.now (c.get_mut.follows.lender c.push.new.self) c.args.tag.now c.push.new.self c.args.device updates
    (λ s. ap (λ ns. has_number ns s) c.in_ok-push.ensures.items ∙ number_pushed c.in-Some.devices.now.items c.args.device s ∙ ap (λ ns. has_number ns s || (c.args.device == s)) old)

pub returns-in_ok-push-clause-tags : goal.returns-in_ok-push-clause-tags
returns-in_ok-push-clause-tags c =
    tag_there c.args.tagged.now (c.get_mut.follows.lender c.push.new.self) c.args.tag.now c.push.new.self
    ((c.get_mut.follows.holds c.push.new.self).3 (some_at _ _ c.in-Some.ensures.value))

pub returns-else-ne-clause-with_tag : goal.returns-else-ne-clause-with_tag
returns-else-ne-clause-with_tag c =
    let updates = (c.get_mut.follows.holds c.in-Some.devices.now).3 (some_at _ _ c.in-Some.ensures.value) in
    let old : c.in-Some.devices.now.items ≡ devices_for c.args.tagged.now c.args.tag.now = list_at c.args.tagged.now c.args.tag.now c.in-Some.devices.now c.in-Some.ensures.value in
    let last : has_number c.deref.result.now c.args.device ≡ true = last_is_there c.last.result c.deref.result.now _ _ c.last.ensures.value c.if-ne.ensures in
    let there : has_number c.in-Some.devices.now.items c.args.device ≡ true = rw (← c.deref.ensures.value) last in
    tag_more c.args.tagged.now (c.get_mut.follows.lender c.in-Some.devices.now) c.args.tag.now c.in-Some.devices.now c.args.device updates
    (λ s. there_already c.in-Some.devices.now.items c.args.device s there ∙ ap (λ ns. has_number ns s || (c.args.device == s)) old)

pub returns-else-ne-clause-tags : goal.returns-else-ne-clause-tags
returns-else-ne-clause-tags c =
    tag_there c.args.tagged.now (c.get_mut.follows.lender c.in-Some.devices.now) c.args.tag.now c.in-Some.devices.now
    ((c.get_mut.follows.holds c.in-Some.devices.now).3 (some_at _ _ c.in-Some.ensures.value))

pub returns-clause-with_tag : goal.returns-clause-with_tag
returns-clause-with_tag c =
    let updates : Updates bytes_cmp c.args.tagged.now c.insert.new.self c.args.tag.now (Some c.in_ok-devices.devices) = rw (← c.in_ok-copy.ensures, ← c.get_mut.follows.holds-at-none) c.in_ok-insert.ensures.updates in
    let none : devices_for c.args.tagged.now c.args.tag.now ≡ [] = ap (λ (o : Option (Vec ℕ Global)). option_map_or (λ list. list.items) o []) (sym c.in_default.ensures.value) in
    tag_more c.args.tagged.now c.insert.new.self c.args.tag.now c.in_ok-devices.devices c.args.device updates
    (λ s. ap (λ ns. has_number ns s) c.in_ok-devices.ensures.items ∙ or_false (c.args.device == s) ∙ ap (λ ns. has_number ns s || (c.args.device == s)) (sym none))

pub returns-clause-tags : goal.returns-clause-tags
returns-clause-tags c =
    let updates : Updates bytes_cmp c.args.tagged.now c.insert.new.self c.args.tag.now (Some c.in_ok-devices.devices) = rw (← c.in_ok-copy.ensures, ← c.get_mut.follows.holds-at-none) c.in_ok-insert.ensures.updates in
    tag_there c.args.tagged.now c.insert.new.self c.args.tag.now c.in_ok-devices.devices updates
