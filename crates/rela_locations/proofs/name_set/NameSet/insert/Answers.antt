use Rattle.std.proofs.Common.{◌≡◌, ◌<◌, ◌≤◌, ◌∷◌, ◌++◌, [], ◌∙◌, length, ap, inl, inr, not, refl, false, arith}
use Rattle.std.proofs.lemmas.Grind.{common_steps}
use Rattle.std.proofs.lemmas.List.{append-nil}
use Rattle.rela_locations.specs.Names.{AreLocationNames, has_name, with_name}
use Rattle.rela_locations.proofs.NameOrder.{has_name-contains, more_location_names, room_for_one}
use Rattle.rela_locations.proofs.RisingNames.{IsAfterAll, ascending_with_last, new_behind, pushed_is, pushed_location_names}
use Rattle.rela_locations.proofs.name_set.NameSet.insert.Goals as goal

pub invariant_of-self-then-is_after_all : goal.invariant_of-self-then-is_after_all
invariant_of-self-then-is_after_all c =
    let rising = c.self.inside.rising.items in
    let mixed = c.self.inside.mixed.keys in
    let none : mixed ≡ [] = grind (arith, common_steps) in
    let after : IsAfterAll c.args.name rising = rw (← c.deref.ensures.value) (c.is_after_all.ensures c.if-is_after_all.true) in
    let items : c.push.new.self.items ≡ rising ++ c.args.name ∷ [] = c.in_ok-push.ensures.items in
    let room : length (rising ++ mixed) < 100000 = rw c.self.view_is c.requires.room in (
      pushed_location_names rising mixed c.push.new.self.items c.args.name none items after c.self.invariant.0 c.requires.location room,
      rw items (ascending_with_last rising c.args.name c.self.invariant.1 after),
      inr none,
    )

pub returns-then-is_after_all-clause-new : goal.returns-then-is_after_all-clause-new
returns-then-is_after_all-clause-new c =
    let rising = c.self.inside.rising.items in
    let mixed = c.self.inside.mixed.keys in
    let none : mixed ≡ [] = grind (arith, common_steps) in
    let after : IsAfterAll c.args.name rising = rw (← c.deref.ensures.value) (c.is_after_all.ensures c.if-is_after_all.true) in
    let short : rising ++ mixed ≡ rising = rw none (append-nil rising) in
    let absent : has_name (rising ++ mixed) c.args.name ≡ false = rw short (new_behind rising c.args.name after) in
    rw (← c.self.view_is) (rw absent refl)

pub returns-then-is_after_all-clause-added : goal.returns-then-is_after_all-clause-added
returns-then-is_after_all-clause-added c =
    let rising = c.self.inside.rising.items in
    let mixed = c.self.inside.mixed.keys in
    let none : mixed ≡ [] = grind (arith, common_steps) in
    let after : IsAfterAll c.args.name rising = rw (← c.deref.ensures.value) (c.is_after_all.ensures c.if-is_after_all.true) in
    rw (← c.self.view_is) (pushed_is rising mixed c.push.new.self.items c.args.name none c.in_ok-push.ensures.items after)

pub invariant_of-self-2 : goal.invariant_of-self-2
invariant_of-self-2 c =
    let names = c.self.inside.rising.items ++ c.self.inside.mixed.keys in
    let made : c.insert.new.self.keys ≡ with_name names c.args.name = c.in_ok-is_new.ensures.keys ∙ rw c.in_ok-mix.ensures.moved refl in
    let below : length names < 100000 = rw c.self.view_is c.requires.room in
    let few : length c.insert.new.self.keys ≤ 100000 =
    room_for_one c.in_ok-is_new.is_new _ _ (rw c.in_ok-mix.ensures.moved below) c.in_ok-is_new.ensures.len in
    let named : AreLocationNames c.insert.new.self.keys = rw made (more_location_names names c.args.name c.self.invariant.0 c.requires.location (rw (← made) few)) in
    rw c.mix.ensures.none (named, (λ i j d below within. absurd (omega arith)), inl refl)

pub returns-clause-new : goal.returns-clause-new
returns-clause-new c =
    let names = c.self.inside.rising.items ++ c.self.inside.mixed.keys in
    rw (← c.self.view_is) (c.in_ok-is_new.ensures.added ∙ ap not (rw c.in_ok-mix.ensures.moved (has_name-contains names c.args.name)))
