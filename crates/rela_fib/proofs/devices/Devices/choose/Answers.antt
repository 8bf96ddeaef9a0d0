use Rattle.std.proofs.Common.{◌≡◌, ◌<◌, ◌≤◌, ◌∙◌, List, ap, arith, get_or, length, subst, take, ℕ, Option}
use Rattle.std.proofs.lemmas.List.{take_all, take_more_set}
use Rattle.rela_prefixes.specs.Longest.{Longest}
use Rattle.rela_fib.specs.Steps.{AreChoices, IsWithin}
use Rattle.rela_fib.specs.declared.device.Device.{Device}
use Rattle.rela_fib.proofs.Steps.{same_choice, zip_length, zip_more, zip_set}
use Rattle.rela_fib.proofs.devices.Devices.choose.Goals as goal
use Rattle.rela_fib.proofs.devices.Devices.choose.Goals.{then-ne, else-ne}

pub bounds-choices-place : goal.bounds-choices-place
bounds-choices-place c = omega (arith, c.loop-place-test.true, ap length c.deref-device-items.ensures.value, zip_length IsWithin c.args.self.now.devices.items c.loop-place.choices c.loop-place.invariant.within)

pub bounds-choices-place-in-loop-place : goal.bounds-choices-place-in-loop-place
bounds-choices-place-in-loop-place c = omega (arith, c.loop-place-test.true, ap length c.deref-device-items.ensures.value, zip_length IsWithin c.args.self.now.devices.items c.loop-place.choices c.loop-place.invariant.within)

pub loop-place-preserved : goal.loop-place-preserved
loop-place-preserved c =
    let i = c.loop-place.place in
    let devices = c.args.self.now.devices.items in
    let device = c.device-item.result in
    let choices = c.loop-place.choices in
    let choice = c.choice-choice.result in
    let same = c.deref-device-items.ensures.value in
    let lt : i < length devices = omega (arith, c.loop-place-test.true, ap length same) in
    let lt' : i < length choices = omega (arith, lt, zip_length IsWithin devices choices c.loop-place.invariant.within) in
    let is = subst (λ (ds : List Device). device ≡ get_or ds i device) same c.device-item.is in
    record {
      chosen = zip_more (λ (device : Device) (choice : Option ℕ). Longest device.prefixes c.args.address choice) devices (take i choices) _ i device choice lt is (take_more_set choices i choice lt') c.loop-place.invariant.chosen c.choice-choice.ensures.longest;
      within = zip_set IsWithin devices choices i device choice lt is c.choice-choice.ensures.within c.loop-place.invariant.within;
      kept = elim c.if-ne.branch [
        | then-ne w ↦ λ e. absurd (cc (e, w.is_changed-is))
        | else-ne w ↦ λ e. same_choice choices i choice c.ne.result c.ne.ensures w.if-ne.false ∙ c.loop-place.invariant.kept (cc (e, w.is_changed-is))
      ];
    }

pub returns-clause-chosen : goal.returns-clause-chosen
returns-clause-chosen c =
    let i = c.loop-place.place in
    let devices = c.args.self.now.devices.items in
    let choices = c.loop-place.choices in
    let all : length devices ≤ i = omega (arith, c.loop-place-test.false, ap length c.deref-device-items.ensures.value) in
    let all' : length choices ≤ i = omega (arith, all, zip_length IsWithin devices choices c.loop-place.invariant.within) in
    subst (λ (ds : List Device). AreChoices ds c.args.address choices) (take_all i devices all) (subst (λ (cs : List (Option ℕ)). AreChoices (take i devices) c.args.address cs) (take_all i choices all') c.loop-place.invariant.chosen)
