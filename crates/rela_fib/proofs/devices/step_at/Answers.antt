use Rattle.std.proofs.Common.{◌<◌, None, arith, get_or, length}
use Rattle.std.proofs.lemmas.List.{get_or_default}
use Rattle.rela_fib.specs.Steps.{IsWithin}
use Rattle.rela_fib.proofs.Steps.{step_with, zip_at, zip_length}
use Rattle.rela_fib.proofs.devices.step_at.Goals as goal

pub bounds-choices-place : goal.bounds-choices-place
bounds-choices-place c = omega (arith, c.requires.place, zip_length IsWithin c.args.devices.now c.args.choices.now c.requires.within)

pub step-requires : goal.step-requires
step-requires c =
    let choices = c.args.choices.now in
    let choice = get_or choices c.args.place None in
    let lt : c.args.place < length choices = omega (arith, c.requires.place, zip_length IsWithin c.args.devices.now choices c.requires.within) in
    zip_at IsWithin c.args.devices.now choices c.args.place c.index-devices-place.result choice c.requires.within c.requires.place c.index-devices-place.is (get_or_default choices c.args.place None choice lt)

pub returns : goal.returns
returns c =
    let choices = c.args.choices.now in
    let choice = get_or choices c.args.place None in
    let lt : c.args.place < length choices = omega (arith, c.requires.place, zip_length IsWithin c.args.devices.now choices c.requires.within) in
    step_with c.args.devices.now choices c.args.place c.index-devices-place.result choice c.step.result.now c.requires.place lt c.index-devices-place.is (get_or_default choices c.args.place None choice lt) c.step.ensures
