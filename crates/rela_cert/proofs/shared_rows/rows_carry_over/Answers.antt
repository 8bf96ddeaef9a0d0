use Rattle.std.proofs.Common.{◌≡◌, Some, length}
use Rattle.rela_plan.specs.Alike.{look_of}
use Rattle.rela_rir.specs.Agreement.{SamePaths}
use Rattle.rela_cert.specs.RowNames.{RowName, row_scenes}
use Rattle.rela_cert.proofs.CarriedRows.{carried_excused, carried_made, carried_met, same_paths}
use Rattle.rela_cert.proofs.shared_rows.rows_carry_over.Goals as goal

pub returns : goal.returns
returns c =
    let check = c.args.check.now in
    let names = c.args.alphabet.now in
    let n = length names in
    let pair = c.args.pair.now in
    let other = c.args.other.now in
    let from : RowName = record {
      check = check;
      locations = n;
      flow = Some (record { level = check.level; names = names; before = other.before; after = other.after });
    } in
    let to : RowName = record {
      check = check;
      locations = n;
      flow = Some (record { level = check.level; names = names; before = pair.before; after = pair.after });
    } in
    let same : look_of check.level pair ≡ look_of check.level other → SamePaths (row_scenes.of from) (row_scenes.of to) =
    same_paths check c.level-level.result c.level-level.ensures names pair other
    (record {
      paths = c.same_outline_same_paths.ensures;
      arrives = c.same_outline_same_arrivals.ensures.arrives;
      undelivered = c.same_outline_same_arrivals.ensures.undelivered;
    })
    (record {
      paths = c.same_outline_same_paths-2.ensures;
      arrives = c.same_outline_same_arrivals-2.ensures.arrives;
      undelivered = c.same_outline_same_arrivals-2.ensures.undelivered;
    }) in
    record {
      met = λ looks. carried_met check n _ _ (same looks);
      made = λ row looks. carried_made check n _ _ (same looks) (c.scenes_alike.ensures.places from to) row;
      excused = λ limit looks. carried_excused check n _ _ (same looks) limit (c.licences_carry_over.ensures.licensed from to);
    }
