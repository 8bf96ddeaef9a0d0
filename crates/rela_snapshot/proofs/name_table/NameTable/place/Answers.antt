use Rattle.std.proofs.Common.{◌∙◌}
use Rattle.rela_snapshot.proofs.Keys.{place_of-keys}
use Rattle.rela_snapshot.proofs.name_table.NameTable.place.Goals as goal

pub returns-in_err-place-clause-place : goal.returns-in_err-place-clause-place
returns-in_err-place-clause-place c =
    let e = place_of-keys _ c.args.name.now c.self.inside.names.keys c.self.view_is in
    c.from_residual.ensures ∙ c.in_err-place.ensures.index ∙ e

pub returns-clause-place : goal.returns-clause-place
returns-clause-place c =
    let e = place_of-keys _ c.args.name.now c.self.inside.names.keys c.self.view_is in
    c.in_ok-place.ensures.index ∙ e
