use Rattle.std.proofs.Common.{◌≡◌, ℕ, sym, subst}
use Rattle.rela_report.specs.declared.rows.Row.{Row}
use Rattle.rela_report.specs.declared.rows.Row.TheVariants.{Compliant}
use Rattle.rela_engine.specs.Case.{IsRight, flow_of}
use Rattle.rela_engine.specs.RowOf.{RowOf}
use Rattle.rela_blocks.specs.Scenes.{paths_of}
use Rattle.rela_engine.proofs.Rows.{right_row}
use Rattle.rela_engine.proofs.by_letters.row_by_images.Goals as goal

pub returns-in-Met : goal.returns-in-Met
returns-in-Met g c row is =
    let case = c.args.case.now in
    let k = case.compiled.now in
    let flow = paths_of k.check.level case.alphabet.now case.pair.now.before case.pair.now.after in
    let same : Compliant ≡ row = cc in
    subst (λ (r : Row). IsRight case r) same
    (subst (λ (n : ℕ). RowOf k.check n flow k.states Compliant) (sym c.requires.case.alphabet)
    (right_row k.check k.locations flow k.states (c.relations_tell_of_open_rows.ensures.there k c.requires.case.relations.within (flow_of case)) Compliant
    (rw c.in-Met.is at c.in_ok-compare_images.ensures)))
