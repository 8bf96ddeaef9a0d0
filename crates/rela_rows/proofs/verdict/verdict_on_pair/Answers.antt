use Rattle.std.proofs.Common.{subst, length}
use Rattle.std.specs.List.{All}
use Rattle.rela_engine.specs.RowOf.{RowOf}
use Rattle.rela_blocks.specs.Scenes.{paths_of}
use Rattle.rela_report.specs.Text.{VerdictHasTexts}
use Rattle.rela_snapshot.specs.Located.{StandsAt}
use Rattle.rela_translate.specs.Checked.{markers_of}
use Rattle.rela_translate.specs.Settings.{IsMarker}
use Rattle.rela_rows.proofs.Loops.{if_ok}
use Rattle.rela_rows.proofs.PathTexts.{path_has_texts}
use Rattle.rela_rows.proofs.Shown.{verdict_texts}
use Rattle.rela_rows.proofs.verdict.verdict_on_pair.Goals as goal

pub returns-clause-texts : goal.returns-clause-texts
unfolding StandsAt
returns-clause-texts c =
    let names = c.args.alphabet.now in
    let check = c.args.compiled.now.check in
    let level = check.level in
    let before = c.args.pair.now.before in
    let after = c.args.pair.now.after in
    let limit = c.args.compiled.now.states in
    let few = subst (λ checked. All IsMarker (markers_of checked.body)) c.check.ensures c.body-body.ensures.markers in
    if_ok (RowOf check (length names) (paths_of level names before after) limit) (VerdictHasTexts names) c.decide_with_letters.result
    (λ row is. verdict_texts names check level before after limit row few
    (path_has_texts before level names c.requires.located.0) (path_has_texts after level names c.requires.located.1) is.says)
    c.decide_with_letters.ensures.row
