use Rattle.std.proofs.Common.{◌≡◌, ◌++◌, ◌∷◌, [], List, subst}
use Rattle.rela_certfile.specs.Layout.{Layout}
use Rattle.rela_certfile.specs.Text.{text_begun}
use Rattle.rela_certfile.specs.declared.rows.ListedRow.{ListedRow}
use Rattle.rela_cert.specs.Subject.{layout_of}
use Rattle.rela_cert.proofs.BegunTexts.{behind, with, without}
use Rattle.rela_cert.proofs.Options.{on_ok}
use Rattle.rela_cert.proofs.found_rows.write_found.Goals as goal

pub returns-in-Some : goal.returns-in-Some
returns-in-Some c =
    let row = c.in-Some.row in
    on_ok c.push_row.result
    (λ pushed s planned limit place layout found begun.
    let made = rw c.in-Some.is at found in
    let told = subst (λ (l : Layout). (rows : List ListedRow) → c.args.writer.now ≡ text_begun l rows → c.push_row.new.self ≡ text_begun l (rows ++ row ∷ [])) layout pushed in
    with s planned limit place c.args.writer.now begun row made c.push_row.new.self
    (c.row_appended.ensures (layout_of s planned) begun.rows row begun.listed (behind s planned limit place c.args.writer.now begun row made) made.listed)
    (told begun.rows begun.written))
    c.push_row.ensures

pub returns-in-None : goal.returns-in-None
returns-in-None c s planned limit place layout found begun = without s planned limit place c.args.writer.now begun (rw c.in-None.is at found)
