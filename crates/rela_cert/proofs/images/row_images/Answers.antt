use Rattle.std.proofs.Common.{length, sym, subst}
use Rattle.std.proofs.lemmas.Result.{IfErr-weaker, IfOk-weaker, on_ok_weaker}
use Rattle.rela_build.specs.Lettering.{IsAlone}
use Rattle.rela_build.specs.Named.{Names}
use Rattle.rela_translate.specs.Terms.{after_of, before_of}
use Rattle.rela_build.specs.Notes.{StoppedTwo}
use Rattle.rela_build.specs.declared.stop.Stop.{Stop}
use Rattle.rela_cert.specs.RowParts.{after_term, before_term, lettering_at, paths_at}
use Rattle.rela_cert.proofs.Options.{err_is}
use Rattle.rela_cert.proofs.RowJudged.{made_here, noted_here, stopped_here, stopped_memory}
use Rattle.rela_cert.proofs.images.row_images.Goals as goal

pub both_images-requires-clause-before_alone : goal.both_images-requires-clause-before_alone
both_images-requires-clause-before_alone g c =
    subst (Names (IsAlone c.args.letters.now.blocks)) (sym c.in_ok-terms.ensures.before)
    (c.named_symbols_are_alone.ensures.before_image c.args.letters.now.blocks (before_of (length c.args.row.now.alphabet.now) c.args.row.now.check.now.body)
    c.requires.letters.blocks.before)

pub both_images-requires-clause-after_alone : goal.both_images-requires-clause-after_alone
both_images-requires-clause-after_alone g c =
    subst (Names (IsAlone c.args.letters.now.blocks)) (sym c.in_ok-terms.ensures.after)
    (c.named_symbols_are_alone.ensures.after_image c.args.letters.now.blocks (after_of (length c.args.row.now.alphabet.now) c.args.row.now.check.now.body)
    c.requires.letters.blocks.after)

pub returns-in_err-terms-clause-stopped : goal.returns-in_err-terms-clause-stopped
returns-in_err-terms-clause-stopped g c =
    let row = c.args.row.now in
    let refuses = g.C.Complements.refuses c.args.complements.now in
    let blocks = c.args.letters.now.blocks in
    err_is _ _ c.from_residual.result c.from_residual.ensures.1
    (λ e is. subst (λ (s : Stop). StoppedTwo refuses g.C.Complements.tells_all (lettering_at row blocks) (paths_at row) c.args.limit (length c.args.notes.now.items) (before_term row) (after_term row) s) (sym is)
    (stopped_memory refuses g.C.Complements.tells_all (lettering_at row blocks) (paths_at row) c.args.limit (length c.args.notes.now.items) (before_term row) (after_term row)))

pub returns-clause-before : goal.returns-clause-before
returns-clause-before g c =
    let row = c.args.row.now in
    IfOk-weaker c.both_images.result _ _
    (λ images made. made_here g.C.Complements.tells_all row.check.now row.alphabet.now row.pair.now.before row.pair.now.after c.args.letters.now c.requires.letters.lettering
    c.level.result c.level.ensures c.in_ok-terms.terms.before (before_term row) images.before c.in_ok-terms.ensures.before made)
    c.both_images.ensures.before

pub returns-clause-after : goal.returns-clause-after
returns-clause-after g c =
    let row = c.args.row.now in
    IfOk-weaker c.both_images.result _ _
    (λ images made. made_here g.C.Complements.tells_all row.check.now row.alphabet.now row.pair.now.before row.pair.now.after c.args.letters.now c.requires.letters.lettering
    c.level.result c.level.ensures c.in_ok-terms.terms.after (after_term row) images.after c.in_ok-terms.ensures.after made)
    c.both_images.ensures.after

pub returns-clause-noted : goal.returns-clause-noted
returns-clause-noted g c =
    let row = c.args.row.now in
    on_ok_weaker c.both_images.result
    (λ noted. noted_here g.C.Complements.tells_all row.check.now row.alphabet.now row.pair.now.before row.pair.now.after c.args.letters.now c.requires.letters.lettering
    c.level.result c.level.ensures (g.C.Complements.answers c.args.complements.now) c.in_ok-terms.terms.before c.in_ok-terms.terms.after (before_term row) (after_term row)
    c.args.notes.now.items c.both_images.new.notes.items c.in_ok-terms.ensures.before c.in_ok-terms.ensures.after noted)
    c.both_images.ensures.noted

pub returns-clause-stopped : goal.returns-clause-stopped
returns-clause-stopped g c =
    let row = c.args.row.now in
    IfErr-weaker c.both_images.result _ _
    (λ e stopped. stopped_here g.C.Complements.tells_all row.check.now row.alphabet.now row.pair.now.before row.pair.now.after c.args.letters.now c.requires.letters.lettering
    c.level.result c.level.ensures (g.C.Complements.refuses c.args.complements.now) c.args.limit (length c.args.notes.now.items) c.in_ok-terms.terms.before c.in_ok-terms.terms.after
    (before_term row) (after_term row) e c.in_ok-terms.ensures.before c.in_ok-terms.ensures.after stopped)
    c.both_images.ensures.stopped
