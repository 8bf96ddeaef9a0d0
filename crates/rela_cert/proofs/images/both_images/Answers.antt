use Rattle.std.proofs.Common.{length, sym, subst}
use Rattle.rela_build.specs.Notes.{StoppedTwo}
use Rattle.rela_build.specs.declared.stop.Stop.{Stop}
use Rattle.rela_cert.proofs.NotesOfTwo.{after_term, note_two, stop_first, stop_second}
use Rattle.rela_cert.proofs.Options.{err_is}
use Rattle.rela_cert.proofs.images.both_images.Goals as goal

pub returns-in_err-before-clause-stopped : goal.returns-in_err-before-clause-stopped
returns-in_err-before-clause-stopped g c =
    let b = c.args.builder.now in
    err_is _ _ c.from_residual.result c.from_residual.ensures.1
    (λ e is. subst (λ (s : Stop). StoppedTwo (g.C.Complements.refuses b.complements.now) g.C.Complements.tells_all b.letters.now (g.P.PathSets.paths b.paths.now) b.limit (length c.args.notes.now.items) c.args.terms.now.before c.args.terms.now.after s) (sym is)
    (stop_first (g.C.Complements.refuses b.complements.now) g.C.Complements.tells_all b.letters.now (g.P.PathSets.paths b.paths.now) b.limit (length c.args.notes.now.items) c.args.terms.now.before c.args.terms.now.after _ c.in_err-before.ensures.stopped))

pub returns-in_err-after-clause-stopped : goal.returns-in_err-after-clause-stopped
returns-in_err-after-clause-stopped g c =
    let b = c.args.builder.now in
    err_is _ _ c.from_residual-in_err-after.result c.from_residual-in_err-after.ensures.1
    (λ e is. subst (λ (s : Stop). StoppedTwo (g.C.Complements.refuses b.complements.now) g.C.Complements.tells_all b.letters.now (g.P.PathSets.paths b.paths.now) b.limit (length c.args.notes.now.items) c.args.terms.now.before c.args.terms.now.after s) (sym is)
    (stop_second (g.C.Complements.refuses b.complements.now) g.C.Complements.tells_all b.letters.now (g.P.PathSets.paths b.paths.now) b.limit (length c.args.notes.now.items) c.args.terms.now.before c.args.terms.now.after (length c.automaton.new.notes.items) _
    (after_term (g.C.Complements.answers b.complements.now) g.C.Complements.tells_all b.letters.now (g.P.PathSets.paths b.paths.now) c.args.terms.now.before c.args.notes.now.items c.automaton.new.notes.items c.in_ok-before.ensures.noted) c.in_err-after.ensures.stopped))

pub returns-clause-noted : goal.returns-clause-noted
returns-clause-noted g c =
    let b = c.args.builder.now in
    note_two (g.C.Complements.answers b.complements.now) g.C.Complements.tells_all b.letters.now (g.P.PathSets.paths b.paths.now) c.args.terms.now.before c.args.terms.now.after c.args.notes.now.items c.automaton.new.notes.items _ c.in_ok-before.ensures.noted c.in_ok-after.ensures.noted
