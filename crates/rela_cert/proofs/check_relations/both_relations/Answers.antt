use Rattle.std.proofs.Common.{length, sym, ap, subst}
use Rattle.rela_build.specs.Made.{IsMadeR}
use Rattle.rela_build.specs.Notes.{StoppedTwoR}
use Rattle.rela_build.specs.PathSets.{no_paths}
use Rattle.rela_build.specs.declared.stop.Stop.{Stop}
use Rattle.rela_rir.specs.declared.term.RelTerm.{RelTerm}
use Rattle.rela_cert.proofs.NotesOfTwo.{after_term_r, stop_first_r, stop_second_r}
use Rattle.rela_cert.proofs.Options.{err_is}
use Rattle.rela_cert.proofs.RelationStops.{from_none}
use Rattle.rela_cert.proofs.check_relations.both_relations.Goals as goal

-- one serves both sides
pub returns-then-alone-clause-after : goal.returns-then-alone-clause-after
returns-then-alone-clause-after g c =
    subst (λ (r : RelTerm). IsMadeR g.C.Complements.tells_all c.args.builder.now.letters.now no_paths r c.in_ok-before.before) (c.requires.alone c.if-alone.true) c.in_ok-before.ensures.made

pub returns-in_err-before-clause-stopped : goal.returns-in_err-before-clause-stopped
returns-in_err-before-clause-stopped g c =
    let b = c.args.builder.now in
    let t = c.args.terms.now in
    let refuses = g.C.Complements.refuses b.complements.now in
    let E = g.C.Complements.tells_all in
    let first = length c.new-notes.result.items in
    err_is _ _ c.from_residual.result c.from_residual.ensures.1
    (λ e is. subst (λ (s : Stop). StoppedTwoR refuses E b.letters.now no_paths b.limit 0 t.before t.after s) (sym is)
    (from_none refuses E b.letters.now b.limit first t.before t.after _ (ap (λ l. length l) c.new-notes.ensures.items)
    (stop_first_r refuses E b.letters.now no_paths b.limit first t.before t.after _ c.in_err-before.ensures.stopped)))

pub returns-in_err-after-clause-stopped : goal.returns-in_err-after-clause-stopped
returns-in_err-after-clause-stopped g c =
    let b = c.args.builder.now in
    let t = c.args.terms.now in
    let refuses = g.C.Complements.refuses b.complements.now in
    let E = g.C.Complements.tells_all in
    let first = length c.new-notes.result.items in
    err_is _ _ c.from_residual-in_err-after.result c.from_residual-in_err-after.ensures.1
    (λ e is. subst (λ (s : Stop). StoppedTwoR refuses E b.letters.now no_paths b.limit 0 t.before t.after s) (sym is)
    (from_none refuses E b.letters.now b.limit first t.before t.after _ (ap (λ l. length l) c.new-notes.ensures.items)
    (stop_second_r refuses E b.letters.now no_paths b.limit first t.before t.after (length c.transducer.new.notes.items) _
    (after_term_r (g.C.Complements.answers b.complements.now) E b.letters.now no_paths t.before c.new-notes.result.items c.transducer.new.notes.items c.in_ok-before.ensures.noted)
    c.in_err-after.ensures.stopped)))
