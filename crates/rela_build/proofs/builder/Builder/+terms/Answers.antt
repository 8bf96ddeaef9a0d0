use Rattle.std.proofs.Common.{ℕ, ◌+◌, ◌<◌, List, length, refl, sym, ◌∙◌, subst, rules, arith}
use Rattle.std.proofs.lemmas.Result.{IfOk-weaker, IfErr-weaker, on_ok_weaker}
use Rattle.rela_rir.specs.Limit.{ReachedInside, ReachedInsideR}
use Rattle.rela_rir.specs.Places.{PathSetPlaces, PartsApart, NoParts}
use Rattle.rela_rir.specs.declared.term.PathTerm.{PathTerm}
use Rattle.rela_rir.specs.declared.term.RelTerm.{RelTerm}
use Rattle.rela_rir.specs.declared.term.PathTerm.TheVariants as P
use Rattle.rela_rir.specs.declared.term.RelTerm.TheVariants as R
use Rattle.rela_rir.specs.declared.term.PathTerm.TheViews.{the_lemmas}
use Rattle.rela_rir.proofs.term.PathTerm.TheLaws as path_sizes
use Rattle.rela_rir.proofs.term.RelTerm.TheLaws as relation_sizes
use Rattle.rela_build.specs.Lettering.{IsAlone}
use Rattle.rela_build.specs.Made.{IsBuilt, IsMade, IsMadeR}
use Rattle.rela_build.specs.Named.{Names, NamesR}
use Rattle.rela_build.specs.PathSets.{scene_of}
use Rattle.rela_build.specs.Notes.{Stopped, StoppedR, StoppedTwo, StoppedTwoR}
use Rattle.rela_build.specs.declared.stop.Stop.{Stop}
use Rattle.rela_build.proofs.MadeLeaves as leaves
use Rattle.rela_build.proofs.NamedForms.{named_forms, part_named, form_of_one, form_of_two}
use Rattle.rela_build.proofs.NoteForms.{note_none, note_empty, note_class, note_one, note_pre, note_post, note_union, note_concat, note_star, note_meet, note_image, note_complement, note_identity_r, note_product_r, note_union_r, note_concat_r, note_star_r, note_compose_r, note_two, note_two_r, after_term, after_term_r, stop_union, stop_concat, stop_star, stop_meet, stop_complement, stop_refused, stop_image_set, stop_image_pairs, stop_identity_r, stop_product_r, stop_union_r, stop_concat_r, stop_star_r, stop_compose_r, stop_limit, stop_limit_r, stop_memory, stop_memory_r, stop_first, stop_second, stop_first_r, stop_second_r}
use Rattle.rela_build.proofs.NotesInOrder.{exit}
use Rattle.rela_build.proofs.PlacedTerms.{made_letters, made_letters_r}
use Rattle.rela_build.proofs.builder.Builder.+terms.Goals as goal

pub automaton-returns-in_err-parts-in-Union-clause-stopped : goal.automaton-returns-in_err-parts-in-Union-clause-stopped
automaton-returns-in_err-parts-in-Union-clause-stopped g t c =
    exit _ _ c.from_residual-in_err-parts-in-Union.result c.from_residual-in_err-parts-in-Union.ensures.1
    (λ e is. subst (λ (s : Stop). Stopped (g.C.Complements.refuses c.args.self.now.complements.now) g.C.Complements.tells_all c.args.self.now.letters.now (g.P.PathSets.paths c.args.self.now.paths.now) c.args.self.now.limit (length c.args.notes.now.items) c.args.term.now s) (sym is) (stop_union (g.C.Complements.refuses c.args.self.now.complements.now) g.C.Complements.tells_all c.args.self.now.letters.now (g.P.PathSets.paths c.args.self.now.paths.now) c.args.self.now.limit (length c.args.notes.now.items) c.args.term.now c.get.result.now c.get-in-Union.result.now _ (form_of_two P.Union c.args.term.now c.in-Union.a c.get.result.now c.in-Union.b c.get-in-Union.result.now c.in-Union.is c.get.ensures c.get-in-Union.ensures) c.in_err-parts-in-Union.ensures.stopped))

pub automaton-returns-in_ok-union-in-Union-clause-made : goal.automaton-returns-in_ok-union-in-Union-clause-made
automaton-returns-in_ok-union-in-Union-clause-made g t c =
    part_named (λ (v : PathTerm). IsMade g.C.Complements.tells_all c.args.self.now.letters.now (g.P.PathSets.paths c.args.self.now.paths.now) v c.in_ok-union-in-Union.field-0) c.args.term.now (P.Union c.get.result.now c.get-in-Union.result.now)
    (form_of_two P.Union c.args.term.now c.in-Union.a c.get.result.now c.in-Union.b c.get-in-Union.result.now c.in-Union.is c.get.ensures c.get-in-Union.ensures)
    (c.in_ok-union-in-Union.ensures c.get.result.now c.get-in-Union.result.now c.in_ok-parts-in-Union.ensures.first c.in_ok-parts-in-Union.ensures.second)

pub automaton-returns-in_ok-union-in-Union-clause-noted : goal.automaton-returns-in_ok-union-in-Union-clause-noted
automaton-returns-in_ok-union-in-Union-clause-noted g t c =
    note_union (g.C.Complements.answers c.args.self.now.complements.now) g.C.Complements.tells_all c.args.self.now.letters.now (g.P.PathSets.paths c.args.self.now.paths.now) c.args.notes.now.items _ c.args.term.now c.get.result.now c.get-in-Union.result.now (form_of_two P.Union c.args.term.now c.in-Union.a c.get.result.now c.in-Union.b c.get-in-Union.result.now c.in-Union.is c.get.ensures c.get-in-Union.ensures) c.in_ok-parts-in-Union.ensures.noted

pub automaton-union-requires : goal.automaton-union-requires
automaton-union-requires g t c =
    made_letters g.C.Complements.tells_all c.args.self.now.letters.now (g.P.PathSets.paths c.args.self.now.paths.now) c.get.result.now c.in_ok-parts-in-Union.parts.first c.in_ok-parts-in-Union.ensures.first ∙ sym (made_letters g.C.Complements.tells_all c.args.self.now.letters.now (g.P.PathSets.paths c.args.self.now.paths.now) c.get-in-Union.result.now c.in_ok-parts-in-Union.parts.second c.in_ok-parts-in-Union.ensures.second)

pub automaton-returns-in_err-union-in-Union-clause-stopped : goal.automaton-returns-in_err-union-in-Union-clause-stopped
automaton-returns-in_err-union-in-Union-clause-stopped g t c =
    exit _ _ c.from_residual-in_err-union-in-Union.result c.from_residual-in_err-union-in-Union.ensures.1 (λ e is. stop_memory (g.C.Complements.refuses c.args.self.now.complements.now) g.C.Complements.tells_all c.args.self.now.letters.now (g.P.PathSets.paths c.args.self.now.paths.now) c.args.self.now.limit (length c.args.notes.now.items) c.args.term.now e is)

pub automaton-returns-in_err-parts-in-Concat-clause-stopped : goal.automaton-returns-in_err-parts-in-Concat-clause-stopped
automaton-returns-in_err-parts-in-Concat-clause-stopped g t c =
    exit _ _ c.from_residual-in_err-parts-in-Concat.result c.from_residual-in_err-parts-in-Concat.ensures.1
    (λ e is. subst (λ (s : Stop). Stopped (g.C.Complements.refuses c.args.self.now.complements.now) g.C.Complements.tells_all c.args.self.now.letters.now (g.P.PathSets.paths c.args.self.now.paths.now) c.args.self.now.limit (length c.args.notes.now.items) c.args.term.now s) (sym is) (stop_concat (g.C.Complements.refuses c.args.self.now.complements.now) g.C.Complements.tells_all c.args.self.now.letters.now (g.P.PathSets.paths c.args.self.now.paths.now) c.args.self.now.limit (length c.args.notes.now.items) c.args.term.now c.get-in-Concat.result.now c.get-in-Concat-2.result.now _ (form_of_two P.Concat c.args.term.now c.in-Concat.a c.get-in-Concat.result.now c.in-Concat.b c.get-in-Concat-2.result.now c.in-Concat.is c.get-in-Concat.ensures c.get-in-Concat-2.ensures) c.in_err-parts-in-Concat.ensures.stopped))

pub automaton-returns-in_ok-concat-in-Concat-clause-made : goal.automaton-returns-in_ok-concat-in-Concat-clause-made
automaton-returns-in_ok-concat-in-Concat-clause-made g t c =
    part_named (λ (v : PathTerm). IsMade g.C.Complements.tells_all c.args.self.now.letters.now (g.P.PathSets.paths c.args.self.now.paths.now) v c.in_ok-concat-in-Concat.field-0) c.args.term.now (P.Concat c.get-in-Concat.result.now c.get-in-Concat-2.result.now)
    (form_of_two P.Concat c.args.term.now c.in-Concat.a c.get-in-Concat.result.now c.in-Concat.b c.get-in-Concat-2.result.now c.in-Concat.is c.get-in-Concat.ensures c.get-in-Concat-2.ensures)
    (c.in_ok-concat-in-Concat.ensures c.get-in-Concat.result.now c.get-in-Concat-2.result.now c.in_ok-parts-in-Concat.ensures.first c.in_ok-parts-in-Concat.ensures.second)

pub automaton-returns-in_ok-concat-in-Concat-clause-noted : goal.automaton-returns-in_ok-concat-in-Concat-clause-noted
automaton-returns-in_ok-concat-in-Concat-clause-noted g t c =
    note_concat (g.C.Complements.answers c.args.self.now.complements.now) g.C.Complements.tells_all c.args.self.now.letters.now (g.P.PathSets.paths c.args.self.now.paths.now) c.args.notes.now.items _ c.args.term.now c.get-in-Concat.result.now c.get-in-Concat-2.result.now (form_of_two P.Concat c.args.term.now c.in-Concat.a c.get-in-Concat.result.now c.in-Concat.b c.get-in-Concat-2.result.now c.in-Concat.is c.get-in-Concat.ensures c.get-in-Concat-2.ensures) c.in_ok-parts-in-Concat.ensures.noted

pub automaton-concat-requires : goal.automaton-concat-requires
automaton-concat-requires g t c =
    made_letters g.C.Complements.tells_all c.args.self.now.letters.now (g.P.PathSets.paths c.args.self.now.paths.now) c.get-in-Concat.result.now c.in_ok-parts-in-Concat.parts.first c.in_ok-parts-in-Concat.ensures.first ∙ sym (made_letters g.C.Complements.tells_all c.args.self.now.letters.now (g.P.PathSets.paths c.args.self.now.paths.now) c.get-in-Concat-2.result.now c.in_ok-parts-in-Concat.parts.second c.in_ok-parts-in-Concat.ensures.second)

pub automaton-returns-in_err-concat-in-Concat-clause-stopped : goal.automaton-returns-in_err-concat-in-Concat-clause-stopped
automaton-returns-in_err-concat-in-Concat-clause-stopped g t c =
    exit _ _ c.from_residual-in_err-concat-in-Concat.result c.from_residual-in_err-concat-in-Concat.ensures.1 (λ e is. stop_memory (g.C.Complements.refuses c.args.self.now.complements.now) g.C.Complements.tells_all c.args.self.now.letters.now (g.P.PathSets.paths c.args.self.now.paths.now) c.args.self.now.limit (length c.args.notes.now.items) c.args.term.now e is)

pub automaton-returns-in_err-parts-in-Meet-clause-stopped : goal.automaton-returns-in_err-parts-in-Meet-clause-stopped
automaton-returns-in_err-parts-in-Meet-clause-stopped g t c =
    exit _ _ c.from_residual-in_err-parts-in-Meet.result c.from_residual-in_err-parts-in-Meet.ensures.1
    (λ e is. subst (λ (s : Stop). Stopped (g.C.Complements.refuses c.args.self.now.complements.now) g.C.Complements.tells_all c.args.self.now.letters.now (g.P.PathSets.paths c.args.self.now.paths.now) c.args.self.now.limit (length c.args.notes.now.items) c.args.term.now s) (sym is) (stop_meet (g.C.Complements.refuses c.args.self.now.complements.now) g.C.Complements.tells_all c.args.self.now.letters.now (g.P.PathSets.paths c.args.self.now.paths.now) c.args.self.now.limit (length c.args.notes.now.items) c.args.term.now c.get-in-Meet.result.now c.get-in-Meet-2.result.now _ (form_of_two P.Meet c.args.term.now c.in-Meet.a c.get-in-Meet.result.now c.in-Meet.b c.get-in-Meet-2.result.now c.in-Meet.is c.get-in-Meet.ensures c.get-in-Meet-2.ensures) c.in_err-parts-in-Meet.ensures.stopped))

pub automaton-returns-in_ok-meet-in-Meet-clause-made : goal.automaton-returns-in_ok-meet-in-Meet-clause-made
automaton-returns-in_ok-meet-in-Meet-clause-made g t c =
    part_named (λ (v : PathTerm). IsMade g.C.Complements.tells_all c.args.self.now.letters.now (g.P.PathSets.paths c.args.self.now.paths.now) v c.in_ok-meet-in-Meet.field-0) c.args.term.now (P.Meet c.get-in-Meet.result.now c.get-in-Meet-2.result.now)
    (form_of_two P.Meet c.args.term.now c.in-Meet.a c.get-in-Meet.result.now c.in-Meet.b c.get-in-Meet-2.result.now c.in-Meet.is c.get-in-Meet.ensures c.get-in-Meet-2.ensures)
    (c.in_ok-meet-in-Meet.ensures.made c.get-in-Meet.result.now c.get-in-Meet-2.result.now c.in_ok-parts-in-Meet.ensures.first c.in_ok-parts-in-Meet.ensures.second)

pub automaton-returns-in_ok-meet-in-Meet-clause-noted : goal.automaton-returns-in_ok-meet-in-Meet-clause-noted
automaton-returns-in_ok-meet-in-Meet-clause-noted g t c =
    note_meet (g.C.Complements.answers c.args.self.now.complements.now) g.C.Complements.tells_all c.args.self.now.letters.now (g.P.PathSets.paths c.args.self.now.paths.now) c.args.notes.now.items _ c.args.term.now c.get-in-Meet.result.now c.get-in-Meet-2.result.now (form_of_two P.Meet c.args.term.now c.in-Meet.a c.get-in-Meet.result.now c.in-Meet.b c.get-in-Meet-2.result.now c.in-Meet.is c.get-in-Meet.ensures c.get-in-Meet-2.ensures) c.in_ok-parts-in-Meet.ensures.noted

pub automaton-meet-requires-clause-letters : goal.automaton-meet-requires-clause-letters
automaton-meet-requires-clause-letters g t c =
    made_letters g.C.Complements.tells_all c.args.self.now.letters.now (g.P.PathSets.paths c.args.self.now.paths.now) c.get-in-Meet.result.now c.in_ok-parts-in-Meet.parts.first c.in_ok-parts-in-Meet.ensures.first ∙ sym (made_letters g.C.Complements.tells_all c.args.self.now.letters.now (g.P.PathSets.paths c.args.self.now.paths.now) c.get-in-Meet-2.result.now c.in_ok-parts-in-Meet.parts.second c.in_ok-parts-in-Meet.ensures.second)

pub automaton-returns-in_err-meet-in-Meet-clause-stopped : goal.automaton-returns-in_err-meet-in-Meet-clause-stopped
automaton-returns-in_err-meet-in-Meet-clause-stopped g t c =
    exit _ _ c.from_residual-in_err-meet-in-Meet.result c.from_residual-in_err-meet-in-Meet.ensures.1
    (λ e is. stop_limit (g.C.Complements.refuses c.args.self.now.complements.now) g.C.Complements.tells_all c.args.self.now.letters.now (g.P.PathSets.paths c.args.self.now.paths.now) c.args.self.now.limit (length c.args.notes.now.items) c.args.term.now _ e is
    (λ passed. part_named (λ (v : PathTerm). ReachedInside (scene_of c.args.self.now.letters.now (g.P.PathSets.paths c.args.self.now.paths.now)) (c.args.self.now.limit + 1) v) c.args.term.now (P.Meet c.get-in-Meet.result.now c.get-in-Meet-2.result.now)
    (form_of_two P.Meet c.args.term.now c.in-Meet.a c.get-in-Meet.result.now c.in-Meet.b c.get-in-Meet-2.result.now c.in-Meet.is c.get-in-Meet.ensures c.get-in-Meet-2.ensures) (c.in_err-meet-in-Meet.ensures.limit passed c.get-in-Meet.result.now c.get-in-Meet-2.result.now c.in_ok-parts-in-Meet.ensures.first c.in_ok-parts-in-Meet.ensures.second)))

pub automaton-returns-in_err-words-in-Star-clause-stopped : goal.automaton-returns-in_err-words-in-Star-clause-stopped
automaton-returns-in_err-words-in-Star-clause-stopped g t c =
    exit _ _ c.from_residual-in_err-words-in-Star.result c.from_residual-in_err-words-in-Star.ensures.1
    (λ e is. subst (λ (s : Stop). Stopped (g.C.Complements.refuses c.args.self.now.complements.now) g.C.Complements.tells_all c.args.self.now.letters.now (g.P.PathSets.paths c.args.self.now.paths.now) c.args.self.now.limit (length c.args.notes.now.items) c.args.term.now s) (sym is) (stop_star (g.C.Complements.refuses c.args.self.now.complements.now) g.C.Complements.tells_all c.args.self.now.letters.now (g.P.PathSets.paths c.args.self.now.paths.now) c.args.self.now.limit (length c.args.notes.now.items) c.args.term.now c.get-in-Star.result.now _ (form_of_one P.Star c.args.term.now c.in-Star.part c.get-in-Star.result.now c.in-Star.is c.get-in-Star.ensures) c.in_err-words-in-Star.ensures.stopped))

pub automaton-returns-in_ok-star-in-Star-clause-made : goal.automaton-returns-in_ok-star-in-Star-clause-made
automaton-returns-in_ok-star-in-Star-clause-made g t c =
    part_named (λ (v : PathTerm). IsMade g.C.Complements.tells_all c.args.self.now.letters.now (g.P.PathSets.paths c.args.self.now.paths.now) v c.in_ok-star-in-Star.field-0) c.args.term.now (P.Star c.get-in-Star.result.now)
    (form_of_one P.Star c.args.term.now c.in-Star.part c.get-in-Star.result.now c.in-Star.is c.get-in-Star.ensures)
    (c.in_ok-star-in-Star.ensures c.get-in-Star.result.now c.in_ok-words-in-Star.ensures.made)

pub automaton-returns-in_ok-star-in-Star-clause-noted : goal.automaton-returns-in_ok-star-in-Star-clause-noted
automaton-returns-in_ok-star-in-Star-clause-noted g t c =
    note_star (g.C.Complements.answers c.args.self.now.complements.now) g.C.Complements.tells_all c.args.self.now.letters.now (g.P.PathSets.paths c.args.self.now.paths.now) c.args.notes.now.items _ c.args.term.now c.get-in-Star.result.now (form_of_one P.Star c.args.term.now c.in-Star.part c.get-in-Star.result.now c.in-Star.is c.get-in-Star.ensures) c.in_ok-words-in-Star.ensures.noted

pub automaton-returns-in_err-star-in-Star-clause-stopped : goal.automaton-returns-in_err-star-in-Star-clause-stopped
automaton-returns-in_err-star-in-Star-clause-stopped g t c =
    exit _ _ c.from_residual-in_err-star-in-Star.result c.from_residual-in_err-star-in-Star.ensures.1 (λ e is. stop_memory (g.C.Complements.refuses c.args.self.now.complements.now) g.C.Complements.tells_all c.args.self.now.letters.now (g.P.PathSets.paths c.args.self.now.paths.now) c.args.self.now.limit (length c.args.notes.now.items) c.args.term.now e is)

pub automaton-returns-in_err-words-in-Complement-clause-stopped : goal.automaton-returns-in_err-words-in-Complement-clause-stopped
automaton-returns-in_err-words-in-Complement-clause-stopped g t c =
    exit _ _ c.from_residual-in_err-words-in-Complement.result c.from_residual-in_err-words-in-Complement.ensures.1
    (λ e is. subst (λ (s : Stop). Stopped (g.C.Complements.refuses c.args.self.now.complements.now) g.C.Complements.tells_all c.args.self.now.letters.now (g.P.PathSets.paths c.args.self.now.paths.now) c.args.self.now.limit (length c.args.notes.now.items) c.args.term.now s) (sym is) (stop_complement (g.C.Complements.refuses c.args.self.now.complements.now) g.C.Complements.tells_all c.args.self.now.letters.now (g.P.PathSets.paths c.args.self.now.paths.now) c.args.self.now.limit (length c.args.notes.now.items) c.args.term.now c.get-in-Complement.result.now _ (form_of_one P.Complement c.args.term.now c.in-Complement.part c.get-in-Complement.result.now c.in-Complement.is c.get-in-Complement.ensures) c.in_err-words-in-Complement.ensures.stopped))

pub automaton-returns-in_ok-words-in-Complement-clause-made : goal.automaton-returns-in_ok-words-in-Complement-clause-made
automaton-returns-in_ok-words-in-Complement-clause-made g t c =
    IfOk-weaker c.complement.result _ _
    (λ u made. part_named (λ (v : PathTerm). IsMade g.C.Complements.tells_all c.args.self.now.letters.now (g.P.PathSets.paths c.args.self.now.paths.now) v u) c.args.term.now (P.Complement c.get-in-Complement.result.now) (form_of_one P.Complement c.args.term.now c.in-Complement.part c.get-in-Complement.result.now c.in-Complement.is c.get-in-Complement.ensures) (made c.get-in-Complement.result.now c.in_ok-words-in-Complement.ensures.made)) c.complement.ensures.made

pub automaton-returns-in_ok-words-in-Complement-clause-noted : goal.automaton-returns-in_ok-words-in-Complement-clause-noted
automaton-returns-in_ok-words-in-Complement-clause-noted g t c =
    on_ok_weaker c.complement.result (λ one. note_complement (g.C.Complements.answers c.args.self.now.complements.now) g.C.Complements.tells_all c.args.self.now.letters.now (g.P.PathSets.paths c.args.self.now.paths.now) c.args.notes.now.items _ c.args.term.now c.get-in-Complement.result.now c.in_ok-words-in-Complement.words c.automaton-in-Complement.new.notes.items (form_of_one P.Complement c.args.term.now c.in-Complement.part c.get-in-Complement.result.now c.in-Complement.is c.get-in-Complement.ensures) c.in_ok-words-in-Complement.ensures.made c.in_ok-words-in-Complement.ensures.noted one) c.complement.ensures.noted

pub automaton-returns-in_ok-words-in-Complement-clause-stopped : goal.automaton-returns-in_ok-words-in-Complement-clause-stopped
automaton-returns-in_ok-words-in-Complement-clause-stopped g t c =
    IfErr-weaker c.complement.result _ _
    (λ e stopped. stop_refused (g.C.Complements.refuses c.args.self.now.complements.now) g.C.Complements.tells_all c.args.self.now.letters.now (g.P.PathSets.paths c.args.self.now.paths.now) c.args.self.now.limit (length c.args.notes.now.items) c.args.term.now c.get-in-Complement.result.now c.in_ok-words-in-Complement.words (length c.automaton-in-Complement.new.notes.items) e (form_of_one P.Complement c.args.term.now c.in-Complement.part c.get-in-Complement.result.now c.in-Complement.is c.get-in-Complement.ensures) (after_term (g.C.Complements.answers c.args.self.now.complements.now) g.C.Complements.tells_all c.args.self.now.letters.now (g.P.PathSets.paths c.args.self.now.paths.now) c.args.notes.now.items c.automaton-in-Complement.new.notes.items c.get-in-Complement.result.now c.in_ok-words-in-Complement.ensures.noted) c.in_ok-words-in-Complement.ensures.made stopped)
    c.complement.ensures.stopped

pub automaton-complement-requires : goal.automaton-complement-requires
automaton-complement-requires g t c =
    made_letters g.C.Complements.tells_all c.args.self.now.letters.now (g.P.PathSets.paths c.args.self.now.paths.now) c.get-in-Complement.result.now c.in_ok-words-in-Complement.words c.in_ok-words-in-Complement.ensures.made

pub automaton-returns-in_err-words-in-Image-clause-stopped : goal.automaton-returns-in_err-words-in-Image-clause-stopped
automaton-returns-in_err-words-in-Image-clause-stopped g t c =
    exit _ _ c.from_residual-in_err-words-in-Image.result c.from_residual-in_err-words-in-Image.ensures.1
    (λ e is. subst (λ (s : Stop). Stopped (g.C.Complements.refuses c.args.self.now.complements.now) g.C.Complements.tells_all c.args.self.now.letters.now (g.P.PathSets.paths c.args.self.now.paths.now) c.args.self.now.limit (length c.args.notes.now.items) c.args.term.now s) (sym is) (stop_image_set (g.C.Complements.refuses c.args.self.now.complements.now) g.C.Complements.tells_all c.args.self.now.letters.now (g.P.PathSets.paths c.args.self.now.paths.now) c.args.self.now.limit (length c.args.notes.now.items) c.args.term.now c.get-in-Image.result.now c.in-Image.relation _ (form_of_two P.Image c.args.term.now c.in-Image.set c.get-in-Image.result.now c.in-Image.relation c.in-Image.relation c.in-Image.is c.get-in-Image.ensures refl) c.in_err-words-in-Image.ensures.stopped))

pub automaton-returns-in_err-pairs-in-Image-clause-stopped : goal.automaton-returns-in_err-pairs-in-Image-clause-stopped
automaton-returns-in_err-pairs-in-Image-clause-stopped g t c =
    exit _ _ c.from_residual-in_err-pairs-in-Image.result c.from_residual-in_err-pairs-in-Image.ensures.1
    (λ e is. subst (λ (s : Stop). Stopped (g.C.Complements.refuses c.args.self.now.complements.now) g.C.Complements.tells_all c.args.self.now.letters.now (g.P.PathSets.paths c.args.self.now.paths.now) c.args.self.now.limit (length c.args.notes.now.items) c.args.term.now s) (sym is) (stop_image_pairs (g.C.Complements.refuses c.args.self.now.complements.now) g.C.Complements.tells_all c.args.self.now.letters.now (g.P.PathSets.paths c.args.self.now.paths.now) c.args.self.now.limit (length c.args.notes.now.items) c.args.term.now c.get-in-Image.result.now c.get-in-Image-2.result.now (length c.automaton-in-Image.new.notes.items) _ (form_of_two P.Image c.args.term.now c.in-Image.set c.get-in-Image.result.now c.in-Image.relation c.get-in-Image-2.result.now c.in-Image.is c.get-in-Image.ensures c.get-in-Image-2.ensures)
    (after_term (g.C.Complements.answers c.args.self.now.complements.now) g.C.Complements.tells_all c.args.self.now.letters.now (g.P.PathSets.paths c.args.self.now.paths.now) c.args.notes.now.items c.automaton-in-Image.new.notes.items c.get-in-Image.result.now c.in_ok-words-in-Image.ensures.noted) c.in_err-pairs-in-Image.ensures.stopped))

pub automaton-returns-in_ok-image-in-Image-clause-made : goal.automaton-returns-in_ok-image-in-Image-clause-made
automaton-returns-in_ok-image-in-Image-clause-made g t c =
    part_named (λ (v : PathTerm). IsMade g.C.Complements.tells_all c.args.self.now.letters.now (g.P.PathSets.paths c.args.self.now.paths.now) v c.in_ok-image-in-Image.field-0) c.args.term.now (P.Image c.get-in-Image.result.now c.get-in-Image-2.result.now)
    (form_of_two P.Image c.args.term.now c.in-Image.set c.get-in-Image.result.now c.in-Image.relation c.get-in-Image-2.result.now c.in-Image.is c.get-in-Image.ensures c.get-in-Image-2.ensures)
    (c.in_ok-image-in-Image.ensures.made c.get-in-Image.result.now c.get-in-Image-2.result.now c.in_ok-words-in-Image.ensures.made c.in_ok-pairs-in-Image.ensures.made)

pub automaton-returns-in_ok-image-in-Image-clause-noted : goal.automaton-returns-in_ok-image-in-Image-clause-noted
automaton-returns-in_ok-image-in-Image-clause-noted g t c =
    note_image (g.C.Complements.answers c.args.self.now.complements.now) g.C.Complements.tells_all c.args.self.now.letters.now (g.P.PathSets.paths c.args.self.now.paths.now) c.args.notes.now.items _ c.args.term.now c.get-in-Image.result.now c.get-in-Image-2.result.now c.automaton-in-Image.new.notes.items (form_of_two P.Image c.args.term.now c.in-Image.set c.get-in-Image.result.now c.in-Image.relation c.get-in-Image-2.result.now c.in-Image.is c.get-in-Image.ensures c.get-in-Image-2.ensures) c.in_ok-words-in-Image.ensures.noted c.in_ok-pairs-in-Image.ensures.noted

pub automaton-image-requires-clause-letters : goal.automaton-image-requires-clause-letters
automaton-image-requires-clause-letters g t c =
    made_letters g.C.Complements.tells_all c.args.self.now.letters.now (g.P.PathSets.paths c.args.self.now.paths.now) c.get-in-Image.result.now c.in_ok-words-in-Image.words c.in_ok-words-in-Image.ensures.made ∙ sym (made_letters_r g.C.Complements.tells_all c.args.self.now.letters.now (g.P.PathSets.paths c.args.self.now.paths.now) c.get-in-Image-2.result.now c.in_ok-pairs-in-Image.pairs c.in_ok-pairs-in-Image.ensures.made)

pub automaton-returns-in_err-image-in-Image-clause-stopped : goal.automaton-returns-in_err-image-in-Image-clause-stopped
automaton-returns-in_err-image-in-Image-clause-stopped g t c =
    exit _ _ c.from_residual-in_err-image-in-Image.result c.from_residual-in_err-image-in-Image.ensures.1
    (λ e is. stop_limit (g.C.Complements.refuses c.args.self.now.complements.now) g.C.Complements.tells_all c.args.self.now.letters.now (g.P.PathSets.paths c.args.self.now.paths.now) c.args.self.now.limit (length c.args.notes.now.items) c.args.term.now _ e is
    (λ passed. part_named (λ (v : PathTerm). ReachedInside (scene_of c.args.self.now.letters.now (g.P.PathSets.paths c.args.self.now.paths.now)) (c.args.self.now.limit + 1) v) c.args.term.now (P.Image c.get-in-Image.result.now c.get-in-Image-2.result.now)
    (form_of_two P.Image c.args.term.now c.in-Image.set c.get-in-Image.result.now c.in-Image.relation c.get-in-Image-2.result.now c.in-Image.is c.get-in-Image.ensures c.get-in-Image-2.ensures) (c.in_err-image-in-Image.ensures.limit passed c.get-in-Image.result.now c.get-in-Image-2.result.now c.in_ok-words-in-Image.ensures.made c.in_ok-pairs-in-Image.ensures.made)))

pub transducer-returns-in_err-words-in-Identity-clause-stopped : goal.transducer-returns-in_err-words-in-Identity-clause-stopped
transducer-returns-in_err-words-in-Identity-clause-stopped g t c =
    exit _ _ c.from_residual.result c.from_residual.ensures.1
    (λ e is. subst (λ (s : Stop). StoppedR (g.C.Complements.refuses c.args.self.now.complements.now) g.C.Complements.tells_all c.args.self.now.letters.now (g.P.PathSets.paths c.args.self.now.paths.now) c.args.self.now.limit (length c.args.notes.now.items) c.args.term.now s) (sym is) (stop_identity_r (g.C.Complements.refuses c.args.self.now.complements.now) g.C.Complements.tells_all c.args.self.now.letters.now (g.P.PathSets.paths c.args.self.now.paths.now) c.args.self.now.limit (length c.args.notes.now.items) c.args.term.now c.get.result.now _ (form_of_one R.Identity c.args.term.now c.in-Identity.set c.get.result.now c.in-Identity.is c.get.ensures) c.in_err-words-in-Identity.ensures.stopped))

pub transducer-returns-in_ok-identity-in-Identity-clause-made : goal.transducer-returns-in_ok-identity-in-Identity-clause-made
transducer-returns-in_ok-identity-in-Identity-clause-made g t c =
    part_named (λ (v : RelTerm). IsMadeR g.C.Complements.tells_all c.args.self.now.letters.now (g.P.PathSets.paths c.args.self.now.paths.now) v c.in_ok-identity-in-Identity.field-0) c.args.term.now (R.Identity c.get.result.now)
    (form_of_one R.Identity c.args.term.now c.in-Identity.set c.get.result.now c.in-Identity.is c.get.ensures)
    (c.in_ok-identity-in-Identity.ensures c.get.result.now c.in_ok-words-in-Identity.ensures.made)

pub transducer-returns-in_ok-identity-in-Identity-clause-noted : goal.transducer-returns-in_ok-identity-in-Identity-clause-noted
transducer-returns-in_ok-identity-in-Identity-clause-noted g t c =
    note_identity_r (g.C.Complements.answers c.args.self.now.complements.now) g.C.Complements.tells_all c.args.self.now.letters.now (g.P.PathSets.paths c.args.self.now.paths.now) c.args.notes.now.items _ c.args.term.now c.get.result.now (form_of_one R.Identity c.args.term.now c.in-Identity.set c.get.result.now c.in-Identity.is c.get.ensures) c.in_ok-words-in-Identity.ensures.noted

pub transducer-returns-in_err-identity-in-Identity-clause-stopped : goal.transducer-returns-in_err-identity-in-Identity-clause-stopped
transducer-returns-in_err-identity-in-Identity-clause-stopped g t c =
    exit _ _ c.from_residual-in_err-identity-in-Identity.result c.from_residual-in_err-identity-in-Identity.ensures.1 (λ e is. stop_memory_r (g.C.Complements.refuses c.args.self.now.complements.now) g.C.Complements.tells_all c.args.self.now.letters.now (g.P.PathSets.paths c.args.self.now.paths.now) c.args.self.now.limit (length c.args.notes.now.items) c.args.term.now e is)

pub transducer-returns-in_err-parts-in-Product-clause-stopped : goal.transducer-returns-in_err-parts-in-Product-clause-stopped
transducer-returns-in_err-parts-in-Product-clause-stopped g t c =
    exit _ _ c.from_residual-in_err-parts-in-Product.result c.from_residual-in_err-parts-in-Product.ensures.1
    (λ e is. subst (λ (s : Stop). StoppedR (g.C.Complements.refuses c.args.self.now.complements.now) g.C.Complements.tells_all c.args.self.now.letters.now (g.P.PathSets.paths c.args.self.now.paths.now) c.args.self.now.limit (length c.args.notes.now.items) c.args.term.now s) (sym is) (stop_product_r (g.C.Complements.refuses c.args.self.now.complements.now) g.C.Complements.tells_all c.args.self.now.letters.now (g.P.PathSets.paths c.args.self.now.paths.now) c.args.self.now.limit (length c.args.notes.now.items) c.args.term.now c.get-in-Product.result.now c.get-in-Product-2.result.now _ (form_of_two R.Product c.args.term.now c.in-Product.a c.get-in-Product.result.now c.in-Product.b c.get-in-Product-2.result.now c.in-Product.is c.get-in-Product.ensures c.get-in-Product-2.ensures) c.in_err-parts-in-Product.ensures.stopped))

pub transducer-returns-in_ok-product-in-Product-clause-made : goal.transducer-returns-in_ok-product-in-Product-clause-made
transducer-returns-in_ok-product-in-Product-clause-made g t c =
    part_named (λ (v : RelTerm). IsMadeR g.C.Complements.tells_all c.args.self.now.letters.now (g.P.PathSets.paths c.args.self.now.paths.now) v c.in_ok-product-in-Product.field-0) c.args.term.now (R.Product c.get-in-Product.result.now c.get-in-Product-2.result.now)
    (form_of_two R.Product c.args.term.now c.in-Product.a c.get-in-Product.result.now c.in-Product.b c.get-in-Product-2.result.now c.in-Product.is c.get-in-Product.ensures c.get-in-Product-2.ensures)
    (c.in_ok-product-in-Product.ensures c.get-in-Product.result.now c.get-in-Product-2.result.now c.in_ok-parts-in-Product.ensures.first c.in_ok-parts-in-Product.ensures.second)

pub transducer-returns-in_ok-product-in-Product-clause-noted : goal.transducer-returns-in_ok-product-in-Product-clause-noted
transducer-returns-in_ok-product-in-Product-clause-noted g t c =
    note_product_r (g.C.Complements.answers c.args.self.now.complements.now) g.C.Complements.tells_all c.args.self.now.letters.now (g.P.PathSets.paths c.args.self.now.paths.now) c.args.notes.now.items _ c.args.term.now c.get-in-Product.result.now c.get-in-Product-2.result.now (form_of_two R.Product c.args.term.now c.in-Product.a c.get-in-Product.result.now c.in-Product.b c.get-in-Product-2.result.now c.in-Product.is c.get-in-Product.ensures c.get-in-Product-2.ensures) c.in_ok-parts-in-Product.ensures.noted

pub transducer-product-requires : goal.transducer-product-requires
transducer-product-requires g t c =
    made_letters g.C.Complements.tells_all c.args.self.now.letters.now (g.P.PathSets.paths c.args.self.now.paths.now) c.get-in-Product.result.now c.in_ok-parts-in-Product.parts.first c.in_ok-parts-in-Product.ensures.first ∙ sym (made_letters g.C.Complements.tells_all c.args.self.now.letters.now (g.P.PathSets.paths c.args.self.now.paths.now) c.get-in-Product-2.result.now c.in_ok-parts-in-Product.parts.second c.in_ok-parts-in-Product.ensures.second)

pub transducer-returns-in_err-product-in-Product-clause-stopped : goal.transducer-returns-in_err-product-in-Product-clause-stopped
transducer-returns-in_err-product-in-Product-clause-stopped g t c =
    exit _ _ c.from_residual-in_err-product-in-Product.result c.from_residual-in_err-product-in-Product.ensures.1 (λ e is. stop_memory_r (g.C.Complements.refuses c.args.self.now.complements.now) g.C.Complements.tells_all c.args.self.now.letters.now (g.P.PathSets.paths c.args.self.now.paths.now) c.args.self.now.limit (length c.args.notes.now.items) c.args.term.now e is)

pub transducer-returns-in_err-parts-in-Union-clause-stopped : goal.transducer-returns-in_err-parts-in-Union-clause-stopped
transducer-returns-in_err-parts-in-Union-clause-stopped g t c =
    exit _ _ c.from_residual-in_err-parts-in-Union.result c.from_residual-in_err-parts-in-Union.ensures.1
    (λ e is. subst (λ (s : Stop). StoppedR (g.C.Complements.refuses c.args.self.now.complements.now) g.C.Complements.tells_all c.args.self.now.letters.now (g.P.PathSets.paths c.args.self.now.paths.now) c.args.self.now.limit (length c.args.notes.now.items) c.args.term.now s) (sym is) (stop_union_r (g.C.Complements.refuses c.args.self.now.complements.now) g.C.Complements.tells_all c.args.self.now.letters.now (g.P.PathSets.paths c.args.self.now.paths.now) c.args.self.now.limit (length c.args.notes.now.items) c.args.term.now c.get-in-Union.result.now c.get-in-Union-2.result.now _ (form_of_two R.Union c.args.term.now c.in-Union.a c.get-in-Union.result.now c.in-Union.b c.get-in-Union-2.result.now c.in-Union.is c.get-in-Union.ensures c.get-in-Union-2.ensures) c.in_err-parts-in-Union.ensures.stopped))

pub transducer-returns-in_ok-relation_union-in-Union-clause-made : goal.transducer-returns-in_ok-relation_union-in-Union-clause-made
transducer-returns-in_ok-relation_union-in-Union-clause-made g t c =
    part_named (λ (v : RelTerm). IsMadeR g.C.Complements.tells_all c.args.self.now.letters.now (g.P.PathSets.paths c.args.self.now.paths.now) v c.in_ok-relation_union-in-Union.field-0) c.args.term.now (R.Union c.get-in-Union.result.now c.get-in-Union-2.result.now)
    (form_of_two R.Union c.args.term.now c.in-Union.a c.get-in-Union.result.now c.in-Union.b c.get-in-Union-2.result.now c.in-Union.is c.get-in-Union.ensures c.get-in-Union-2.ensures)
    (c.in_ok-relation_union-in-Union.ensures c.get-in-Union.result.now c.get-in-Union-2.result.now c.in_ok-parts-in-Union.ensures.first c.in_ok-parts-in-Union.ensures.second)

pub transducer-returns-in_ok-relation_union-in-Union-clause-noted : goal.transducer-returns-in_ok-relation_union-in-Union-clause-noted
transducer-returns-in_ok-relation_union-in-Union-clause-noted g t c =
    note_union_r (g.C.Complements.answers c.args.self.now.complements.now) g.C.Complements.tells_all c.args.self.now.letters.now (g.P.PathSets.paths c.args.self.now.paths.now) c.args.notes.now.items _ c.args.term.now c.get-in-Union.result.now c.get-in-Union-2.result.now (form_of_two R.Union c.args.term.now c.in-Union.a c.get-in-Union.result.now c.in-Union.b c.get-in-Union-2.result.now c.in-Union.is c.get-in-Union.ensures c.get-in-Union-2.ensures) c.in_ok-parts-in-Union.ensures.noted

pub transducer-relation_union-requires : goal.transducer-relation_union-requires
transducer-relation_union-requires g t c =
    made_letters_r g.C.Complements.tells_all c.args.self.now.letters.now (g.P.PathSets.paths c.args.self.now.paths.now) c.get-in-Union.result.now c.in_ok-parts-in-Union.parts.first c.in_ok-parts-in-Union.ensures.first ∙ sym (made_letters_r g.C.Complements.tells_all c.args.self.now.letters.now (g.P.PathSets.paths c.args.self.now.paths.now) c.get-in-Union-2.result.now c.in_ok-parts-in-Union.parts.second c.in_ok-parts-in-Union.ensures.second)

pub transducer-returns-in_err-relation_union-in-Union-clause-stopped : goal.transducer-returns-in_err-relation_union-in-Union-clause-stopped
transducer-returns-in_err-relation_union-in-Union-clause-stopped g t c =
    exit _ _ c.from_residual-in_err-relation_union-in-Union.result c.from_residual-in_err-relation_union-in-Union.ensures.1 (λ e is. stop_memory_r (g.C.Complements.refuses c.args.self.now.complements.now) g.C.Complements.tells_all c.args.self.now.letters.now (g.P.PathSets.paths c.args.self.now.paths.now) c.args.self.now.limit (length c.args.notes.now.items) c.args.term.now e is)

pub transducer-returns-in_err-parts-in-Concat-clause-stopped : goal.transducer-returns-in_err-parts-in-Concat-clause-stopped
transducer-returns-in_err-parts-in-Concat-clause-stopped g t c =
    exit _ _ c.from_residual-in_err-parts-in-Concat.result c.from_residual-in_err-parts-in-Concat.ensures.1
    (λ e is. subst (λ (s : Stop). StoppedR (g.C.Complements.refuses c.args.self.now.complements.now) g.C.Complements.tells_all c.args.self.now.letters.now (g.P.PathSets.paths c.args.self.now.paths.now) c.args.self.now.limit (length c.args.notes.now.items) c.args.term.now s) (sym is) (stop_concat_r (g.C.Complements.refuses c.args.self.now.complements.now) g.C.Complements.tells_all c.args.self.now.letters.now (g.P.PathSets.paths c.args.self.now.paths.now) c.args.self.now.limit (length c.args.notes.now.items) c.args.term.now c.get-in-Concat.result.now c.get-in-Concat-2.result.now _ (form_of_two R.Concat c.args.term.now c.in-Concat.a c.get-in-Concat.result.now c.in-Concat.b c.get-in-Concat-2.result.now c.in-Concat.is c.get-in-Concat.ensures c.get-in-Concat-2.ensures) c.in_err-parts-in-Concat.ensures.stopped))

pub transducer-returns-in_ok-relation_concat-in-Concat-clause-made : goal.transducer-returns-in_ok-relation_concat-in-Concat-clause-made
transducer-returns-in_ok-relation_concat-in-Concat-clause-made g t c =
    part_named (λ (v : RelTerm). IsMadeR g.C.Complements.tells_all c.args.self.now.letters.now (g.P.PathSets.paths c.args.self.now.paths.now) v c.in_ok-relation_concat-in-Concat.field-0) c.args.term.now (R.Concat c.get-in-Concat.result.now c.get-in-Concat-2.result.now)
    (form_of_two R.Concat c.args.term.now c.in-Concat.a c.get-in-Concat.result.now c.in-Concat.b c.get-in-Concat-2.result.now c.in-Concat.is c.get-in-Concat.ensures c.get-in-Concat-2.ensures)
    (c.in_ok-relation_concat-in-Concat.ensures c.get-in-Concat.result.now c.get-in-Concat-2.result.now c.in_ok-parts-in-Concat.ensures.first c.in_ok-parts-in-Concat.ensures.second)

pub transducer-returns-in_ok-relation_concat-in-Concat-clause-noted : goal.transducer-returns-in_ok-relation_concat-in-Concat-clause-noted
transducer-returns-in_ok-relation_concat-in-Concat-clause-noted g t c =
    note_concat_r (g.C.Complements.answers c.args.self.now.complements.now) g.C.Complements.tells_all c.args.self.now.letters.now (g.P.PathSets.paths c.args.self.now.paths.now) c.args.notes.now.items _ c.args.term.now c.get-in-Concat.result.now c.get-in-Concat-2.result.now (form_of_two R.Concat c.args.term.now c.in-Concat.a c.get-in-Concat.result.now c.in-Concat.b c.get-in-Concat-2.result.now c.in-Concat.is c.get-in-Concat.ensures c.get-in-Concat-2.ensures) c.in_ok-parts-in-Concat.ensures.noted

pub transducer-relation_concat-requires : goal.transducer-relation_concat-requires
transducer-relation_concat-requires g t c =
    made_letters_r g.C.Complements.tells_all c.args.self.now.letters.now (g.P.PathSets.paths c.args.self.now.paths.now) c.get-in-Concat.result.now c.in_ok-parts-in-Concat.parts.first c.in_ok-parts-in-Concat.ensures.first ∙ sym (made_letters_r g.C.Complements.tells_all c.args.self.now.letters.now (g.P.PathSets.paths c.args.self.now.paths.now) c.get-in-Concat-2.result.now c.in_ok-parts-in-Concat.parts.second c.in_ok-parts-in-Concat.ensures.second)

pub transducer-returns-in_err-relation_concat-in-Concat-clause-stopped : goal.transducer-returns-in_err-relation_concat-in-Concat-clause-stopped
transducer-returns-in_err-relation_concat-in-Concat-clause-stopped g t c =
    exit _ _ c.from_residual-in_err-relation_concat-in-Concat.result c.from_residual-in_err-relation_concat-in-Concat.ensures.1 (λ e is. stop_memory_r (g.C.Complements.refuses c.args.self.now.complements.now) g.C.Complements.tells_all c.args.self.now.letters.now (g.P.PathSets.paths c.args.self.now.paths.now) c.args.self.now.limit (length c.args.notes.now.items) c.args.term.now e is)

pub transducer-returns-in_err-pairs-in-Star-clause-stopped : goal.transducer-returns-in_err-pairs-in-Star-clause-stopped
transducer-returns-in_err-pairs-in-Star-clause-stopped g t c =
    exit _ _ c.from_residual-in_err-pairs-in-Star.result c.from_residual-in_err-pairs-in-Star.ensures.1
    (λ e is. subst (λ (s : Stop). StoppedR (g.C.Complements.refuses c.args.self.now.complements.now) g.C.Complements.tells_all c.args.self.now.letters.now (g.P.PathSets.paths c.args.self.now.paths.now) c.args.self.now.limit (length c.args.notes.now.items) c.args.term.now s) (sym is) (stop_star_r (g.C.Complements.refuses c.args.self.now.complements.now) g.C.Complements.tells_all c.args.self.now.letters.now (g.P.PathSets.paths c.args.self.now.paths.now) c.args.self.now.limit (length c.args.notes.now.items) c.args.term.now c.get-in-Star.result.now _ (form_of_one R.Star c.args.term.now c.in-Star.part c.get-in-Star.result.now c.in-Star.is c.get-in-Star.ensures) c.in_err-pairs-in-Star.ensures.stopped))

pub transducer-returns-in_ok-relation_star-in-Star-clause-made : goal.transducer-returns-in_ok-relation_star-in-Star-clause-made
transducer-returns-in_ok-relation_star-in-Star-clause-made g t c =
    part_named (λ (v : RelTerm). IsMadeR g.C.Complements.tells_all c.args.self.now.letters.now (g.P.PathSets.paths c.args.self.now.paths.now) v c.in_ok-relation_star-in-Star.field-0) c.args.term.now (R.Star c.get-in-Star.result.now)
    (form_of_one R.Star c.args.term.now c.in-Star.part c.get-in-Star.result.now c.in-Star.is c.get-in-Star.ensures)
    (c.in_ok-relation_star-in-Star.ensures c.get-in-Star.result.now c.in_ok-pairs-in-Star.ensures.made)

pub transducer-returns-in_ok-relation_star-in-Star-clause-noted : goal.transducer-returns-in_ok-relation_star-in-Star-clause-noted
transducer-returns-in_ok-relation_star-in-Star-clause-noted g t c =
    note_star_r (g.C.Complements.answers c.args.self.now.complements.now) g.C.Complements.tells_all c.args.self.now.letters.now (g.P.PathSets.paths c.args.self.now.paths.now) c.args.notes.now.items _ c.args.term.now c.get-in-Star.result.now (form_of_one R.Star c.args.term.now c.in-Star.part c.get-in-Star.result.now c.in-Star.is c.get-in-Star.ensures) c.in_ok-pairs-in-Star.ensures.noted

pub transducer-returns-in_err-relation_star-in-Star-clause-stopped : goal.transducer-returns-in_err-relation_star-in-Star-clause-stopped
transducer-returns-in_err-relation_star-in-Star-clause-stopped g t c =
    exit _ _ c.from_residual-in_err-relation_star-in-Star.result c.from_residual-in_err-relation_star-in-Star.ensures.1 (λ e is. stop_memory_r (g.C.Complements.refuses c.args.self.now.complements.now) g.C.Complements.tells_all c.args.self.now.letters.now (g.P.PathSets.paths c.args.self.now.paths.now) c.args.self.now.limit (length c.args.notes.now.items) c.args.term.now e is)

pub transducer-returns-in_err-parts-in-Compose-clause-stopped : goal.transducer-returns-in_err-parts-in-Compose-clause-stopped
transducer-returns-in_err-parts-in-Compose-clause-stopped g t c =
    exit _ _ c.from_residual-in_err-parts-in-Compose.result c.from_residual-in_err-parts-in-Compose.ensures.1
    (λ e is. subst (λ (s : Stop). StoppedR (g.C.Complements.refuses c.args.self.now.complements.now) g.C.Complements.tells_all c.args.self.now.letters.now (g.P.PathSets.paths c.args.self.now.paths.now) c.args.self.now.limit (length c.args.notes.now.items) c.args.term.now s) (sym is) (stop_compose_r (g.C.Complements.refuses c.args.self.now.complements.now) g.C.Complements.tells_all c.args.self.now.letters.now (g.P.PathSets.paths c.args.self.now.paths.now) c.args.self.now.limit (length c.args.notes.now.items) c.args.term.now c.get-in-Compose.result.now c.get-in-Compose-2.result.now _ (form_of_two R.Compose c.args.term.now c.in-Compose.a c.get-in-Compose.result.now c.in-Compose.b c.get-in-Compose-2.result.now c.in-Compose.is c.get-in-Compose.ensures c.get-in-Compose-2.ensures) c.in_err-parts-in-Compose.ensures.stopped))

pub transducer-returns-in_ok-compose-in-Compose-clause-made : goal.transducer-returns-in_ok-compose-in-Compose-clause-made
transducer-returns-in_ok-compose-in-Compose-clause-made g t c =
    part_named (λ (v : RelTerm). IsMadeR g.C.Complements.tells_all c.args.self.now.letters.now (g.P.PathSets.paths c.args.self.now.paths.now) v c.in_ok-compose-in-Compose.field-0) c.args.term.now (R.Compose c.get-in-Compose.result.now c.get-in-Compose-2.result.now)
    (form_of_two R.Compose c.args.term.now c.in-Compose.a c.get-in-Compose.result.now c.in-Compose.b c.get-in-Compose-2.result.now c.in-Compose.is c.get-in-Compose.ensures c.get-in-Compose-2.ensures)
    (c.in_ok-compose-in-Compose.ensures.made c.get-in-Compose.result.now c.get-in-Compose-2.result.now c.in_ok-parts-in-Compose.ensures.first c.in_ok-parts-in-Compose.ensures.second)

pub transducer-returns-in_ok-compose-in-Compose-clause-noted : goal.transducer-returns-in_ok-compose-in-Compose-clause-noted
transducer-returns-in_ok-compose-in-Compose-clause-noted g t c =
    note_compose_r (g.C.Complements.answers c.args.self.now.complements.now) g.C.Complements.tells_all c.args.self.now.letters.now (g.P.PathSets.paths c.args.self.now.paths.now) c.args.notes.now.items _ c.args.term.now c.get-in-Compose.result.now c.get-in-Compose-2.result.now (form_of_two R.Compose c.args.term.now c.in-Compose.a c.get-in-Compose.result.now c.in-Compose.b c.get-in-Compose-2.result.now c.in-Compose.is c.get-in-Compose.ensures c.get-in-Compose-2.ensures) c.in_ok-parts-in-Compose.ensures.noted

pub transducer-compose-requires-clause-letters : goal.transducer-compose-requires-clause-letters
transducer-compose-requires-clause-letters g t c =
    made_letters_r g.C.Complements.tells_all c.args.self.now.letters.now (g.P.PathSets.paths c.args.self.now.paths.now) c.get-in-Compose.result.now c.in_ok-parts-in-Compose.parts.first c.in_ok-parts-in-Compose.ensures.first ∙ sym (made_letters_r g.C.Complements.tells_all c.args.self.now.letters.now (g.P.PathSets.paths c.args.self.now.paths.now) c.get-in-Compose-2.result.now c.in_ok-parts-in-Compose.parts.second c.in_ok-parts-in-Compose.ensures.second)

pub transducer-returns-in_err-compose-in-Compose-clause-stopped : goal.transducer-returns-in_err-compose-in-Compose-clause-stopped
transducer-returns-in_err-compose-in-Compose-clause-stopped g t c =
    exit _ _ c.from_residual-in_err-compose-in-Compose.result c.from_residual-in_err-compose-in-Compose.ensures.1
    (λ e is. stop_limit_r (g.C.Complements.refuses c.args.self.now.complements.now) g.C.Complements.tells_all c.args.self.now.letters.now (g.P.PathSets.paths c.args.self.now.paths.now) c.args.self.now.limit (length c.args.notes.now.items) c.args.term.now _ e is
    (λ passed. part_named (λ (v : RelTerm). ReachedInsideR (scene_of c.args.self.now.letters.now (g.P.PathSets.paths c.args.self.now.paths.now)) (c.args.self.now.limit + 1) v) c.args.term.now (R.Compose c.get-in-Compose.result.now c.get-in-Compose-2.result.now)
    (form_of_two R.Compose c.args.term.now c.in-Compose.a c.get-in-Compose.result.now c.in-Compose.b c.get-in-Compose-2.result.now c.in-Compose.is c.get-in-Compose.ensures c.get-in-Compose-2.ensures) (c.in_err-compose-in-Compose.ensures.limit passed c.get-in-Compose.result.now c.get-in-Compose-2.result.now c.in_ok-parts-in-Compose.ensures.first c.in_ok-parts-in-Compose.ensures.second)))

pub automaton-returns-in_ok-none-in-None-clause-made : goal.automaton-returns-in_ok-none-in-None-clause-made
automaton-returns-in_ok-none-in-None-clause-made g t c =
    part_named (λ (v : PathTerm). IsMade g.C.Complements.tells_all c.args.self.now.letters.now (g.P.PathSets.paths c.args.self.now.paths.now) v c.in_ok-none-in-None.field-0) c.args.term.now P.None c.in-None.is c.in_ok-none-in-None.ensures

pub automaton-returns-in_ok-none-in-None-clause-noted : goal.automaton-returns-in_ok-none-in-None-clause-noted
automaton-returns-in_ok-none-in-None-clause-noted g t c =
    note_none (g.C.Complements.answers c.args.self.now.complements.now) g.C.Complements.tells_all c.args.self.now.letters.now (g.P.PathSets.paths c.args.self.now.paths.now) c.args.notes.now.items _ c.args.term.now c.in-None.is refl

pub automaton-returns-in_err-none-in-None-clause-stopped : goal.automaton-returns-in_err-none-in-None-clause-stopped
automaton-returns-in_err-none-in-None-clause-stopped g t c =
    exit _ _ c.from_residual.result c.from_residual.ensures.1 (λ e is. stop_memory (g.C.Complements.refuses c.args.self.now.complements.now) g.C.Complements.tells_all c.args.self.now.letters.now (g.P.PathSets.paths c.args.self.now.paths.now) c.args.self.now.limit (length c.args.notes.now.items) c.args.term.now e is)

pub automaton-returns-in_ok-empty-in-Empty-clause-made : goal.automaton-returns-in_ok-empty-in-Empty-clause-made
automaton-returns-in_ok-empty-in-Empty-clause-made g t c =
    part_named (λ (v : PathTerm). IsMade g.C.Complements.tells_all c.args.self.now.letters.now (g.P.PathSets.paths c.args.self.now.paths.now) v c.in_ok-empty-in-Empty.field-0) c.args.term.now P.Empty c.in-Empty.is c.in_ok-empty-in-Empty.ensures

pub automaton-returns-in_ok-empty-in-Empty-clause-noted : goal.automaton-returns-in_ok-empty-in-Empty-clause-noted
automaton-returns-in_ok-empty-in-Empty-clause-noted g t c =
    note_empty (g.C.Complements.answers c.args.self.now.complements.now) g.C.Complements.tells_all c.args.self.now.letters.now (g.P.PathSets.paths c.args.self.now.paths.now) c.args.notes.now.items _ c.args.term.now c.in-Empty.is refl

pub automaton-returns-in_err-empty-in-Empty-clause-stopped : goal.automaton-returns-in_err-empty-in-Empty-clause-stopped
automaton-returns-in_err-empty-in-Empty-clause-stopped g t c =
    exit _ _ c.from_residual-in_err-empty-in-Empty.result c.from_residual-in_err-empty-in-Empty.ensures.1 (λ e is. stop_memory (g.C.Complements.refuses c.args.self.now.complements.now) g.C.Complements.tells_all c.args.self.now.letters.now (g.P.PathSets.paths c.args.self.now.paths.now) c.args.self.now.limit (length c.args.notes.now.items) c.args.term.now e is)

pub automaton-returns-in_ok-class_automaton-in-Class-clause-made : goal.automaton-returns-in_ok-class_automaton-in-Class-clause-made
automaton-returns-in_ok-class_automaton-in-Class-clause-made g t c =
    part_named (λ (v : PathTerm). IsMade g.C.Complements.tells_all c.args.self.now.letters.now (g.P.PathSets.paths c.args.self.now.paths.now) v c.in_ok-class_automaton-in-Class.field-0) c.args.term.now (P.Class c.in-Class.entry) c.in-Class.is
    (leaves.class g.C.Complements.tells_all c.args.self.now.letters.now (g.P.PathSets.paths c.args.self.now.paths.now) c.in-Class.entry c.in_ok-class_automaton-in-Class.field-0 c.in_ok-class_automaton-in-Class.ensures)

pub automaton-returns-in_ok-class_automaton-in-Class-clause-noted : goal.automaton-returns-in_ok-class_automaton-in-Class-clause-noted
automaton-returns-in_ok-class_automaton-in-Class-clause-noted g t c =
    note_class (g.C.Complements.answers c.args.self.now.complements.now) g.C.Complements.tells_all c.args.self.now.letters.now (g.P.PathSets.paths c.args.self.now.paths.now) c.args.notes.now.items _ c.args.term.now c.in-Class.entry c.in-Class.is refl

pub automaton-returns-in_err-class_automaton-in-Class-clause-stopped : goal.automaton-returns-in_err-class_automaton-in-Class-clause-stopped
automaton-returns-in_err-class_automaton-in-Class-clause-stopped g t c =
    exit _ _ c.from_residual-in_err-class_automaton-in-Class.result c.from_residual-in_err-class_automaton-in-Class.ensures.1 (λ e is. stop_memory (g.C.Complements.refuses c.args.self.now.complements.now) g.C.Complements.tells_all c.args.self.now.letters.now (g.P.PathSets.paths c.args.self.now.paths.now) c.args.self.now.limit (length c.args.notes.now.items) c.args.term.now e is)

pub automaton-returns-in_ok-symbol_automaton-in-One-clause-made : goal.automaton-returns-in_ok-symbol_automaton-in-One-clause-made
automaton-returns-in_ok-symbol_automaton-in-One-clause-made g t c =
    part_named (λ (v : PathTerm). IsMade g.C.Complements.tells_all c.args.self.now.letters.now (g.P.PathSets.paths c.args.self.now.paths.now) v c.in_ok-symbol_automaton-in-One.field-0) c.args.term.now (P.One c.in-One.symbol) c.in-One.is
    (leaves.one g.C.Complements.tells_all c.args.self.now.letters.now (g.P.PathSets.paths c.args.self.now.paths.now) c.in-One.symbol c.in_ok-symbol_automaton-in-One.field-0 c.in_ok-symbol_automaton-in-One.ensures)

pub automaton-returns-in_ok-symbol_automaton-in-One-clause-noted : goal.automaton-returns-in_ok-symbol_automaton-in-One-clause-noted
automaton-returns-in_ok-symbol_automaton-in-One-clause-noted g t c =
    note_one (g.C.Complements.answers c.args.self.now.complements.now) g.C.Complements.tells_all c.args.self.now.letters.now (g.P.PathSets.paths c.args.self.now.paths.now) c.args.notes.now.items _ c.args.term.now c.in-One.symbol c.in-One.is refl

pub automaton-returns-in_err-symbol_automaton-in-One-clause-stopped : goal.automaton-returns-in_err-symbol_automaton-in-One-clause-stopped
automaton-returns-in_err-symbol_automaton-in-One-clause-stopped g t c =
    exit _ _ c.from_residual-in_err-symbol_automaton-in-One.result c.from_residual-in_err-symbol_automaton-in-One.ensures.1 (λ e is. stop_memory (g.C.Complements.refuses c.args.self.now.complements.now) g.C.Complements.tells_all c.args.self.now.letters.now (g.P.PathSets.paths c.args.self.now.paths.now) c.args.self.now.limit (length c.args.notes.now.items) c.args.term.now e is)

pub automaton-returns-in_ok-before-in-Pre-clause-made : goal.automaton-returns-in_ok-before-in-Pre-clause-made
automaton-returns-in_ok-before-in-Pre-clause-made g t c =
    part_named (λ (v : PathTerm). IsMade g.C.Complements.tells_all c.args.self.now.letters.now (g.P.PathSets.paths c.args.self.now.paths.now) v c.in_ok-before-in-Pre.field-0) c.args.term.now P.Pre c.in-Pre.is
    (leaves.pre g.C.Complements.tells_all c.args.self.now.letters.now (g.P.PathSets.paths c.args.self.now.paths.now) c.in_ok-before-in-Pre.field-0
    (subst (λ (b : List ℕ). IsBuilt (Unit {0}) b (g.P.PathSets.paths c.args.self.now.paths.now).pre (PathSetPlaces (g.P.PathSets.paths c.args.self.now.paths.now).at_pre) (PartsApart NoParts NoParts) c.in_ok-before-in-Pre.field-0) c.partition.ensures c.in_ok-before-in-Pre.ensures))

pub automaton-returns-in_ok-before-in-Pre-clause-noted : goal.automaton-returns-in_ok-before-in-Pre-clause-noted
automaton-returns-in_ok-before-in-Pre-clause-noted g t c =
    note_pre (g.C.Complements.answers c.args.self.now.complements.now) g.C.Complements.tells_all c.args.self.now.letters.now (g.P.PathSets.paths c.args.self.now.paths.now) c.args.notes.now.items _ c.args.term.now c.in-Pre.is refl

pub automaton-returns-in_err-before-in-Pre-clause-stopped : goal.automaton-returns-in_err-before-in-Pre-clause-stopped
automaton-returns-in_err-before-in-Pre-clause-stopped g t c =
    exit _ _ c.from_residual-in_err-before-in-Pre.result c.from_residual-in_err-before-in-Pre.ensures.1 (λ e is. stop_memory (g.C.Complements.refuses c.args.self.now.complements.now) g.C.Complements.tells_all c.args.self.now.letters.now (g.P.PathSets.paths c.args.self.now.paths.now) c.args.self.now.limit (length c.args.notes.now.items) c.args.term.now e is)

pub automaton-before-requires : goal.automaton-before-requires
automaton-before-requires g t c =
    subst (λ (b : List ℕ). g.P.PathSets.readable c.args.self.now.paths.now b) (sym c.partition.ensures) c.requires.paths

pub automaton-returns-in_ok-after-in-Post-clause-made : goal.automaton-returns-in_ok-after-in-Post-clause-made
automaton-returns-in_ok-after-in-Post-clause-made g t c =
    part_named (λ (v : PathTerm). IsMade g.C.Complements.tells_all c.args.self.now.letters.now (g.P.PathSets.paths c.args.self.now.paths.now) v c.in_ok-after-in-Post.field-0) c.args.term.now P.Post c.in-Post.is
    (leaves.post g.C.Complements.tells_all c.args.self.now.letters.now (g.P.PathSets.paths c.args.self.now.paths.now) c.in_ok-after-in-Post.field-0
    (subst (λ (b : List ℕ). IsBuilt (Unit {0}) b (g.P.PathSets.paths c.args.self.now.paths.now).post (PathSetPlaces (g.P.PathSets.paths c.args.self.now.paths.now).at_post) (PartsApart NoParts NoParts) c.in_ok-after-in-Post.field-0) c.partition-in-Post.ensures c.in_ok-after-in-Post.ensures))

pub automaton-returns-in_ok-after-in-Post-clause-noted : goal.automaton-returns-in_ok-after-in-Post-clause-noted
automaton-returns-in_ok-after-in-Post-clause-noted g t c =
    note_post (g.C.Complements.answers c.args.self.now.complements.now) g.C.Complements.tells_all c.args.self.now.letters.now (g.P.PathSets.paths c.args.self.now.paths.now) c.args.notes.now.items _ c.args.term.now c.in-Post.is refl

pub automaton-returns-in_err-after-in-Post-clause-stopped : goal.automaton-returns-in_err-after-in-Post-clause-stopped
automaton-returns-in_err-after-in-Post-clause-stopped g t c =
    exit _ _ c.from_residual-in_err-after-in-Post.result c.from_residual-in_err-after-in-Post.ensures.1 (λ e is. stop_memory (g.C.Complements.refuses c.args.self.now.complements.now) g.C.Complements.tells_all c.args.self.now.letters.now (g.P.PathSets.paths c.args.self.now.paths.now) c.args.self.now.limit (length c.args.notes.now.items) c.args.term.now e is)

pub automaton-after-requires : goal.automaton-after-requires
automaton-after-requires g t c =
    subst (λ (b : List ℕ). g.P.PathSets.readable c.args.self.now.paths.now b) (sym c.partition-in-Post.ensures) c.requires.paths

pub automaton-symbol_automaton-requires : goal.automaton-symbol_automaton-requires
automaton-symbol_automaton-requires g t c =
    ((named_forms (IsAlone c.args.self.now.letters.now.blocks)).one c.in-One.symbol).0 (subst (Names (IsAlone c.args.self.now.letters.now.blocks)) c.in-One.is c.requires.alone)

pub automaton-two-requires : goal.automaton-two-requires
automaton-two-requires g t c κs within = (
  (let p : path_sizes.the_size (c.get.result.now) < path_sizes.the_size c.args.term.now = search (rules, the_lemmas) in let q : path_sizes.the_size (c.get-in-Union.result.now) < path_sizes.the_size c.args.term.now = search (rules, the_lemmas) in omega arith),
  (within.0, (within.1.0, (within.1.1, (c.requires.limit, (part_named (Names (IsAlone c.args.self.now.letters.now.blocks)) c.get.result.now c.in-Union.a c.get.ensures (((named_forms (IsAlone c.args.self.now.letters.now.blocks)).union c.in-Union.a c.in-Union.b).0 (subst (Names (IsAlone c.args.self.now.letters.now.blocks)) c.in-Union.is c.requires.alone)).0, (part_named (Names (IsAlone c.args.self.now.letters.now.blocks)) c.get-in-Union.result.now c.in-Union.b c.get-in-Union.ensures (((named_forms (IsAlone c.args.self.now.letters.now.blocks)).union c.in-Union.a c.in-Union.b).0 (subst (Names (IsAlone c.args.self.now.letters.now.blocks)) c.in-Union.is c.requires.alone)).1, c.requires.paths)))))),
)

pub automaton-two-requires-in-Concat : goal.automaton-two-requires-in-Concat
automaton-two-requires-in-Concat g t c κs within = (
  (let p : path_sizes.the_size (c.get-in-Concat.result.now) < path_sizes.the_size c.args.term.now = search (rules, the_lemmas) in let q : path_sizes.the_size (c.get-in-Concat-2.result.now) < path_sizes.the_size c.args.term.now = search (rules, the_lemmas) in omega arith),
  (within.0, (within.1.0, (within.1.1, (c.requires.limit, (part_named (Names (IsAlone c.args.self.now.letters.now.blocks)) c.get-in-Concat.result.now c.in-Concat.a c.get-in-Concat.ensures (((named_forms (IsAlone c.args.self.now.letters.now.blocks)).concat c.in-Concat.a c.in-Concat.b).0 (subst (Names (IsAlone c.args.self.now.letters.now.blocks)) c.in-Concat.is c.requires.alone)).0, (part_named (Names (IsAlone c.args.self.now.letters.now.blocks)) c.get-in-Concat-2.result.now c.in-Concat.b c.get-in-Concat-2.ensures (((named_forms (IsAlone c.args.self.now.letters.now.blocks)).concat c.in-Concat.a c.in-Concat.b).0 (subst (Names (IsAlone c.args.self.now.letters.now.blocks)) c.in-Concat.is c.requires.alone)).1, c.requires.paths)))))),
)

pub automaton-two-requires-in-Meet : goal.automaton-two-requires-in-Meet
automaton-two-requires-in-Meet g t c κs within = (
  (let p : path_sizes.the_size (c.get-in-Meet.result.now) < path_sizes.the_size c.args.term.now = search (rules, the_lemmas) in let q : path_sizes.the_size (c.get-in-Meet-2.result.now) < path_sizes.the_size c.args.term.now = search (rules, the_lemmas) in omega arith),
  (within.0, (within.1.0, (within.1.1, (c.requires.limit, (part_named (Names (IsAlone c.args.self.now.letters.now.blocks)) c.get-in-Meet.result.now c.in-Meet.a c.get-in-Meet.ensures (((named_forms (IsAlone c.args.self.now.letters.now.blocks)).meet c.in-Meet.a c.in-Meet.b).0 (subst (Names (IsAlone c.args.self.now.letters.now.blocks)) c.in-Meet.is c.requires.alone)).0, (part_named (Names (IsAlone c.args.self.now.letters.now.blocks)) c.get-in-Meet-2.result.now c.in-Meet.b c.get-in-Meet-2.ensures (((named_forms (IsAlone c.args.self.now.letters.now.blocks)).meet c.in-Meet.a c.in-Meet.b).0 (subst (Names (IsAlone c.args.self.now.letters.now.blocks)) c.in-Meet.is c.requires.alone)).1, c.requires.paths)))))),
)

pub transducer-two-requires : goal.transducer-two-requires
transducer-two-requires g t c κs within = (
  (let p : path_sizes.the_size (c.get-in-Product.result.now) < relation_sizes.the_size c.args.term.now = search (rules, the_lemmas) in let q : path_sizes.the_size (c.get-in-Product-2.result.now) < relation_sizes.the_size c.args.term.now = search (rules, the_lemmas) in omega arith),
  (within.0, (within.1.0, (within.1.1, (c.requires.limit, (part_named (Names (IsAlone c.args.self.now.letters.now.blocks)) c.get-in-Product.result.now c.in-Product.a c.get-in-Product.ensures (((named_forms (IsAlone c.args.self.now.letters.now.blocks)).product c.in-Product.a c.in-Product.b).0 (subst (NamesR (IsAlone c.args.self.now.letters.now.blocks)) c.in-Product.is c.requires.alone)).0, (part_named (Names (IsAlone c.args.self.now.letters.now.blocks)) c.get-in-Product-2.result.now c.in-Product.b c.get-in-Product-2.ensures (((named_forms (IsAlone c.args.self.now.letters.now.blocks)).product c.in-Product.a c.in-Product.b).0 (subst (NamesR (IsAlone c.args.self.now.letters.now.blocks)) c.in-Product.is c.requires.alone)).1, c.requires.paths)))))),
)

pub transducer-two_transducers-requires : goal.transducer-two_transducers-requires
transducer-two_transducers-requires g t c κs within = (
  (let p : relation_sizes.the_size (c.get-in-Union.result.now) < relation_sizes.the_size c.args.term.now = search (rules, the_lemmas) in let q : relation_sizes.the_size (c.get-in-Union-2.result.now) < relation_sizes.the_size c.args.term.now = search (rules, the_lemmas) in omega arith),
  (within.0, (within.1.0, (within.1.1, (c.requires.limit, (part_named (NamesR (IsAlone c.args.self.now.letters.now.blocks)) c.get-in-Union.result.now c.in-Union.a c.get-in-Union.ensures (((named_forms (IsAlone c.args.self.now.letters.now.blocks)).either c.in-Union.a c.in-Union.b).0 (subst (NamesR (IsAlone c.args.self.now.letters.now.blocks)) c.in-Union.is c.requires.alone)).0, (part_named (NamesR (IsAlone c.args.self.now.letters.now.blocks)) c.get-in-Union-2.result.now c.in-Union.b c.get-in-Union-2.ensures (((named_forms (IsAlone c.args.self.now.letters.now.blocks)).either c.in-Union.a c.in-Union.b).0 (subst (NamesR (IsAlone c.args.self.now.letters.now.blocks)) c.in-Union.is c.requires.alone)).1, c.requires.paths)))))),
)

pub transducer-two_transducers-requires-in-Concat : goal.transducer-two_transducers-requires-in-Concat
transducer-two_transducers-requires-in-Concat g t c κs within = (
  (let p : relation_sizes.the_size (c.get-in-Concat.result.now) < relation_sizes.the_size c.args.term.now = search (rules, the_lemmas) in let q : relation_sizes.the_size (c.get-in-Concat-2.result.now) < relation_sizes.the_size c.args.term.now = search (rules, the_lemmas) in omega arith),
  (within.0, (within.1.0, (within.1.1, (c.requires.limit, (part_named (NamesR (IsAlone c.args.self.now.letters.now.blocks)) c.get-in-Concat.result.now c.in-Concat.a c.get-in-Concat.ensures (((named_forms (IsAlone c.args.self.now.letters.now.blocks)).joined c.in-Concat.a c.in-Concat.b).0 (subst (NamesR (IsAlone c.args.self.now.letters.now.blocks)) c.in-Concat.is c.requires.alone)).0, (part_named (NamesR (IsAlone c.args.self.now.letters.now.blocks)) c.get-in-Concat-2.result.now c.in-Concat.b c.get-in-Concat-2.ensures (((named_forms (IsAlone c.args.self.now.letters.now.blocks)).joined c.in-Concat.a c.in-Concat.b).0 (subst (NamesR (IsAlone c.args.self.now.letters.now.blocks)) c.in-Concat.is c.requires.alone)).1, c.requires.paths)))))),
)

pub transducer-two_transducers-requires-in-Compose : goal.transducer-two_transducers-requires-in-Compose
transducer-two_transducers-requires-in-Compose g t c κs within = (
  (let p : relation_sizes.the_size (c.get-in-Compose.result.now) < relation_sizes.the_size c.args.term.now = search (rules, the_lemmas) in let q : relation_sizes.the_size (c.get-in-Compose-2.result.now) < relation_sizes.the_size c.args.term.now = search (rules, the_lemmas) in omega arith),
  (within.0, (within.1.0, (within.1.1, (c.requires.limit, (part_named (NamesR (IsAlone c.args.self.now.letters.now.blocks)) c.get-in-Compose.result.now c.in-Compose.a c.get-in-Compose.ensures (((named_forms (IsAlone c.args.self.now.letters.now.blocks)).compose c.in-Compose.a c.in-Compose.b).0 (subst (NamesR (IsAlone c.args.self.now.letters.now.blocks)) c.in-Compose.is c.requires.alone)).0, (part_named (NamesR (IsAlone c.args.self.now.letters.now.blocks)) c.get-in-Compose-2.result.now c.in-Compose.b c.get-in-Compose-2.ensures (((named_forms (IsAlone c.args.self.now.letters.now.blocks)).compose c.in-Compose.a c.in-Compose.b).0 (subst (NamesR (IsAlone c.args.self.now.letters.now.blocks)) c.in-Compose.is c.requires.alone)).1, c.requires.paths)))))),
)

pub automaton-automaton-requires : goal.automaton-automaton-requires
automaton-automaton-requires g t c κs within = (
  (let p : path_sizes.the_size (c.get-in-Star.result.now) < path_sizes.the_size c.args.term.now = search (rules, the_lemmas) in omega arith),
  (within.0, (within.1.0, (within.1.1, (c.requires.limit, (part_named (Names (IsAlone c.args.self.now.letters.now.blocks)) c.get-in-Star.result.now c.in-Star.part c.get-in-Star.ensures (((named_forms (IsAlone c.args.self.now.letters.now.blocks)).star c.in-Star.part).0 (subst (Names (IsAlone c.args.self.now.letters.now.blocks)) c.in-Star.is c.requires.alone)), c.requires.paths))))),
)

pub automaton-automaton-requires-in-Complement : goal.automaton-automaton-requires-in-Complement
automaton-automaton-requires-in-Complement g t c κs within = (
  (let p : path_sizes.the_size (c.get-in-Complement.result.now) < path_sizes.the_size c.args.term.now = search (rules, the_lemmas) in omega arith),
  (within.0, (within.1.0, (within.1.1, (c.requires.limit, (part_named (Names (IsAlone c.args.self.now.letters.now.blocks)) c.get-in-Complement.result.now c.in-Complement.part c.get-in-Complement.ensures (((named_forms (IsAlone c.args.self.now.letters.now.blocks)).complement c.in-Complement.part).0 (subst (Names (IsAlone c.args.self.now.letters.now.blocks)) c.in-Complement.is c.requires.alone)), c.requires.paths))))),
)

pub automaton-automaton-requires-in-Image : goal.automaton-automaton-requires-in-Image
automaton-automaton-requires-in-Image g t c κs within = (
  (let p : path_sizes.the_size (c.get-in-Image.result.now) < path_sizes.the_size c.args.term.now = search (rules, the_lemmas) in omega arith),
  (within.0, (within.1.0, (within.1.1, (c.requires.limit, (part_named (Names (IsAlone c.args.self.now.letters.now.blocks)) c.get-in-Image.result.now c.in-Image.set c.get-in-Image.ensures (((named_forms (IsAlone c.args.self.now.letters.now.blocks)).image c.in-Image.set c.in-Image.relation).0 (subst (Names (IsAlone c.args.self.now.letters.now.blocks)) c.in-Image.is c.requires.alone)).0, c.requires.paths))))),
)

pub automaton-transducer-requires : goal.automaton-transducer-requires
automaton-transducer-requires g t c κs within = (
  (let p : relation_sizes.the_size (c.get-in-Image-2.result.now) < path_sizes.the_size c.args.term.now = search (rules, the_lemmas) in omega arith),
  (within.0, (within.1.0, (within.1.1, (c.requires.limit, (part_named (NamesR (IsAlone c.args.self.now.letters.now.blocks)) c.get-in-Image-2.result.now c.in-Image.relation c.get-in-Image-2.ensures (((named_forms (IsAlone c.args.self.now.letters.now.blocks)).image c.in-Image.set c.in-Image.relation).0 (subst (Names (IsAlone c.args.self.now.letters.now.blocks)) c.in-Image.is c.requires.alone)).1, c.requires.paths))))),
)

pub transducer-automaton-requires : goal.transducer-automaton-requires
transducer-automaton-requires g t c κs within = (
  (let p : path_sizes.the_size (c.get.result.now) < relation_sizes.the_size c.args.term.now = search (rules, the_lemmas) in omega arith),
  (within.0, (within.1.0, (within.1.1, (c.requires.limit, (part_named (Names (IsAlone c.args.self.now.letters.now.blocks)) c.get.result.now c.in-Identity.set c.get.ensures (((named_forms (IsAlone c.args.self.now.letters.now.blocks)).identity c.in-Identity.set).0 (subst (NamesR (IsAlone c.args.self.now.letters.now.blocks)) c.in-Identity.is c.requires.alone)), c.requires.paths))))),
)

pub transducer-transducer-requires : goal.transducer-transducer-requires
transducer-transducer-requires g t c κs within = (
  (let p : relation_sizes.the_size (c.get-in-Star.result.now) < relation_sizes.the_size c.args.term.now = search (rules, the_lemmas) in omega arith),
  (within.0, (within.1.0, (within.1.1, (c.requires.limit, (part_named (NamesR (IsAlone c.args.self.now.letters.now.blocks)) c.get-in-Star.result.now c.in-Star.part c.get-in-Star.ensures (((named_forms (IsAlone c.args.self.now.letters.now.blocks)).repeated c.in-Star.part).0 (subst (NamesR (IsAlone c.args.self.now.letters.now.blocks)) c.in-Star.is c.requires.alone)), c.requires.paths))))),
)

pub two-automaton-requires : goal.two-automaton-requires
two-automaton-requires g t c κs within = (
  (omega arith),
  (within.0, (within.1.0, (within.1.1, (c.requires.limit, (c.requires.a_alone, c.requires.paths))))),
)

pub two-automaton-requires-2 : goal.two-automaton-requires-2
two-automaton-requires-2 g t c κs within = (
  (omega arith),
  (within.0, (within.1.0, (within.1.1, (c.requires.limit, (c.requires.b_alone, c.requires.paths))))),
)

pub two_transducers-transducer-requires : goal.two_transducers-transducer-requires
two_transducers-transducer-requires g t c κs within = (
  (omega arith),
  (within.0, (within.1.0, (within.1.1, (c.requires.limit, (c.requires.a_alone, c.requires.paths))))),
)

pub two_transducers-transducer-requires-2 : goal.two_transducers-transducer-requires-2
two_transducers-transducer-requires-2 g t c κs within = (
  (omega arith),
  (within.0, (within.1.0, (within.1.1, (c.requires.limit, (c.requires.b_alone, c.requires.paths))))),
)

pub two-returns-in_err-first-clause-stopped : goal.two-returns-in_err-first-clause-stopped
two-returns-in_err-first-clause-stopped g t c =
    exit _ _ c.from_residual.result c.from_residual.ensures.1
    (λ e is. subst (λ (s : Stop). StoppedTwo (g.C.Complements.refuses c.args.self.now.complements.now) g.C.Complements.tells_all c.args.self.now.letters.now (g.P.PathSets.paths c.args.self.now.paths.now) c.args.self.now.limit (length c.args.notes.now.items) c.args.a.now c.args.b.now s) (sym is) (stop_first (g.C.Complements.refuses c.args.self.now.complements.now) g.C.Complements.tells_all c.args.self.now.letters.now (g.P.PathSets.paths c.args.self.now.paths.now) c.args.self.now.limit (length c.args.notes.now.items) c.args.a.now c.args.b.now _ c.in_err-first.ensures.stopped))

pub two-returns-in_err-second-clause-stopped : goal.two-returns-in_err-second-clause-stopped
two-returns-in_err-second-clause-stopped g t c =
    exit _ _ c.from_residual-in_err-second.result c.from_residual-in_err-second.ensures.1
    (λ e is. subst (λ (s : Stop). StoppedTwo (g.C.Complements.refuses c.args.self.now.complements.now) g.C.Complements.tells_all c.args.self.now.letters.now (g.P.PathSets.paths c.args.self.now.paths.now) c.args.self.now.limit (length c.args.notes.now.items) c.args.a.now c.args.b.now s) (sym is) (stop_second (g.C.Complements.refuses c.args.self.now.complements.now) g.C.Complements.tells_all c.args.self.now.letters.now (g.P.PathSets.paths c.args.self.now.paths.now) c.args.self.now.limit (length c.args.notes.now.items) c.args.a.now c.args.b.now (length c.automaton.new.notes.items) _
    (after_term (g.C.Complements.answers c.args.self.now.complements.now) g.C.Complements.tells_all c.args.self.now.letters.now (g.P.PathSets.paths c.args.self.now.paths.now) c.args.notes.now.items c.automaton.new.notes.items c.args.a.now c.in_ok-first.ensures.noted) c.in_err-second.ensures.stopped))

pub two-returns-clause-noted : goal.two-returns-clause-noted
two-returns-clause-noted g t c =
    note_two (g.C.Complements.answers c.args.self.now.complements.now) g.C.Complements.tells_all c.args.self.now.letters.now (g.P.PathSets.paths c.args.self.now.paths.now) c.args.notes.now.items _ c.args.a.now c.args.b.now c.automaton.new.notes.items c.in_ok-first.ensures.noted c.in_ok-second.ensures.noted

pub two_transducers-returns-in_err-first-clause-stopped : goal.two_transducers-returns-in_err-first-clause-stopped
two_transducers-returns-in_err-first-clause-stopped g t c =
    exit _ _ c.from_residual.result c.from_residual.ensures.1
    (λ e is. subst (λ (s : Stop). StoppedTwoR (g.C.Complements.refuses c.args.self.now.complements.now) g.C.Complements.tells_all c.args.self.now.letters.now (g.P.PathSets.paths c.args.self.now.paths.now) c.args.self.now.limit (length c.args.notes.now.items) c.args.a.now c.args.b.now s) (sym is) (stop_first_r (g.C.Complements.refuses c.args.self.now.complements.now) g.C.Complements.tells_all c.args.self.now.letters.now (g.P.PathSets.paths c.args.self.now.paths.now) c.args.self.now.limit (length c.args.notes.now.items) c.args.a.now c.args.b.now _ c.in_err-first.ensures.stopped))

pub two_transducers-returns-in_err-second-clause-stopped : goal.two_transducers-returns-in_err-second-clause-stopped
two_transducers-returns-in_err-second-clause-stopped g t c =
    exit _ _ c.from_residual-in_err-second.result c.from_residual-in_err-second.ensures.1
    (λ e is. subst (λ (s : Stop). StoppedTwoR (g.C.Complements.refuses c.args.self.now.complements.now) g.C.Complements.tells_all c.args.self.now.letters.now (g.P.PathSets.paths c.args.self.now.paths.now) c.args.self.now.limit (length c.args.notes.now.items) c.args.a.now c.args.b.now s) (sym is) (stop_second_r (g.C.Complements.refuses c.args.self.now.complements.now) g.C.Complements.tells_all c.args.self.now.letters.now (g.P.PathSets.paths c.args.self.now.paths.now) c.args.self.now.limit (length c.args.notes.now.items) c.args.a.now c.args.b.now (length c.transducer.new.notes.items) _
    (after_term_r (g.C.Complements.answers c.args.self.now.complements.now) g.C.Complements.tells_all c.args.self.now.letters.now (g.P.PathSets.paths c.args.self.now.paths.now) c.args.notes.now.items c.transducer.new.notes.items c.args.a.now c.in_ok-first.ensures.noted) c.in_err-second.ensures.stopped))

pub two_transducers-returns-clause-noted : goal.two_transducers-returns-clause-noted
two_transducers-returns-clause-noted g t c =
    note_two_r (g.C.Complements.answers c.args.self.now.complements.now) g.C.Complements.tells_all c.args.self.now.letters.now (g.P.PathSets.paths c.args.self.now.paths.now) c.args.notes.now.items _ c.args.a.now c.args.b.now c.transducer.new.notes.items c.in_ok-first.ensures.noted c.in_ok-second.ensures.noted
