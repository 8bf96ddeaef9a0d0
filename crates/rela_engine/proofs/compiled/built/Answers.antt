use Rattle.std.proofs.Common.{◌+◌, inr, length, subst}
use Rattle.std.proofs.lemmas.Result.{err_from_is_err_and}
use Rattle.rela_build.specs.Lettering.{Lettering}
use Rattle.rela_build.specs.PathSets.{no_paths, scene_of}
use Rattle.rela_rir.specs.Limit.{ReachedInsideR}
use Rattle.rela_rir.specs.declared.term.RelTerm.{RelTerm}
use Rattle.rela_translate.specs.Terms.{after_of}
use Rattle.rela_engine.specs.Sides.{TreatsSidesAlike}
use Rattle.rela_engine.proofs.CheckLetters.{before_alone, after_alone}
use Rattle.rela_engine.proofs.Compilations.{one_relation, two_relations}
use Rattle.rela_engine.proofs.compiled.built.Goals as goal

pub relation_of-requires-clause-alone : goal.relation_of-requires-clause-alone
relation_of-requires-clause-alone c =
    before_alone c.args.check.now (length c.args.alphabet.now) c.args.letters.now.blocks c.requires.blocks
    (c.named_symbols_are_alone.ensures.before c.args.letters.now.blocks (length c.args.alphabet.now) c.args.check.now.body) c.body-body.ensures.check
    c.in_ok-terms.terms.before c.in_ok-terms.ensures.before_term

pub relation_of-requires-2-clause-alone : goal.relation_of-requires-2-clause-alone
relation_of-requires-2-clause-alone c =
    after_alone c.args.check.now (length c.args.alphabet.now) c.args.letters.now.blocks c.requires.blocks
    (c.named_symbols_are_alone.ensures.after c.args.letters.now.blocks (length c.args.alphabet.now) c.args.check.now.body) c.body-body.ensures.check
    c.in_ok-terms.terms.after c.in_ok-terms.ensures.after_term

pub returns-then-treats_sides_alike-clause-made : goal.returns-then-treats_sides_alike-clause-made
returns-then-treats_sides_alike-clause-made c =
    one_relation c.args.check.now (length c.args.alphabet.now) c.args.states c.args.letters.now c.requires.letters
    c.in_ok-terms.terms.before c.in_ok-terms.terms.after c.in_ok-terms.ensures.before_term c.in_ok-terms.ensures.after_term
    c.in_ok-terms.ensures.before c.in_ok-terms.ensures.after c.new.result c.in_ok-before.before c.new.ensures
    (subst TreatsSidesAlike c.body-body.ensures.body (c.treats_sides_alike.ensures.0 c.if-treats_sides_alike.true))
    (record { plain = c.in_ok-before.ensures.plain; small = c.in_ok-before.ensures.small; within = c.in_ok-before.ensures.within })

pub returns-clause-made : goal.returns-clause-made
returns-clause-made c =
    two_relations c.args.check.now (length c.args.alphabet.now) c.args.states c.args.letters.now c.requires.letters
    c.in_ok-terms.terms.before c.in_ok-terms.terms.after c.in_ok-terms.ensures.before_term c.in_ok-terms.ensures.after_term
    c.in_ok-terms.ensures.before c.in_ok-terms.ensures.after c.new-2.result c.in_ok-before.before c.in_ok-after.after c.new-2.ensures
    (record { plain = c.in_ok-before.ensures.plain; small = c.in_ok-before.ensures.small; within = c.in_ok-before.ensures.within })
    (record { plain = c.in_ok-after.ensures.plain; small = c.in_ok-after.ensures.small; within = c.in_ok-after.ensures.within })

pub returns-in_err-after-clause-past : goal.returns-in_err-after-clause-past
returns-in_err-after-clause-past c =
    let check = c.args.check.now in
    let n = length c.args.alphabet.now in
    let p = err_from_is_err_and c.from_residual-in_err-after.result c.from_residual-in_err-after.ensures.1 in
    rw (p.1, p.2)
    (λ other. inr (subst (λ (l : Lettering). ReachedInsideR (scene_of l no_paths) (c.args.states + 1) (after_of n check.body)) c.requires.letters
    (subst (λ (r : RelTerm). ReachedInsideR (scene_of c.args.letters.now no_paths) (c.args.states + 1) r) c.in_ok-terms.ensures.after_term
    (c.in_err-after.ensures.past other))))
