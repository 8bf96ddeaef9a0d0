use Rattle.std.proofs.Common.{◌+◌, ◌∙◌, ℕ, length, refl, subst, sym}
use Rattle.std.proofs.lemmas.Result.{IfErr-weaker, IfOk-weaker, err_from_is_err_and}
use Rattle.std.specs.Prelude.{◌≡◌}
use Rattle.rela_compare.specs.Comparison.{ReachPairsBefore}
use Rattle.rela_graph.specs.Paths.{Paths}
use Rattle.rela_nfa.specs.Runs.{Accepts}
use Rattle.rela_pairs.specs.declared.errors.BuildError.TheVariants as built
use Rattle.rela_trans.specs.Runs.{Relates}
use Rattle.rela_build.specs.Reading.{read_by}
use Rattle.rela_translate.specs.Verdict.{Offends}
use Rattle.rela_engine.specs.Case.{flow_of}
use Rattle.rela_engine.specs.Compilation.{Twofold}
use Rattle.rela_engine.specs.RowOf.{RowOf, MayBeOpen}
use Rattle.rela_blocks.specs.Scenes.{paths_of}
use Rattle.rela_engine.specs.Seen.{ImagePasses, KeepPlaces, machine_of}
use Rattle.rela_engine.specs.ToldSides.{TellsOfSides}
use Rattle.rela_engine.specs.declared.seen.Form.TheVariants as form
use Rattle.rela_engine.proofs.NodesApart.{finer_before, finer_after}
use Rattle.rela_engine.proofs.Placed.{placed}
use Rattle.rela_engine.proofs.Rows.{before_letters_are, after_letters_are, sides_of, right_row}
use Rattle.rela_engine.proofs.ToldSides.{sides_told, sources_of}
use Rattle.rela_engine.proofs.by_sets.row_by.Goals as goal

pub see-requires-clause-placed : goal.see-requires-clause-placed
see-requires-clause-placed g c =
    placed c.args.case.now.alphabet.now c.args.case.now.compiled.now.check.level c.args.case.now.compiled.now.check.level (length c.args.case.now.alphabet.now) c.args.case.now.pair.now.before refl refl c.requires.case.located.0

pub see-requires-2-clause-placed : goal.see-requires-2-clause-placed
see-requires-2-clause-placed g c =
    placed c.args.case.now.alphabet.now c.args.case.now.compiled.now.check.level c.args.case.now.compiled.now.check.level (length c.args.case.now.alphabet.now) c.args.case.now.pair.now.after refl refl c.requires.case.located.1

pub see-requires-clause-blocks : goal.see-requires-clause-blocks
see-requires-clause-blocks g c =
    finer_before c.args.case.now.compiled.now.blocks (length c.args.case.now.alphabet.now) c.args.case.now.compiled.now.check.level c.args.case.now.pair.now.before c.args.case.now.pair.now.after c.args.case.now.blocks.now c.requires.case.blocks

pub see-requires-2-clause-blocks : goal.see-requires-2-clause-blocks
see-requires-2-clause-blocks g c =
    finer_after c.args.case.now.compiled.now.blocks (length c.args.case.now.alphabet.now) c.args.case.now.compiled.now.check.level c.args.case.now.pair.now.before c.args.case.now.pair.now.after c.args.case.now.blocks.now c.requires.case.blocks

pub see-requires-clause-plain : goal.see-requires-clause-plain
see-requires-clause-plain g c = (before_letters_are c.args.case.now.compiled.now c.args.case.now.relations.now c.requires.case.relations c.before-2.result.now c.before-2.ensures).0

pub see-requires-clause-small : goal.see-requires-clause-small
see-requires-clause-small g c = (before_letters_are c.args.case.now.compiled.now c.args.case.now.relations.now c.requires.case.relations c.before-2.result.now c.before-2.ensures).1

pub see-requires-2-clause-plain : goal.see-requires-2-clause-plain
see-requires-2-clause-plain g c = (after_letters_are c.args.case.now.compiled.now c.args.case.now.relations.now c.requires.case.relations c.after.result.now c.after.ensures).0

pub see-requires-2-clause-small : goal.see-requires-2-clause-small
see-requires-2-clause-small g c = (after_letters_are c.args.case.now.compiled.now c.args.case.now.relations.now c.requires.case.relations c.after.result.now c.after.ensures).1

pub returns-in_err-before-clause-limit : goal.returns-in_err-before-clause-limit
returns-in_err-before-clause-limit g c =
    let k = c.args.case.now.compiled.now in
    let names = c.args.case.now.alphabet.now in
    let pre = c.args.case.now.pair.now.before in
    let post = c.args.case.now.pair.now.after in
    let blocks = c.args.case.now.blocks.now in
    let relations = c.args.case.now.relations.now in
    let p = err_from_is_err_and c.from_residual.result c.from_residual.ensures.1 in
    rw (p.1, p.2)
    (λ is plain. subst (λ (n : ℕ). MayBeOpen k.check n (paths_of k.check.level names pre post) k.states) (sym c.requires.case.alphabet)
    (c.plain_images_tell_of_open_rows.ensures.before k relations c.requires.case.relations blocks c.requires.case.blocks.partition
    (c.requires.case.blocks.refines.same_symbols ∙ c.blocks-2.ensures.together.symbols) (flow_of c.args.case.now)
    (subst (λ (r : Twofold). ImagePasses k.blocks blocks k.check.level names pre r.plain k.states) c.before-2.ensures (c.in_err-before.ensures.limit is plain))))

pub returns-in_err-after-clause-limit : goal.returns-in_err-after-clause-limit
returns-in_err-after-clause-limit g c =
    let k = c.args.case.now.compiled.now in
    let names = c.args.case.now.alphabet.now in
    let pre = c.args.case.now.pair.now.before in
    let post = c.args.case.now.pair.now.after in
    let blocks = c.args.case.now.blocks.now in
    let relations = c.args.case.now.relations.now in
    let p = err_from_is_err_and c.from_residual-in_err-after.result c.from_residual-in_err-after.ensures.1 in
    rw (p.1, p.2)
    (λ is plain. subst (λ (n : ℕ). MayBeOpen k.check n (paths_of k.check.level names pre post) k.states) (sym c.requires.case.alphabet)
    (c.plain_images_tell_of_open_rows.ensures.after k relations c.requires.case.relations blocks c.requires.case.blocks.partition
    (c.requires.case.blocks.refines.same_symbols ∙ c.blocks-2.ensures.together.symbols) (flow_of c.args.case.now)
    (subst (λ (r : Twofold). ImagePasses k.blocks blocks k.check.level names post r.plain k.states) c.after.ensures (c.in_err-after.ensures.limit is plain))))

pub row_of_sides-requires-clause-before : goal.row_of_sides-requires-clause-before
row_of_sides-requires-clause-before g c =
    let k = c.args.case.now.compiled.now in
    let x = c.in_ok-before.before in
    sources_of c.args.case.now.blocks.now c.requires.case.blocks.partition (Paths c.args.case.now.pair.now.before k.check.level c.args.case.now.alphabet.now)
    (Relates (read_by k.blocks) (machine_of c.args.form c.before-2.result.now)) x.paths x.relation x.image c.in_ok-before.ensures.seen

pub row_of_sides-requires-clause-after : goal.row_of_sides-requires-clause-after
row_of_sides-requires-clause-after g c =
    let k = c.args.case.now.compiled.now in
    let y = c.in_ok-after.after in
    sources_of c.args.case.now.blocks.now c.requires.case.blocks.partition (Paths c.args.case.now.pair.now.after k.check.level c.args.case.now.alphabet.now)
    (Relates (read_by k.blocks) (machine_of c.args.form c.after.result.now)) y.paths y.relation y.image c.in_ok-after.ensures.seen

pub returns-clause-row : goal.returns-clause-row
returns-clause-row g c =
    let k = c.args.case.now.compiled.now in
    let names = c.args.case.now.alphabet.now in
    let pre = c.args.case.now.pair.now.before in
    let post = c.args.case.now.pair.now.after in
    let x = c.in_ok-before.before in
    let y = c.in_ok-after.after in
    let flow = paths_of k.check.level names pre post in
    let sides = sides_of k c.args.case.now.relations.now c.requires.case.relations
    (c.plain_relations_realise.ensures.before k c.args.case.now.relations.now c.requires.case.relations)
    (c.plain_relations_realise.ensures.after k c.args.case.now.relations.now c.requires.case.relations)
    c.args.case.now.blocks.now c.args.form (Paths pre k.check.level names) (Paths post k.check.level names)
    c.before-2.result.now c.after.result.now x.paths x.relation x.image y.paths y.relation y.image
    c.requires.case.blocks.partition c.before-2.ensures c.after.ensures c.in_ok-before.ensures.seen c.in_ok-after.ensures.seen in
    IfOk-weaker c.row_of_sides.result (TellsOfSides k.check.at_most c.args.case.now.blocks.now x.paths x.relation x.image y.paths y.relation y.image)
    (RowOf k.check (length names) flow k.states)
    (λ row tells.
    subst (λ (n : ℕ). RowOf k.check n flow k.states row) (sym c.requires.case.alphabet)
    (right_row k.check k.locations flow k.states (c.relations_tell_of_open_rows.ensures.there k c.requires.case.relations.within (flow_of c.args.case.now)) row
    (sides_told c.args.case.now.blocks.now k.check k.locations flow k.states x.paths x.relation x.image y.paths y.relation y.image sides row tells)))
    c.row_of_sides.ensures.row

pub returns-clause-limit : goal.returns-clause-limit
returns-clause-limit g c =
    let k = c.args.case.now.compiled.now in
    let names = c.args.case.now.alphabet.now in
    let pre = c.args.case.now.pair.now.before in
    let post = c.args.case.now.pair.now.after in
    let blocks = c.args.case.now.blocks.now in
    let relations = c.args.case.now.relations.now in
    let x = c.in_ok-before.before in
    let y = c.in_ok-after.after in
    let sides = sides_of k c.args.case.now.relations.now c.requires.case.relations
    (c.plain_relations_realise.ensures.before k c.args.case.now.relations.now c.requires.case.relations)
    (c.plain_relations_realise.ensures.after k c.args.case.now.relations.now c.requires.case.relations)
    c.args.case.now.blocks.now c.args.form (Paths pre k.check.level names) (Paths post k.check.level names)
    c.before-2.result.now c.after.result.now x.paths x.relation x.image y.paths y.relation y.image
    c.requires.case.blocks.partition c.before-2.ensures c.after.ensures c.in_ok-before.ensures.seen c.in_ok-after.ensures.seen in
    IfErr-weaker c.row_of_sides.result
    (λ e. e ≡ built.Limit → ReachPairsBefore x.image y.image (Offends k.check.at_most (Accepts x.image) (Accepts y.image)) (k.states + 1))
    (λ e. e ≡ built.Limit → c.args.form ≡ form.Plain → MayBeOpen k.check (length names) (paths_of k.check.level names pre post) k.states)
    (λ e many is plain.
    subst (λ (n : ℕ). MayBeOpen k.check n (paths_of k.check.level names pre post) k.states) (sym c.requires.case.alphabet)
    (c.plain_images_tell_of_open_rows.ensures.both k relations c.requires.case.relations blocks
    (c.requires.case.blocks.refines.same_symbols ∙ c.blocks-2.ensures.together.symbols) (flow_of c.args.case.now)
    x.paths x.relation x.image y.paths y.relation y.image sides
    (subst (λ (r : Twofold). KeepPlaces k.blocks blocks k.check.level names pre r.plain x.paths x.relation) c.before-2.ensures (c.in_ok-before.ensures.places plain))
    (subst (λ (r : Twofold). KeepPlaces k.blocks blocks k.check.level names post r.plain y.paths y.relation) c.after.ensures (c.in_ok-after.ensures.places plain))
    (many is)))
    c.row_of_sides.ensures.limit
