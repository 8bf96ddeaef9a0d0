use Rattle.std.proofs.Common.{◌≡◌, ◌↔◌, ◌∙◌, ◌<◌, ℕ, List, length, refl, sym, subst}
use Rattle.std.specs.List.{All}
use Rattle.std.specs.Prelude.{IsTrue}
use Rattle.std.proofs.lemmas.Result.{IfOk-weaker}
use Rattle.rela_build.specs.Reading.{read_by}
use Rattle.rela_graph.specs.Outline.{outline_of}
use Rattle.rela_graph.specs.Paths.{Paths}
use Rattle.rela_labels.specs.Partition.{block_count}
use Rattle.rela_names.specs.declared.level.Level.{Level}
use Rattle.rela_restriction.specs.Excess.{IsReadAs}
use Rattle.rela_translate.specs.Verdict.{Meets}
use Rattle.rela_translate.specs.Zones.{Before, After}
use Rattle.rela_engine.specs.Differing.{SamePairsOn}
use Rattle.rela_engine.proofs.AlikeBodies.{met_alike}
use Rattle.rela_engine.proofs.MetOn.{met_on}
use Rattle.rela_engine.proofs.Placed.{placed}
use Rattle.rela_engine.proofs.SameOutlines.{equal_outlines}
use Rattle.rela_engine.proofs.decision.is_met_by_looks.Goals as goal

-- the outlines are the same, and so are the paths
pub returns-then-treats_sides_alike : goal.returns-then-treats_sides_alike
returns-then-treats_sides_alike c told =
    let names = c.args.alphabet.now in
    let same : outline_of c.level-level.result c.args.pair.now.before ≡ outline_of c.level-level.result c.args.pair.now.after =
    sym c.at.ensures ∙ equal_outlines c.at.result c.at-2.result (sym c.eq-same.ensures ∙ c.if-not-same.false) ∙ c.at-2.ensures in
    met_alike c.args.compiled.now.check c.args.compiled.now.locations (Paths c.args.pair.now.before c.args.compiled.now.check.level names) (Paths c.args.pair.now.after c.args.compiled.now.check.level names)
    (c.treats_sides_alike.ensures.relations c.if-treats_sides_alike.true)
    (subst (λ (l : Level). (w : List ℕ) → Paths c.args.pair.now.before l names w ↔ Paths c.args.pair.now.after l names w) c.level-level.ensures (c.same_outline_same_paths.ensures same names))

pub path_blocks-requires-clause-placed : goal.path_blocks-requires-clause-placed
path_blocks-requires-clause-placed c =
    placed c.args.alphabet.now c.args.compiled.now.check.level c.args.compiled.now.check.level (length c.args.alphabet.now) c.args.pair.now.before
    refl refl c.requires.located.0

pub same_on-requires : goal.same_on-requires
same_on-requires c =
    subst (All (λ k. k < block_count c.args.compiled.now.blocks)) (sym c.as_slice.ensures.value) c.in_ok-inputs.ensures.below

pub returns : goal.returns
returns c =
    let k = c.args.compiled.now in
    let names = c.args.alphabet.now in
    let pre = c.args.pair.now.before in
    let post = c.args.pair.now.after in
    let inputs = c.as_slice.result.now in
    let before = Before k.check.classes k.locations k.check.body in
    let after = After k.check.classes k.locations k.check.body in
    let same : outline_of c.level-level.result pre ≡ outline_of c.level-level.result post =
    sym c.at.ensures ∙ equal_outlines c.at.result c.at-2.result (sym c.eq-same.ensures ∙ c.if-not-same.false) ∙ c.at-2.ensures in
    IfOk-weaker c.same_on.result (λ alike. IsTrue alike → SamePairsOn k.blocks inputs before after)
    (λ met. IsTrue met → Meets k.check k.locations (Paths pre k.check.level names) (Paths post k.check.level names))
    (λ met pairs is.
    met_on k.check k.locations (Paths pre k.check.level names) (Paths post k.check.level names) (IsReadAs (read_by k.blocks) inputs)
    (subst (λ (l : Level). (w : List ℕ) → Paths pre l names w ↔ Paths post l names w) c.level-level.ensures (c.same_outline_same_paths.ensures same names))
    (λ w path. subst (λ (l : List ℕ). IsReadAs (read_by k.blocks) l w) (sym c.as_slice.ensures.value) (c.in_ok-inputs.ensures.paths w path))
    (λ u v reads. pairs is u v reads))
    c.same_on.ensures
