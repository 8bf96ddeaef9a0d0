use Rattle.std.proofs.Common.{◌≡◌, ◌∙◌, ap, sym, subst}
use Rattle.std.proofs.lemmas.Result.{IfOk-weaker}
use Rattle.std.specs.Option.{ForSome}
use Rattle.rela_build.specs.Reading.{read_by}
use Rattle.rela_trans.specs.Machine.{Machine}
use Rattle.rela_trans.specs.Runs.{Relates}
use Rattle.rela_translate.specs.Zones.{Before, After}
use Rattle.rela_engine.specs.Compilation.{Twofold}
use Rattle.rela_engine.specs.Differing.{AreDifferences}
use Rattle.rela_engine.specs.Reading.{Realises}
use Rattle.rela_engine.proofs.MetOn.{differences_along}
use Rattle.rela_engine.proofs.compiled.sides_differ.Goals as goal

pub returns : goal.returns
returns c =
    let blocks = c.args.blocks.now in
    let check = c.args.check.now in
    let before = Before check.classes c.args.locations check.body in
    let after = After check.classes c.args.locations check.body in
    let first = c.small.result.now in
    let second = c.small-2.result.now in
    let first_is : c.args.relations.now.before.small ≡ first = sym (c.small.ensures ∙ ap (λ (t : Twofold). t.small) c.before-before.ensures) in
    let second_is : c.args.relations.now.after.small ≡ second = sym (c.small-2.ensures ∙ ap (λ (t : Twofold). t.small) c.after-after.ensures) in
    let reads = (subst (λ (m : Machine). Realises blocks before m) first_is c.requires.before.small).relation in
    let writes = (subst (λ (m : Machine). Realises blocks after m) second_is c.requires.after.small).relation in
    IfOk-weaker c.compare_relations.result (λ found. ForSome found (AreDifferences blocks (Relates (read_by blocks) first) (Relates (read_by blocks) second)))
    (λ found. ForSome found (AreDifferences blocks before after))
    (λ found are d is. differences_along blocks (Relates (read_by blocks) first) (Relates (read_by blocks) second) before after d reads writes (are d is)) c.compare_relations.ensures
