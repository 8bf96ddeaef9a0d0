use Rattle.std.proofs.Common.{length, subst, sym}
use Rattle.std.proofs.lemmas.Result.{IfOk-weaker}
use Rattle.rela_build.specs.Lettering.{Lettering}
use Rattle.rela_build.specs.PathSets.{scene_of}
use Rattle.rela_rir.specs.Assertions.{MayBeLeftOpen}
use Rattle.rela_engine.specs.Leaves.{LeafOf, MustBeLeftOpen, plain_scene}
use Rattle.rela_blocks.specs.Scenes.{paths_of}
use Rattle.rela_engine.proofs.RightLeaves.{lettering_is}
use Rattle.rela_engine.proofs.assertion.decide_assertion.Goals as goal

pub returns-clause-leaf : goal.returns-clause-leaf
returns-clause-leaf c =
    let names = c.args.alphabet.now in
    let flow = paths_of c.args.level names c.args.pair.now.before c.args.pair.now.after in
    IfOk-weaker c.left_open.result _ _
    (λ leaf told. subst (LeafOf (plain_scene c.args.classes.now (length names) flow) c.args.assertion.now c.args.complements.now) (sym told.0)
    (subst (λ (k : Lettering). MayBeLeftOpen (scene_of k flow) c.args.assertion.now c.args.complements.now)
    (lettering_is c.in_ok-letters.letters c.args.classes.now (length names) c.len.result c.in_ok-blocks.blocks c.in_ok-letters.ensures c.len.ensures.len)
    (c.in-Err.ensures.open told.1)))
    c.left_open.ensures.open

pub returns-in-Ok-clause-forced : goal.returns-in-Ok-clause-forced
returns-in-Ok-clause-forced c has =
    let names = c.args.alphabet.now in
    let flow = paths_of c.args.level names c.args.pair.now.before c.args.pair.now.after in
    absurd (c.in-Ok.ensures.within
    (subst (λ (k : Lettering). MustBeLeftOpen (scene_of k flow) c.args.assertion.now c.args.complements.now)
    (sym (lettering_is c.in_ok-letters.letters c.args.classes.now (length names) c.len.result c.in_ok-blocks.blocks c.in_ok-letters.ensures c.len.ensures.len))
    has))

pub returns-clause-forced : goal.returns-clause-forced
returns-clause-forced c =
    IfOk-weaker c.left_open.result _ _ (λ leaf told has. told.0) c.left_open.ensures.open
