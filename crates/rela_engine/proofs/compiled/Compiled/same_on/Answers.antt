use Rattle.std.proofs.Common.{subst}
use Rattle.std.specs.Prelude.{IsTrue}
use Rattle.std.proofs.lemmas.Result.{IfOk-weaker}
use Rattle.rela_translate.specs.Zones.{Before, After}
use Rattle.rela_engine.specs.Compilation.{Compilation}
use Rattle.rela_engine.specs.Differing.{HaveNoneOn, SamePairsOn}
use Rattle.rela_engine.proofs.MetOn.{same_where_none}
use Rattle.rela_engine.proofs.compiled.Compiled.same_on.Goals as goal

pub returns-in-Some : goal.returns-in-Some
returns-in-Some c =
    let inputs = c.args.inputs.now in
    let kept = c.self.inside in
    let before = Before kept.check.now.classes kept.locations kept.check.now.body in
    let after = After kept.check.now.classes kept.locations kept.check.now.body in
    IfOk-weaker c.none_on.result
    (λ none. IsTrue none → HaveNoneOn inputs c.in-Some.differing)
    (λ same. IsTrue same → SamePairsOn c.args.self.now.blocks inputs
    (Before c.args.self.now.check.classes c.args.self.now.locations c.args.self.now.check.body)
    (After c.args.self.now.check.classes c.args.self.now.locations c.args.self.now.check.body))
    (λ same none is.
    subst (λ (x : Compilation). SamePairsOn x.blocks inputs (Before x.check.classes x.locations x.check.body) (After x.check.classes x.locations x.check.body)) c.self.view_is
    (same_where_none kept.blocks inputs before after c.in-Some.differing (c.self.invariant.2 c.in-Some.differing c.in-Some.is) (none is)))
    c.none_on.ensures
