use Rattle.std.proofs.Common.{subst, arith}
use Rattle.std.specs.List.{All}
use Rattle.std.specs.Borrow.{Bor}
use Rattle.std.proofs.lemmas.List.{take_all}
use Rattle.std.proofs.lemmas.List.Elements.{All-map, All-more}
use Rattle.rela_names.specs.Name.{IsName}
use Rattle.rela_names.specs.declared.name.Name.{Name}
use Rattle.rela_certfile.proofs.layout.are_named.Goals as goal

pub loop-name-preserved : goal.loop-name-preserved
loop-name-preserved c =
    All-more (λ (name : Bor Name). IsName name.now) c.args.flows.now c.loop-name.name-index c.name-item.result c.loop-name-test.true c.loop-name.invariant
    (subst (λ (name : Bor Name). IsName name.now) c.name-item.is c.as_bytes.ensures.name)

pub returns : goal.returns
returns c =
    All-map IsName (λ (name : Bor Name). name.now) c.args.flows.now
    (subst (λ names. All (λ (name : Bor Name). IsName name.now) names) (take_all c.loop-name.name-index c.args.flows.now (omega arith)) c.loop-name.invariant)
