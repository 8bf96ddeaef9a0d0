use Rattle.std.proofs.Common.{ℕ, ◌↔◌, sym, subst}
use Rattle.std.specs.Prelude.{IsTrue}
use Rattle.rela_translate.specs.declared.body.Core.{Core}
use Rattle.rela_engine.specs.Compilation.{IsCompiled}
use Rattle.rela_engine.specs.Sides.{TreatsSidesAlike}
use Rattle.rela_engine.proofs.Compilations.{kept}
use Rattle.rela_engine.proofs.compiled.compile.Goals as goal

pub invariant_of-result : goal.invariant_of-result
invariant_of-result c = (
  subst (λ (n : ℕ). IsCompiled (kept c.args.check.now n c.args.states c.in_ok-blocks.blocks c.in_ok-relations.relations)) (sym c.drop_symbol-locations.ensures.number) c.in_ok-relations.ensures,
  subst (λ (body : Core). IsTrue c.treats_sides_alike-alike.result ↔ TreatsSidesAlike body) c.body.ensures.body c.treats_sides_alike-alike.ensures,
  c.in_ok-differing.ensures,
)
