use Rattle.std.proofs.Common.{◌≡◌, length, Bor}
use Rattle.rela_engine.specs.declared.compiled.Compiled.{Compiled}
use Rattle.rela_expand.specs.Listed.{ListsPathSymbols}
use Rattle.rela_translate.specs.Checked.{Checked as Check}
use Rattle.rela_rows.proofs.Loops.{All-mapped_at, All-more, map_taken_from}
use Rattle.rela_rows.proofs.rows.compile_all.Goals as goal

pub compile-requires-clause-classes : goal.compile-requires-clause-classes
compile-requires-clause-classes c =
    All-mapped_at (ListsPathSymbols c.args.alphabet.now) (λ (check : Bor Check). check.now) c.args.checks.now c.loop-check.check-index c.check-item.result
    c.requires.listed c.loop-check-test.true c.check-item.is

pub loop-check-preserved : goal.loop-check-preserved
loop-check-preserved c = record {
  same =
      map_taken_from (λ (compiled : Compiled). compiled.check) (λ (check : Bor Check). check.now) c.loop-check.compiled.items c.push.new.self.items
      c.in_ok-compile.field-0 c.args.checks.now c.loop-check.check-index c.check-item.result c.loop-check-test.true c.check-item.is
      c.loop-check.invariant.same c.in_ok-push.ensures.items c.in_ok-compile.ensures.check;
  locations =
      All-more (λ compiled. compiled.locations ≡ length c.args.alphabet.now) c.loop-check.compiled.items c.push.new.self.items c.in_ok-compile.field-0
      c.in_ok-push.ensures.items c.loop-check.invariant.locations c.in_ok-compile.ensures.locations;
  limits =
      All-more (λ compiled. compiled.states ≡ c.args.states) c.loop-check.compiled.items c.push.new.self.items c.in_ok-compile.field-0
      c.in_ok-push.ensures.items c.loop-check.invariant.limits c.in_ok-compile.ensures.states;
}
