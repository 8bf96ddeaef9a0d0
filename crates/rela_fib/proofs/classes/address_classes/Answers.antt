use Rattle.std.proofs.Common.{subst}
use Rattle.std.specs.List.{All}
use Rattle.rela_prefixes.specs.Holding.{HoldsAllOrNone}
use Rattle.rela_fib.proofs.Uniform.{gathered, gathered_count, uniform_first, uniform_second}
use Rattle.rela_fib.proofs.classes.address_classes.Goals as goal

pub classes_of-requires : goal.classes_of-requires
classes_of-requires c =
    let is = gathered c.args.tables.now c.args.other.now _ _ _ _ _ _ c.new-prefixes.ensures.items c.in_ok-push_prefixes.ensures c.in_ok-push_prefixes-2.ensures c.as_slice.ensures.value c.tables.ensures.tables c.tables-2.ensures.tables in
    gathered_count c.args.tables.now c.args.other.now _ is c.tables.ensures.distinct c.tables-2.ensures.distinct

pub returns-clause-uniform : goal.returns-clause-uniform
returns-clause-uniform c =
    let is = gathered c.args.tables.now c.args.other.now _ _ _ _ _ _ c.new-prefixes.ensures.items c.in_ok-push_prefixes.ensures c.in_ok-push_prefixes-2.ensures c.as_slice.ensures.value c.tables.ensures.tables c.tables-2.ensures.tables in
    uniform_first c.args.tables.now c.args.other.now _ (subst (λ ps. All (λ c. All (λ p. HoldsAllOrNone p c) ps) c.in_ok-classes.classes.items) is c.in_ok-classes.ensures.whole)

pub returns-clause-uniform_in_other : goal.returns-clause-uniform_in_other
returns-clause-uniform_in_other c =
    let is = gathered c.args.tables.now c.args.other.now _ _ _ _ _ _ c.new-prefixes.ensures.items c.in_ok-push_prefixes.ensures c.in_ok-push_prefixes-2.ensures c.as_slice.ensures.value c.tables.ensures.tables c.tables-2.ensures.tables in
    uniform_second c.args.tables.now c.args.other.now _ (subst (λ ps. All (λ c. All (λ p. HoldsAllOrNone p c) ps) c.in_ok-classes.classes.items) is c.in_ok-classes.ensures.whole)
