use Rattle.std.proofs.Common.{length, ap, arith}
use Rattle.rela_rir.specs.Size.{nodes_of_rel}
use Rattle.rela_cert.proofs.ComplementCounts.{count_parts}
use Rattle.rela_cert.proofs.planning.complements_of.Goals as goal

pub count_complements-before-requires : goal.count_complements-before-requires
count_complements-before-requires c =
    let n = length c.args.alphabet.now in
    let few = c.body-body.ensures.check.few_nodes n in
    let one = ap nodes_of_rel c.in_ok-relations.ensures.before_term in
    omega (arith, few, one)

pub count_complements-after-requires : goal.count_complements-after-requires
count_complements-after-requires c =
    let n = length c.args.alphabet.now in
    let few = c.body-body.ensures.check.few_nodes n in
    let two = ap nodes_of_rel c.in_ok-relations.ensures.after_term in
    omega (arith, few, two)

pub overflow_add-result : goal.overflow_add-result
overflow_add-result c =
    let n = length c.args.alphabet.now in
    let few = c.body-body.ensures.check.few_nodes n in
    let one = ap nodes_of_rel c.in_ok-relations.ensures.before_term in
    let two = ap nodes_of_rel c.in_ok-relations.ensures.after_term in
    omega (arith, few, one, two, c.count_complements-before.ensures.few, c.count_complements-after.ensures.few)

pub returns : goal.returns
returns c =
    count_parts c.args.check.now (length c.args.alphabet.now) c.in_ok-relations.relations.before c.in_ok-relations.relations.after
    c.in_ok-relations.ensures.before_term c.in_ok-relations.ensures.after_term
    c.count_complements-before.result c.count_complements-after.result c.count_complements-before.ensures.count c.count_complements-after.ensures.count
