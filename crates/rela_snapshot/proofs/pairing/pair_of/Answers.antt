use Rattle.std.proofs.Common.{refl, sym, subst}
use Rattle.rela_snapshot.specs.Pair.{AgreesWith}
use Rattle.rela_snapshot.proofs.SameClass.{AreApart, classes_agree, classes_differ}
use Rattle.rela_snapshot.proofs.pairing.pair_of.Goals as goal

pub returns-then-ne-clause-differs : goal.returns-then-ne-clause-differs
returns-then-ne-clause-differs c = λ real. (c.in-Some.after, c.in-Some.is, classes_differ c.ne.result _ _ c.ne.ensures c.if-ne.true, refl)

pub returns-clause-agrees : goal.returns-clause-agrees
returns-clause-agrees c =
    let apart : AreApart = record { ipv4 = c.prefixes_of_one_length_are_apart.ensures.ipv4; ipv6 = c.prefixes_of_one_length_are_apart.ensures.ipv6 } in
    let same = classes_agree apart c.ne.result c.args.before.class c.in-Some.after.class c.ne.ensures c.if-ne.false in
    subst (λ o. AgreesWith o c.args.before) (sym c.in-Some.is) same
