use Rattle.std.proofs.Common.{◌↔◌, length, ap, subst, arith}
use Rattle.std.specs.Bool.{IsTrue}
use Rattle.std.proofs.lemmas.List.{length_push}
use Rattle.rela_subset.specs.Sets.{HasFinal}
use Rattle.rela_subset.proofs.Determined.{finals_more}
use Rattle.rela_subset.proofs.construction.finals.Goals as goal

pub loop-i-preserved : goal.loop-i-preserved
loop-i-preserved g c = record {
  len = omega (arith, ap length c.in_ok-push.ensures.items, length_push c.loop-i.flags.items c.has_final.result, c.loop-i.invariant.len);
  each =
      finals_more c.args.a.now c.args.sets.now c.loop-i.flags.items c.push.new.self.items c.loop-i.i c.has_final.result c.loop-i.invariant.len c.in_ok-push.ensures.items
      c.loop-i.invariant.each (subst (λ set. IsTrue c.has_final.result ↔ HasFinal c.args.a.now set) c.get.ensures c.has_final.ensures);
}
