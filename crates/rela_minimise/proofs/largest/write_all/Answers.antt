use Rattle.std.proofs.Common.{◌<◌, length, get_or, sym, subst, ◌∙◌}
use Rattle.std.specs.List.{Contains}
use Rattle.std.proofs.lemmas.List.{length-set, take_all}
use Rattle.rela_minimise.proofs.Swapping.{others_more, written_more}
use Rattle.rela_minimise.proofs.largest.write_all.Goals as goal

pub loop-q-preserved : goal.loop-q-preserved
loop-q-preserved c =
    let q = get_or c.args.states.now c.loop-q.q-index 0 in
    let inside : q < length c.loop-q.classes.items = subst (λ n. q < n) (sym c.loop-q.invariant.each) (c.requires c.loop-q.q-index 0 c.loop-q-test.true) in
    record {
      each = length-set c.loop-q.classes.items q c.args.class ∙ c.loop-q.invariant.each;
      written = written_more c.args.classes.now.items c.loop-q.classes.items c.args.states.now c.loop-q.q-index c.args.class c.loop-q-test.true inside c.loop-q.invariant.written;
      others = others_more c.args.classes.now.items c.loop-q.classes.items c.args.states.now c.loop-q.q-index c.args.class c.loop-q-test.true inside c.loop-q.invariant.others;
    }

pub returns-clause-written : goal.returns-clause-written
returns-clause-written c q among = c.loop-q.invariant.written q (subst (λ l. Contains l q) (sym (take_all c.loop-q.q-index c.args.states.now c.loop-q-test.false)) among)
