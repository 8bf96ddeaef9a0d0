use Rattle.std.proofs.Common.{◌≡◌, ◌<◌, false, length, take, get_or, replicate, arith, ◌∙◌, rules}
use Rattle.std.proofs.lemmas.List.{take_more, take_all, length-set}
use Rattle.rela_graph.proofs.Flagged.{set_at_first, set_more}
use Rattle.rela_graph.proofs.graph.flags_of.Goals as goal

pub loop-n-init : goal.loop-n-init
loop-n-init c =
    let none : c.in_ok-flags.flags.items ≡ replicate c.args.count false = c.in_ok-flags.ensures.items_if_clones_equal (λ y e. e) in
    record { len = search rules; set = λ m. rw none (set_at_first c.args.count m) }

pub loop-n-preserved : goal.loop-n-preserved
loop-n-preserved c =
    let n = get_or c.args.listed.now c.loop-n.n-index 0 in
    let within : n < length c.loop-n.flags.items = let h = c.requires c.loop-n.n-index 0 c.loop-n-test.true in let e = c.loop-n.invariant.len in omega arith in
    record {
      len = length-set c.loop-n.flags.items n _ ∙ c.loop-n.invariant.len;
      set = λ m. rw (take_more c.args.listed.now c.loop-n.n-index 0 c.loop-n-test.true) (set_more c.loop-n.flags.items (take c.loop-n.n-index c.args.listed.now) n within c.loop-n.invariant.set m);
    }

pub returns-clause-flags : goal.returns-clause-flags
returns-clause-flags c n = rw (take_all c.loop-n.n-index c.args.listed.now c.loop-n-test.false) at (c.loop-n.invariant.set n)
