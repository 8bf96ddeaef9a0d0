use Rattle.std.proofs.Common.{◌≡◌, ◌∙◌, ap, sym, arith}
use Rattle.rela_subset.specs.Deterministic.{states}
use Rattle.rela_minimise.specs.Classes.{finality}
use Rattle.rela_minimise.proofs.FirstClasses.{first_all, first_more, first_none}
use Rattle.rela_minimise.proofs.passes.by_finality.Goals as goal

pub loop-q-init : goal.loop-q-init
loop-q-init g c =
    first_none c.args.dfa.now c.is_final-first.result c.in_ok-numbers.numbers.items c.in_ok-numbers.ensures.items

pub loop-q-preserved : goal.loop-q-preserved
loop-q-preserved g c =
    first_more c.args.dfa.now c.is_final-first.result c.loop-q.q c.loop-q.count c.first_class-class.result c.max-count.result c.loop-q.numbers.items c.push.new.self.items c.loop-q.invariant
    c.first_class-class.ensures.same c.first_class-class.ensures.other c.first_class-class.ensures.small c.max-count.ensures c.in_ok-push.ensures.items

pub returns : goal.returns
returns g c =
    let all : c.loop-q.q ≡ states c.args.dfa.now = omega arith in
    let start_is : finality c.args.dfa.now c.args.dfa.now.start ≡ c.is_final-first.result = ap (finality c.args.dfa.now) (sym c.start.ensures.start) ∙ sym c.is_final-first.ensures in
    first_all c.args.dfa.now c.is_final-first.result c.loop-q.q c.loop-q.count c.loop-q.numbers.items c.requires start_is all c.loop-q.invariant
