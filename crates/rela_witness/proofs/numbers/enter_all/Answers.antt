use Rattle.std.proofs.Common.{◌≡◌, get_or, arith, refl, subst}
use Rattle.std.specs.List.{Contains}
use Rattle.std.proofs.lemmas.List.{get_or_default}
use Rattle.rela_witness.specs.Numbered.{After, HasNumber}
use Rattle.rela_witness.proofs.Growing.{passing_none, passing_more, passed_all, grows_weaker}
use Rattle.rela_witness.proofs.numbers.enter_all.Goals as goal

pub loop-q-init : goal.loop-q-init
loop-q-init c = passing_none (λ p q. p ≡ q) c.args.number c.args.numbers.now.items c.args.layer.now.items c.args.states.now

pub enter-requires : goal.enter-requires
enter-requires c =
    omega (arith, c.requires c.loop-q.q-index 0 c.loop-q-test.true, c.loop-q.invariant.grows.count, c.args.numbers.now.ok.0, c.loop-q.numbers.ok.0)

pub loop-q-preserved : goal.loop-q-preserved
loop-q-preserved c =
    let states = c.args.states.now in
    let i = c.loop-q.q-index in
    passing_more (λ p q. p ≡ q) c.args.number c.args.numbers.now.items c.args.layer.now.items states c.loop-q.numbers.items c.enter.new.numbers.items
    c.loop-q.layer.items c.enter.new.layer.items i (get_or states i 0) c.loop-q-test.true (get_or_default states i 0 (get_or states i 0) c.loop-q-test.true)
    c.loop-q.invariant c.in_ok-enter.ensures.grows (λ q same. subst (λ n. HasNumber c.enter.new.numbers.items n) same c.in_ok-enter.ensures.entered)

pub returns-clause-grows : goal.returns-clause-grows
returns-clause-grows c =
    let states = c.args.states.now in
    let passed = passed_all (λ p q. p ≡ q) c.args.number c.args.numbers.now.items c.args.layer.now.items states c.loop-q.numbers.items c.loop-q.layer.items c.loop-q.q-index c.loop-q-test.false c.loop-q.invariant in
    grows_weaker (After (λ p q. p ≡ q) states) (Contains states) c.args.number c.args.numbers.now.items c.loop-q.numbers.items c.args.layer.now.items c.loop-q.layer.items passed.0
    (λ q (p, among, same). subst (λ n. Contains states n) same among)

pub returns-clause-entered : goal.returns-clause-entered
returns-clause-entered c =
    let passed = passed_all (λ p q. p ≡ q) c.args.number c.args.numbers.now.items c.args.layer.now.items c.args.states.now c.loop-q.numbers.items c.loop-q.layer.items c.loop-q.q-index c.loop-q-test.false c.loop-q.invariant in
    λ q among. passed.1 q q among refl
