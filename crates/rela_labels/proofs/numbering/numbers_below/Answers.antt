use Rattle.std.proofs.Common.{◌≡◌, ℕ, length, ap, refl, arith}
use Rattle.std.proofs.lemmas.List.{length_push}
use Rattle.rela_labels.proofs.KeysInOrder.{each_pushed}
use Rattle.rela_labels.proofs.numbering.numbers_below.Goals as goal

pub loop-i-init : goal.loop-i-init
loop-i-init c = record { len = ap length c.in_ok-numbers.ensures.items; each = λ k below. absurd (omega arith) }

pub loop-i-preserved : goal.loop-i-preserved
loop-i-preserved c =
    let items = c.in_ok-push.ensures.items in
    record {
      len = omega (arith, ap length items, length_push c.loop-i.numbers.items c.loop-i.i, c.loop-i.invariant.len);
      each = each_pushed (λ (k x : ℕ). x ≡ k) c.loop-i.numbers.items c.push.new.self.items c.loop-i.i c.loop-i.i c.loop-i.invariant.len c.loop-i.invariant.each refl items;
    }

pub returns-clause-len : goal.returns-clause-len
returns-clause-len c = omega (arith, c.loop-i.invariant.len, c.loop-i-test.false, c.loop-i.auto.i-end)

pub returns-clause-each : goal.returns-clause-each
returns-clause-each c = λ k within. c.loop-i.invariant.each k (omega (arith, within, c.loop-i-test.false))
