use Rattle.std.proofs.Common.{sym, ◌∙◌, inl, inr, arith}
use Rattle.std.proofs.lemmas.Bool.{false≢true}
use Rattle.rela_reduce.specs.Stored.{lists_of}
use Rattle.rela_reduce.proofs.Lowering.{led_keep, led_push, lowered_push}
use Rattle.rela_reduce.proofs.widening.add_others.Goals as goal
use Rattle.rela_reduce.proofs.widening.add_others.Goals.{then-q-p+then-has_bit+then-not-bit+in_ok-push, else-q-p, else-q-p-via-then-q-p+then-has_bit+else-not-bit, else-q-p-via-then-q-p+else-has_bit, else-q-p-via-else-q-p}

pub loop-q-preserved : goal.loop-q-preserved
loop-q-preserved c = elim c.if-q-p.branch [
  | then-q-p+then-has_bit+then-not-bit+in_ok-push w ↦ record {
    lowered =
        rw (w.list-is, w.in_ok-push.ensures.items)
        (lowered_push (lists_of c.args.relation.now) c.args.states c.args.p c.args.list.now.items c.loop-q.list.items c.loop-q.q c.loop-q.invariant.lowered w.if-q-p.true (omega arith) (w.has_bit.ensures.0 w.if-has_bit.true));
    leads =
        rw (w.list-is, w.in_ok-push.ensures.items)
        (led_push (lists_of c.args.relation.now) c.args.states c.args.p c.args.covered.now c.loop-q.list.items c.loop-q.q c.loop-q.invariant.leads);
  }
  | else-q-p w ↦ record {
    lowered = rw w.list-is c.loop-q.invariant.lowered;
    leads =
        rw w.list-is
        (led_keep (lists_of c.args.relation.now) c.args.states c.args.p c.args.covered.now c.loop-q.list.items c.loop-q.q c.loop-q.invariant.leads (λ set. elim w.else-q-p.branch [
          | else-q-p-via-then-q-p+then-has_bit+else-not-bit w' ↦ inr (inr (sym w'.bit.ensures ∙ w'.if-not-bit.false))
          | else-q-p-via-then-q-p+else-has_bit w' ↦ absurd (false≢true (sym w'.if-has_bit.false ∙ w'.has_bit.ensures.1 set))
          | else-q-p-via-else-q-p w' ↦ inl (sym w'.if-q-p.false)
        ]));
  }
]
