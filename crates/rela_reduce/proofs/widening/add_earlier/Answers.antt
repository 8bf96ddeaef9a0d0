use Rattle.std.proofs.Common.{ℕ, ◌-◌, ◌<◌, ◌⊎◌, IsTrue, length, get_or, List, subst, arith}
use Rattle.std.specs.List.{Contains}
use Rattle.std.proofs.lemmas.List.Elements.{Contains-get_or}
use Rattle.rela_reduce.specs.Bits.{bit_of}
use Rattle.rela_reduce.specs.Stored.{lists_of}
use Rattle.rela_reduce.specs.declared.ranking.Ranked.{Ranked}
use Rattle.rela_reduce.proofs.Lowering.{covered_push, lowered_push}
use Rattle.rela_reduce.proofs.widening.add_earlier.Goals as goal
use Rattle.rela_reduce.proofs.widening.add_earlier.Goals.{then-r-p+then-has_bit+then-not-bit+in_ok-push, else-r-p}

pub loop-later-preserved : goal.loop-later-preserved
loop-later-preserved c =
    let earlier : List Ranked = c.args.earlier.now in
    let i : ℕ = length earlier - 1 - c.loop-later.later in
    let none : Ranked = record { state = 0; size = 0 } in
    let r : Ranked = get_or earlier i none in
    let within : i < length earlier = omega arith in
    let among : Contains earlier r = Contains-get_or earlier i none within in
    elim c.if-r-p.branch [
      | then-r-p+then-has_bit+then-not-bit+in_ok-push w ↦ record {
        lowered =
            rw (w.list-is, w.in_ok-push.ensures.items)
            (lowered_push (lists_of c.args.relation.now) c.args.states c.args.p c.args.list.now.items c.loop-later.list.items r.state c.loop-later.invariant.lowered w.if-r-p.true
            (c.requires.below r among) (w.has_bit.ensures.0 w.if-has_bit.true));
        covered =
            rw (w.list-is, w.covered-is, w.in_ok-push.ensures.items)
            (covered_push (lists_of c.args.relation.now) earlier c.loop-later.covered w.join.new.words c.loop-later.list.items r c.loop-later.invariant.covered among
            (λ q bit. subst (λ row. IsTrue (bit_of c.loop-later.covered q) ⊎ IsTrue (bit_of row q)) w.row_at.ensures (w.join.ensures q bit)));
      }
      | else-r-p w ↦ record {
        lowered = rw w.list-is c.loop-later.invariant.lowered;
        covered = rw (w.list-is, w.covered-is) c.loop-later.invariant.covered;
      }
    ]
