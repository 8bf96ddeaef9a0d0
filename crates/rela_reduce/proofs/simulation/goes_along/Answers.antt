use Rattle.std.proofs.Common.{◌≡◌, ◌<◌, ℕ, Bool, false, List, None, length, get_or, ap, sym, ◌∙◌, subst, arith}
use Rattle.std.specs.List.{All}
use Rattle.std.proofs.lemmas.Bool.{false≢true}
use Rattle.std.proofs.lemmas.List.{get_or_default, length-map, take_all}
use Rattle.std.proofs.lemmas.List.Elements.{All-more}
use Rattle.rela_reduce.specs.Simulation.{IsInRow, arrows_of}
use Rattle.rela_reduce.specs.Stored.{lists_of}
use Rattle.rela_reduce.specs.declared.arrow.Arrow.{Arrow}
use Rattle.rela_reduce.proofs.Stepping.{row_read}
use Rattle.rela_reduce.proofs.simulation.goes_along.Goals as goal
use Rattle.rela_reduce.proofs.simulation.goes_along.Goals.{else-index-via-then-index+else-not-flag, else-index-via-else-index}

pub loop-arrow-preserved : goal.loop-arrow-preserved
loop-arrow-preserved c =
    All-more (IsInRow (lists_of c.args.relation.now) (lists_of c.args.answers.now) c.args.p) c.deref-arrow-items.result.now c.loop-arrow.arrow-index
    (record { label = None; to = 0 }) c.loop-arrow-test.true c.loop-arrow.invariant (c.is_answered.ensures c.if-not-is_answered.false)

pub returns : goal.returns
returns c = λ _.
    let whole = c.args.whole.now in
    let q : ℕ = c.args.q in
    let q_row : q < length whole.arrows.items = omega (arith, c.requires.plain.each, c.requires.state, length-map whole.arrows.items (λ v. v.items)) in
    let row : c.deref-arrow-items.result.now ≡ arrows_of (lists_of whole.arrows.items) q =
    row_read whole.arrows.items q c.index-2.result.now c.deref-arrow-items.result.now q_row c.index-2.ensures c.deref-arrow-items.ensures.value in
    let P : Arrow → Type 0 = IsInRow (lists_of c.args.relation.now) (lists_of c.args.answers.now) c.args.p in
    let all : All P c.deref-arrow-items.result.now =
    subst (All P) (take_all c.loop-arrow.arrow-index c.deref-arrow-items.result.now c.loop-arrow-test.false) c.loop-arrow.invariant in
    record {
      final = λ set. elim c.else-index.branch [
        | else-index-via-then-index+else-not-flag w ↦ sym (ap (λ (l : List Bool). get_or l c.args.p false) w.deref.ensures.value) ∙ sym w.flag.ensures ∙ w.if-not-flag.false
        | else-index-via-else-index w ↦ absurd (false≢true (sym w.if-index.false ∙ c.index.ensures ∙ get_or_default whole.finals.items q c.index.result.now false c.requires.state ∙ set))
      ];
      answered = subst (All P) row all;
    }
