use Rattle.std.proofs.Common.{◌≡◌, ◌<◌, ◌+◌, ℕ, List, ◌↔◌, ◌⊎◌, Bool, length, sym, subst, ap, ◌∙◌}
use Rattle.rela_branches.specs.Places.{AreBelow, AreReached, Has, IsMarked, Leads}
use Rattle.rela_branches.proofs.Marks.{written}
use Rattle.rela_branches.proofs.Members.{both_ok}
use Rattle.rela_branches.proofs.Chains.{Reached, reach_gathered, reach_more, begin_more, lead_more}
use Rattle.rela_branches.proofs.places.reached.Goals as goal

pub loop-place-preserved : goal.loop-place-preserved
loop-place-preserved c =
    let rows = c.args.rows.now in
    let from = c.args.from.now in
    let at = c.loop-place.place in
    let old = c.loop-place.marks.items in
    let new = c.mark_row.new.marks in
    let shown = c.as_mut_slice.ensures.value in
    let long : length new ≡ length old = c.mark_row.ensures.length ∙ ap length shown in
    let is = written c.loop-place.marks.len new old long c.loop-place.marks.ok.0 in
    let marked : (j : ℕ) → IsMarked new j ↔ (IsMarked old j ⊎ (IsMarked old at × Leads rows at j)) =
    subst (λ (m : List Bool). (j : ℕ) → IsMarked new j ↔ (IsMarked m j ⊎ (IsMarked m at × Leads rows at j))) shown c.mark_row.ensures.marks in record {
      long = ap length is ∙ long ∙ c.loop-place.invariant.long;
      reached = subst (λ (m : List Bool). (j : ℕ) → IsMarked m j → Reached rows from j) (sym is)
          (reach_more rows from old new at marked c.loop-place.invariant.reached);
      begun = subst (λ (m : List Bool). (i : ℕ) → Has from i → IsMarked m i) (sym is) (begin_more rows from old new at marked c.loop-place.invariant.begun);
      led = subst (λ (m : List Bool). (i j : ℕ) → i < at + 1 → IsMarked m i → Leads rows i j → IsMarked m j) (sym is)
          (lead_more rows from old new at marked c.requires.onward c.loop-place.invariant.led);
    }

pub returns : goal.returns
returns c =
    both_ok (AreBelow (length c.as_slice.result.now)) (λ places. (i : ℕ) → Has places i ↔ IsMarked c.as_slice.result.now i) (AreReached c.args.rows.now c.args.from.now)
    c.gathered.result (reach_gathered c.args.rows.now c.args.from.now c.as_slice.result.now c.loop-place.marks.items c.loop-place.place c.as_slice.ensures.value c.loop-place.invariant.long
    c.loop-place-test.false c.loop-place.invariant.reached c.loop-place.invariant.begun c.loop-place.invariant.led) c.gathered.ensures.below c.gathered.ensures.marks
