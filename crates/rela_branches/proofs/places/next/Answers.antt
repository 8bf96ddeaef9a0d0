use Rattle.std.proofs.Common.{◌≡◌, ◌<◌, ◌+◌, ℕ, List, [], ◌↔◌, ◌⊎◌, Bool, length, get_or, drop, sym, subst, ap, ◌∙◌}
use Rattle.std.proofs.lemmas.List.{get_or_default}
use Rattle.std.proofs.lemmas.List.Elements.{All-get_or}
use Rattle.rela_branches.specs.Places.{AreBelow, AreNext, Has, IsMarked, Leads}
use Rattle.rela_branches.proofs.Marks.{written}
use Rattle.rela_branches.proofs.Members.{both_ok, row_below}
use Rattle.rela_branches.proofs.Chains.{next_gathered, next_more}
use Rattle.rela_branches.proofs.places.next.Goals as goal

pub loop-place-preserved : goal.loop-place-preserved
loop-place-preserved c =
    let rows = c.args.rows.now in
    let from = c.args.from.now in
    let k = c.loop-place.place-index in
    let shown = c.as_mut_slice.ensures.value in
    let long : length c.mark_all.new.marks ≡ length c.loop-place.marks.items = c.mark_all.ensures.length ∙ ap length shown in
    let is = written c.loop-place.marks.len c.mark_all.new.marks c.loop-place.marks.items long c.loop-place.marks.ok.0 in
    let below : get_or from k 0 < length rows = All-get_or (λ i. i < length rows) from k 0 c.loop-place-test.true c.requires.from in
    let row : c.as_slice.result.now ≡ get_or rows (get_or from k 0) [] =
    c.as_slice.ensures ∙ c.index-rows-place.is ∙ get_or_default rows (get_or from k 0) c.index-rows-place.result [] below in
    let marked : (j : ℕ) → IsMarked c.mark_all.new.marks j ↔ (IsMarked c.loop-place.marks.items j ⊎ Leads rows (get_or from k 0) j) = λ j.
    subst (λ (m : List Bool). IsMarked c.mark_all.new.marks j ↔ (IsMarked m j ⊎ Leads rows (get_or from k 0) j)) shown
    (subst (λ (xs : List ℕ). IsMarked c.mark_all.new.marks j ↔ (IsMarked c.as_mut_slice.result.now j ⊎ Has xs j)) row (c.mark_all.ensures.marks j)) in record {
      long = ap length is ∙ long ∙ c.loop-place.invariant.long;
      has = subst (λ (m : List Bool). (j : ℕ) → (IsMarked m j ⊎ ((i : ℕ) × Has (drop (k + 1) from) i × Leads rows i j)) ↔ ((i : ℕ) × Has from i × Leads rows i j))
          (sym is) (next_more rows from c.loop-place.marks.items c.mark_all.new.marks k c.loop-place-test.true marked c.loop-place.invariant.has);
    }

pub returns : goal.returns
returns c =
    both_ok (AreBelow (length c.as_slice-2.result.now)) (λ places. (i : ℕ) → Has places i ↔ IsMarked c.as_slice-2.result.now i) (AreNext c.args.rows.now c.args.from.now)
    c.gathered.result (next_gathered c.args.rows.now c.args.from.now c.as_slice-2.result.now c.loop-place.marks.items c.loop-place.place-index c.as_slice-2.ensures.value c.loop-place.invariant.long
    c.loop-place-test.false c.loop-place.invariant.has) c.gathered.ensures.below c.gathered.ensures.marks

pub mark_all-requires : goal.mark_all-requires
mark_all-requires c =
    let below : get_or c.args.from.now c.loop-place.place-index 0 < length c.args.rows.now =
    All-get_or (λ i. i < length c.args.rows.now) c.args.from.now c.loop-place.place-index 0 c.loop-place-test.true c.requires.from in
    row_below c.args.rows.now (length c.args.rows.now) (length c.as_mut_slice.result.now) (get_or c.args.from.now c.loop-place.place-index 0) c.index-rows-place.result c.as_slice.result.now
    c.requires.rows below c.index-rows-place.is c.as_slice.ensures (ap length c.as_mut_slice.ensures.value ∙ c.loop-place.invariant.long)
