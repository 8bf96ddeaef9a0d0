use Rattle.std.proofs.Common.{◌≡◌, ◌<◌, ◌+◌, ◌∙◌, ℕ, Bool, true, false, List, ◌↔◌, ◌⊎◌, length, get_or, drop, ap, sym, subst}
use Rattle.std.proofs.lemmas.List.{get_or_default}
use Rattle.std.proofs.lemmas.List.Elements.{All-get_or, All-push}
use Rattle.std.specs.Prelude.{Vec}
use Rattle.rela_branches.specs.Places.{AreBelow, AreKept, Has}
use Rattle.rela_branches.proofs.Marks.{IsKept, keep_done, keep_less, keep_more, kept_is, kept_is_not}
use Rattle.rela_branches.proofs.places.kept.Goals as goal
use Rattle.rela_branches.proofs.places.kept.Goals.{then-index-common+in_ok-push, else-index-common}

pub loop-place-preserved : goal.loop-place-preserved
loop-place-preserved c =
    let first = c.args.first.now in
    let second = c.args.second.now in
    let k = c.loop-place.place-index in
    let x = get_or first k 0 in
    let below : x < c.args.bound = All-get_or (λ i. i < c.args.bound) first k 0 c.loop-place-test.true c.requires.first in
    let inside : x < length c.in_ok-marks.marks.items = subst (λ (n : ℕ). x < n) (sym c.in_ok-marks.ensures.length) below in
    let read : c.index.result.now ≡ get_or c.in_ok-marks.marks.items x false =
    c.index.ensures ∙ get_or_default c.in_ok-marks.marks.items x c.index.result.now false inside in
    let told : (c.index.result.now ≡ true) ↔ Has second x = subst (λ (b : Bool). (b ≡ true) ↔ Has second x) (sym read) (c.in_ok-marks.ensures.marks x) in
    elim c.if-index-common.branch [
      | then-index-common+in_ok-push w ↦
          let is : IsKept first second c.args.common (get_or first k 0) = kept_is (Has second x) c.index.result.now c.args.common told w.if-index-common.true in
          let new = ap (λ (v : Vec ℕ _). v.items) w.kept-is ∙ w.in_ok-push.ensures.items in record {
            below = subst (AreBelow c.args.bound) (sym new) (All-push (λ j. j < c.args.bound) c.loop-place.kept.items (get_or first k 0) c.loop-place.invariant.below below);
            has = subst (λ (xs : List ℕ). (i : ℕ) → (Has xs i ⊎ (Has (drop (k + 1) first) i × IsKept first second c.args.common i)) ↔ (Has first i × IsKept first second c.args.common i))
                (sym new) (keep_more first second c.args.common c.loop-place.kept.items k c.loop-place-test.true is c.loop-place.invariant.has);
          }
      | else-index-common w ↦
          let is_not : IsKept first second c.args.common (get_or first k 0) → ⊥ = kept_is_not (Has second x) c.index.result.now c.args.common told w.if-index-common.false in
          let new = ap (λ (v : Vec ℕ _). v.items) w.kept-is in record {
            below = subst (AreBelow c.args.bound) (sym new) c.loop-place.invariant.below;
            has = subst (λ (xs : List ℕ). (i : ℕ) → (Has xs i ⊎ (Has (drop (k + 1) first) i × IsKept first second c.args.common i)) ↔ (Has first i × IsKept first second c.args.common i))
                (sym new) (keep_less first second c.args.common c.loop-place.kept.items k c.loop-place-test.true is_not c.loop-place.invariant.has);
          }
    ]

pub returns : goal.returns
returns c =
    subst (AreKept c.args.bound c.args.common c.args.first.now c.args.second.now) (sym c.from_vec.ensures)
    (record {
      below = c.loop-place.invariant.below;
      has = keep_done c.args.first.now c.args.second.now c.args.common c.loop-place.kept.items c.loop-place.place-index c.loop-place-test.false c.loop-place.invariant.has;
    })
