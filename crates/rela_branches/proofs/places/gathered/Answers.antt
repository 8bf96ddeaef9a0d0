use Rattle.std.proofs.Common.{◌<◌, ◌+◌, ◌∙◌, ℕ, List, ◌↔◌, false, length, get_or, sym, ap, subst}
use Rattle.std.proofs.lemmas.List.Elements.{All-push}
use Rattle.std.specs.Prelude.{Vec}
use Rattle.rela_branches.specs.Places.{AreBelow, Has, IsMarked}
use Rattle.rela_branches.proofs.Marks.{gather_done, gather_less, gather_more}
use Rattle.rela_branches.proofs.Members.{not_both}
use Rattle.rela_branches.proofs.places.gathered.Goals as goal
use Rattle.rela_branches.proofs.places.gathered.Goals.{then-mark+in_ok-push, else-mark}

pub loop-place-preserved : goal.loop-place-preserved
loop-place-preserved c =
    let marks = c.args.marks.now in
    let i = c.loop-place.place in
    elim c.if-mark.branch [
      | then-mark+in_ok-push w ↦
          let is : IsMarked marks i = w.if-mark.true in
          let new = ap (λ (v : Vec ℕ _). v.items) w.places-is ∙ w.in_ok-push.ensures.items in record {
            below = subst (AreBelow (length marks)) (sym new) (All-push (λ j. j < length marks) c.loop-place.places.items i c.loop-place.invariant.below c.loop-place-test.true);
            has = subst (λ (xs : List ℕ). (j : ℕ) → Has xs j ↔ ((j < i + 1) × IsMarked marks j)) (sym new)
                (gather_more marks c.loop-place.places.items i c.loop-place.invariant.has is);
          }
      | else-mark w ↦
          let is_not : IsMarked marks i → ⊥ = λ is. not_both (get_or marks i false) is w.if-mark.false in
          let new = ap (λ (v : Vec ℕ _). v.items) w.places-is in record {
            below = subst (AreBelow (length marks)) (sym new) c.loop-place.invariant.below;
            has = subst (λ (xs : List ℕ). (j : ℕ) → Has xs j ↔ ((j < i + 1) × IsMarked marks j)) (sym new)
                (gather_less marks c.loop-place.places.items i c.loop-place.invariant.has is_not);
          }
    ]

pub returns-clause-below : goal.returns-clause-below
returns-clause-below c = subst (AreBelow (length c.args.marks.now)) (sym c.from_vec.ensures) c.loop-place.invariant.below

pub returns-clause-marks : goal.returns-clause-marks
returns-clause-marks c =
    subst (λ (xs : List ℕ). (i : ℕ) → Has xs i ↔ IsMarked c.args.marks.now i) (sym c.from_vec.ensures)
    (gather_done c.args.marks.now c.loop-place.places.items c.loop-place.place c.loop-place-test.false c.loop-place.invariant.has)
