use Rattle.std.proofs.Common.{◌≡◌, ◌<◌, ◌+◌, ◌∙◌, ℕ, List, ◌↔◌, ◌⊎◌, length, get_or, drop, ap, sym, subst, arith}
use Rattle.std.specs.Prelude.{Vec}
use Rattle.std.proofs.lemmas.List.Elements.{All-push}
use Rattle.rela_translate.specs.Zones.{path_symbols}
use Rattle.rela_branches.specs.Places.{AreBelow, Has}
use Rattle.rela_branches.specs.Walks.{IsBefore, IsStep}
use Rattle.rela_branches.proofs.Members.{has_push, not_both}
use Rattle.rela_branches.proofs.Steps.{step_done, step_less, step_more}
use Rattle.rela_branches.proofs.walk.Walk.step.Goals as goal
use Rattle.rela_branches.proofs.walk.Walk.step.Goals.{then-is_before+in_ok-push, else-is_before}

pub loop-place-preserved : goal.loop-place-preserved
loop-place-preserved c =
    let classes = c.args.self.now.classes.now in
    let symbols = path_symbols c.args.self.now.locations in
    let word = c.args.self.now.word.now in
    let from = c.args.from.now in
    let k = c.loop-place.place-index in
    let x = get_or from k 0 in
    let old = c.loop-place.to.items in
    let told = c.is_before.ensures in
    elim c.if-is_before.branch [
      | then-is_before+in_ok-push w ↦
          let is = w.if-is_before.true in
          let new = ap (λ (v : Vec ℕ _). v.items) w.to-is ∙ w.in_ok-push.ensures.items in
          let inside = told.inside is in record {
            below = subst (AreBelow (length word + 1)) (sym new) (All-push (λ i. i < length word + 1) old (x + 1) c.loop-place.invariant.below (omega arith));
            has = step_more classes symbols word c.args.letter from old c.if-is_before.to.items k c.loop-place-test.true c.loop-place.invariant.has (told.before.0 is)
                (λ j. subst (λ (xs : List ℕ). Has xs j ↔ (Has old j ⊎ (j ≡ x + 1))) (sym new) (has_push old (x + 1) j));
          }
      | else-is_before w ↦
          let new = ap (λ (v : Vec ℕ _). v.items) w.to-is in record {
            below = subst (AreBelow (length word + 1)) (sym new) c.loop-place.invariant.below;
            has = subst (λ (xs : List ℕ). (j : ℕ) → (Has xs j ⊎ ((i : ℕ) × Has (drop (k + 1) from) i × IsBefore classes symbols word c.args.letter i × (j ≡ i + 1)))
                ↔ ((i : ℕ) × Has from i × IsBefore classes symbols word c.args.letter i × (j ≡ i + 1))) (sym new)
                (step_less classes symbols word c.args.letter from old old k c.loop-place-test.true c.loop-place.invariant.has
                (λ before. not_both c.is_before.result (told.before.1 before) w.if-is_before.false));
          }
    ]

pub returns : goal.returns
returns c =
    subst (IsStep c.args.self.now.classes.now (path_symbols c.args.self.now.locations) c.args.self.now.word.now c.args.letter c.args.from.now) (sym c.from_vec.ensures)
    (step_done c.args.self.now.classes.now (path_symbols c.args.self.now.locations) c.args.self.now.word.now c.args.letter c.args.from.now c.loop-place.to.items c.loop-place.place-index
    c.loop-place-test.false c.loop-place.invariant.below c.loop-place.invariant.has)
