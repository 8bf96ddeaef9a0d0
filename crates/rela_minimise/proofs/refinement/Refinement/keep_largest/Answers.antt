use Rattle.std.proofs.Common.{◌<◌, ℕ, length, get_or, sym, subst, refl, ◌∙◌, arith}
use Rattle.std.specs.List.{All}
use Rattle.std.proofs.lemmas.List.{length-map}
use Rattle.rela_minimise.specs.Refining.{IsHeld}
use Rattle.rela_minimise.specs.Stored.{stage_of}
use Rattle.rela_minimise.proofs.Swapping.{keeps_more}
use Rattle.rela_minimise.proofs.refinement.Refinement.keep_largest.Goals as goal

pub loop-j-preserved : goal.loop-j-preserved
loop-j-preserved c =
    let swapped = c.in_ok-swap.ensures in
    let places : All (λ j. j < length c.args.origins.now) c.deref-j-items.result.now = subst (All (λ j. j < length c.args.origins.now)) (sym c.deref-j-items.ensures.value) c.in_ok-largest.ensures in
    let j : ℕ = get_or c.deref-j-items.result.now c.loop-j.j-index 0 in
    let j_in : j < length c.args.origins.now = places c.loop-j.j-index 0 c.loop-j-test.true in
    let count = c.loop-j.invariant.count in
    let size = length-map c.loop-j.self.members.items (λ v. v.items) in
    record {
      held = subst (λ n. IsHeld n (stage_of c.swap.new.self)) (sym swapped.holds.each) swapped.holds;
      count = sym (length-map c.swap.new.self.members.items (λ v. v.items)) ∙ swapped.count ∙ size ∙ count;
      keeps = keeps_more c.args.first c.args.origins.now (stage_of c.args.self.now) (stage_of c.loop-j.self) (stage_of c.swap.new.self) (length c.loop-j.self.classes.items) j c.loop-j.invariant.keeps refl j_in
          (c.requires.origins j 0 j_in) (omega arith) swapped;
    }
