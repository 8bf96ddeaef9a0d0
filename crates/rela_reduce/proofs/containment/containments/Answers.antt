use Rattle.std.proofs.Common.{◌≡◌, ◌+◌, [], ℕ, Bool, false, IsTrue, List, length, get_or, ap, sym, ◌∙◌, subst}
use Rattle.std.proofs.lemmas.Bool.{false≢true}
use Rattle.std.proofs.lemmas.List.{length-map, length_push}
use Rattle.rela_reduce.specs.Simulation.{AreWithin, IsWithin}
use Rattle.rela_reduce.specs.Stored.{lists_of}
use Rattle.rela_reduce.proofs.Lists.{each_push}
use Rattle.rela_reduce.proofs.Stepping.{lists_push}
use Rattle.rela_reduce.proofs.containment.containments.Goals as goal

pub loop-k-preserved : goal.loop-k-preserved
loop-k-preserved g c =
    let labels = c.args.labels.now in
    let rows = c.loop-k.rows.items in
    let count : length (lists_of rows) ≡ c.loop-k.k = length-map rows (λ v. v.items) ∙ c.loop-k.invariant.each in
    let P : ℕ → List Bool → Type 0 = λ k row. (l : ℕ) → IsTrue (get_or row l false) → IsWithin labels k l in
    record {
      each = ap length c.in_ok-push.ensures.items ∙ length_push rows c.in_ok-row.row ∙ ap (λ k. k + 1) c.loop-k.invariant.each;
      within =
          subst (λ (all : List (List Bool)). AreWithin labels all) (sym (ap lists_of c.in_ok-push.ensures.items ∙ lists_push rows c.in_ok-row.row))
          (each_push P (lists_of rows) c.in_ok-row.row.items [] c.loop-k.invariant.within (subst (λ (k : ℕ). P k c.in_ok-row.row.items) (sym count) c.in_ok-row.ensures)
          (λ k l set. absurd (false≢true set)));
    }
