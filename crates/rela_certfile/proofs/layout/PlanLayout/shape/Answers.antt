use Rattle.std.proofs.Common.{◌≡◌, ℕ, None, Some, refl, sym, ◌∙◌}
use Rattle.rela_certfile.proofs.Joined.{shape_checked, shape_none}
use Rattle.rela_certfile.proofs.layout.PlanLayout.shape.Goals as goal

pub returns-in-Some : goal.returns-in-Some
returns-in-Some c =
    c.check_at.ensures ∙ sym (shape_checked c.args.self.now c.args.place _ _ ((c.in-Some.ensures.row _ _).0 refl))

pub returns-in-None : goal.returns-in-None
returns-in-None c =
    sym (shape_none c.args.self.now c.args.place (λ (flow : ℕ) (check : ℕ) is.
    let some : None ≡ Some (flow, check) = (c.in-None.ensures.row flow check).1 is in cc))
