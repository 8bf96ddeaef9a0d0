use Rattle.std.proofs.Common.{◌≡◌, ℕ, None, Some, refl}
use Rattle.rela_certfile.proofs.Joined.{is_row, no_row, named_in}
use Rattle.rela_certfile.proofs.layout.PlanLayout.has_names.Goals as goal

pub flow_name-requires : goal.flow_name-requires
flow_name-requires c = (named_in c.args.self.now c.args.place _ _ c.checked.ensures.layout ((c.in-Some.ensures.row _ _).0 refl)).0

pub check_name-requires : goal.check_name-requires
check_name-requires c = (named_in c.args.self.now c.args.place _ _ c.checked.ensures.layout ((c.in-Some.ensures.row _ _).0 refl)).1

pub returns-in-Some : goal.returns-in-Some
returns-in-Some c =
    is_row c.args.self.now c.args.place _ _ c.args.names.now c.are_joined.result c.checked.ensures.layout ((c.in-Some.ensures.row _ _).0 refl)
    (rw (← c.flow_name.ensures, ← c.check_name.ensures) c.are_joined.ensures)

pub returns-in-None : goal.returns-in-None
returns-in-None c =
    no_row c.args.self.now c.args.place _ (λ (flow : ℕ) (check : ℕ) is. let some : None ≡ Some (flow, check) = (c.in-None.ensures.row flow check).1 is in cc)
