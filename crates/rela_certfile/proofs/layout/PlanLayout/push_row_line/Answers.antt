use Rattle.std.proofs.Common.{◌≡◌, ℕ, false, true, Option, IsSome, None, Some, refl, subst, append_assoc}
use Rattle.rela_certfile.specs.Layout.{Shape, shape_at}
use Rattle.rela_certfile.proofs.Joined.{named_in, shape_none, title_checked}
use Rattle.rela_certfile.proofs.layout.PlanLayout.push_row_line.Goals as goal

pub flow_name-requires : goal.flow_name-requires
flow_name-requires c = (named_in c.args.self.now c.args.place _ _ c.checked.ensures.layout ((c.in-Some.ensures.row _ _).0 refl)).0

pub check_name-requires : goal.check_name-requires
check_name-requires c = (named_in c.args.self.now c.args.place _ _ c.checked.ensures.layout ((c.in-Some.ensures.row _ _).0 refl)).1

pub returns-in_ok-push-2 : goal.returns-in_ok-push-2
returns-in_ok-push-2 c =
    rw (
      c.in_ok-push-2.ensures.items,
      c.in_ok-extend_from_slice-3.ensures.items,
      c.in_ok-push.ensures.items,
      c.in_ok-extend_from_slice-2.ensures.items,
      c.in_ok-extend_from_slice.ensures.items,
      c.flow_name.ensures,
      c.check_name.ensures,
      title_checked c.args.self.now c.args.place _ _ ((c.in-Some.ensures.row _ _).0 refl),
    )
    (simp append_assoc)

pub returns-in_default : goal.returns-in_default
returns-in_default c =
    let none : shape_at c.args.self.now c.args.place ≡ None = shape_none c.args.self.now c.args.place (λ (flow : ℕ) (check : ℕ) is.
    let some : c.checked.result ≡ Some (flow, check) = (c.checked.ensures.row flow check).1 is in cc) in
    let some : IsSome {T = Shape} None = subst (λ (o : Option Shape). IsSome o) none c.requires in
    let never : false ≡ true = some in
    let bottom : ⊥ = cc never in
    absurd bottom
