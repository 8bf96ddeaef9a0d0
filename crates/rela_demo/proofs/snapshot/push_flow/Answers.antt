use Rattle.rela_demo.proofs.Ranges.{add, add_same, adds}
use Rattle.rela_demo.proofs.snapshot.push_flow.Goals as goal

pub returns : goal.returns
returns c =
    (adds (add c.in_ok-extend_from_slice.ensures.items) (adds (add_same c.in_ok-extend_from_slice-2.ensures.items c.as_slice.ensures.value)
    (adds (add c.in_ok-extend_from_slice-3.ensures.items) (adds (add_same c.in_ok-extend_from_slice-4.ensures.items c.as_slice-2.ensures.value)
    (adds (add c.in_ok-extend_from_slice-5.ensures.items) (adds (add c.in_ok-push.ensures.items)
    (adds (add c.in_ok-extend_from_slice-6.ensures.items) (adds (add_same c.in_ok-extend_from_slice-7.ensures.items c.as_slice-3.ensures.value)
    (adds (add c.in_ok-extend_from_slice-8.ensures.items) (adds (add c.in_ok-push-2.ensures.items)
    (adds (add c.in_ok-extend_from_slice-9.ensures.items) (adds (add c.in_ok-extend_from_slice-10.ensures.items) (add c.in_ok-extend_from_slice-11.ensures.items))))))))))))).is
