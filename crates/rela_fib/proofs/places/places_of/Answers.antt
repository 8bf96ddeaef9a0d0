use Rattle.std.proofs.Common.{get_or, subst}
use Rattle.std.proofs.lemmas.List.{take_more, take_all}
use Rattle.std.proofs.lemmas.List.Sorted.{searched}
use Rattle.rela_fib.specs.Graph.{ArePlacesOf}
use Rattle.rela_fib.proofs.Found.{found_hit, found_miss, non_decreasing, places_are}
use Rattle.rela_fib.proofs.places.places_of.Goals as goal
use Rattle.rela_fib.proofs.places.places_of.Goals.{in-Ok+in_ok-push, in_default}

pub loop-interface-preserved : goal.loop-interface-preserved
loop-interface-preserved c =
    let i = c.loop-interface.interface-index in
    let more = take_more c.args.interfaces.now i 0 c.loop-interface-test.true in
    let found = searched c.args.nodes.now (get_or c.args.interfaces.now i 0) c.binary_search.result c.binary_search.ensures.position (non_decreasing c.args.nodes.now c.requires.ascending) in
    elim c.match-binary_search.branch [
      | in-Ok+in_ok-push w ↦ rw w.places-is (found_hit _ _ _ _ _ _ w.in-Ok.place _ c.requires.ascending more w.in_ok-push.ensures.items w.in-Ok.is found c.loop-interface.invariant)
      | in_default w ↦ rw w.places-is (found_miss _ _ _ _ _ _ more w.in_default.not-Ok found c.loop-interface.invariant)
    ]

pub returns : goal.returns
returns c =
    let all = take_all c.loop-interface.interface-index c.args.interfaces.now c.loop-interface-test.false in
    subst (λ taken. ArePlacesOf c.args.nodes.now taken c.ascending.result.items) all (places_are _ _ _ _ c.loop-interface.invariant c.ascending.ensures.rising c.ascending.ensures.same)
