use Rattle.std.proofs.Common.{◌≡◌, Ok, Err, ap, sym, subst, ◌∙◌, arith, refl}
use Rattle.std.proofs.lemmas.List.{drop_all}
use Rattle.rela_json.specs.Results.{try_fold}
use Rattle.rela_spec.specs.declared.tree.Item.{Item}
use Rattle.rela_expand.specs.Places.{Place}
use Rattle.rela_expand.specs.Walk.{with_shaped}
use Rattle.rela_expand.specs.Walks.{seen_of, taken_with}
use Rattle.rela_expand.proofs.WalkItems.{fold_goes_on, fold_stops}
use Rattle.rela_expand.proofs.walking.walk_items.Goals as goal

pub returns-in_err-walk_item-clause-refused : goal.returns-in_err-walk_item-clause-refused
returns-in_err-walk_item-clause-refused c =
    let place : Place = record { network = c.args.locations.now; level = c.args.level } in
    let here = c.loop-item.invariant in
    let e = c.in_err-walk_item.field-0.0 in
    let fault : c.from_residual.result ≡ Err e = grind arith in
    rw fault
    (λ apart.
    sym here.rest
    ∙ fold_stops (with_shaped place) (seen_of c.loop-item.walk here.taken) c.args.items.now c.loop-item.item-index c.item-item.result c.loop-item-test.true e
    (subst (λ (item : Item). with_shaped place (seen_of c.loop-item.walk here.taken) item ≡ Err e) c.item-item.is
    (c.in_err-walk_item.ensures.refused here.taken here.are_taken apart)))

pub loop-item-preserved : goal.loop-item-preserved
loop-item-preserved c =
    let place : Place = record { network = c.args.locations.now; level = c.args.level } in
    let here = c.loop-item.invariant in
    let walk = c.walk_item.new.walk in
    let taken = taken_with c.item-item.result here.taken in
    record {
      sound = c.in_ok-walk_item.ensures.walk;
      taken = taken;
      are_taken = c.in_ok-walk_item.ensures.taken here.taken here.are_taken;
      rest =
          fold_goes_on (with_shaped place) (seen_of c.loop-item.walk here.taken) c.args.items.now c.loop-item.item-index c.item-item.result c.loop-item-test.true (seen_of walk taken)
          (subst (λ (item : Item). with_shaped place (seen_of c.loop-item.walk here.taken) item ≡ Ok (seen_of walk taken)) c.item-item.is
          (c.in_ok-walk_item.ensures.seen here.taken here.are_taken))
          ∙ here.rest;
      levels = c.in_ok-walk_item.ensures.level here.levels;
    }

pub returns-clause-checks : goal.returns-clause-checks
returns-clause-checks c =
    let place : Place = record { network = c.args.locations.now; level = c.args.level } in
    let here = c.loop-item.invariant in
    let seen = seen_of c.loop-item.walk here.taken in (
      seen,
      sym here.rest ∙ ap (try_fold (with_shaped place) seen) (drop_all c.loop-item.item-index c.args.items.now c.loop-item-test.false),
      refl,
    )
