use Rattle.std.proofs.Common.{◌≡◌, ℕ, ◌<◌, ◌∷◌, [], ◌++◌, List, length, get_or, set, take, sym, subst, arith}
use Rattle.std.proofs.lemmas.List.{get_or-map, length-map, map-set, take_all, take_more}
use Rattle.std.proofs.lemmas.List.Elements.{Contains-get_or}
use Rattle.rela_reduce.specs.Simulation.{AddsLower, arrows_of}
use Rattle.rela_reduce.specs.Stored.{lists_of}
use Rattle.rela_reduce.specs.declared.arrow.Arrow.{Arrow}
use Rattle.rela_reduce.specs.declared.ranking.Ranked.{Ranked}
use Rattle.rela_reduce.proofs.Lowering.{AreWidened, widened_all, widened_more, widened_none}
use Rattle.rela_reduce.proofs.InOrder.{among_taken}
use Rattle.rela_reduce.proofs.widening.widen.Goals as goal

pub bounds-lists-p : goal.bounds-lists-p
bounds-lists-p c =
    let below = c.requires.below (get_or c.args.order.now c.loop-i.i (record { state = 0; size = 0 })) (Contains-get_or c.args.order.now c.loop-i.i (record { state = 0; size = 0 }) c.loop-i-test.true) in
    omega (arith, below, c.requires.count, c.loop-i.auto.lists)

pub offset_bounds-lists-p : goal.offset_bounds-lists-p
offset_bounds-lists-p c =
    let below = c.requires.below (get_or c.args.order.now c.loop-i.i (record { state = 0; size = 0 })) (Contains-get_or c.args.order.now c.loop-i.i (record { state = 0; size = 0 }) c.loop-i-test.true) in
    omega (arith, below, c.requires.count, c.loop-i.auto.lists)

pub add_lower-requires : goal.add_lower-requires
add_lower-requires c = λ r listed. c.requires.below r (among_taken c.args.order.now c.loop-i.i r listed)

pub loop-i-init : goal.loop-i-init
loop-i-init c = widened_none (lists_of c.args.relation.now) c.args.states (lists_of c.args.lists.now)

pub loop-i-preserved : goal.loop-i-preserved
loop-i-preserved c =
    let relation = lists_of c.args.relation.now in
    let n : ℕ = c.args.states in
    let order : List Ranked = c.args.order.now in
    let i : ℕ = c.loop-i.i in
    let r : Ranked = get_or order i (record { state = 0; size = 0 }) in
    let before : List (List Arrow) = lists_of c.loop-i.lists in
    let new : List Arrow = c.add_lower.new.list.items in
    let within : i < length order = c.loop-i-test.true in
    let below : r.state < n = c.requires.below r (Contains-get_or order i (record { state = 0; size = 0 }) within) in
    let r_in : r.state < length c.loop-i.lists = omega (arith, below, c.requires.count, c.loop-i.auto.lists) in
    let row : (get_or c.loop-i.lists r.state c.index-lists-p.result).items ≡ arrows_of before r.state =
    sym (get_or-map (λ v. v.items) c.loop-i.lists r.state c.index-lists-p.result [] r_in) in
    let adds : AddsLower relation n r.state (take i order) (arrows_of before r.state) new =
    subst (λ (old : List Arrow). AddsLower relation n r.state (take i order) old new) row c.in_ok-add_lower.ensures in
    let more = widened_more relation n (take i order) r (lists_of c.args.lists.now) before new (omega (arith, r_in, length-map c.loop-i.lists (λ v. v.items))) c.loop-i.invariant adds in
    subst (λ (done : List Ranked). AreWidened relation n done (lists_of c.args.lists.now) (lists_of (set c.loop-i.lists r.state c.add_lower.new.list))) (sym (take_more order i (record { state = 0; size = 0 }) within))
    (subst (λ (after : List (List Arrow)). AreWidened relation n (take i order ++ r ∷ []) (lists_of c.args.lists.now) after) (sym (map-set (λ v. v.items) c.loop-i.lists r.state c.add_lower.new.list)) more)

pub returns : goal.returns
returns c =
    widened_all (lists_of c.args.relation.now) c.args.states c.args.order.now (lists_of c.args.lists.now) (lists_of c.loop-i.lists) c.requires.each
    (subst (λ (done : List Ranked). AreWidened (lists_of c.args.relation.now) c.args.states done (lists_of c.args.lists.now) (lists_of c.loop-i.lists))
    (take_all c.loop-i.i c.args.order.now c.loop-i-test.false) c.loop-i.invariant)
