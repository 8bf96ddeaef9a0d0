use Rattle.std.proofs.Common.{◌≡◌, ◌<◌, ℕ, ◌⊎◌, List, None, length, drop, ap, sym, ◌∙◌, subst, arith}
use Rattle.std.specs.List.{All, Contains}
use Rattle.std.proofs.lemmas.List.{length-map}
use Rattle.rela_reduce.specs.Simulation.{arrows_of}
use Rattle.rela_reduce.specs.Stored.{lists_of, plain}
use Rattle.rela_reduce.specs.declared.arrow.Arrow.{Arrow}
use Rattle.rela_reduce.proofs.Stepping.{ends_more, ends_within, leads_all, row_read, taken_whole}
use Rattle.rela_reduce.proofs.closed.silent_ends.Goals as goal

pub insert_silent-requires : goal.insert_silent-requires
insert_silent-requires c =
    let whole = c.args.whole.now in
    let q : ℕ = c.index.result.now in
    let q_in : q < length whole.finals.items =
    subst (λ (m : ℕ). m < length whole.finals.items) (sym c.index.ensures) (c.loop-done.invariant.states c.loop-done.done q (omega arith)) in
    let q_row : q < length whole.arrows.items = omega (arith, c.requires.plain.each, length-map whole.arrows.items (λ v. v.items)) in
    let row : c.deref.result.now ≡ arrows_of (lists_of whole.arrows.items) q =
    row_read whole.arrows.items q c.index-in-loop-done.result.now c.deref.result.now q_row c.index-in-loop-done.ensures c.deref.ensures.value in
    let count : length whole.finals.items ≡ length c.deref_mut.result.now = sym (ap length c.deref_mut.ensures.value ∙ c.loop-done.invariant.count) in
    subst (λ (n : ℕ). All (λ (arrow : Arrow). arrow.to < n) c.deref.result.now) count
    (subst (All (λ (arrow : Arrow). arrow.to < length whole.finals.items)) (sym row) (leads_all (plain whole) c.requires.plain q))

pub loop-done-preserved : goal.loop-done-preserved
loop-done-preserved c =
    let whole = c.args.whole.now in
    let q : ℕ = c.index.result.now in
    let before : List ℕ = c.loop-done.ends.items in
    let after : List ℕ = c.insert_silent.new.ends.items in
    let below : c.loop-done.done < length before = omega arith in
    let q_in : q < length whole.finals.items =
    subst (λ (m : ℕ). m < length whole.finals.items) (sym c.index.ensures) (c.loop-done.invariant.states c.loop-done.done q below) in
    let q_row : q < length whole.arrows.items = omega (arith, c.requires.plain.each, length-map whole.arrows.items (λ v. v.items)) in
    let row : c.deref.result.now ≡ arrows_of (lists_of whole.arrows.items) q =
    row_read whole.arrows.items q c.index-in-loop-done.result.now c.deref.result.now q_row c.index-in-loop-done.ensures c.deref.ensures.value in
    let among : Contains before q = (c.loop-done.done, below, sym c.index.ensures) in
    let grown : (t : ℕ) → Contains after t → Contains before t ⊎ Contains (arrows_of (lists_of whole.arrows.items) q) (record { label = None; to = t }) =
    λ t listed. subst (λ (l : List Arrow). Contains before t ⊎ Contains l (record { label = None; to = t })) row (c.in_ok-insert_silent.ensures t listed) in
    record {
      count =
          ap length (taken_whole c.loop-done.flags.len c.insert_silent.new.flags (drop (length c.insert_silent.new.flags) c.loop-done.flags.items) (c.insert_silent.auto.flags ∙ c.deref_mut.ensures.len))
          ∙ c.insert_silent.auto.flags ∙ ap length c.deref_mut.ensures.value ∙ c.loop-done.invariant.count;
      silent = ends_more (plain whole) c.requires.plain c.args.p q before after c.loop-done.invariant.silent among grown;
      states = ends_within (plain whole) c.requires.plain q before after c.loop-done.invariant.states grown;
    }
