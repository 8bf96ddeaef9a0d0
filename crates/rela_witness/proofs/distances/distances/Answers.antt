use Rattle.std.proofs.Common.{◌≡◌, ◌≢◌, ◌+◌, ◌<◌, ◌≤◌, vec_len, ℕ, List, [], None, length, replicate, arith, rules, sym, subst, ap, ◌∙◌}
use Rattle.std.specs.List.{Contains}
use Rattle.std.proofs.lemmas.Bool.{eqb-true, eqb-false}
use Rattle.std.proofs.lemmas.List.{nil_from_length, length-replicate}
use Rattle.rela_nfa.specs.Automaton.{IsFinal, states}
use Rattle.rela_witness.specs.Linked.{IsLinked}
use Rattle.rela_witness.specs.Numbered.{Grows, After, IsDone, unnumbered}
use Rattle.rela_witness.proofs.Growing.{none_count}
use Rattle.rela_witness.proofs.Searching.{Searching, searching_start, searching_more, half_listed, fewer_left, searched}
use Rattle.rela_witness.proofs.distances.distances.Given.{Over}
use Rattle.rela_witness.proofs.distances.distances.Goals.{In_ok-enter_finals, After-drop-layer-in-loop-alloc}
use Rattle.rela_witness.proofs.distances.distances.Goals as goal

module _ (g : Over) (c : In_ok-enter_finals g) where
  none : c.in_ok-numbers.numbers.items ≡ replicate c.states.result None
  none = c.in_ok-numbers.ensures.items_if_clones_equal (λ y e. search rules)

  first_layer : Grows (IsFinal c.args.a.now) 0 c.in_ok-numbers.numbers.items c.enter_finals.new.numbers.items [] c.enter_finals.new.layer.items
  first_layer =
      subst (λ (l : List ℕ). Grows (IsFinal c.args.a.now) 0 c.in_ok-numbers.numbers.items c.enter_finals.new.numbers.items l c.enter_finals.new.layer.items) c.new-layer.ensures.items
      c.in_ok-enter_finals.ensures.grows

pub loop-alloc-init : goal.loop-alloc-init
loop-alloc-init g c =
    let first = first_layer g c in
    let count : length c.enter_finals.new.numbers.items ≡ states c.args.a.now =
    first.count ∙ ap length (none g c) ∙ length-replicate c.states.result None ∙ c.states.ensures.states in
    record {
      count = count;
      few = omega (arith, first.balance, none_count c.states.result c.in_ok-numbers.numbers.items (none g c), c.states.ensures.states);
      search =
          searching_start c.args.a.now c.states.result c.in_ok-numbers.numbers.items c.enter_finals.new.numbers.items c.enter_finals.new.layer.items (none g c) first
          c.in_ok-enter_finals.ensures.entered;
    }

pub next_layer-requires-clause-layer : goal.next_layer-requires-clause-layer
next_layer-requires-clause-layer g c = λ q among.
    let half = c.close.new.layer.items in
    let in_half : Contains half q = subst (λ (l : List ℕ). Contains l q) c.deref.ensures.value among in (
      c.loop-alloc.distance,
      (half_listed c.args.a.now c.loop-alloc.distance c.loop-alloc.numbers.items c.loop-alloc.layer.items c.loop-alloc.invariant.search c.in_ok-silent.silent
          c.in_ok-silent.ensures.edges c.close.new.numbers.items half c.in_ok-close.ensures.grows c.in_ok-close.ensures.done q).0 in_half,
    )

module _ (g : Over) (c : After-drop-layer-in-loop-alloc g) where
  grows : Grows (After (IsLinked c.in_ok-lettered.lettered) c.close.new.layer.items) (c.loop-alloc.distance + 1) c.close.new.numbers.items c.next_layer.new.numbers.items [] c.in_ok-layer.layer.items
  grows =
      subst
      (λ (l : List ℕ). Grows (After (IsLinked c.in_ok-lettered.lettered) l) (c.loop-alloc.distance + 1) c.close.new.numbers.items c.next_layer.new.numbers.items [] c.in_ok-layer.layer.items)
      c.deref.ensures.value c.in_ok-layer.ensures.grows

  done : IsDone (IsLinked c.in_ok-lettered.lettered) c.next_layer.new.numbers.items c.close.new.layer.items
  done = subst (λ (l : List ℕ). IsDone (IsLinked c.in_ok-lettered.lettered) c.next_layer.new.numbers.items l) c.deref.ensures.value c.in_ok-layer.ensures.done

  some : 0 < length c.loop-alloc.layer.items
  some =
      let apart : vec_len c.loop-alloc.layer ≢ 0 = eqb-false (vec_len c.loop-alloc.layer) 0 (sym c.loop-alloc-test.ensures) in
      omega (arith, apart, c.loop-alloc.layer.ok.0)

  fewer : (c.loop-alloc.distance + 1) + length c.in_ok-layer.layer.items + unnumbered c.next_layer.new.numbers.items ≤ c.loop-alloc.distance + length c.loop-alloc.layer.items + unnumbered c.loop-alloc.numbers.items
  fewer =
      fewer_left c.args.a.now c.loop-alloc.distance c.loop-alloc.numbers.items c.loop-alloc.layer.items c.loop-alloc.invariant.search c.in_ok-silent.silent c.in_ok-silent.ensures.edges
      c.close.new.numbers.items c.close.new.layer.items c.in_ok-close.ensures.grows c.in_ok-close.ensures.done c.in_ok-lettered.lettered c.in_ok-lettered.ensures.edges
      c.next_layer.new.numbers.items c.in_ok-layer.layer.items grows done some

pub loop-alloc-smaller : goal.loop-alloc-smaller
loop-alloc-smaller g c = omega (arith, fewer g c)

pub loop-alloc-preserved : goal.loop-alloc-preserved
loop-alloc-preserved g c = record {
  count = (grows g c).count ∙ c.in_ok-close.ensures.grows.count ∙ c.loop-alloc.invariant.count;
  few = omega (arith, fewer g c, c.loop-alloc.invariant.few);
  search =
      searching_more c.args.a.now c.loop-alloc.distance c.loop-alloc.numbers.items c.loop-alloc.layer.items c.loop-alloc.invariant.search c.in_ok-silent.silent c.in_ok-silent.ensures.edges
      c.close.new.numbers.items c.close.new.layer.items c.in_ok-close.ensures.grows c.in_ok-close.ensures.done c.in_ok-lettered.lettered c.in_ok-lettered.ensures.edges
      c.next_layer.new.numbers.items c.in_ok-layer.layer.items (grows g c) (done g c);
}

pub returns-clause-distances : goal.returns-clause-distances
returns-clause-distances g c =
    let empty : c.loop-alloc.layer.items ≡ [] = nil_from_length c.loop-alloc.layer.items (sym c.loop-alloc.layer.ok.0 ∙ eqb-true (vec_len c.loop-alloc.layer) 0 (sym c.loop-alloc-test.ensures)) in
    searched c.args.a.now c.loop-alloc.distance c.loop-alloc.numbers.items
    (subst (λ (l : List ℕ). Searching c.args.a.now c.loop-alloc.distance c.loop-alloc.numbers.items l) empty c.loop-alloc.invariant.search)
