use Rattle.std.proofs.Common.{◌≤◌, List, All, sym, subst, rules}
use Rattle.rela_flows.specs.Selects.{depth}
use Rattle.rela_flows.specs.declared.predicate.Predicate.{Predicate}
use Rattle.rela_flows.specs.declared.predicate.Predicate.TheViews.{the_lemmas}
use Rattle.rela_plan.specs.Selection.{IsAnswer}
use Rattle.rela_plan.proofs.Leaves.{parts_of_and, parts_of_or}
use Rattle.rela_plan.proofs.Selections.{all_from_more, none_from, all_from_end, some_from_more, none_left, some_from_end, answer_of_not, answer_of_and, answer_of_or}
use Rattle.rela_plan.proofs.selection.+selected.Goals as goal

pub selected_by_all-returns-then-flows-eq0-clause-answer : goal.selected_by_all-returns-then-flows-eq0-clause-answer
selected_by_all-returns-then-flows-eq0-clause-answer t c =
    none_from c.args.block.now c.args.parts.now c.args.asked c.loop-part.part-index c.loop-part.flows c.if-flows-eq0.true c.loop-part.invariant.selected

pub selected_by_all-loop-part-preserved : goal.selected_by_all-loop-part-preserved
selected_by_all-loop-part-preserved t c = record {
  selected =
      all_from_more c.args.block.now c.args.parts.now c.args.asked c.loop-part.part-index c.loop-part.flows c.selected-flows.result c.part-item.result
      c.part-item.is c.loop-part-test.true c.loop-part.invariant.selected c.selected-flows.ensures.answer;
  known = c.selected-flows.ensures.known;
}

pub selected_by_all-returns-clause-answer : goal.selected_by_all-returns-clause-answer
selected_by_all-returns-clause-answer t c =
    all_from_end c.args.block.now c.args.parts.now c.args.asked c.loop-part.part-index c.loop-part.flows c.loop-part-test.false c.loop-part.invariant.selected

pub selected_by_any-returns-then-left-eq0-clause-answer : goal.selected_by_any-returns-then-left-eq0-clause-answer
selected_by_any-returns-then-left-eq0-clause-answer t c =
    none_left c.args.block.now c.args.parts.now c.args.asked c.loop-part.part-index c.loop-part.flows c.but_not-left.result c.requires.known.few
    c.if-left-eq0.true c.loop-part.invariant.selected c.but_not-left.ensures

pub selected_by_any-loop-part-preserved : goal.selected_by_any-loop-part-preserved
selected_by_any-loop-part-preserved t c = record {
  selected =
      some_from_more c.args.block.now c.args.parts.now c.args.asked c.loop-part.part-index c.loop-part.flows c.but_not-left.result c.selected.result
      c.in_either-flows.result c.part-item.result c.requires.known.few c.part-item.is c.loop-part-test.true c.loop-part.invariant.selected
      c.but_not-left.ensures c.selected.ensures.answer c.in_either-flows.ensures;
  known = c.selected.ensures.known;
}

pub selected_by_any-returns-clause-answer : goal.selected_by_any-returns-clause-answer
selected_by_any-returns-clause-answer t c =
    some_from_end c.args.block.now c.args.parts.now c.args.asked c.loop-part.part-index c.loop-part.flows c.loop-part-test.false c.loop-part.invariant.selected

pub selected-selected_by_all-requires : goal.selected-selected_by_all-requires
selected-selected_by_all-requires t c = (
  search (rules, the_lemmas),
  (
    subst (λ (ps : List Predicate). All (λ q. depth q ≤ 1000) ps) (sym c.as_slice.ensures) (parts_of_and c.args.predicate.now c.in-And.parts c.requires.shallow c.in-And.is),
    c.requires.known,
  ),
)

pub selected-selected_by_any-requires : goal.selected-selected_by_any-requires
selected-selected_by_any-requires t c = (
  search (rules, the_lemmas),
  (
    subst (λ (ps : List Predicate). All (λ q. depth q ≤ 1000) ps) (sym c.as_slice-in-Or.ensures) (parts_of_or c.args.predicate.now c.in-Or.parts c.requires.shallow c.in-Or.is),
    c.requires.known,
  ),
)

pub selected-returns-in-Not-clause-answer : goal.selected-returns-in-Not-clause-answer
selected-returns-in-Not-clause-answer t c =
    answer_of_not c.args.block.now c.args.predicate.now c.in-Not.part c.args.asked c.selected.result c.but_not.result c.requires.known.few c.in-Not.is
    (subst (λ (q : Predicate). IsAnswer c.args.block.now c.args.asked q c.selected.result) c.get.ensures c.selected.ensures.answer) c.but_not.ensures

pub selected-returns-in-And-clause-answer : goal.selected-returns-in-And-clause-answer
selected-returns-in-And-clause-answer t c =
    answer_of_and c.args.block.now c.args.predicate.now c.in-And.parts c.as_slice.result.now c.args.asked c.selected_by_all.result c.in-And.is c.as_slice.ensures
    c.selected_by_all.ensures.answer

pub selected-returns-in-Or-clause-answer : goal.selected-returns-in-Or-clause-answer
selected-returns-in-Or-clause-answer t c =
    answer_of_or c.args.block.now c.args.predicate.now c.in-Or.parts c.as_slice-in-Or.result.now c.args.asked c.selected_by_any.result c.in-Or.is c.as_slice-in-Or.ensures
    c.selected_by_any.ensures.answer
