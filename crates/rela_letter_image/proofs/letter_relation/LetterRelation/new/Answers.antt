use Rattle.std.proofs.Common.{Bool, List, ap, length, map, subst, sym, ◌∙◌}
use Rattle.rela_letter_image.specs.Branches.{AreEnds, ends_of, passing}
use Rattle.rela_letter_image.specs.LetterMoves.{all_moves}
use Rattle.rela_letter_image.specs.Needs.{AreNeeds}
use Rattle.rela_letter_image.proofs.Laying.{letters_ok, made_ok, made_relates}
use Rattle.rela_letter_image.proofs.Passing.{passing_ok, passing_relates}
use Rattle.rela_letter_image.proofs.letter_relation.LetterRelation.new.Goals as goal

pub invariant_of-result : goal.invariant_of-result
invariant_of-result g c =
    let ends = ends_of c.deref.result.now in
    let are = subst (λ l. AreEnds c.args.relation.now (ends_of l)) (sym c.deref.ensures.value) c.in_ok-kept.ensures in
    let t = passing ends c.args.relation.now in
    let ok = passing_ok c.args.relation.now c.letters-letters.ensures.machine ends are in
    let letters = c.letters-letters.result in
    let start = c.start-start.result in
    let finals = c.in_ok-finals.finals.items in
    let states = c.in_ok-states.states.0 in (
      made_ok t ok letters start finals states c.letters-letters.ensures.letters c.start-start.ensures.start c.in_ok-finals.ensures c.in_ok-states.ensures,
      letters_ok t ok letters start finals states c.letters-letters.ensures.letters c.start-start.ensures.start c.in_ok-finals.ensures c.in_ok-states.ensures,
      subst (λ l. AreNeeds (record { letters = letters; start = start; finals = l; moves = map (all_moves letters) states }) c.in_ok-needs.needs.items) c.deref-2.ensures.value (c.in_ok-needs.ensures letters start),
    )

pub needs_of-requires : goal.needs_of-requires
needs_of-requires g c = ap (λ (l : List Bool). length l) (c.deref-2.ensures.value ∙ c.in_ok-finals.ensures) ∙ sym c.in_ok-states.ensures.each

pub returns-clause-relation : goal.returns-clause-relation
returns-clause-relation g c =
    let ends = ends_of c.deref.result.now in
    let are = subst (λ l. AreEnds c.args.relation.now (ends_of l)) (sym c.deref.ensures.value) c.in_ok-kept.ensures in
    let t = passing ends c.args.relation.now in
    let ok = passing_ok c.args.relation.now c.letters-letters.ensures.machine ends are in
    let made = made_relates t ok c.letters-letters.result c.start-start.result c.in_ok-finals.finals.items c.in_ok-states.states.0 c.letters-letters.ensures.letters c.start-start.ensures.start c.in_ok-finals.ensures c.in_ok-states.ensures in
    λ read u v.
    let passed = passing_relates c.args.relation.now c.letters-letters.ensures.machine ends are read u v in
    (λ relates. passed.0 ((made read u v).0 relates), λ relates. (made read u v).1 (passed.1 relates))
