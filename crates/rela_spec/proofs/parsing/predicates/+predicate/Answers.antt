use Rattle.std.proofs.Common.{rules, arith, ◌≡◌, ◌≢◌, ◌+◌, ◌*◌, Err, true, List, [], ◌∷◌, ◌++◌, refl, sym, ap, ◌∙◌}
use Rattle.rela_lex.specs.declared.error.SpecError.TheVariants.{Memory}
use Rattle.rela_spec.specs.ReadPredicates.{between, next_at, chain_at, within}
use Rattle.rela_spec.specs.ReadWords.{is_word_of}
use Rattle.rela_spec.specs.Readings.{next_is}
use Rattle.rela_flows.specs.declared.predicate.Predicate.{Predicate}
use Rattle.rela_spec.proofs.Depths.{greatest_push}
use Rattle.rela_spec.proofs.Loops.{gathers_start, loop_more}
use Rattle.rela_spec.proofs.PredicateReadings.{alone_at, first_fault_at, more_fault_at, joined_at}
use Rattle.rela_spec.proofs.parsing.predicates.+predicate.Goals as goal

pub chain-returns-in_err-first-clause-fault : goal.chain-returns-in_err-first-clause-fault
chain-returns-in_err-first-clause-fault t c =
    let fault : c.in_err-first.field-0.0 ≢ Memory → chain_at c.args.joint c.args.cursor.now.end c.args.room c.args.cursor.now.rest.now ≡ Err c.in_err-first.field-0.0 = λ ne. first_fault_at c.args.joint c.args.cursor.now.end c.args.room c.args.cursor.now.rest.now c.in_err-first.field-0.0 (c.in_err-first.ensures.fault ne) in
    search rules

pub chain-returns-then-not-is_joined-clause-read : goal.chain-returns-then-not-is_joined-clause-read
chain-returns-then-not-is_joined-clause-read t c =
    alone_at c.args.joint c.args.cursor.now.end c.args.room c.args.cursor.now.rest.now c.in_ok-first.first c.part.new.cursor.rest.now c.in_ok-first.ensures.read (sym c.is_joined.ensures ∙ c.if-not-is_joined.true)

pub chain-returns-in_err-more_parts-clause-fault : goal.chain-returns-in_err-more_parts-clause-fault
chain-returns-in_err-more_parts-clause-fault t c =
    let items : c.push.new.self.items ≡ c.in_ok-first.first ∷ [] = c.in_ok-push.ensures.items ∙ ap (λ (x : List Predicate). x ++ c.in_ok-first.first ∷ []) c.new-parts.ensures.items in
    let fault : c.in_err-more_parts.field-0.0 ≢ Memory → chain_at c.args.joint c.args.cursor.now.end c.args.room c.args.cursor.now.rest.now ≡ Err c.in_err-more_parts.field-0.0 =
    λ ne. more_fault_at c.args.joint c.args.cursor.now.end c.args.room c.args.cursor.now.rest.now c.in_ok-first.first c.part.new.cursor.rest.now c.part.new.cursor.end c.push.new.self.items c.in_err-more_parts.field-0.0 c.in_ok-first.ensures.read c.part.ensures.end items (c.in_err-more_parts.ensures.fault ne)
    in
    search rules

pub chain-returns-clause-read : goal.chain-returns-clause-read
chain-returns-clause-read t c =
    let items : c.push.new.self.items ≡ c.in_ok-first.first ∷ [] = c.in_ok-push.ensures.items ∙ ap (λ (x : List Predicate). x ++ c.in_ok-first.first ∷ []) c.new-parts.ensures.items in
    joined_at c.args.joint c.args.cursor.now.end c.args.room c.args.cursor.now.rest.now c.in_ok-first.first c.part.new.cursor.rest.now c.part.new.cursor.end c.push.new.self.items c.more_parts.new.parts.items c.more_parts.new.cursor.rest.now c.joined.result
    c.in_ok-first.ensures.read (sym c.is_joined.ensures ∙ c.if-not-is_joined.false) c.part.ensures.end items c.in_ok-more_parts.ensures.read (search rules)

pub more_parts-loop-alloc-init : goal.more_parts-loop-alloc-init
more_parts-loop-alloc-init t c = record {
  end = refl;
  left = omega arith;
  read = gathers_start (is_word_of (between c.args.joint)) (next_at c.args.joint c.args.cursor.now.end c.args.room) c.args.parts.now.items c.args.cursor.now.rest.now;
  shallow = c.requires;
}

pub more_parts-loop-alloc-preserved : goal.more_parts-loop-alloc-preserved
more_parts-loop-alloc-preserved t c =
    let next : next_is (is_word_of (between c.args.joint)) c.loop-alloc.cursor.rest.now ≡ true = sym c.is_joined.ensures ∙ c.loop-alloc-test.true in
    record {
      end = c.next_part.ensures.end ∙ c.loop-alloc.invariant.end;
      left = omega (arith, c.in_ok-next_part.ensures.less);
      read = loop_more (is_word_of (between c.args.joint)) (λ n. next_at c.args.joint n c.args.room) c.args.cursor.now.end c.loop-alloc.cursor.end c.loop-alloc.invariant.end c.args.parts.now.items c.args.cursor.now.rest.now c.loop-alloc.parts.items
          c.loop-alloc.cursor.rest.now c.loop-alloc.invariant.read c.in_ok-next_part.field-0 c.push.new.self.items c.next_part.new.cursor.rest.now next c.in_ok-next_part.ensures.read c.in_ok-next_part.ensures.less c.in_ok-push.ensures.items;
      shallow = greatest_push c.loop-alloc.parts.items c.in_ok-next_part.field-0 c.push.new.self.items (3 * c.args.room + within c.args.joint) c.in_ok-push.ensures.items c.loop-alloc.invariant.shallow c.in_ok-next_part.ensures.depth;
    }
