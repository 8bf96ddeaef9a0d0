use Rattle.std.proofs.Common.{rules, ◌≡◌, ◌≢◌, Err, true, List, [], ◌∷◌, refl, sym, ◌∙◌, subst}
use Rattle.std.specs.List.{All}
use Rattle.std.proofs.lemmas.List.Elements.{All-append, All-cons, All-nil}
use Rattle.rela_lex.specs.declared.error.SpecError.TheVariants.{Memory}
use Rattle.rela_spec.specs.Depth.{IsLow}
use Rattle.rela_spec.specs.ReadFile.{read_item, read_items}
use Rattle.rela_spec.specs.Readings.{next_is}
use Rattle.rela_spec.specs.declared.tree.Item.{Item}
use Rattle.rela_spec.proofs.ExactFile.{anything}
use Rattle.rela_spec.proofs.Loops.{Gathers, gathers_start, loop_more, loop_fault, from_none_fault}
use Rattle.rela_spec.proofs.parsing.all_items.Goals as goal

pub loop-alloc-init : goal.loop-alloc-init
loop-alloc-init c = record {
  end = refl;
  read = subst (λ (xs : List Item). Gathers anything (read_item c.args.cursor.now.end 100) [] c.args.cursor.now.rest.now xs c.args.cursor.now.rest.now) (sym c.new-items.ensures.items)
      (gathers_start anything (read_item c.args.cursor.now.end 100) [] c.args.cursor.now.rest.now);
  low = subst (All IsLow) (sym c.new-items.ensures.items) (All-nil IsLow);
}

pub returns-in_err-item-clause-fault : goal.returns-in_err-item-clause-fault
unfolding read_items
returns-in_err-item-clause-fault c =
    let next : next_is anything c.loop-alloc.cursor.rest.now ≡ true = sym c.has_next.ensures ∙ c.loop-alloc-test.true in
    let fault : c.in_err-item.field-0.0 ≢ Memory → read_items c.args.cursor.now.end 100 c.args.cursor.now.rest.now ≡ Err c.in_err-item.field-0.0 =
    λ ne. from_none_fault anything (read_item c.args.cursor.now.end 100) c.args.cursor.now.rest.now c.in_err-item.field-0.0
    (loop_fault anything (λ n. read_item n 100) c.args.cursor.now.end c.loop-alloc.cursor.end c.loop-alloc.invariant.end [] c.args.cursor.now.rest.now c.loop-alloc.items.items c.loop-alloc.cursor.rest.now c.loop-alloc.invariant.read
    c.in_err-item.field-0.0 next (c.in_err-item.ensures.fault ne))
    in
    search rules

pub loop-alloc-preserved : goal.loop-alloc-preserved
loop-alloc-preserved c =
    let next : next_is anything c.loop-alloc.cursor.rest.now ≡ true = sym c.has_next.ensures ∙ c.loop-alloc-test.true in
    record {
      end = c.item.ensures.end ∙ c.loop-alloc.invariant.end;
      read = loop_more anything (λ n. read_item n 100) c.args.cursor.now.end c.loop-alloc.cursor.end c.loop-alloc.invariant.end [] c.args.cursor.now.rest.now c.loop-alloc.items.items c.loop-alloc.cursor.rest.now c.loop-alloc.invariant.read
          c.in_ok-item.field-0 c.push.new.self.items c.item.new.cursor.rest.now next c.in_ok-item.ensures.read c.in_ok-item.ensures.less c.in_ok-push.ensures.items;
      low = subst (All IsLow) (sym c.in_ok-push.ensures.items)
          (All-append IsLow c.loop-alloc.items.items (c.in_ok-item.field-0 ∷ []) c.loop-alloc.invariant.low (All-cons IsLow c.in_ok-item.field-0 [] c.in_ok-item.ensures.low (All-nil IsLow)));
    }
