use Rattle.std.proofs.Common.{rules, ◌≡◌, ◌≢◌, Err, true, List, [], ◌∷◌, refl, sym, ◌∙◌, subst}
use Rattle.std.specs.List.{All}
use Rattle.std.proofs.lemmas.List.Elements.{All-append, All-cons, All-nil}
use Rattle.rela_lex.specs.declared.error.SpecError.TheVariants.{Memory}
use Rattle.rela_rirfile.specs.Depth.{IsLow}
use Rattle.rela_rirfile.specs.ReadFile.{read_assert, read_asserts}
use Rattle.rela_spec.specs.Readings.{next_is}
use Rattle.rela_rirfile.specs.declared.written.Assert.{Assert}
use Rattle.rela_rirfile.proofs.ExactFile.{anything}
use Rattle.rela_rirfile.proofs.Loops.{Gathers, gathers_start, loop_more, loop_fault, from_none_fault}
use Rattle.rela_rirfile.proofs.parsing.all_asserts.Goals as goal

pub loop-alloc-init : goal.loop-alloc-init
loop-alloc-init c = record {
  end = refl;
  read = subst (λ (xs : List Assert). Gathers anything (read_assert c.args.cursor.now.end 100) [] c.args.cursor.now.rest.now xs c.args.cursor.now.rest.now) (sym c.new-asserts.ensures.items)
      (gathers_start anything (read_assert c.args.cursor.now.end 100) [] c.args.cursor.now.rest.now);
  low = subst (All IsLow) (sym c.new-asserts.ensures.items) (All-nil IsLow);
}

pub returns-in_err-assertion-clause-fault : goal.returns-in_err-assertion-clause-fault
unfolding read_asserts
returns-in_err-assertion-clause-fault c =
    let next : next_is anything c.loop-alloc.cursor.rest.now ≡ true = sym c.has_next.ensures ∙ c.loop-alloc-test.true in
    let fault : c.in_err-assertion.field-0.0 ≢ Memory → read_asserts c.args.cursor.now.end 100 c.args.cursor.now.rest.now ≡ Err c.in_err-assertion.field-0.0 =
    λ ne. from_none_fault anything (read_assert c.args.cursor.now.end 100) c.args.cursor.now.rest.now c.in_err-assertion.field-0.0
    (loop_fault anything (λ n. read_assert n 100) c.args.cursor.now.end c.loop-alloc.cursor.end c.loop-alloc.invariant.end [] c.args.cursor.now.rest.now c.loop-alloc.asserts.items c.loop-alloc.cursor.rest.now c.loop-alloc.invariant.read
    c.in_err-assertion.field-0.0 next (c.in_err-assertion.ensures.fault ne))
    in
    search rules

pub loop-alloc-preserved : goal.loop-alloc-preserved
loop-alloc-preserved c =
    let next : next_is anything c.loop-alloc.cursor.rest.now ≡ true = sym c.has_next.ensures ∙ c.loop-alloc-test.true in
    record {
      end = c.assertion.ensures.end ∙ c.loop-alloc.invariant.end;
      read = loop_more anything (λ n. read_assert n 100) c.args.cursor.now.end c.loop-alloc.cursor.end c.loop-alloc.invariant.end [] c.args.cursor.now.rest.now c.loop-alloc.asserts.items c.loop-alloc.cursor.rest.now c.loop-alloc.invariant.read
          c.in_ok-assertion.field-0 c.push.new.self.items c.assertion.new.cursor.rest.now next c.in_ok-assertion.ensures.read c.in_ok-assertion.ensures.less c.in_ok-push.ensures.items;
      low = subst (All IsLow) (sym c.in_ok-push.ensures.items)
          (All-append IsLow c.loop-alloc.asserts.items (c.in_ok-assertion.field-0 ∷ []) c.loop-alloc.invariant.low (All-cons IsLow c.in_ok-assertion.field-0 [] c.in_ok-assertion.ensures.low (All-nil IsLow)));
    }
