use Rattle.std.proofs.Common.{arith, ◌≡◌, List, ℕ, sym, subst}
use Rattle.std.proofs.lemmas.List.{append-nil}
use Rattle.std.proofs.lemmas.Grind.{common_steps}
use Rattle.rela_print.specs.Print.{level_line, print_of}
use Rattle.rela_print.specs.ReadBack.{ReadsBack}
use Rattle.rela_print.proofs.PrintedLines.{lines_go_on, lines_none, whole_text}
use Rattle.rela_print.proofs.canonical.print.Goals as goal

pub loop-item-init : goal.loop-item-init
loop-item-init c = rw lines_none (sym (append-nil _))

pub loop-item-preserved : goal.loop-item-preserved
loop-item-preserved c =
    lines_go_on _ c.loop-item.out.items c.push_item.new.out.items _ c.loop-item.item-index c.item-item.result c.loop-item-test.true c.item-item.is c.loop-item.invariant (c.in_ok-push_item.ensures {u = tt})

pub returns : goal.returns
returns c =
    let same : c.as_slice-item-items.result.now ≡ c.args.file.now.items = c.as_slice-item-items.ensures in
    let first : c.extend_from_slice.new.self.items ≡ level_line c.args.file.now.level = grind (arith, common_steps) in
    let canonical : c.loop-item.out.items ≡ print_of c.args.file.now =
    whole_text c.args.file.now c.extend_from_slice.new.self.items c.loop-item.out.items c.loop-item.item-index (rw (← same) c.loop-item-test.false) first (rw (← same) c.loop-item.invariant) in
    record { canonical = canonical; reads_back = λ of_text. subst (λ (text : List ℕ). ReadsBack text c.args.file.now) (sym canonical) (c.canonical_texts_are_read.ensures c.args.file.now of_text) }
