use Rattle.std.proofs.Common.{◌≡◌, ◌<◌, ◌∷◌, [], ◌++◌, List, length, get_or, take, sym, ap, ◌∙◌, arith}
use Rattle.std.proofs.lemmas.List.{length-map, take_more}
use Rattle.rela_reduce.specs.Stored.{lists_of}
use Rattle.rela_reduce.specs.declared.arrow.Arrow.{Arrow}
use Rattle.rela_reduce.proofs.Stepping.{lists_push, row_read}
use Rattle.rela_reduce.proofs.widening.copied.Goals as goal

pub loop-list-preserved : goal.loop-list-preserved
loop-list-preserved c =
    let lists = c.args.lists.now in
    let i = c.loop-list.list-index in
    let within : i < length lists = c.loop-list-test.true in
    let own : c.in_ok-from_slice.field-0.items ≡ get_or (lists_of lists) i [] =
    row_read lists i c.list-item.result c.in_ok-from_slice.field-0.items within c.list-item.is (c.in_ok-from_slice.ensures.items ∙ c.deref.ensures.value) in
    ap lists_of c.in_ok-push.ensures.items ∙ lists_push c.loop-list.copies.items c.in_ok-from_slice.field-0
    ∙ ap (λ (all : List (List Arrow)). all ++ c.in_ok-from_slice.field-0.items ∷ []) c.loop-list.invariant
    ∙ ap (λ (row : List Arrow). take i (lists_of lists) ++ row ∷ []) own
    ∙ sym (take_more (lists_of lists) i [] (omega (arith, length-map lists (λ v. v.items), within)))
