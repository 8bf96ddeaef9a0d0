use Rattle.std.proofs.Common.{◌≡◌, ◌+◌, ◌++◌, [], ◌∷◌, None, Some, length, get_or, set, ap, ◌∙◌, arith}
use Rattle.rela_minimise.proofs.Ordered.{class_low, none_read, number_read, number_set, ordered_all, ordered_as, ordered_known, ordered_new}
use Rattle.rela_minimise.proofs.ordering.in_order.Goals as goal
use Rattle.rela_minimise.proofs.ordering.in_order.Goals.{in-Some+in_ok-push, in_default+in_ok-push-2+in_ok-push-3}

pub loop-q-preserved : goal.loop-q-preserved
loop-q-preserved c =
    let count = c.args.classes.now.count in
    let classes = c.args.classes.now.numbers.items in
    let list = c.deref-class-items.result.now in
    let same = c.deref-class-items.ensures.value in
    let q = c.loop-q.q in
    let renumbered = c.loop-q.renumbered.items in
    let numbers = c.loop-q.numbers.items in
    let heads = c.loop-q.heads.items in
    let are = c.loop-q.invariant in
    let read : get_or renumbered (get_or classes q 0) None ≡ c.index.result.now = number_read count classes list same c.requires q c.loop-q-test.true renumbered are.room c.index.result.now c.index.ensures in
    elim c.match-index.branch [
      | in-Some+in_ok-push w ↦
          ordered_as count classes renumbered c.match-index.renumbered.items (numbers ++ w.in-Some.number ∷ []) c.match-index.numbers.items heads c.match-index.heads.items (q + 1)
          (ap (λ v. v.items) w.renumbered-is) (ap (λ v. v.items) w.numbers-is ∙ w.in_ok-push.ensures.items) (ap (λ v. v.items) w.heads-is)
          (ordered_known count classes renumbered numbers heads q are w.in-Some.number (read ∙ w.in-Some.is))
      | in_default+in_ok-push-2+in_ok-push-3 w ↦
          ordered_as count classes (set renumbered (get_or classes q 0) (Some (length heads))) c.match-index.renumbered.items (numbers ++ length heads ∷ []) c.match-index.numbers.items (heads ++ q ∷ []) c.match-index.heads.items (q + 1)
          (ap (λ v. v.items) w.renumbered-is ∙ ap (λ n. set renumbered (get_or list q 0) (Some n)) (w.len-in_default.ensures ∙ c.loop-q.heads.ok.0) ∙ number_set count classes list same c.requires q c.loop-q-test.true renumbered (Some (length heads)))
          (ap (λ v. v.items) w.numbers-is ∙ w.in_ok-push-2.ensures.items ∙ ap (λ n. numbers ++ n ∷ []) (w.len-in_default-2.ensures ∙ c.loop-q.heads.ok.0))
          (ap (λ v. v.items) w.heads-is ∙ w.in_ok-push-3.ensures.items)
          (ordered_new count classes renumbered numbers heads q are
          (class_low count classes list same c.requires q c.loop-q-test.true)
          (read ∙ none_read c.index.result.now w.in_default.not-Some))
    ]

pub returns : goal.returns
returns c =
    ordered_all c.args.classes.now.count c.args.classes.now.numbers.items c.loop-q.renumbered.items c.loop-q.numbers.items c.loop-q.heads.items c.loop-q.q c.loop-q.invariant
    (let past = c.loop-q-test.false in omega arith)
