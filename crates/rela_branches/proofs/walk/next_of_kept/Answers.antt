use Rattle.std.proofs.Common.{ℕ, List, length, subst, sym, ap, ◌∙◌}
use Rattle.std.specs.Prelude.{Vec}
use Rattle.rela_branches.specs.Places.{AllBelow, AreKept, AreNext, Each, EachOfTwo}
use Rattle.rela_branches.proofs.Ends.{if_ok, made_below}
use Rattle.rela_branches.proofs.walk.next_of_kept.Goals as goal

pub next_each-requires-clause-rows : goal.next_each-requires-clause-rows
next_each-requires-clause-rows c =
    made_below c.args.common c.args.first.now c.args.second.now c.in_ok-rows.rows.items c.as_slice.result.now c.in_ok-rows.ensures c.as_slice.ensures.value

pub next_each-requires-clause-from : goal.next_each-requires-clause-from
next_each-requires-clause-from c =
    subst (λ (n : ℕ). AllBelow n c.args.from.now) (sym (ap length c.as_slice.ensures.value ∙ c.in_ok-rows.ensures.long)) c.requires.from

pub returns : goal.returns
returns c =
    if_ok (λ (to : Vec (List ℕ) _). Each (AreNext c.as_slice.result.now) c.args.from.now to.items)
    (λ (to : Vec (List ℕ) _). (rows : List (List ℕ)) × EachOfTwo (AreKept (length c.args.first.now) c.args.common) c.args.first.now c.args.second.now rows × Each (AreNext rows) c.args.from.now to.items)
    c.next_each.result
    (λ to each. (
      c.in_ok-rows.rows.items,
      c.in_ok-rows.ensures,
      subst (λ (rows : List (List ℕ)). Each (AreNext rows) c.args.from.now to.items) c.as_slice.ensures.value each,
    )) c.next_each.ensures
