use Rattle.std.proofs.Common.{◌≡◌, ◌<◌, List, ℕ, length, get_or, ap, sym, ◌∙◌, subst, arith}
use Rattle.std.specs.List.{All, Contains}
use Rattle.std.proofs.lemmas.List.{get_or_default}
use Rattle.rela_nfa.specs.StateSet.{Adds}
use Rattle.rela_trans.specs.Coaccessible.{list_at}
use Rattle.rela_trans.specs.Stored.{lists_of}
use Rattle.rela_trans.proofs.Coaccessible.{adds_length, closing_more, closing_all, list_read}
use Rattle.rela_trans.proofs.Flagged.{members_within}
use Rattle.rela_trans.proofs.leading.close.Goals as goal

pub bounds-lists-index : goal.bounds-lists-index
bounds-lists-index c =
    let within : c.index.result.now < length c.loop-done.flags =
    subst (λ n. n < length c.loop-done.flags) (sym c.index.ensures)
    (members_within c.loop-done.flags c.loop-done.states.items c.loop-done.invariant.flagged c.loop-done.done c.index.result.now (omega (arith, c.len.ensures))) in
    omega arith

pub offset_bounds-lists-index : goal.offset_bounds-lists-index
offset_bounds-lists-index c =
    let within : c.index.result.now < length c.loop-done.flags =
    subst (λ n. n < length c.loop-done.flags) (sym c.index.ensures)
    (members_within c.loop-done.flags c.loop-done.states.items c.loop-done.invariant.flagged c.loop-done.done c.index.result.now (omega (arith, c.len.ensures))) in
    omega arith

pub insert_all-requires-clause-states : goal.insert_all-requires-clause-states
insert_all-requires-clause-states c =
    let within : c.index.result.now < length c.args.lists.now =
    (let inside = members_within c.loop-done.flags c.loop-done.states.items c.loop-done.invariant.flagged c.loop-done.done c.index.result.now (omega (arith, c.len.ensures)) in
    omega (arith, c.index.ensures)) in
    subst (λ n. All (λ p. p < n) c.deref.result.now) (sym c.loop-done.auto.flags)
    (subst (λ l. All (λ p. p < length c.args.flags.now) l)
    (sym (list_read c.args.lists.now c.index.result.now c.index-lists-index.result c.deref.result.now within c.index-lists-index.is c.deref.ensures.value))
    (c.requires.states c.index.result.now))

pub loop-done-preserved : goal.loop-done-preserved
loop-done-preserved c =
    let before = c.loop-done.states.items in
    let after = c.insert_all.new.states.items in
    let below : c.loop-done.done < length before = omega (arith, c.len.ensures) in
    let within : c.index.result.now < length c.args.lists.now =
    (let inside = members_within c.loop-done.flags before c.loop-done.invariant.flagged c.loop-done.done c.index.result.now below in
    omega (arith, c.index.ensures)) in
    let at : get_or before c.loop-done.done 0 ≡ c.index.result.now = get_or_default before c.loop-done.done 0 c.index.result.now below ∙ sym c.index.ensures in
    record {
      done = omega (arith, adds_length {P = Contains c.deref.result.now} before after c.in_ok-insert_all.ensures.added);
      flagged = c.in_ok-insert_all.ensures.flagged;
      closing =
          closing_more (list_at (lists_of c.args.lists.now)) c.args.states.now.items c.loop-done.done before after c.loop-done.invariant.closing below
          (subst (λ (l : List ℕ). Adds (Contains l) before after)
          (list_read c.args.lists.now c.index.result.now c.index-lists-index.result c.deref.result.now within c.index-lists-index.is c.deref.ensures.value
          ∙ ap (λ n. list_at (lists_of c.args.lists.now) n) (sym at)) c.in_ok-insert_all.ensures.added);
    }

pub returns-clause-closed : goal.returns-clause-closed
returns-clause-closed c =
    closing_all (list_at (lists_of c.args.lists.now)) c.args.states.now.items c.loop-done.states.items c.loop-done.done c.loop-done.invariant.closing
    (omega (arith, c.len.ensures))
