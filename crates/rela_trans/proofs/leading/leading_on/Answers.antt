use Rattle.std.proofs.Common.{◌≡◌, ℕ, ◌↔◌, Bool, List, ◌++◌, IsTrue, false, length, get_or, drop, take, sym, ap, ◌∙◌, subst}
use Rattle.std.specs.List.{Contains}
use Rattle.rela_nfa.specs.StateSet.{Adds, AreFlagged}
use Rattle.rela_trans.specs.Coaccessible.{LeadsOn, list_at, next_states}
use Rattle.rela_trans.specs.Machine.{IsFinal}
use Rattle.rela_trans.specs.Stored.{lists_of}
use Rattle.rela_trans.proofs.Coaccessible.{leading, states_led, whole_taken}
use Rattle.rela_trans.proofs.leading.leading_on.Goals as goal

pub close-requires-clause-states : goal.close-requires-clause-states
close-requires-clause-states g c =
    states_led c.args.transducer.now c.states.ensures.machine (lists_of c.deref.result.now)
    (subst (λ ls. (p q : ℕ) → Contains (list_at (lists_of ls) q) p ↔ Contains (next_states c.args.transducer.now p) q) (sym c.deref.ensures.value) c.in_ok-lists.ensures.turned)
    (length c.deref_mut-2.result.now) (c.deref_mut-2.ensures.len ∙ c.in_ok-flags.ensures.len ∙ c.states.ensures.states)

pub returns-clause-leading : goal.returns-clause-leading
returns-clause-leading g c =
    let flags = c.close.new.flags in
    let n = c.in_ok-flags.flags.len in
    subst (λ (l : List Bool). (q : ℕ) → IsTrue (get_or l q false) ↔ LeadsOn c.args.transducer.now q)
    (sym (whole_taken n flags (drop (length flags) (take n (c.insert_finals.new.flags ++ drop (length c.insert_finals.new.flags) c.in_ok-flags.flags.items))) (c.close.auto.flags ∙ c.deref_mut-2.ensures.len)))
    (leading c.args.transducer.now (lists_of c.deref.result.now)
    (subst (λ ls. (p q : ℕ) → Contains (list_at (lists_of ls) q) p ↔ Contains (next_states c.args.transducer.now p) q) (sym c.deref.ensures.value) c.in_ok-lists.ensures.turned)
    c.insert_finals.new.states.items c.close.new.states.items flags
    (subst (λ (l : List ℕ). Adds (IsFinal c.args.transducer.now) l c.insert_finals.new.states.items) c.new-states.ensures.items c.in_ok-insert_finals.ensures.added)
    c.in_ok-close.ensures.flagged c.in_ok-close.ensures.closed)

pub insert_finals-requires-clause-count : goal.insert_finals-requires-clause-count
insert_finals-requires-clause-count g c = c.deref_mut.ensures.len ∙ c.in_ok-flags.ensures.len ∙ c.states.ensures.states

pub close-requires-clause-flagged : goal.close-requires-clause-flagged
close-requires-clause-flagged g c =
    let flags = c.insert_finals.new.flags in
    subst (λ l. AreFlagged l c.insert_finals.new.states.items)
    (sym (c.deref_mut-2.ensures.value ∙ whole_taken c.in_ok-flags.flags.len flags (drop (length flags) c.in_ok-flags.flags.items) (c.insert_finals.auto.flags ∙ c.deref_mut.ensures.len)))
    c.in_ok-insert_finals.ensures.flagged

pub close-requires-clause-count : goal.close-requires-clause-count
close-requires-clause-count g c =
    ap (λ ls. length ls) c.deref.ensures.value ∙ c.in_ok-lists.ensures.each ∙ sym (c.deref_mut-2.ensures.len ∙ c.in_ok-flags.ensures.len ∙ c.states.ensures.states)

pub returns-clause-len : goal.returns-clause-len
returns-clause-len g c =
    let flags = c.close.new.flags in
    let n = c.in_ok-flags.flags.len in
    let same : length flags ≡ n = c.close.auto.flags ∙ c.deref_mut-2.ensures.len in
    ap length (whole_taken n flags (drop (length flags) (take n (c.insert_finals.new.flags ++ drop (length c.insert_finals.new.flags) c.in_ok-flags.flags.items))) same)
    ∙ same ∙ c.in_ok-flags.ensures.len ∙ c.states.ensures.states
