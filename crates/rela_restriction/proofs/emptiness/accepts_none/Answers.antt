use Rattle.std.proofs.Common.{◌≡◌, ℕ, Bool, false, List, [], ◌∷◌, ◌++◌, ◌<◌, length, drop, refl, sym, ap, ◌∙◌, subst}
use Rattle.std.specs.List.{All}
use Rattle.std.specs.Option.{option_to_list}
use Rattle.std.proofs.lemmas.Bool.{false≢true}
use Rattle.std.proofs.lemmas.List.{length-replicate}
use Rattle.rela_nfa.specs.Automaton.{Move, moves_of}
use Rattle.rela_nfa.specs.StateSet.{HasFlag}
use Rattle.rela_restriction.specs.Emptiness.{Finds, OpensTo}
use Rattle.rela_restriction.proofs.Searching.{IsSearched, begun, none_accepted, none_flagged, none_waits, rest_below, some_accepted, state_left, whole_taken}
use Rattle.rela_restriction.proofs.emptiness.accepts_none.Goals as goal

pub loop-q-init : goal.loop-q-init
loop-q-init g c =
    let a = c.args.nfa.now in
    let over = g.L.LabelSet.letters c.args.over.now in
    let flags = c.in_ok-found.found.items in
    let new = c.insert.new.found in
    let waiting = c.insert.new.waiting.items in
    subst (λ (l : List Bool). IsSearched a over l waiting)
    (sym (whole_taken c.in_ok-found.found.len new (drop (length new) flags) (c.insert.auto.found ∙ c.deref_mut.ensures.len)))
    (begun a over c.deref_mut.result.now new waiting
    (ap length (c.deref_mut.ensures.value ∙ c.in_ok-found.ensures.items_if_clones_equal (λ y e. e)) ∙ length-replicate c.states.result false ∙ c.states.ensures.states)
    (subst (λ (l : List Bool). (q : ℕ) → ¬ HasFlag l q) (sym (c.deref_mut.ensures.value ∙ c.in_ok-found.ensures.items_if_clones_equal (λ y e. e))) (none_flagged c.states.result))
    (subst (λ (s : ℕ). Finds (λ q. q ≡ s) c.deref_mut.result.now [] new waiting) c.start.ensures.start
    (subst (λ (l : List ℕ). Finds (λ q. q ≡ c.start.result) c.deref_mut.result.now l new waiting) c.new-waiting.ensures.items c.in_ok-insert.ensures.finds))
    c.in_ok-insert.ensures.waiting)

pub insert_ends-requires-clause-waiting : goal.insert_ends-requires-clause-waiting
insert_ends-requires-clause-waiting g c =
    let rest = c.pop.new.self.items in
    let below : All (λ p. p < length c.loop-q.found.items) (rest ++ c.in-Some.q ∷ []) =
    subst (All (λ p. p < length c.loop-q.found.items)) (c.pop.ensures.items ∙ ap (λ o. rest ++ option_to_list o) c.in-Some.is) c.loop-q.invariant.below in
    subst (λ (l : List Bool). All (λ p. p < length l) rest) (sym c.deref_mut-in-Some.ensures.value) (rest_below (length c.loop-q.found.items) rest c.in-Some.q below)

pub loop-q-preserved : goal.loop-q-preserved
loop-q-preserved g c =
    let a = c.args.nfa.now in
    let over = g.L.LabelSet.letters c.args.over.now in
    let old = c.loop-q.found.items in
    let new = c.insert_ends.new.found in
    let rest = c.pop.new.self.items in
    let waiting = c.insert_ends.new.waiting.items in
    let q = c.in-Some.q in
    subst (λ (l : List Bool). IsSearched a over l waiting)
    (sym (whole_taken c.loop-q.found.len new (drop (length new) old) (c.insert_ends.auto.found ∙ c.deref_mut-in-Some.ensures.len)))
    (state_left a over old rest q new waiting
    (subst (IsSearched a over old) (c.pop.ensures.items ∙ ap (λ o. rest ++ option_to_list o) c.in-Some.is) c.loop-q.invariant)
    (λ final. false≢true (sym c.if-is_final.false ∙ c.is_final.ensures.1 final))
    (subst (λ (l : List Bool). Finds (OpensTo over (moves_of a q)) l rest new waiting) c.deref_mut-in-Some.ensures.value
    (subst (λ (l : List Move). Finds (OpensTo over l) c.deref_mut-in-Some.result.now rest new waiting) c.edges.ensures.moves c.in_ok-insert_ends.ensures.finds))
    c.in_ok-insert_ends.ensures.waiting)

pub returns-then-is_final : goal.returns-then-is_final
returns-then-is_final g c =
    let a = c.args.nfa.now in
    let over = g.L.LabelSet.letters c.args.over.now in
    let rest = c.pop.new.self.items in (
      λ never. absurd (false≢true never),
      λ none. absurd (some_accepted a over c.loop-q.found.items rest c.in-Some.q
          (subst (IsSearched a over c.loop-q.found.items) (c.pop.ensures.items ∙ ap (λ o. rest ++ option_to_list o) c.in-Some.is) c.loop-q.invariant)
          (c.is_final.ensures.0 c.if-is_final.true) none),
    )

pub returns : goal.returns
returns g c = (
  λ always.
      none_accepted c.args.nfa.now (g.L.LabelSet.letters c.args.over.now) c.loop-q.found.items
      (subst (IsSearched c.args.nfa.now (g.L.LabelSet.letters c.args.over.now) c.loop-q.found.items) (none_waits c.loop-q.waiting.items (sym c.loop-q.waiting.ok.0 ∙ (rw c.in_default.is at c.pop.ensures.cases).0)) c.loop-q.invariant),
  λ none. refl,
)
