use Rattle.std.proofs.Common.{◌≡◌, ℕ, ◌<◌, ◌↔◌, List, sym, subst, arith}
use Rattle.std.specs.List.{All, Contains}
use Rattle.std.proofs.lemmas.Result.{IfOk-weaker}
use Rattle.rela_pairs.specs.Reachable.{Reachable}
use Rattle.rela_pairs.specs.declared.pair.Pair.{Pair}
use Rattle.rela_nfa.specs.Automaton.{Automaton}
use Rattle.rela_nfa.specs.Meeting.{pair_of}
use Rattle.rela_trans.specs.Machine.{Machine}
use Rattle.rela_trans.specs.Reached.{reading_pairs}
use Rattle.rela_trans.proofs.Following.{found_states}
use Rattle.rela_trans.proofs.transducer.Transducer.may_reach.Goals as goal

-- the pairs are those that are found from the two starts
found_from : (parents : List ℕ) (a : Automaton) (t : Machine) (p q : ℕ) → p ≡ a.start → q ≡ t.start → (pairs : List Pair)
    → ((x : Pair) → Contains pairs x ↔ Reachable (reading_pairs parents a t) (pair_of p q) x)
    → (x : Pair) → Contains pairs x ↔ Reachable (reading_pairs parents a t) (pair_of a.start t.start) x
found_from parents a t p q left right pairs each x =
    let start : pair_of p q ≡ pair_of a.start t.start = λ i. pair_of (left i) (right i) in
    subst (λ s. Contains pairs x ↔ Reachable (reading_pairs parents a t) s x) start (each x)

pub right_states-requires : goal.right_states-requires
right_states-requires g c =
    let a = c.args.sources.now in
    let t = c.args.self.now in
    let pairs = c.in-Ok.explored.pairs in
    let each = found_from c.args.parents.now a t c.start.result c.start-2.result c.start.ensures.start c.start-2.ensures.start pairs c.in-Ok.ensures.reachable in
    let are = found_states c.args.parents.now a t c.start.ensures.automaton c.start-2.ensures.machine pairs each in
    subst (λ (l : List Pair). All (λ x. x.right < c.states.result) l) (sym c.pairs.ensures) (λ k d below. omega (arith, (are k d below).1, c.states.ensures.states))

pub returns-in-Ok-clause-reached : goal.returns-in-Ok-clause-reached
returns-in-Ok-clause-reached g c =
    let a = c.args.sources.now in
    let t = c.args.self.now in
    let pairs = c.in-Ok.explored.pairs in
    let each = found_from c.args.parents.now a t c.start.result c.start-2.result c.start.ensures.start c.start-2.ensures.start pairs c.in-Ok.ensures.reachable in
    IfOk-weaker c.right_states.result _ _ (λ kept is q. (
      λ marked.
          let found = (is q).0 marked in
          (found.0, (each (pair_of found.0 q)).0 (subst (λ (l : List Pair). Contains l (pair_of found.0 q)) c.pairs.ensures found.1)),
      λ (p, reached). (is q).1 (p, subst (λ (l : List Pair). Contains l (pair_of p q)) (sym c.pairs.ensures) ((each (pair_of p q)).1 reached)),
    )) c.right_states.ensures.right
