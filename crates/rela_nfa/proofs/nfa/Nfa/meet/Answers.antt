use Rattle.std.proofs.Common.{◌≡◌, ℕ, ◌↔◌, Some, length, ◌∙◌, sym, ap, subst, arith}
use Rattle.std.specs.List.{Contains}
use Rattle.std.proofs.lemmas.List.{length-map}
use Rattle.std.proofs.lemmas.Result.{err_from_is_err_and}
use Rattle.rela_pairs.specs.Reachable.{Reachable, MoreThan}
use Rattle.rela_pairs.specs.declared.pair.Pair.{Pair}
use Rattle.rela_nfa.specs.Automaton.{Automaton}
use Rattle.rela_nfa.specs.Meeting.{next_pairs, final_both, pair_of}
use Rattle.rela_nfa.proofs.Meets.{explored_states, more_together, more_reachable, product_meet, product_language}
use Rattle.rela_nfa.proofs.nfa.Nfa.meet.Goals as goal

-- the pair of the two starts
abbrev start_is : (a b : Automaton) (p q : ℕ) → p ≡ a.start → q ≡ b.start → pair_of p q ≡ pair_of a.start b.start
start_is a b p q left right = λ i. pair_of (left i) (right i)

pub returns-in_err-explored-clause-limit : goal.returns-in_err-explored-clause-limit
returns-in_err-explored-clause-limit g c =
    let a = c.args.self.now in
    let b = c.args.other.now in
    let e = start_is a b c.start.result c.start-2.result c.start.ensures.start c.start-2.ensures.start in
    let p = err_from_is_err_and c.from_residual.result c.from_residual.ensures.1 in
    rw (p.1, p.2) (λ is. more_together a b c.args.limit (subst (λ s. MoreThan c.args.limit (Reachable (next_pairs a b) s)) e (c.in_err-explored.ensures.limit is)))

pub product-requires-clause-pairs : goal.product-requires-clause-pairs
product-requires-clause-pairs g c =
    let a = c.args.self.now in
    let b = c.args.other.now in
    let e = start_is a b c.start.result c.start-2.result c.start.ensures.start c.start-2.ensures.start in
    explored_states a b c.start.ensures.automaton c.start-2.ensures.automaton c.in_ok-explored.explored.pairs
    (λ x. subst (λ s. Contains c.in_ok-explored.explored.pairs x ↔ Reachable (next_pairs a b) s x) e (c.in_ok-explored.ensures.reachable x))

pub product-requires-clause-first : goal.product-requires-clause-first
product-requires-clause-first g c =
    c.in_ok-explored.ensures.first ∙ ap Some (start_is c.args.self.now c.args.other.now c.start.result c.start-2.result c.start.ensures.start c.start-2.ensures.start)

pub product-requires-clause-reachable : goal.product-requires-clause-reachable
product-requires-clause-reachable g c =
    let a = c.args.self.now in
    let b = c.args.other.now in
    λ x. subst (λ s. Contains c.in_ok-explored.explored.pairs x ↔ Reachable (next_pairs a b) s x)
    (start_is a b c.start.result c.start-2.result c.start.ensures.start c.start-2.ensures.start) (c.in_ok-explored.ensures.reachable x)

pub returns-clause-letters : goal.returns-clause-letters
returns-clause-letters g c = c.in_ok-nfa.ensures.letters

pub returns-clause-few : goal.returns-clause-few
returns-clause-few g c =
    omega (arith, ap length c.in_ok-nfa.ensures.finals, length-map c.in_ok-explored.explored.pairs (final_both c.args.self.now c.args.other.now), c.in_ok-explored.ensures.few)

pub returns-clause-pairs : goal.returns-clause-pairs
returns-clause-pairs g c =
    let a = c.args.self.now in
    let b = c.args.other.now in
    let x = c.in_ok-explored.explored in
    let e = start_is a b c.start.result c.start-2.result c.start.ensures.start c.start-2.ensures.start in
    let each : (y : Pair) → Contains x.pairs y ↔ Reachable (next_pairs a b) (pair_of a.start b.start) y =
    λ y. subst (λ s. Contains x.pairs y ↔ Reachable (next_pairs a b) s y) e (c.in_ok-explored.ensures.reachable y) in
    (x.pairs, product_meet a b c.in_ok-nfa.nfa x c.in_ok-nfa.ensures c.in_ok-explored.ensures.distinct (c.in_ok-explored.ensures.first ∙ ap Some e) each c.in_ok-explored.ensures.targets)

pub returns-clause-language : goal.returns-clause-language
returns-clause-language g c =
    let a = c.args.self.now in
    let b = c.args.other.now in
    let x = c.in_ok-explored.explored in
    let e = start_is a b c.start.result c.start-2.result c.start.ensures.start c.start-2.ensures.start in
    let each : (y : Pair) → Contains x.pairs y ↔ Reachable (next_pairs a b) (pair_of a.start b.start) y =
    λ y. subst (λ s. Contains x.pairs y ↔ Reachable (next_pairs a b) s y) e (c.in_ok-explored.ensures.reachable y) in
    product_language a b c.in_ok-nfa.nfa x c.in_ok-nfa.ensures c.in_ok-explored.ensures.distinct (c.in_ok-explored.ensures.first ∙ ap Some e) each c.in_ok-explored.ensures.targets

pub returns-clause-within : goal.returns-clause-within
returns-clause-within g c =
    let a = c.args.self.now in
    let b = c.args.other.now in
    let e = start_is a b c.start.result c.start-2.result c.start.ensures.start c.start-2.ensures.start in
    λ more. c.in_ok-explored.ensures.within (subst (λ s. MoreThan c.args.limit (Reachable (next_pairs a b) s)) (sym e) (more_reachable a b c.args.limit more))
