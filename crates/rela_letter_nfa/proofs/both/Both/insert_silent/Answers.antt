use Rattle.std.proofs.Common.{◌≡◌, ◌+◌, ◌-◌, ◌<◌, ◌≤◌, List, ℕ, map, sym, ap, ◌∙◌, subst, arith}
use Rattle.std.specs.List.{Contains}
use Rattle.std.specs.Result.{OnOk}
use Rattle.rela_letter_nfa.specs.LetterAutomaton.{silents_of, states}
use Rattle.rela_letter_nfa.specs.Pair.{Pair, joined}
use Rattle.rela_letter_nfa.specs.Sets.{Adds}
use Rattle.rela_letter_nfa.proofs.Joined.{behind_none, silents_first, silents_second}
use Rattle.rela_letter_nfa.proofs.both.Both.insert_silent.Goals as goal

pub returns-then-q-self-clause-adds : goal.returns-then-q-self-clause-adds
returns-then-q-self-clause-adds c =
    let pair : Pair = record { first = c.self.inside.first.now; second = c.self.inside.second.now } in
    let below : c.args.q < states c.self.inside.first.now = omega (arith, c.if-q-self.true, c.self.invariant.0) in
    let same : map (λ q. 0 + q) c.silent.result.now ≡ silents_of (joined pair) c.args.q =
    behind_none c.silent.result.now ∙ c.silent.ensures.silent ∙ sym (silents_first pair c.self.invariant.1 c.args.q below) in
    subst (λ p. OnOk c.insert_all.result (Adds (Contains (silents_of (joined p) c.args.q)) c.args.visited.now.states c.insert_all.new.visited.states)) c.self.view_is
    (subst (λ (l : List ℕ). OnOk c.insert_all.result (Adds (Contains l) c.args.visited.now.states c.insert_all.new.visited.states)) same c.insert_all.ensures.adds)

pub returns-else-q-self-clause-adds : goal.returns-else-q-self-clause-adds
returns-else-q-self-clause-adds c =
    let pair : Pair = record { first = c.self.inside.first.now; second = c.self.inside.second.now } in
    let n : ℕ = states c.self.inside.first.now in
    let above : n ≤ c.args.q = omega (arith, c.if-q-self.false, c.self.invariant.0) in
    let below : c.args.q < states (joined pair) = subst (λ p. c.args.q < states (joined p)) (sym c.self.view_is) c.requires.state in
    let same : map (λ q. c.self.inside.split + q) c.silent-else-q-self.result.now ≡ silents_of (joined pair) c.args.q =
    ap (λ (l : List ℕ). map (λ q. c.self.inside.split + q) l) c.silent-else-q-self.ensures.silent
    ∙ ap (λ (s : ℕ). map (λ q. s + q) (silents_of c.self.inside.second.now (c.args.q - s))) c.self.invariant.0
    ∙ sym (silents_second pair c.self.invariant.1 c.args.q above below) in
    subst (λ p. OnOk c.insert_all-else-q-self.result (Adds (Contains (silents_of (joined p) c.args.q)) c.args.visited.now.states c.insert_all-else-q-self.new.visited.states)) c.self.view_is
    (subst (λ (l : List ℕ). OnOk c.insert_all-else-q-self.result (Adds (Contains l) c.args.visited.now.states c.insert_all-else-q-self.new.visited.states)) same
    c.insert_all-else-q-self.ensures.adds)
