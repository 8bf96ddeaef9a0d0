use Rattle.std.proofs.Common.{◌≡◌, ◌-◌, ◌<◌, ◌≤◌, ◌++◌, List, ℕ, map, sym, ap, ◌∙◌, subst, arith}
use Rattle.std.specs.Result.{OnOk}
use Rattle.rela_letter_nfa.specs.LetterAutomaton.{edges_of, states}
use Rattle.rela_letter_nfa.specs.Pair.{Pair, edge_behind, joined}
use Rattle.rela_letter_nfa.specs.declared.edge.LetterEdge.{LetterEdge}
use Rattle.rela_letter_nfa.proofs.Joined.{edges_behind_none, edges_first, edges_second}
use Rattle.rela_letter_nfa.proofs.both.Both.push_edges.Goals as goal

pub returns-then-q-self : goal.returns-then-q-self
returns-then-q-self c =
    let pair : Pair = record { first = c.self.inside.first.now; second = c.self.inside.second.now } in
    let below : c.args.q < states c.self.inside.first.now = omega (arith, c.if-q-self.true, c.self.invariant.0) in
    let same : map (edge_behind 0) c.edges.result.now ≡ edges_of (joined pair) c.args.q =
    edges_behind_none c.edges.result.now ∙ c.edges.ensures.edges ∙ sym (edges_first pair c.self.invariant.1 c.args.q below) in
    subst (λ p. OnOk c.push_all.result (c.push_all.new.edges.items ≡ c.args.edges.now.items ++ edges_of (joined p) c.args.q)) c.self.view_is
    (subst (λ (l : List LetterEdge). OnOk c.push_all.result (c.push_all.new.edges.items ≡ c.args.edges.now.items ++ l)) same c.push_all.ensures)

pub returns-else-q-self : goal.returns-else-q-self
returns-else-q-self c =
    let pair : Pair = record { first = c.self.inside.first.now; second = c.self.inside.second.now } in
    let n : ℕ = states c.self.inside.first.now in
    let above : n ≤ c.args.q = omega (arith, c.if-q-self.false, c.self.invariant.0) in
    let below : c.args.q < states (joined pair) = subst (λ p. c.args.q < states (joined p)) (sym c.self.view_is) c.requires in
    let same : map (edge_behind c.self.inside.split) c.edges-else-q-self.result.now ≡ edges_of (joined pair) c.args.q =
    ap (λ (l : List LetterEdge). map (edge_behind c.self.inside.split) l) c.edges-else-q-self.ensures.edges
    ∙ ap (λ (s : ℕ). map (edge_behind s) (edges_of c.self.inside.second.now (c.args.q - s))) c.self.invariant.0
    ∙ sym (edges_second pair c.self.invariant.1 c.args.q above below) in
    subst (λ p. OnOk c.push_all-else-q-self.result (c.push_all-else-q-self.new.edges.items ≡ c.args.edges.now.items ++ edges_of (joined p) c.args.q)) c.self.view_is
    (subst (λ (l : List LetterEdge). OnOk c.push_all-else-q-self.result (c.push_all-else-q-self.new.edges.items ≡ c.args.edges.now.items ++ l)) same c.push_all-else-q-self.ensures)
