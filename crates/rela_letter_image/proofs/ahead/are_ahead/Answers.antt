use Rattle.std.proofs.Common.{◌≡◌, ℕ, List, arith, inl, inr, subst, sym}
use Rattle.std.specs.List.{All, slice_index}
use Rattle.std.proofs.lemmas.Bool.{cases_lt}
use Rattle.rela_letter_nfa.specs.declared.edge.LetterEdge.{LetterEdge}
use Rattle.rela_letter_image.specs.Coarse.{coarse_of}
use Rattle.rela_letter_image.specs.Needs.{IsEdgeAhead, IsToldAhead, IsWithin}
use Rattle.rela_letter_image.proofs.Needing.{are_ahead}
use Rattle.rela_letter_image.proofs.ahead.are_ahead.Goals as goal

pub loop-q-preserved : goal.loop-q-preserved
loop-q-preserved c =
    let read = coarse_of c.args.letters c.args.coarse.now in
    let a = c.args.paths.now in
    let ahead = c.args.ahead.now in
    let q = c.loop-q.q in
    λ p below. elim (cases_lt p q) [
      | inl less ↦ c.loop-q.invariant p less
      | inr past ↦
          let here : p ≡ q = omega (arith, past, below) in
          subst (IsToldAhead read a ahead) (sym here)
          (record {
            silents =
                subst (λ (l : List ℕ). All (λ r. IsWithin (slice_index ahead r) (slice_index ahead q)) l) c.silent.ensures.silent
                (subst (λ w. All (λ r. IsWithin (slice_index ahead r) w) c.silent.result.now) c.word_at-here.ensures (c.are_silents_ahead.ensures c.if-not-are_silents_ahead.false));
            edges =
                subst (λ (l : List LetterEdge). All (IsEdgeAhead read ahead (slice_index ahead q)) l) c.edges.ensures.edges
                (subst (λ w. All (IsEdgeAhead read ahead w) c.edges.result.now) c.word_at-here.ensures (c.are_edges_ahead.ensures c.if-not-are_edges_ahead.false));
          })
    ]

pub returns : goal.returns
returns c = λ yes. are_ahead (coarse_of c.args.letters c.args.coarse.now) c.args.paths.now c.args.ahead.now c.states-q-end.ensures.automaton
    (λ p below. c.loop-q.invariant p (omega (arith, below, c.loop-q-test.false, c.loop-q.auto.q-end, c.states-q-end.ensures.states)))
