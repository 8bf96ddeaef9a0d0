use Rattle.std.proofs.Common.{◌≡◌, ◌<◌, ◌≤◌, ◌∙◌, sym, ℕ, length}
use Rattle.std.specs.Prelude.{slice_index}
use Rattle.std.specs.List.{All, Contains}
use Rattle.std.proofs.lemmas.Bool.{both_ways}
use Rattle.std.proofs.lemmas.Slice.Eq.{bytes_eq-Decides}
use Rattle.rela_graph.specs.Component.{AreComponents}
use Rattle.rela_graph.proofs.Claiming.{confirmed, on_true_then}
use Rattle.rela_graph.proofs.graph.Graph.confirms.Goals as goal
use Rattle.rela_graph.proofs.graph.Graph.confirms.Goals.{then-is_full, else-is_full, then-is_full-2, else-is_full-2}

pub returns-then-eq : goal.returns-then-eq
returns-then-eq c =
    let g = c.args.self.now in
    let behind = c.args.behind.now in
    let ahead = c.args.ahead.now in
    let ascending = All (λ link. slice_index behind.places link.a ≤ slice_index behind.places link.b) g.edges in
    elim c.if-is_full-2.branch [
      | then-is_full-2 w ↦ elim c.if-is_full.branch [
        | then-is_full v ↦
            let same : behind.places ≡ ahead.places =
            sym w.places.ensures.places ∙ (bytes_eq-Decides w.places.result.now w.places-then-is_full-2.result.now).0 (sym w.eq.ensures ∙ sym w.value-is ∙ c.if-eq.true)
            ∙ w.places-then-is_full-2.ensures.places in
            let all_behind : (n : ℕ) → n < length g.nodes → Contains behind.nodes n = rw c.requires.behind_count at (c.is_full.ensures v.if-is_full.true) in
            let all_ahead : (n : ℕ) → n < length g.nodes → Contains ahead.nodes n =
            rw c.requires.ahead_count at (v.is_full-then-is_full.ensures (sym v.value-is ∙ w.if-is_full-2.true)) in
            on_true_then c.ascends.result ascending (AreComponents g behind.places)
            (confirmed g behind ahead c.requires.roots same (c.places-then-eq.ensures.len ∙ c.requires.behind_count) all_behind all_ahead c.requires.behind c.requires.ahead)
            (rw (← c.places-then-eq.ensures.places, ← c.edges.ensures.edges) c.ascends.ensures)
        | else-is_full v ↦ absurd (both_ways _ v.if-is_full.false (sym v.value-is ∙ w.if-is_full-2.true))
      ]
      | else-is_full-2 w ↦ absurd (both_ways _ w.if-is_full-2.false (sym w.value-is ∙ c.if-eq.true))
    ]
