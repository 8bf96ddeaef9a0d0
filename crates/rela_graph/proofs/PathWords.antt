-- Paths are words of path symbols.
use Rattle.std.proofs.Common.{ℕ, ◌+◌, ◌<◌, true, false, List, [], ◌∷◌, ◌++◌, length, get_or, map, sym, subst, inl, inr, arith}
use Rattle.std.specs.Prelude.{◌==◌, if◌then◌else◌}
use Rattle.std.specs.List.{All}
use Rattle.std.proofs.lemmas.List.{append-nil}
use Rattle.std.proofs.lemmas.List.Elements.{All-nil, All-cons, All-push, All-map, All-head, All-tail}
use Rattle.rela_names.specs.declared.level.Level.{Level}
use Rattle.rela_graph.specs.Paths.{Paths, Arrives, locations, squeeze, squeeze_after}
use Rattle.rela_graph.specs.Topology.{Topology, IsTopology, symbol_at}
use Rattle.rela_graph.specs.Walk.{FollowsEdges, IsWalk}
use Rattle.rela_graph.proofs.Blocked.{location_below}
use Rattle.rela_graph.proofs.Flagged.{flag_within}
use Rattle.rela_graph.proofs.Ways.{edge_node}

-- what is written once is among what was there
module _ (P : ℕ → Type 0) where
  squeezed_after : (x : ℕ) (xs : List ℕ) → All P xs → All P (squeeze_after x xs)
  squeezed_after x [] each = All-nil P
  squeezed_after x (y ∷ ys) each =
      let rest : All P (squeeze_after y ys) = squeezed_after y ys (All-tail P y ys each) in
      elim (x == y) as (λ b. All P (if b then squeeze_after y ys else y ∷ squeeze_after y ys)) [
        | true ↦ rest
        | false ↦ All-cons P y (squeeze_after y ys) (All-head P y ys each) rest
      ]

  squeezed : (xs : List ℕ) → All P xs → All P (squeeze xs)
  squeezed [] each = All-nil P
  squeezed (x ∷ xs) each = All-cons P x (squeeze_after x xs) (All-head P x xs each) (squeezed_after x xs (All-tail P x xs each))

module _ (g : Topology) (is : IsTopology g) where
  abbrev IsNode : ℕ → Type 0
  IsNode n = n < length g.nodes

  follow_nodes : (a : ℕ) (rest : List ℕ) → IsNode a → FollowsEdges g (a ∷ rest) → All IsNode (a ∷ rest)
  follow_nodes a [] first follows = All-cons IsNode a [] first (All-nil IsNode)
  follow_nodes a (b ∷ rest) first follows = All-cons IsNode a (b ∷ rest) first (follow_nodes b rest (edge_node g is a b follows.0) follows.1)

  walk_nodes : (walk : List ℕ) → IsWalk g walk → All IsNode walk
  walk_nodes [] walk = absurd walk
  walk_nodes (a ∷ rest) walk = follow_nodes a rest (let w = flag_within g.starts a walk.0 in omega (arith, w, is.starts)) walk.1

  module _ (level : Level) (alphabet : List (List ℕ)) (placed : All (λ node. symbol_at level node < length alphabet) g.nodes) where
    abbrev IsLocation : ℕ → Type 0
    IsLocation s = s < length alphabet

    abbrev IsPathSymbol : ℕ → Type 0
    IsPathSymbol s = s < length alphabet + 2

    arrives_locations : (n : ℕ) (word : List ℕ) → Arrives g (locations g level) n word → All IsLocation word
    arrives_locations n word (before, walk, is_base) =
        let whole = before ++ n ∷ [] in
        subst (λ l. All IsLocation l) is_base
        (squeezed IsLocation (map (λ m. get_or (locations g level) m 0) whole)
        (All-map IsLocation (λ m. get_or (locations g level) m 0) whole
        (λ k d within. location_below g level (length alphabet) placed (get_or whole k d) (walk_nodes whole walk k d within))))

    pub path_symbols_only : (word : List ℕ) → Paths g level alphabet word → All IsPathSymbol word
    path_symbols_only word (n, front, tail, arrives, ends, whole) =
        let locations_only = arrives_locations n front arrives in
        let symbols : All IsPathSymbol front = λ k d within. omega (arith, locations_only k d within) in
        subst (λ l. All IsPathSymbol l) (sym whole)
        (elim ends [
          | inl delivers ↦ subst (λ e. All IsPathSymbol (front ++ e)) (sym delivers.1) (subst (λ l. All IsPathSymbol l) (sym (append-nil front)) symbols)
          | inr rest ↦ elim rest [
            | inl drops ↦ subst (λ e. All IsPathSymbol (front ++ e)) (sym drops.1) (All-push IsPathSymbol front (length alphabet) symbols (omega arith))
            | inr loops ↦ subst (λ e. All IsPathSymbol (front ++ e)) (sym loops.1) (All-push IsPathSymbol front (length alphabet + 1) symbols (omega arith))
          ]
        ])
