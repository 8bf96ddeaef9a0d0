-- At which nodes the walks with a base word end.
use Rattle.std.proofs.Common.{◌≡◌, ◌≢◌, ℕ, ◌↔◌, List, [], ◌∷◌, ◌++◌, map, sym, ap, ◌∙◌}
use Rattle.std.specs.Prelude.{slice_index}
use Rattle.std.proofs.lemmas.List.{map_push}
use Rattle.rela_graph.specs.Topology.{Topology, HasEdge}
use Rattle.rela_graph.specs.Paths.{squeeze, base, Arrives}
use Rattle.rela_graph.proofs.Squeezing.{squeeze_same, squeeze_other}
use Rattle.rela_graph.proofs.Walking.{walk_on}

module _ (g : Topology) (places : List ℕ) where
  pub base_same : (xs : List ℕ) (u n : ℕ) → slice_index places u ≡ slice_index places n → base places ((xs ++ u ∷ []) ++ n ∷ []) ≡ base places (xs ++ u ∷ [])
  base_same xs u n e =
      let p : ℕ → ℕ = λ m. slice_index places m in
      let first : map p ((xs ++ u ∷ []) ++ n ∷ []) ≡ (map p xs ++ p u ∷ []) ++ p n ∷ [] = map_push p (xs ++ u ∷ []) n ∙ ap (λ l. l ++ p n ∷ []) (map_push p xs u) in
      ap squeeze first ∙ squeeze_same (map p xs) (p u) (p n) e ∙ ap squeeze (sym (map_push p xs u))

  pub base_other : (xs : List ℕ) (u n : ℕ) → slice_index places u ≢ slice_index places n
      → base places ((xs ++ u ∷ []) ++ n ∷ []) ≡ base places (xs ++ u ∷ []) ++ slice_index places n ∷ []
  base_other xs u n ne =
      let p : ℕ → ℕ = λ m. slice_index places m in
      let first : map p ((xs ++ u ∷ []) ++ n ∷ []) ≡ (map p xs ++ p u ∷ []) ++ p n ∷ [] = map_push p (xs ++ u ∷ []) n ∙ ap (λ l. l ++ p n ∷ []) (map_push p xs u) in
      ap squeeze first ∙ squeeze_other (map p xs) (p u) (p n) ne ∙ ap (λ l. squeeze l ++ p n ∷ []) (sym (map_push p xs u))

  pub arrive_same : (u n : ℕ) (w : List ℕ) → Arrives g places u w → HasEdge g u n → slice_index places u ≡ slice_index places n → Arrives g places n w
  arrive_same u n w a e same = (a.0 ++ u ∷ [], walk_on g a.0 u n a.1 e, base_same a.0 u n same ∙ a.2)

  pub arrive_other : (u n s : ℕ) (w : List ℕ) → Arrives g places u w → HasEdge g u n → slice_index places u ≢ s → slice_index places n ≡ s → Arrives g places n (w ++ s ∷ [])
  arrive_other u n s w a e other has =
      let apart : slice_index places u ≢ slice_index places n = λ same. other (same ∙ has) in
      (a.0 ++ u ∷ [], walk_on g a.0 u n a.1 e, base_other a.0 u n apart ∙ ap (λ l. l ++ slice_index places n ∷ []) a.2 ∙ ap (λ p. w ++ p ∷ []) has)

pub both_then : {A B C : Type 0} → A ↔ B → B ↔ C → A ↔ C
both_then f g = (λ a. g.0 (f.0 a), λ c. f.1 (g.1 c))
