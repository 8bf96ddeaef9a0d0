-- An edge that is joined to one that leads to its end.
use Rattle.std.proofs.Common.{◌≡◌, ℕ, ◌<◌, Bool, ◌||◌, List, length, get_or, set, map, Some, sym, ap, ◌∙◌, subst, inr, arith}
use Rattle.std.specs.List.{All}
use Rattle.std.specs.Option.{ForSome, option_map}
use Rattle.std.proofs.lemmas.List.{get_or-map, length-map, map-set}
use Rattle.rela_labels.specs.Letters.{has}
use Rattle.rela_nfa.specs.Automaton.{Move}
use Rattle.rela_nfa.specs.Stored.{move_of}
use Rattle.rela_nfa.specs.declared.edge.Edge.{Edge}
use Rattle.rela_subset.specs.Deterministic.{takes}
use Rattle.rela_subset.specs.Expansion.{IsPutIn}

module _ {L : Type 0} (letters : L → List Bool) (edges : List (Edge L)) (place to : ℕ) (within : place < length edges) (leads : (edge : Edge L) → (get_or edges place edge).to ≡ to)
    (edge : Edge L) (at : edge ≡ get_or edges place edge) where
  abbrev moves : List Move
  moves = map (move_of letters) edges

  -- the edge that is read there
  move_read : (move : Move) → get_or moves place move ≡ move_of letters edge
  move_read move = get_or-map (move_of letters) edges place edge move within ∙ ap (move_of letters) (sym at)

  pub read_sized : (n : ℕ) → All (λ move. ForSome move.label (λ s. length s ≡ n)) moves → ForSome edge.label (λ s. length (letters s) ≡ n)
  read_sized n sized x e =
      sized place (move_of letters edge) (omega (arith, within, length-map edges (move_of letters))) (letters x)
      (ap (λ (m : Move). m.label) (move_read (move_of letters edge)) ∙ ap (option_map letters) e)

  pub put_joined : (joined : L) (old : List Move) (label : List Bool) → moves ≡ old → length (letters joined) ≡ length label
      → ((k : ℕ) → has (letters joined) k ≡ (takes k (move_of letters edge) || has label k))
      → IsPutIn label to old (map (move_of letters) (set edges place (record { label = Some joined; to = to })))
  put_joined joined old label view size either =
      let joined_edge : Edge L = record { label = Some joined; to = to } in
      subst (λ seen. IsPutIn label to seen (map (move_of letters) (set edges place joined_edge))) view (inr (
        place,
        letters joined,
        omega (arith, within, length-map edges (move_of letters)),
        map-set (move_of letters) edges place joined_edge,
        λ move. ap (λ (m : Move). m.to) (move_read move) ∙ ap (λ (e : Edge L). e.to) at ∙ leads edge,
        size,
        λ k move. either k ∙ ap (λ (m : Move). takes k m || has label k) (sym (move_read move)),
      ))
