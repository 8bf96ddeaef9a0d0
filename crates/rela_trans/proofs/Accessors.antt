-- What holds of the moves that stand for those of a transducer.
use Rattle.std.proofs.Common.{◌≡◌, ℕ, ◌<◌, Bool, List, [], length, get_or, map, inl, inr, sym, subst, arith}
use Rattle.std.specs.List.{All}
use Rattle.std.proofs.lemmas.Bool.{cases_lt}
use Rattle.std.proofs.lemmas.List.{get_or-map, get_or_past, length-map}
use Rattle.std.proofs.lemmas.List.Elements.{All-nil}
use Rattle.rela_trans.specs.Machine.{Machine, IsMachine, IsMove, IsSized, moves_of, machine_states}
use Rattle.rela_trans.specs.Stored.{kind_of, move_of}
use Rattle.rela_trans.specs.declared.moves.Move.{Move}

-- the moves of a state lead to states, by sets of the right size
pub moves_ok : (t : Machine) → IsMachine t → (p : ℕ) → All (IsMove t.letters (machine_states t)) (moves_of t p)
moves_ok t ok p = elim (cases_lt p (machine_states t)) [
  | inl below ↦ ok.moves p [] (omega (arith, ok.each))
  | inr past ↦ subst (λ l. All (IsMove t.letters (machine_states t)) l) (sym (get_or_past t.moves p [] (omega (arith, ok.each)))) (All-nil (IsMove t.letters (machine_states t)))
]

module _ {L : Type 0} (letters : L → List Bool) (t : Machine) (ok : IsMachine t) (p : ℕ) (moves : List (Move L)) (same : map (move_of letters) moves ≡ moves_of t p) where
  move_ok : (k : ℕ) (d : Move L) → k < length moves → IsMove t.letters (machine_states t) (move_of letters (get_or moves k d))
  move_ok k d below =
      subst (IsMove t.letters (machine_states t)) (get_or-map (move_of letters) moves k d (move_of letters d) below)
      (subst (λ l. All (IsMove t.letters (machine_states t)) l) (sym same) (moves_ok t ok p) k (move_of letters d) (omega (arith, below, length-map moves (move_of letters))))

  pub moves_lead : All (λ edge. edge.to < machine_states t) moves
  moves_lead k d below = (move_ok k d below).leads

  pub moves_sized : All (λ edge. IsSized t.letters (kind_of letters edge.kind)) moves
  moves_sized k d below = (move_ok k d below).sized
