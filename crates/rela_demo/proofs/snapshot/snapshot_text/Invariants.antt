use Rattle.std.proofs.Common.{◌≡◌, ◌-◌, ◌++◌, ◌∷◌, []}
use Rattle.std.specs.List.{flat_map, range_with_len}
use Rattle.rela_demo.specs.Pieces.{flow_text}
use Rattle.rela_demo.proofs.snapshot.snapshot_text.Given as goal

abbrev pub invariant-loop-number : goal.invariant-loop-number
invariant-loop-number l = l.text.items ≡ l.initial.text.items ++ flat_map (λ k. flow_text k l.nodes l.layered ++ 44 ∷ []) (range_with_len 1 (l.number - 1))
