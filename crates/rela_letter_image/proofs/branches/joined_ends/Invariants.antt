use Rattle.std.proofs.Common.{ℕ, ◌↔◌, map, take}
use Rattle.std.specs.List.{Contains, flat_map}
use Rattle.rela_trans.specs.Stored.{move_of}
use Rattle.rela_letter_image.specs.Branches.{ends_at, ends_of}
use Rattle.rela_letter_image.proofs.branches.joined_ends.Given as goal

abbrev pub invariant-loop-step : goal.invariant-loop-step
invariant-loop-step g l = (e : ℕ) → Contains l.joined.items e ↔ Contains (flat_map (ends_at (ends_of l.kept)) (map (move_of g.M.LabelSet.letters) (take l.step-index l.moves))) e
