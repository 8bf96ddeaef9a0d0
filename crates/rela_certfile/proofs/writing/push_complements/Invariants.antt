use Rattle.std.proofs.Common.{◌≡◌, ◌++◌, take}
use Rattle.std.specs.List.{flat_map}
use Rattle.rela_certfile.specs.Text.{complement_lines, ended}
use Rattle.rela_certfile.proofs.writing.push_complements.Given as goal

-- the blocks so far
abbrev pub invariant-loop-steps : goal.invariant-loop-steps
invariant-loop-steps l =
    l.text.items ≡ l.fn.text.items ++ ended (flat_map complement_lines (take l.steps-index l.blocks))
