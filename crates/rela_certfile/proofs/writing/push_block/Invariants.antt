use Rattle.std.proofs.Common.{◌≡◌, ◌++◌, map, take}
use Rattle.rela_certfile.specs.Text.{ended, word_line}
use Rattle.rela_certfile.proofs.writing.push_block.Given as goal

-- the head, and the lines of the steps so far
abbrev pub invariant-loop-step : goal.invariant-loop-step
invariant-loop-step l =
    l.text.items ≡ l.fn.text.items ++ (l.head ++ ended (map word_line (take l.step-index l.steps)))
