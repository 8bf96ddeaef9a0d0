use Rattle.std.proofs.Common.{◌≡◌, ◌+◌, ◌++◌, drop}
use Rattle.rela_assertions.specs.Text.{leaf_lines}
use Rattle.rela_assertions.proofs.texts.push_leaves.Given as goal

-- what is written, and then the lines of the leaves that are left
abbrev pub invariant-loop-before : goal.invariant-loop-before
invariant-loop-before l =
    l.text.items ++ leaf_lines l.alphabet (l.before + 1) (drop l.before l.leaves)
    ≡ l.fn.text.items ++ leaf_lines l.alphabet 1 l.leaves
