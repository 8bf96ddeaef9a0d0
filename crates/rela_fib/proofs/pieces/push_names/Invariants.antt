use Rattle.std.proofs.Common.{ℕ, List, take}
use Rattle.serde_json.specs.Data.{string}
use Rattle.serde_json.specs.Written.{compact_text}
use Rattle.rela_fib.specs.Text.{names_of}
use Rattle.rela_fib.proofs.Arrays.{Opened}
use Rattle.rela_fib.proofs.pieces.push_names.Given as goal

abbrev pub invariant-loop-place : goal.invariant-loop-place
invariant-loop-place l = Opened (λ (name : List ℕ). compact_text (string name)) (take l.place (names_of l.locations l.nodes)) l.fn.text.items l.text.items
