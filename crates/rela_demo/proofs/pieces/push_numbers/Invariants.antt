use Rattle.std.proofs.Common.{ℕ, take}
use Rattle.serde_json.specs.Written.{compact_text}
use Rattle.rela_demo.specs.Text.{number_data}
use Rattle.rela_demo.proofs.Arrays.{Opened}
use Rattle.rela_demo.proofs.pieces.push_numbers.Given as goal

abbrev pub invariant-loop-place : goal.invariant-loop-place
invariant-loop-place l = Opened (λ (n : ℕ). compact_text (number_data n)) (take l.place l.numbers) l.fn.text.items l.text.items
