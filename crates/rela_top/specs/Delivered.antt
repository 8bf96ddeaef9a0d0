-- How an answer is written out.
use Rattle.std.specs.Prelude.{◌≡◌, ℕ, ◌⊎◌, List, Option}
use Rattle.rela_inputs.specs.Answer.{Answer}
use Rattle.rela_io.specs.Bytes.{after_told, GrewByPart}

-- The whole text was taken and the status is the answer's, or a write failed after a proper prefix of it.
abbrev pub Delivers : Option (List ℕ) → Option (List ℕ) → Answer → ℕ → Type 0
Delivers old new answer status =
    ((status ≡ answer.status) × (new ≡ after_told old answer.text))
    ⊎ ((status ≡ 6) × GrewByPart old new answer.text)
