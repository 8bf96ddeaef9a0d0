-- A symbol that stands alone, and its letter.
use Rattle.std.proofs.Common.{◌≡◌, ℕ, ◌<◌, length, sym, ◌∙◌, arith}
use Rattle.rela_labels.specs.Partition.{block_of, block_count}
use Rattle.rela_build.specs.Lettering.{IsAlone}
use Rattle.rela_build.specs.Reading.{read_by}
use Rattle.rela_build.proofs.Readings.{read_symbol, read_below, is_symbol}
use Rattle.std.proofs.Common.{List}

pub alone : (blocks : List ℕ) (s letter : ℕ) → IsAlone blocks s → letter ≡ block_of blocks s → (t : ℕ) → read_by blocks t ≡ letter → t ≡ s
alone blocks s letter is block t e =
    let below : read_by blocks s < block_count blocks = read_below blocks s is.symbol in
    let t_in : t < length blocks = is_symbol blocks t (omega (arith, below, e, block, read_symbol blocks s is.symbol)) in
    is.alone t t_in (sym (read_symbol blocks t t_in) ∙ e ∙ block)
