-- Readings of assertions and of a whole text. A reading with a number may open so many brackets one within the other.
use Rattle.std.specs.Prelude.{ℕ, true, List, codes}
use Rattle.rela_spec.specs.ReadFile.{read_level_line}
use Rattle.rela_spec.specs.ReadWords.{read_mark, read_word}
use Rattle.rela_spec.specs.Readings.{Reading, read_done, read_all, ◌>>=◌, ◌>>◌}
use Rattle.rela_rirfile.specs.ReadTrees.{read_tree}
use Rattle.rela_rirfile.specs.ReadWords.{read_name}
use Rattle.rela_rirfile.specs.declared.written.Assert.{Assert}
use Rattle.rela_rirfile.specs.declared.written.AssertFile.{AssertFile}

unfoldable pub read_assert : ℕ → ℕ → Reading Assert
read_assert end room =
    read_word end (codes "assert") >> (read_name end >>= λ n. read_mark end 61 >>
    (read_tree end room >>= λ tree.
    read_mark end 59 >> read_done (record { name = n.name; at = n.at; tree = tree })))

unfoldable pub read_asserts : ℕ → ℕ → Reading (List Assert)
read_asserts end room = read_all (λ _. true) (read_assert end room)

unfoldable pub read_file : ℕ → ℕ → Reading AssertFile
read_file end room = read_level_line end >>= λ l. read_asserts end room >>= λ asserts.
    read_done (record { level = l; asserts = asserts })
