-- Readings of items and of a whole text. A reading with a number may open so many brackets one within the other.
use Rattle.std.specs.Prelude.{ℕ, true, List, codes}
use Rattle.rela_names.specs.declared.level.Level.{Level}
use Rattle.rela_names.specs.declared.level.Level.TheVariants as level
use Rattle.rela_flows.specs.declared.predicate.Predicate.{Predicate}
use Rattle.rela_flows.specs.declared.predicate.Predicate.TheVariants as flows
use Rattle.rela_spec.specs.ReadPaths.{read_path}
use Rattle.rela_spec.specs.ReadPredicates.{read_predicate}
use Rattle.rela_spec.specs.ReadSpecs.{read_body}
use Rattle.rela_spec.specs.ReadWords.{is_word_of, read_mark, read_word, read_name, whether_word}
use Rattle.rela_spec.specs.Readings.{Reading, choose, read_done, read_all, ◌>>=◌, ◌>>◌}
use Rattle.rela_spec.specs.declared.tree.Item.{Item}
use Rattle.rela_spec.specs.declared.tree.Item.TheVariants as item
use Rattle.rela_spec.specs.declared.tree.SpecFile.{SpecFile}

unfoldable pub read_level_word : ℕ → Reading Level
read_level_word end =
    choose (is_word_of (codes "interface"))
    (read_word end (codes "interface") >> read_done level.Interface)
    (choose (is_word_of (codes "device")) (read_word end (codes "device") >> read_done level.Device)
    (read_word end (codes "group") >> read_done level.Group))

unfoldable pub read_level_line : ℕ → Reading Level
read_level_line end =
    choose (is_word_of (codes "level")) (read_word end (codes "level") >> (read_level_word
    end >>= λ l. read_mark end 59 >> read_done l))
    (read_done level.Interface)

unfoldable pub read_condition : ℕ → ℕ → Reading Predicate
read_condition end room = choose (is_word_of (codes "for"))
    (read_word end (codes "for") >> read_predicate end room) (read_done flows.All)

unfoldable pub read_path_item : ℕ → ℕ → Reading Item
read_path_item end room =
    read_name end >>= λ n. read_mark end 61 >> (read_path end room >>= λ e.
    read_mark end 59 >> read_done (item.Path n.name n.at e))

unfoldable pub read_spec_item : ℕ → ℕ → Reading Item
read_spec_item end room =
    read_name end >>= λ n. read_mark end 61 >> (read_body end room >>= λ s.
    read_mark end 59 >> read_done (item.Spec n.name n.at s))

unfoldable pub read_check_item : ℕ → ℕ → Reading Item
read_check_item end room =
    whether_word end (codes "atmost")
    >>= λ at_most. read_name end
    >>= λ n. read_condition end room
    >>= λ when. read_mark end 58 >> (read_body end room >>= λ s.
    read_mark end 59 >> read_done (item.Check at_most n.name n.at when s))

unfoldable pub read_item : ℕ → ℕ → Reading Item
read_item end room =
    choose (is_word_of (codes "path")) (read_word end (codes "path") >> read_path_item end room)
    (choose (is_word_of (codes "spec")) (read_word end (codes "spec") >> read_spec_item end room)
    (read_word end (codes "check") >> read_check_item end room))

unfoldable pub read_items : ℕ → ℕ → Reading (List Item)
read_items end room = read_all (λ _. true) (read_item end room)

unfoldable pub read_file : ℕ → ℕ → Reading SpecFile
read_file end room = read_level_line end >>= λ l. read_items end room >>= λ items.
    read_done (record { level = l; items = items })
