-- The lines of a specification that grows at its end.
use Rattle.std.proofs.Common.{◌≡◌, ◌<◌, ◌≤◌, ℕ, ◌+◌, List, [], ◌∷◌, ◌++◌, length, get_or, take, refl, sym, append_assoc}
use Rattle.std.proofs.lemmas.List.{take_more, take_all, append-nil}
use Rattle.rela_print.specs.Print.{level_line, item_line, lines, print_of}
use Rattle.rela_spec.specs.declared.tree.Item.{Item}
use Rattle.rela_spec.specs.declared.tree.SpecFile.{SpecFile}

lines_append : (items : List Item) (item : Item) → lines (items ++ item ∷ []) ≡ lines items ++ item_line item
unfolding lines
lines_append [] item = append-nil (item_line item)
lines_append (first ∷ items) item = rw (lines_append items item) (sym (append_assoc (item_line first) (lines items) (item_line item)))

pub lines_none : lines [] ≡ []
unfolding lines
lines_none = refl

pub lines_go_on : (start out after : List ℕ) (items : List Item) (i : ℕ) (item : Item) → i < length items → item ≡ get_or items i item → out ≡ start ++ lines (take i items) → after ≡ out ++ item_line item → after ≡ start ++ lines (take (i + 1) items)
lines_go_on start out after items i item h e o a = rw (a, o, take_more items i item h, ← e, lines_append (take i items) item) (append_assoc start (lines (take i items)) (item_line item))

pub whole_text : (file : SpecFile) (first out : List ℕ) (i : ℕ) → length file.items ≤ i → first ≡ level_line file.level → out ≡ first ++ lines (take i file.items) → out ≡ print_of file
unfolding print_of
whole_text file first out i h f o = rw (o, f, take_all i file.items h) refl
