-- Readings of specifications of changes. A reading with a number may open so many brackets one within the other.
use Rattle.std.specs.Prelude.{ℕ, zero, suc, ◌-◌, Err, List, codes}
use Rattle.rela_lex.specs.declared.error.SpecError.TheVariants.{Memory}
use Rattle.rela_spec.specs.Grammar.{is_mark_of}
use Rattle.rela_spec.specs.ReadPaths.{read_path}
use Rattle.rela_spec.specs.ReadWords.{is_word_of, is_reference_kind, read_mark, read_word, read_reference}
use Rattle.rela_spec.specs.Readings.{Reading, choose, read_done, read_open, read_all, read_chain, read_onto, ◌>>=◌, ◌>>◌}
use Rattle.rela_spec.specs.declared.parsing.specs.Joint.{Joint}
use Rattle.rela_spec.specs.declared.parsing.specs.Joint.TheVariants as joint
use Rattle.rela_spec.specs.declared.tree.Modifier.{Modifier}
use Rattle.rela_spec.specs.declared.tree.Modifier.TheVariants as modifier
use Rattle.rela_spec.specs.declared.tree.PathExpr.{PathExpr}
use Rattle.rela_spec.specs.declared.tree.SpecExpr.{SpecExpr}
use Rattle.rela_spec.specs.declared.tree.SpecExpr.TheVariants as spec

unfoldable pub read_argument : ℕ → ℕ → Reading PathExpr
read_argument end room = read_open end 40 room >> (read_path end (room - 1) >>= λ e.
    read_mark end 41 >> read_done e)

unfoldable pub read_replacement : ℕ → ℕ → Reading (Modifier PathExpr)
read_replacement end room =
    read_open end 40 room
    >> (read_path end (room - 1) >>= λ old. read_mark end 44 >> (read_path end (room - 1) >>= λ new.
    read_mark end 41 >> read_done (modifier.Replace old new)))

unfoldable pub read_change : ℕ → ℕ → Reading (Modifier PathExpr)
read_change end room =
    choose (is_word_of (codes "preserve")) (read_word end (codes "preserve") >> read_done
    modifier.Preserve)
    (choose (is_word_of (codes "drop")) (read_word end (codes "drop") >> read_done modifier.Drop)
    (choose (is_word_of (codes "add")) (read_word end (codes "add") >> (read_argument end
    room >>= λ e. read_done (modifier.Add e)))
    (choose (is_word_of (codes "remove")) (read_word end (codes "remove") >> (read_argument end
    room >>= λ e. read_done (modifier.Remove e)))
    (choose (is_word_of (codes "replace"))
    (read_word end (codes "replace") >> read_replacement end room)
    (choose (is_word_of (codes "any")) (read_word end (codes "any") >> (read_argument end
    room >>= λ e. read_done (modifier.AnyOf e)))
    (read_word end (codes "ignore") >> (read_argument end room >>= λ e.
    read_done (modifier.Ignore e))))))))

unfoldable pub read_unit : ℕ → ℕ → Reading SpecExpr
read_unit end room =
    read_open end 123 room
    >> (read_path end (room - 1) >>= λ zone.
    read_mark end 58 >> (read_change end (room - 1) >>= λ m.
    read_mark end 125 >> read_done (spec.Unit zone m)))

abbrev pub read_group : ℕ → ℕ → Reading SpecExpr → Reading SpecExpr
read_group end room inside = read_open end 40 room >> (inside >>= λ s.
    read_mark end 41 >> read_done s)

abbrev pub read_single : ℕ → ℕ → Reading SpecExpr → Reading SpecExpr
read_single end room group =
    choose is_reference_kind (read_reference end >>= λ n. read_done (spec.Reference n.name n.at))
    (choose (is_mark_of 40) group (read_unit end room))

abbrev pub read_steps : ℕ → Reading SpecExpr → Reading SpecExpr
read_steps end single = read_chain spec.Then (is_word_of (codes "then"))
    (read_word end (codes "then") >> single) single

abbrev pub read_alternatives : ℕ → Reading SpecExpr → Reading SpecExpr
read_alternatives end steps = read_chain spec.Else (is_word_of (codes "else"))
    (read_word end (codes "else") >> steps) steps

abbrev pub read_over : ℕ → ℕ → Reading SpecExpr → Reading SpecExpr
read_over end room inside = read_alternatives end
    (read_steps end (read_single end room (read_group end room inside)))

unfoldable pub read_body : ℕ → ℕ → Reading SpecExpr
read_body end zero = read_over end zero (λ _. Err Memory)
read_body end (suc room) = read_over end (suc room) (read_body end room)

-- what is read in brackets, of which so many may be opened
unfoldable pub body_inside : ℕ → ℕ → Reading SpecExpr
body_inside end zero = λ _. Err Memory
body_inside end (suc room) = read_body end room

unfoldable pub group_at : ℕ → ℕ → Reading SpecExpr
group_at end room = read_group end room (body_inside end room)

unfoldable pub single_at : ℕ → ℕ → Reading SpecExpr
single_at end room = read_single end room (group_at end room)

unfoldable pub steps_at : ℕ → ℕ → Reading SpecExpr
steps_at end room = read_steps end (single_at end room)

unfoldable pub alternatives_at : ℕ → ℕ → Reading SpecExpr
alternatives_at end room = read_alternatives end (steps_at end room)

-- the forms of a chain of parts
abbrev pub form : Joint → List SpecExpr → SpecExpr
form joint.Else = spec.Else
form joint.Then = spec.Then

-- what a further part begins with
abbrev pub between : Joint → List ℕ
between joint.Else = codes "else"
between joint.Then = codes "then"

unfoldable pub part_at : Joint → ℕ → ℕ → Reading SpecExpr
part_at joint.Else end room = steps_at end room
part_at joint.Then end room = single_at end room

unfoldable pub next_at : Joint → ℕ → ℕ → Reading SpecExpr
next_at j end room = read_word end (between j) >> part_at j end room

unfoldable pub chain_at : Joint → ℕ → ℕ → Reading SpecExpr
chain_at joint.Else end room = alternatives_at end room
chain_at joint.Then end room = steps_at end room

unfoldable pub more_at : Joint → ℕ → ℕ → List SpecExpr → Reading (List SpecExpr)
more_at j end room before = read_onto before (read_all (is_word_of (between j))
    (next_at j end room))
