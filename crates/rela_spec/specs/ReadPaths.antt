-- Readings of path expressions. A reading with a number may open so many brackets one within the other.
use Rattle.std.specs.Prelude.{ℕ, zero, suc, ◌-◌, Bool, ◌||◌, Err, List, codes, ⊤}
use Rattle.rela_lex.specs.declared.error.SpecError.TheVariants.{Memory}
use Rattle.rela_lex.specs.declared.token.TokenKind.{TokenKind}
use Rattle.rela_locations.specs.declared.members.By.{By}
use Rattle.rela_locations.specs.declared.members.By.TheVariants as by
use Rattle.rela_spec.specs.Grammar.{is_mark_of}
use Rattle.rela_spec.specs.ReadWords.{is_word_of, is_name_kind, is_reference_kind, read_mark, read_word, read_name, read_reference, read_number, whether_mark}
use Rattle.rela_spec.specs.Readings.{Reading, choose, read_done, read_open, read_all, read_chain, read_onto, ◌>>=◌, ◌>>◌}
use Rattle.rela_spec.specs.declared.parsing.paths.Joint.{Joint}
use Rattle.rela_spec.specs.declared.parsing.paths.Joint.TheVariants as joint
use Rattle.rela_spec.specs.declared.tree.Member.{Member}
use Rattle.rela_spec.specs.declared.tree.Member.TheVariants as member
use Rattle.rela_spec.specs.declared.tree.PathExpr.{PathExpr}
use Rattle.rela_spec.specs.declared.tree.PathExpr.TheVariants as expr

unfoldable pub read_picked_by : ℕ → Reading By
read_picked_by end =
    choose (is_word_of (codes "interface"))
    (read_word end (codes "interface") >> read_done by.Interface)
    (choose (is_word_of (codes "device")) (read_word end (codes "device") >> read_done by.Device)
    (choose (is_word_of (codes "group")) (read_word end (codes "group") >> read_done by.Group)
    (read_word end (codes "tag") >> read_done by.Tag)))

abbrev pub is_picking : TokenKind → Bool
is_picking kind = is_word_of (codes "interface") kind || (is_word_of (codes "device") kind
    || (is_word_of (codes "group") kind || is_word_of (codes "tag") kind))

unfoldable pub read_picked : ℕ → ℕ → Reading Member
read_picked end room =
    read_picked_by end >>= λ b. (read_open end 40 room >> (read_name end >>= λ n.
    read_mark end 41 >> read_done n)) >>= λ n. read_done (member.Within b n.name n.at)

unfoldable pub read_member : ℕ → ℕ → Reading Member
read_member end room =
    choose (is_word_of (codes "drop")) (read_word end (codes "drop") >> read_done member.Drop)
    (choose (is_word_of (codes "loop")) (read_word end (codes "loop") >> read_done member.Loop)
    (choose is_picking (read_picked end room) (read_name end >>= λ n.
    read_done (member.Here n.name n.at))))

unfoldable pub starts_member : TokenKind → Bool
starts_member kind = is_word_of (codes "drop") kind || (is_word_of (codes "loop") kind
    || (is_picking kind || is_name_kind kind))

unfoldable pub read_members : ℕ → ℕ → Reading (List Member)
read_members end room = read_all starts_member (read_member end room)

unfoldable pub read_class : ℕ → ℕ → Reading PathExpr
read_class end room =
    read_open end 91 room >> (whether_mark end 94 >>= λ negated.
    read_members end (room - 1) >>= λ members.
    read_mark end 93 >> read_done (expr.Class negated members))

unfoldable pub read_times : ℕ → ℕ → Reading ℕ
read_times end room = read_open end 123 room >> (read_number end >>= λ n.
    read_mark end 125 >> read_done n)

abbrev pub read_group : ℕ → ℕ → Reading PathExpr → Reading PathExpr
read_group end room inside =
    read_open end 40 room >> choose (is_mark_of 41) (read_mark end 41 >> read_done expr.Empty)
    (inside >>= λ e. read_mark end 41 >> read_done e)

abbrev pub read_atom : ℕ → ℕ → Reading PathExpr → Reading PathExpr
read_atom end room group =
    choose (is_mark_of 46) (read_mark end 46 >> read_done expr.Any)
    (choose (is_mark_of 40) group
    (choose (is_mark_of 91) (read_class end room)
    (choose is_reference_kind (read_reference end >>= λ n. read_done (expr.Reference n.name n.at))
    (read_member end room >>= λ m. read_done (expr.One m)))))

unfoldable pub read_postfix : ℕ → ℕ → PathExpr → Reading PathExpr
read_postfix end room e =
    choose (is_mark_of 42) (read_mark end 42 >> read_done (expr.Star e))
    (choose (is_mark_of 43) (read_mark end 43 >> read_done (expr.Plus e))
    (choose (is_mark_of 63) (read_mark end 63 >> read_done (expr.Maybe e))
    (choose (is_mark_of 123) (read_times end room >>= λ n.
    read_done (expr.Times e n)) (read_done e))))

abbrev pub read_postfixed : ℕ → ℕ → Reading PathExpr → Reading PathExpr
read_postfixed end room atom = atom >>= read_postfix end room

abbrev pub read_negation : ℕ → Reading PathExpr → Reading PathExpr
read_negation end postfixed = choose (is_mark_of 33) (read_mark end 33 >> (postfixed >>= λ e.
    read_done (expr.Not e))) postfixed

unfoldable pub starts_path : TokenKind → Bool
starts_path kind = is_mark_of 33 kind || (is_mark_of 46 kind
    || (is_mark_of 40 kind || (is_mark_of 91 kind || (is_reference_kind kind
    || starts_member kind))))

abbrev pub read_sequence : Reading PathExpr → Reading PathExpr
read_sequence negation = read_chain expr.Seq starts_path negation negation

abbrev pub read_conjunction : ℕ → Reading PathExpr → Reading PathExpr
read_conjunction end sequence = read_chain expr.And (is_mark_of 38)
    (read_mark end 38 >> sequence) sequence

abbrev pub read_alternation : ℕ → Reading PathExpr → Reading PathExpr
read_alternation end conjunction = read_chain expr.Alt (is_mark_of 124)
    (read_mark end 124 >> conjunction) conjunction

abbrev pub read_expression : ℕ → ℕ → Reading PathExpr → Reading PathExpr
read_expression end room inside =
    read_alternation end (read_conjunction end
    (read_sequence (read_negation end (read_postfixed end room
    (read_atom end room (read_group end room inside))))))

unfoldable pub read_path : ℕ → ℕ → Reading PathExpr
read_path end zero = read_expression end zero (λ _. Err Memory)
read_path end (suc room) = read_expression end (suc room) (read_path end room)

-- what is read in brackets, of which so many may be opened
unfoldable pub path_inside : ℕ → ℕ → Reading PathExpr
path_inside end zero = λ _. Err Memory
path_inside end (suc room) = read_path end room

unfoldable pub group_at : ℕ → ℕ → Reading PathExpr
group_at end room = read_group end room (path_inside end room)

unfoldable pub atom_at : ℕ → ℕ → Reading PathExpr
atom_at end room = read_atom end room (group_at end room)

unfoldable pub postfixed_at : ℕ → ℕ → Reading PathExpr
postfixed_at end room = read_postfixed end room (atom_at end room)

unfoldable pub negation_at : ℕ → ℕ → Reading PathExpr
negation_at end room = read_negation end (postfixed_at end room)

unfoldable pub sequence_at : ℕ → ℕ → Reading PathExpr
sequence_at end room = read_sequence (negation_at end room)

unfoldable pub conjunction_at : ℕ → ℕ → Reading PathExpr
conjunction_at end room = read_conjunction end (sequence_at end room)

unfoldable pub alternation_at : ℕ → ℕ → Reading PathExpr
alternation_at end room = read_alternation end (conjunction_at end room)

-- the forms of a chain of parts
abbrev pub form : Joint → List PathExpr → PathExpr
form joint.Alt = expr.Alt
form joint.And = expr.And
form joint.Seq = expr.Seq

-- what a further part begins with
abbrev pub goes_on : Joint → TokenKind → Bool
goes_on joint.Alt = is_mark_of 124
goes_on joint.And = is_mark_of 38
goes_on joint.Seq = starts_path

unfoldable pub part_at : Joint → ℕ → ℕ → Reading PathExpr
part_at joint.Alt end room = conjunction_at end room
part_at joint.And end room = sequence_at end room
part_at joint.Seq end room = negation_at end room

-- what stands between two parts
unfoldable pub read_joint : Joint → ℕ → Reading ⊤
read_joint joint.Alt end = read_mark end 124
read_joint joint.And end = read_mark end 38
read_joint joint.Seq end = read_done tt

unfoldable pub next_at : Joint → ℕ → ℕ → Reading PathExpr
next_at j end room = read_joint j end >> part_at j end room

unfoldable pub chain_at : Joint → ℕ → ℕ → Reading PathExpr
chain_at joint.Alt end room = alternation_at end room
chain_at joint.And end room = conjunction_at end room
chain_at joint.Seq end room = sequence_at end room

unfoldable pub more_at : Joint → ℕ → ℕ → List PathExpr → Reading (List PathExpr)
more_at joint end room before = read_onto before (read_all (goes_on joint) (next_at joint end room))
