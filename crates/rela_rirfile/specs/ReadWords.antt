-- Readings of names and members.
use Rattle.std.specs.Prelude.{ℕ, Bool, true, false, not, Option, None, Some, codes}
use Rattle.rela_lex.specs.declared.token.TokenKind.{TokenKind}
use Rattle.rela_lex.specs.declared.token.TokenKind.TheVariants.{Bare, Quoted}
use Rattle.rela_spec.specs.GrammarWords.{Named}
use Rattle.rela_spec.specs.ReadPaths.{read_picked_by, is_picking}
use Rattle.rela_spec.specs.ReadWords.{if_so, named, is_word_of, read_mark, read_word}
use Rattle.rela_spec.specs.Readings.{Reading, choose, read_done, read_open, read_token, ◌>>=◌, ◌>>◌}
use Rattle.rela_spec.specs.declared.tree.Member.{Member}
use Rattle.rela_spec.specs.declared.tree.Member.TheVariants as member
use Rattle.rela_rirfile.specs.Keywords.{is_reserved}

abbrev pub is_name_kind : TokenKind → Bool
is_name_kind (Bare name) = not (is_reserved name)
is_name_kind (Quoted name) = true
is_name_kind _ = false

abbrev pub name_in : ℕ → TokenKind → Option Named
name_in at (Bare name) = if_so (named at name) (not (is_reserved name))
name_in at (Quoted name) = Some (named at name)
name_in at _ = None

unfoldable pub read_name : ℕ → Reading Named
read_name end = read_token (λ t. name_in t.at t.kind) end

unfoldable pub read_picked : ℕ → ℕ → Reading Member
read_picked end room =
    read_picked_by end >>= λ b. (read_open end 40 room >> (read_name end >>= λ n.
    read_mark end 41 >> read_done n)) >>= λ n. read_done (member.Within b n.name n.at)

unfoldable pub read_member : ℕ → ℕ → Reading Member
read_member end room =
    choose (is_word_of (codes "drop")) (read_word end (codes "drop") >> read_done member.Drop)
    (choose (is_word_of (codes "loop")) (read_word end (codes "loop") >> read_done member.Loop)
    (choose is_picking (read_picked end room) (read_name end >>= λ n.
    read_done (member.Here n.name n.at))))
