-- Names and members.
use Rattle.std.specs.Prelude.{◌≡◌, ◌⊎◌, ℕ, false, codes}
use Rattle.rela_lex.specs.declared.token.TokenKind.TheVariants.{Bare, Quoted}
use Rattle.rela_spec.specs.GrammarPaths.{picked_by}
use Rattle.rela_spec.specs.GrammarWords.{Named, mark, word}
use Rattle.rela_spec.specs.Phrases.{Phrase, token, done, ◌>>=◌, ◌>>◌, ◌or◌, bracketed}
use Rattle.rela_spec.specs.declared.tree.Member.{Member}
use Rattle.rela_spec.specs.declared.tree.Member.TheVariants as member
use Rattle.rela_rirfile.specs.Keywords.{is_reserved}

-- a quoted word, or a bare word that isn't reserved
abbrev pub name : Phrase Named
name = token λ t n. (n.at ≡ t.at) × ((t.kind ≡ Quoted n.name)
    ⊎ ((t.kind ≡ Bare n.name) × (is_reserved n.name ≡ false)))

-- a name in brackets, behind what it picks by
unfoldable pub picked : ℕ → Phrase Member
picked room = do
  b ← picked_by
  n ← bracketed room (mark 40) λ _. name >>= λ n. mark 41 >> done n
  done (member.Within b n.name n.at)

unfoldable pub a_member : ℕ → Phrase Member
a_member room =
    (word (codes "drop") >> done member.Drop)
    or (word (codes "loop") >> done member.Loop)
    or picked room
    or (name >>= λ n. done (member.Here n.name n.at))
