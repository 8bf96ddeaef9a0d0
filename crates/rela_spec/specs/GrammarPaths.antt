-- The grammar of path expressions. A phrase with a number has at most so many brackets nested in it.
use Rattle.std.specs.Prelude.{ℕ, zero, suc, codes}
use Rattle.rela_locations.specs.declared.members.By.{By}
use Rattle.rela_locations.specs.declared.members.By.TheVariants as by
use Rattle.rela_spec.specs.Phrases.{Phrase, done, none, ◌>>=◌, ◌>>◌, ◌or◌, whether, many, chain, bracketed}
use Rattle.rela_spec.specs.GrammarWords.{mark, word, name, reference, number}
use Rattle.rela_spec.specs.declared.tree.Member.{Member}
use Rattle.rela_spec.specs.declared.tree.Member.TheVariants as member
use Rattle.rela_spec.specs.declared.tree.PathExpr.{PathExpr}
use Rattle.rela_spec.specs.declared.tree.PathExpr.TheVariants as expr

-- what locations are picked by
unfoldable pub picked_by : Phrase By
picked_by =
    (word (codes "interface") >> done by.Interface)
    or (word (codes "device") >> done by.Device)
    or (word (codes "group") >> done by.Group)
    or (word (codes "tag") >> done by.Tag)

-- a name in brackets, behind what it picks by
unfoldable pub picked : ℕ → Phrase Member
picked room = do
  b ← picked_by
  n ← bracketed room (mark 40) λ _. name >>= λ n. mark 41 >> done n
  done (member.Within b n.name n.at)

unfoldable pub a_member : ℕ → Phrase Member
a_member room =
    (word (codes "drop") >> done member.Drop)
    or (word (codes "loop") >> done member.Loop)
    or picked room
    or (name >>= λ n. done (member.Here n.name n.at))

-- members in brackets
unfoldable pub class : ℕ → Phrase PathExpr
class room = bracketed room (mark 91) λ inner. do
  negated ← whether (mark 94)
  members ← many (a_member inner)
  mark 93
  done (expr.Class negated members)

-- a number in brackets
unfoldable pub times : ℕ → Phrase ℕ
times room = bracketed room (mark 123) λ _. number >>= λ n. mark 125 >> done n

-- the empty path, or a path expression, in brackets
unfoldable pub group : ℕ → Phrase PathExpr → Phrase PathExpr
group room inside = bracketed room (mark 40) λ _. (mark 41 >> done expr.Empty) or (inside >>= λ e.
    mark 41 >> done e)

unfoldable pub atom : ℕ → Phrase PathExpr → Phrase PathExpr
atom room inside =
    (mark 46 >> done expr.Any)
    or group room inside
    or class room
    or (reference >>= λ n. done (expr.Reference n.name n.at))
    or (a_member room >>= λ m. done (expr.One m))

-- what may stand behind an expression, at most once
unfoldable pub postfix : ℕ → PathExpr → Phrase PathExpr
postfix room e =
    (mark 42 >> done (expr.Star e))
    or (mark 43 >> done (expr.Plus e))
    or (mark 63 >> done (expr.Maybe e))
    or (times room >>= λ n. done (expr.Times e n))
    or done e

unfoldable pub negation : ℕ → Phrase PathExpr → Phrase PathExpr
negation room inside = (mark 33 >> (atom room inside >>= postfix room >>= λ e. done (expr.Not e)))
    or (atom room inside >>= postfix room)

-- `|` binds the least, then `&`, then parts in a row, then `!`, and what stands behind a part the most
unfoldable pub expression : ℕ → Phrase PathExpr → Phrase PathExpr
expression room inside = chain expr.Alt (mark 124)
    (chain expr.And (mark 38) (chain expr.Seq (done tt) (negation room inside)))

unfoldable pub path : ℕ → Phrase PathExpr
path zero = expression zero none
path (suc room) = expression (suc room) (path room)
