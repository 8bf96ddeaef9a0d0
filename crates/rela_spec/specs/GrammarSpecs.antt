-- The grammar of specifications of changes. A phrase with a number has at most so many brackets nested in it.
use Rattle.std.specs.Prelude.{ℕ, zero, suc, codes}
use Rattle.rela_spec.specs.Phrases.{Phrase, done, none, ◌>>=◌, ◌>>◌, ◌or◌, chain, bracketed}
use Rattle.rela_spec.specs.GrammarWords.{mark, word, reference}
use Rattle.rela_spec.specs.GrammarPaths.{path}
use Rattle.rela_spec.specs.declared.tree.PathExpr.{PathExpr}
use Rattle.rela_spec.specs.declared.tree.Modifier.{Modifier}
use Rattle.rela_spec.specs.declared.tree.Modifier.TheVariants as modifier
use Rattle.rela_spec.specs.declared.tree.SpecExpr.{SpecExpr}
use Rattle.rela_spec.specs.declared.tree.SpecExpr.TheVariants as spec

-- a path expression in brackets
unfoldable pub argument : ℕ → Phrase PathExpr
argument room = bracketed room (mark 40) λ inner. path inner >>= λ e. mark 41 >> done e

-- two path expressions in brackets
unfoldable pub replacement : ℕ → Phrase (Modifier PathExpr)
replacement room = bracketed room (mark 40) λ inner. do
  old ← path inner
  mark 44
  new ← path inner
  mark 41
  done (modifier.Replace old new)

unfoldable pub change : ℕ → Phrase (Modifier PathExpr)
change room =
    (word (codes "preserve") >> done modifier.Preserve)
    or (word (codes "drop") >> done modifier.Drop)
    or (word (codes "add") >> (argument room >>= λ e. done (modifier.Add e)))
    or (word (codes "remove") >> (argument room >>= λ e. done (modifier.Remove e)))
    or (word (codes "replace") >> replacement room)
    or (word (codes "any") >> (argument room >>= λ e. done (modifier.AnyOf e)))
    or (word (codes "ignore") >> (argument room >>= λ e. done (modifier.Ignore e)))

-- a zone with what has to become of its paths
unfoldable pub unit : ℕ → Phrase SpecExpr
unit room = bracketed room (mark 123) λ inner. do
  zone ← path inner
  mark 58
  m ← change inner
  mark 125
  done (spec.Unit zone m)

unfoldable pub single : ℕ → Phrase SpecExpr → Phrase SpecExpr
single room inside =
    (reference >>= λ n. done (spec.Reference n.name n.at))
    or bracketed room (mark 40) (λ _. inside >>= λ s. mark 41 >> done s)
    or unit room

-- `else` binds less than `then`
unfoldable pub alternatives : ℕ → Phrase SpecExpr → Phrase SpecExpr
alternatives room inside = chain spec.Else (word (codes "else"))
    (chain spec.Then (word (codes "then")) (single room inside))

unfoldable pub body : ℕ → Phrase SpecExpr
body zero = alternatives zero none
body (suc room) = alternatives (suc room) (body room)
