-- The grammar of predicates on flows. A phrase with a number has at most so many brackets nested in it.
use Rattle.std.specs.Prelude.{ℕ, zero, suc, codes}
use Rattle.rela_flows.specs.declared.prefix.Prefix.{Prefix}
use Rattle.rela_flows.specs.declared.predicate.Predicate.{Predicate}
use Rattle.rela_flows.specs.declared.predicate.Predicate.TheVariants as flows
use Rattle.rela_spec.specs.Phrases.{Phrase, done, ◌>>=◌, ◌>>◌, ◌or◌, none, chain, bracketed}
use Rattle.rela_spec.specs.GrammarWords.{mark, word, name, prefix}

-- a test by the place of a prefix
unfoldable pub placed : (Prefix → Predicate) → (Prefix → Predicate) → Phrase Predicate
placed within overlapping =
    (word (codes "in") >> (prefix >>= λ p. done (within p)))
    or (word (codes "overlaps") >> (prefix >>= λ p. done (overlapping p)))

unfoldable pub test : Phrase Predicate
test =
    (word (codes "all") >> done flows.All)
    or (word (codes "dst") >> placed flows.DstIn flows.DstOverlaps)
    or (word (codes "src") >> placed flows.SrcIn flows.SrcOverlaps)
    or (word (codes "flow") >> (name >>= λ n. done (flows.Flow n.name)))
    or (word (codes "class") >> (name >>= λ n. done (flows.Class n.name)))

unfoldable pub single : ℕ → Phrase Predicate → Phrase Predicate
single room inside = bracketed room (mark 40) (λ _. inside >>= λ p. mark 41 >> done p) or test

unfoldable pub denial : ℕ → Phrase Predicate → Phrase Predicate
denial room inside = (word (codes "not") >> (single room inside >>= λ p. done (flows.Not p))) or
    single room inside

-- `or` binds the least, then `and`, then `not`
unfoldable pub disjunction : ℕ → Phrase Predicate → Phrase Predicate
disjunction room inside = chain flows.Or (word (codes "or")) (chain flows.And (word (codes "and"))
    (denial room inside))

unfoldable pub predicate : ℕ → Phrase Predicate
predicate zero = disjunction zero none
predicate (suc room) = disjunction (suc room) (predicate room)
