-- Readings of predicates on flows. A reading with a number may open so many brackets one within the other.
use Rattle.std.specs.Prelude.{ℕ, zero, suc, Err, List, codes}
use Rattle.rela_flows.specs.declared.prefix.Prefix.{Prefix}
use Rattle.rela_flows.specs.declared.predicate.Predicate.{Predicate}
use Rattle.rela_flows.specs.declared.predicate.Predicate.TheVariants as flows
use Rattle.rela_lex.specs.declared.error.SpecError.TheVariants.{Memory}
use Rattle.rela_spec.specs.Grammar.{is_mark_of}
use Rattle.rela_spec.specs.ReadWords.{is_word_of, read_mark, read_word, read_name, read_prefix}
use Rattle.rela_spec.specs.Readings.{Reading, choose, read_done, read_open, read_all, read_chain, read_onto, ◌>>=◌, ◌>>◌}
use Rattle.rela_spec.specs.declared.parsing.predicates.Joint.{Joint}
use Rattle.rela_spec.specs.declared.parsing.predicates.Joint.TheVariants as joint

abbrev pub read_placed : ℕ → (Prefix → Predicate) → (Prefix → Predicate) → Reading Predicate
read_placed end within overlapping =
    choose (is_word_of (codes "in")) (read_word end (codes "in") >> (read_prefix end >>= λ p.
    read_done (within p)))
    (read_word end (codes "overlaps") >> (read_prefix end >>= λ p. read_done (overlapping p)))

unfoldable pub read_destination : ℕ → Reading Predicate
read_destination end = read_placed end flows.DstIn flows.DstOverlaps

unfoldable pub read_source : ℕ → Reading Predicate
read_source end = read_placed end flows.SrcIn flows.SrcOverlaps

unfoldable pub read_test : ℕ → Reading Predicate
read_test end =
    choose (is_word_of (codes "all")) (read_word end (codes "all") >> read_done flows.All)
    (choose (is_word_of (codes "dst")) (read_word end (codes "dst") >> read_destination end)
    (choose (is_word_of (codes "src")) (read_word end (codes "src") >> read_source end)
    (choose (is_word_of (codes "flow")) (read_word end (codes "flow") >> (read_name end >>= λ n.
    read_done (flows.Flow n.name)))
    (read_word end (codes "class") >> (read_name end >>= λ n. read_done (flows.Class n.name))))))

abbrev pub read_group : ℕ → ℕ → Reading Predicate → Reading Predicate
read_group end room inside = read_open end 40 room >> (inside >>= λ p.
    read_mark end 41 >> read_done p)

abbrev pub read_single : ℕ → Reading Predicate → Reading Predicate
read_single end group = choose (is_mark_of 40) group (read_test end)

abbrev pub read_denial : ℕ → Reading Predicate → Reading Predicate
read_denial end single = choose (is_word_of (codes "not"))
    (read_word end (codes "not") >> (single >>= λ p. read_done (flows.Not p))) single

abbrev pub read_conjunction : ℕ → Reading Predicate → Reading Predicate
read_conjunction end denial = read_chain flows.And (is_word_of (codes "and"))
    (read_word end (codes "and") >> denial) denial

abbrev pub read_disjunction : ℕ → Reading Predicate → Reading Predicate
read_disjunction end conjunction = read_chain flows.Or (is_word_of (codes "or"))
    (read_word end (codes "or") >> conjunction) conjunction

abbrev pub read_over : ℕ → ℕ → Reading Predicate → Reading Predicate
read_over end room inside = read_disjunction end
    (read_conjunction end (read_denial end (read_single end (read_group end room inside))))

unfoldable pub read_predicate : ℕ → ℕ → Reading Predicate
read_predicate end zero = read_over end zero (λ _. Err Memory)
read_predicate end (suc room) = read_over end (suc room) (read_predicate end room)

-- what is read in brackets, of which so many may be opened
unfoldable pub predicate_inside : ℕ → ℕ → Reading Predicate
predicate_inside end zero = λ _. Err Memory
predicate_inside end (suc room) = read_predicate end room

unfoldable pub group_at : ℕ → ℕ → Reading Predicate
group_at end room = read_group end room (predicate_inside end room)

unfoldable pub single_at : ℕ → ℕ → Reading Predicate
single_at end room = read_single end (group_at end room)

unfoldable pub denial_at : ℕ → ℕ → Reading Predicate
denial_at end room = read_denial end (single_at end room)

unfoldable pub conjunction_at : ℕ → ℕ → Reading Predicate
conjunction_at end room = read_conjunction end (denial_at end room)

unfoldable pub disjunction_at : ℕ → ℕ → Reading Predicate
disjunction_at end room = read_disjunction end (conjunction_at end room)

-- the forms of a chain of parts
abbrev pub form : Joint → List Predicate → Predicate
form joint.Or = flows.Or
form joint.And = flows.And

-- what a further part begins with
abbrev pub between : Joint → List ℕ
between joint.Or = codes "or"
between joint.And = codes "and"

unfoldable pub part_at : Joint → ℕ → ℕ → Reading Predicate
part_at joint.Or end room = conjunction_at end room
part_at joint.And end room = denial_at end room

unfoldable pub next_at : Joint → ℕ → ℕ → Reading Predicate
next_at j end room = read_word end (between j) >> part_at j end room

unfoldable pub chain_at : Joint → ℕ → ℕ → Reading Predicate
chain_at joint.Or end room = disjunction_at end room
chain_at joint.And end room = conjunction_at end room

unfoldable pub more_at : Joint → ℕ → ℕ → List Predicate → Reading (List Predicate)
more_at j end room before = read_onto before (read_all (is_word_of (between j))
    (next_at j end room))

-- how much deeper than what is in its brackets a part of a chain may be
abbrev pub within : Joint → ℕ
within joint.Or = 3
within joint.And = 2
