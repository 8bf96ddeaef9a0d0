use Rattle.std.proofs.Common.{◌+◌, ◌∙◌, None, sym}
use Rattle.rela_build.specs.PathSets.{no_paths}
use Rattle.rela_engine.proofs.ComplementedParts.{complement_within, exit, part_inside, sets_inside}
use Rattle.rela_engine.proofs.ZoneAutomata.{least_by, path_letters}
use Rattle.rela_engine.proofs.zone.least_automaton.Goals as goal

pub returns-clause-least : goal.returns-clause-least
returns-clause-least c =
    least_by ⊥ c.args.letters.now no_paths c.args.term.now c.in_ok-words.words c.in_ok-words.ensures.made c.path.result.now c.path.ensures
    c.in_ok-least.least c.states.ensures.deterministic c.in_ok-least.ensures.over c.in_ok-least.ensures.start c.in_ok-least.ensures.language c.in_ok-least.ensures.reached
    c.in_ok-least.ensures.minimal c.in_ok-least.ensures.arrival

pub returns-clause-within : goal.returns-clause-within
returns-clause-within c =
    complement_within c.args.letters.now no_paths c.complemented_parts_of_path_terms.ensures.complement (c.complements_inside.ensures.forced (c.args.letters.now, None)) ⊥ c.args.term.now c.in_ok-words.words c.path.result.now
    (record { made = c.in_ok-words.ensures.made; of_path = c.path.ensures }) (c.args.limit + 1) c.in_ok-least.ensures.within c.in_ok-words.ensures.within

pub returns-in_err-words-clause-past : goal.returns-in_err-words-clause-past
returns-in_err-words-clause-past c =
    exit _ _ c.from_residual.result c.from_residual.ensures.1
    (λ e is limit. part_inside c.args.letters.now no_paths (c.reached_inside_path_terms.ensures.complement (c.args.letters.now, None)) (c.args.limit + 1) c.args.term.now (c.in_err-words.ensures.past (sym is ∙ limit)))

pub least_over-requires-clause-letters : goal.least_over-requires-clause-letters
least_over-requires-clause-letters c =
    path_letters ⊥ c.args.letters.now no_paths c.args.term.now c.in_ok-words.words c.in_ok-words.ensures.made c.path.result.now c.path.ensures

pub returns-in_err-least-clause-past : goal.returns-in_err-least-clause-past
returns-in_err-least-clause-past c =
    exit _ _ c.from_residual-in_err-least.result c.from_residual-in_err-least.ensures.1
    (λ e is limit. sets_inside c.args.letters.now no_paths (c.reached_inside_path_terms.ensures.complement (c.args.letters.now, None))
    (c.reached_states_are_places.ensures (c.args.letters.now, None)).complement c.are_covered.ensures.letters ⊥ c.args.term.now c.in_ok-words.words c.path.result.now
    (record { made = c.in_ok-words.ensures.made; of_path = c.path.ensures }) (c.args.limit + 1) (c.in_err-least.ensures.past (sym is ∙ limit)))
