use Rattle.std.proofs.Common.{◌≡◌, ℕ, ◌<◌, ◌≤◌, ◌↔◌, List, Some, length, get_or, sym, ap, ◌∙◌, subst, arith}
use Rattle.std.specs.List.{slice_get}
use Rattle.std.proofs.lemmas.Option.{slice_get-get_or}
use Rattle.rela_letter_nfa.specs.LetterAutomaton.{LetterAutomaton, from_parts}
use Rattle.rela_letter_nfa.specs.Runs.{Accepts}
use Rattle.rela_letter_image.specs.Coarse.{coarse_of}
use Rattle.rela_letter_source.specs.Sources.{IsSourceOf}
use Rattle.rela_letter_source.specs.Steps.{standing}
use Rattle.rela_letter_source.specs.declared.configuration.Configuration.{Configuration}
use Rattle.rela_letter_source.proofs.BuiltStates.{all_ok, all_product, built_more}
use Rattle.rela_letter_source.proofs.SourceWords.{source_words}
use Rattle.rela_letter_source.proofs.sources.sources.Goals as goal

-- the configuration that was read from a list of them
one_read : (found read : List Configuration) (n m : ℕ) (none : Configuration) → read ≡ found → m ≡ n → n < length found → slice_get found n ≡ Some (get_or read m none)
one_read found read n m none same is below = slice_get-get_or found n none below ∙ (λ i. Some (get_or (sym same i) (sym is i) none))

pub queue-preserved : goal.queue-preserved
queue-preserved c =
    let grown = c.queue.growing in
    let n = length grown.parts.finals in
    let none : Configuration = standing 0 0 0 in
    let x : Configuration = get_or c.found-in-queue.result.now c.states-in-queue-2.result none in
    let below : n < length grown.found = omega (arith, c.states-in-queue.ensures, c.queue-test.true, ap (λ (l : List Configuration). length l) c.found.ensures.found) in
    let at = one_read grown.found c.found-in-queue.result.now n c.states-in-queue-2.result none c.found-in-queue.ensures.found c.states-in-queue-2.ensures below in
    built_more c.args.coarse.now c.args.word.now c.args.paths.now c.args.relation.now grown c.add_state.new.growing x c.queue.invariant at c.in_ok-add_state.ensures

pub finish-requires-clause-automaton : goal.finish-requires-clause-automaton
finish-requires-clause-automaton c =
    let grown = c.queue.growing in
    let done : length grown.found ≤ length grown.parts.finals = omega (arith, c.states-in-queue.ensures, c.queue-test.false, ap (λ (l : List Configuration). length l) c.found.ensures.found) in
    all_ok c.args.coarse.now c.args.word.now c.args.paths.now c.args.relation.now grown c.queue.invariant done

pub returns : goal.returns
returns c =
    let grown = c.queue.growing in
    let coarse = c.args.coarse.now in
    let word = c.args.word.now in
    let a = c.args.paths.now in
    let t = c.args.relation.now in
    let done : length grown.found ≤ length grown.parts.finals = omega (arith, c.states-in-queue.ensures, c.queue-test.false, ap (λ (l : List Configuration). length l) c.found.ensures.found) in
    subst (λ (r : LetterAutomaton). (u : List ℕ) → Accepts r u ↔ IsSourceOf (coarse_of t.letters coarse) a t word u) (sym c.finish.ensures)
    (source_words (coarse_of t.letters coarse) a t word grown.found (from_parts grown.parts 0) (all_product coarse word a t grown c.queue.invariant done))
