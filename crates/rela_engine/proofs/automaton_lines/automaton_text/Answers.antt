use Rattle.std.proofs.Common.{◌≡◌, ◌∙◌, ◌<◌, ℕ, List, length, get_or, map, ap, sym, subst}
use Rattle.std.specs.List.{range_with_len}
use Rattle.std.specs.Prelude.{codes}
use Rattle.std.proofs.lemmas.List.FromFn.{length-map-range_with_len}
use Rattle.rela_labels.specs.Partition.{block_of}
use Rattle.rela_names.specs.Alphabet.{path_symbols}
use Rattle.rela_subset.specs.Deterministic.{next, states}
use Rattle.rela_engine.specs.AutomatonText.{number_line}
use Rattle.rela_engine.proofs.WrittenAutomata.{row_is, state_more}
use Rattle.rela_engine.proofs.automaton_lines.automaton_text.Goals as goal

pub push_state-requires : goal.push_state-requires
push_state-requires c =
    ap length (c.deref-in-loop-q.ensures.value ∙ c.in_ok-row.ensures)
    ∙ length-map-range_with_len (λ s. get_or c.deref.result.now (block_of c.args.blocks.now s) 0) 0 c.len.result
    ∙ c.len.ensures.len

pub loop-q-preserved : goal.loop-q-preserved
loop-q-preserved c =
    let blocks = c.args.blocks.now in
    let n = path_symbols c.args.alphabet.now in
    let d = c.args.dfa.now in
    let ok = c.states.ensures.deterministic in
    let by_letter = c.deref.result.now in
    let row = c.deref-in-loop-q.result.now in
    let led = subst (λ (targets : List ℕ). (k : ℕ) → k < length d.over → get_or targets k 0 ≡ next d c.loop-q.q k) (sym c.deref.ensures.value) c.in_ok-by_letter.ensures.led in
    let row_at = c.deref-in-loop-q.ensures.value ∙ c.in_ok-row.ensures
    ∙ ap (λ (m : ℕ). map (λ s. get_or by_letter (block_of blocks s) 0) (range_with_len 0 m)) c.len.ensures.len in
    state_more blocks n d c.requires.symbols ok c.requires.over c.args.alphabet.now c.loop-q.q c.is_final.result row (number_line (codes "states ") (states d))
    c.loop-q.text.items c.push_state.new.text.items (subst (λ (m : ℕ). c.loop-q.q < m) c.states-q-end.ensures.states c.loop-q-test.true)
    (row_is blocks n d c.requires.symbols ok c.requires.over c.loop-q.q by_letter row led row_at) c.is_final.ensures c.in_ok-push_state.ensures c.loop-q.invariant
