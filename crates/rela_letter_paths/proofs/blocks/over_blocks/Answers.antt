use Rattle.std.proofs.Common.{◌≡◌, ℕ, ◌↔◌, List, map, sym, ◌∙◌, ap, subst}
use Rattle.std.proofs.lemmas.Result.{IfOk-weaker}
use Rattle.rela_labels.specs.Partition.{block_of}
use Rattle.rela_letter_nfa.specs.LetterAutomaton.{AreEdgesOf, LetterAutomaton, states}
use Rattle.rela_letter_nfa.specs.Runs.{Accepts}
use Rattle.rela_letter_nfa.specs.declared.edge.LetterEdge.{LetterEdge}
use Rattle.rela_letter_paths.proofs.RenamedStates.{renamed_lead}
use Rattle.rela_letter_paths.proofs.RenamedWords.{renamed_words}
use Rattle.rela_letter_paths.specs.Letters.{renamed}
use Rattle.rela_letter_paths.proofs.blocks.over_blocks.Goals as goal

pub with_edges-requires-clause-lead : goal.with_edges-requires-clause-lead
with_edges-requires-clause-lead c =
    subst (λ (l : List (List LetterEdge)). AreEdgesOf (states c.args.paths.now) l) (sym (ap (λ l. l.0) c.in_ok-edges.ensures))
    (renamed_lead (block_of c.args.blocks.now) c.args.paths.now c.states.ensures.automaton)

pub returns-clause-language : goal.returns-clause-language
returns-clause-language c =
    let a = c.args.paths.now in
    let read : ℕ → ℕ = block_of c.args.blocks.now in
    let with : List (List LetterEdge) → LetterAutomaton = λ l. record { start = a.start; finals = a.finals; silents = a.silents; edges = l } in
    let same : with c.in_ok-edges.edges.0 ≡ renamed read a = ap (λ l. with l.0) c.in_ok-edges.ensures in
    IfOk-weaker c.with_edges.result (λ made. made ≡ with c.in_ok-edges.edges.0) (λ made. (v : List ℕ) → Accepts made v ↔ ((u : List ℕ) × Accepts a u × (map read u ≡ v)))
    (λ made is. subst (λ (m : LetterAutomaton). (v : List ℕ) → Accepts m v ↔ ((u : List ℕ) × Accepts a u × (map read u ≡ v))) (sym (is ∙ same)) (renamed_words read a))
    c.with_edges.ensures
