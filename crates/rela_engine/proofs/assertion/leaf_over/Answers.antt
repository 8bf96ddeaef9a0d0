use Rattle.std.proofs.Common.{◌∙◌, ℕ, List, Some, subst, sym}
use Rattle.rela_build.specs.Lettering.{IsAlone}
use Rattle.rela_build.specs.Made.{IsMade}
use Rattle.rela_build.specs.Named.{Names}
use Rattle.rela_build.specs.PathSets.{scene_of}
use Rattle.rela_rir.specs.Assertions.{MayBeLeftOpen}
use Rattle.rela_rir.specs.declared.term.PathTerm.{PathTerm}
use Rattle.rela_engine.specs.Compared.{TellsVerdict}
use Rattle.rela_blocks.specs.FlowName.{FlowName, flow_paths}
use Rattle.rela_blocks.specs.Scenes.{paths_of}
use Rattle.rela_engine.proofs.RightLeaves.{exit, open_by_first, open_by_pairs, open_by_second, right, same_letters, stopped_by_pairs, untold, verdict_below}
use Rattle.rela_engine.proofs.assertion.leaf_over.Goals as goal

pub words_of-requires-clause-alone : goal.words_of-requires-clause-alone
words_of-requires-clause-alone c = subst (Names (IsAlone c.args.letters.now.blocks)) (sym c.first_term.ensures) c.requires.alone.0

pub words_of-requires-2-clause-alone : goal.words_of-requires-2-clause-alone
words_of-requires-2-clause-alone c = subst (Names (IsAlone c.args.letters.now.blocks)) (sym c.second_term.ensures) c.requires.alone.1

pub compare-requires : goal.compare-requires
compare-requires c =
    let l = c.args.letters.now in
    let flow = paths_of c.args.paths.now.level c.args.paths.now.alphabet.now c.args.paths.now.before.now c.args.paths.now.after.now in
    let a = c.in_ok-first.first in
    let b = c.in_ok-second.second in
    same_letters l c.requires.no_markers c.requires.letters flow a b c.args.assertion.now
    (subst (λ (x : PathTerm). IsMade ⊥ l flow x a) c.first_term.ensures c.in_ok-first.ensures.made, subst (λ (y : PathTerm). IsMade ⊥ l flow y b) c.second_term.ensures c.in_ok-second.ensures.made)

pub leaf_of-requires : goal.leaf_of-requires
leaf_of-requires c =
    let l = c.args.letters.now in
    let flow = paths_of c.args.paths.now.level c.args.paths.now.alphabet.now c.args.paths.now.before.now c.args.paths.now.after.now in
    let a = c.in_ok-first.first in
    let b = c.in_ok-second.second in
    rw c.partition.ensures
    (verdict_below l c.requires.no_markers c.requires.letters flow a b c.args.assertion.now
    (subst (λ (x : PathTerm). IsMade ⊥ l flow x a) c.first_term.ensures c.in_ok-first.ensures.made, subst (λ (y : PathTerm). IsMade ⊥ l flow y b) c.second_term.ensures c.in_ok-second.ensures.made)
    c.in_ok-verdict.verdict c.in_ok-verdict.ensures.side)

pub returns-clause-leaf : goal.returns-clause-leaf
returns-clause-leaf c =
    let l = c.args.letters.now in
    let flow = paths_of c.args.paths.now.level c.args.paths.now.alphabet.now c.args.paths.now.before.now c.args.paths.now.after.now in
    let a = c.in_ok-first.first in
    let b = c.in_ok-second.second in
    right l c.requires.no_markers c.requires.letters flow a b c.args.assertion.now
    (subst (λ (x : PathTerm). IsMade ⊥ l flow x a) c.first_term.ensures c.in_ok-first.ensures.made, subst (λ (y : PathTerm). IsMade ⊥ l flow y b) c.second_term.ensures c.in_ok-second.ensures.made)
    c.args.complements.now c.in_ok-verdict.verdict c.in_ok-verdict.ensures.same c.in_ok-verdict.ensures.first c.in_ok-verdict.ensures.side c.in_ok-leaf_of.field-0
    (subst (λ (blocks : List ℕ). TellsVerdict blocks c.in_ok-verdict.verdict c.in_ok-leaf_of.field-0) c.partition.ensures c.in_ok-leaf_of.ensures)

pub returns-clause-within : goal.returns-clause-within
returns-clause-within c =
    let flow = paths_of c.args.paths.now.level c.args.paths.now.alphabet.now c.args.paths.now.before.now c.args.paths.now.after.now in
    untold (scene_of c.args.letters.now flow) c.args.assertion.now c.args.complements.now c.first_term.result.now c.second_term.result.now
    c.first_term.ensures c.second_term.ensures c.in_ok-first.ensures.within c.in_ok-second.ensures.within

pub returns-in_err-first-clause-open : goal.returns-in_err-first-clause-open
returns-in_err-first-clause-open c =
    let flow = paths_of c.args.paths.now.level c.args.paths.now.alphabet.now c.args.paths.now.before.now c.args.paths.now.after.now in
    exit _ _ c.from_residual.result c.from_residual.ensures.1
    (λ e is other. open_by_first (scene_of c.args.letters.now flow) c.args.assertion.now c.args.complements.now c.first_term.result.now c.first_term.ensures
    (c.in_err-first.ensures.past (λ memory. other (is ∙ memory))))

pub returns-in_err-second-clause-open : goal.returns-in_err-second-clause-open
returns-in_err-second-clause-open c =
    let flow = paths_of c.args.paths.now.level c.args.paths.now.alphabet.now c.args.paths.now.before.now c.args.paths.now.after.now in
    exit _ _ c.from_residual-in_err-second.result c.from_residual-in_err-second.ensures.1
    (λ e is other. open_by_second (scene_of c.args.letters.now flow) c.args.assertion.now c.args.complements.now c.second_term.result.now c.second_term.ensures
    (c.in_err-second.ensures.past (λ memory. other (is ∙ memory))))

pub returns-in_err-verdict-clause-open : goal.returns-in_err-verdict-clause-open
returns-in_err-verdict-clause-open c =
    let l = c.args.letters.now in
    let f : FlowName = record { level = c.args.paths.now.level; names = c.args.paths.now.alphabet.now; before = c.args.paths.now.before.now; after = c.args.paths.now.after.now } in
    let flow = flow_paths f in
    let a = c.in_ok-first.first in
    let b = c.in_ok-second.second in
    exit _ _ c.from_residual-in_err-verdict.result c.from_residual-in_err-verdict.ensures.1
    (λ e is. stopped_by_pairs (MayBeLeftOpen (scene_of l flow) c.args.assertion.now c.args.complements.now) _ e is
    (λ limit. open_by_pairs l c.requires.no_markers c.requires.letters flow a b (c.reached_states_are_places.ensures (l, Some f)).comparison c.args.assertion.now
    (subst (λ (x : PathTerm). IsMade ⊥ l flow x a) c.first_term.ensures c.in_ok-first.ensures.made, subst (λ (y : PathTerm). IsMade ⊥ l flow y b) c.second_term.ensures c.in_ok-second.ensures.made)
    c.args.complements.now (rw c.limit.ensures.limit at (c.in_err-verdict.ensures.limit limit))))
