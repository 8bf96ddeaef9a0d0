use Rattle.std.proofs.Common.{◌<◌, length, map, sym, subst}
use Rattle.std.specs.List.{All}
use Rattle.std.proofs.lemmas.Result.{IfOk-weaker}
use Rattle.rela_build.specs.Reading.{read_by}
use Rattle.rela_graph.specs.Paths.{Paths}
use Rattle.rela_graph.specs.Topology.{symbol_at}
use Rattle.rela_names.specs.declared.level.Level.{Level}
use Rattle.rela_nfa.specs.Runs.{Accepts}
use Rattle.rela_trans.specs.Runs.{Relates}
use Rattle.rela_engine.specs.LetterImages.{TellsFirst}
use Rattle.rela_engine.specs.Seen.{NodesStandAlone, TellsOf}
use Rattle.rela_engine.proofs.LetterLaws.{word_for}
use Rattle.rela_engine.proofs.Rereading.{realises_named}
use Rattle.rela_engine.proofs.Rows.{source_from, tells_first}
use Rattle.rela_engine.proofs.by_letters.row_with_source_by_sets.Goals as goal

pub short_paths-requires-clause-placed : goal.short_paths-requires-clause-placed
short_paths-requires-clause-placed g c =
    subst (λ (l : Level). All (λ node. symbol_at l node < length c.args.case.now.alphabet.now) c.args.graph.now.nodes) (sym c.level-level.ensures) c.requires.side.placed

pub short_paths-requires-clause-alone : goal.short_paths-requires-clause-alone
short_paths-requires-clause-alone g c =
    subst (λ (l : Level). NodesStandAlone c.args.case.now.blocks.now l c.args.graph.now.nodes) (sym c.level-level.ensures) c.requires.side.blocks.before

pub row_of_source-requires-clause-some : goal.row_of_source-requires-clause-some
row_of_source-requires-clause-some g c =
    let k = c.args.case.now.compiled.now in
    let blocks = c.args.case.now.blocks.now in
    let letters = c.args.offence.now.letters in
    let words = Paths c.args.graph.now k.check.level c.args.case.now.alphabet.now in
    let pairs = Relates (read_by k.blocks) c.args.relation.now in
    let of_paths = rw c.level-level.ensures at c.in_ok-paths.ensures.paths in
    let of_relation =
    realises_named blocks (λ u. Accepts c.in_ok-paths.paths (map (read_by blocks) u)) words pairs c.in_ok-finer.finer (λ u is. (of_paths.language u).1 is)
    (rw c.blocks-coarse.ensures.blocks at c.in_ok-finer.ensures.relation) in
    let word = word_for blocks c.requires.side.blocks.partition letters c.requires.side.below in
    source_from blocks c.requires.side.blocks.partition words pairs c.in_ok-paths.paths c.in_ok-finer.finer of_paths of_relation c.in_ok-finer.ensures.machine
    letters word.0 word.1 (c.requires.side.image word.0 word.1)

pub returns : goal.returns
returns g c =
    let k = c.args.case.now.compiled.now in
    let blocks = c.args.case.now.blocks.now in
    let letters = c.args.offence.now.letters in
    let of = c.args.offence.now.side in
    let words = Paths c.args.graph.now k.check.level c.args.case.now.alphabet.now in
    let pairs = Relates (read_by k.blocks) c.args.relation.now in
    let paths = c.in_ok-paths.paths in
    let finer = c.in_ok-finer.finer in
    let of_paths = rw c.level-level.ensures at c.in_ok-paths.ensures.paths in
    let of_relation =
    realises_named blocks (λ u. Accepts paths (map (read_by blocks) u)) words pairs finer (λ u is. (of_paths.language u).1 is)
    (rw c.blocks-coarse.ensures.blocks at c.in_ok-finer.ensures.relation) in
    IfOk-weaker c.row_of_source.result (TellsOf blocks paths finer letters of) (TellsFirst blocks words pairs letters of)
    (tells_first blocks c.requires.side.blocks.partition words pairs paths finer of_paths of_relation c.in_ok-finer.ensures.machine
    (rw c.level-level.ensures at c.in_ok-paths.ensures.least) letters of)
    c.row_of_source.ensures
