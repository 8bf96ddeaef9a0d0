use Rattle.std.proofs.Common.{◌≤◌, List, ℕ, length, arith, subst, sym}
use Rattle.std.proofs.lemmas.Result.{IfOk-weaker}
use Rattle.rela_build.specs.Reading.{read_by}
use Rattle.rela_letter_image.specs.Coarse.{coarse_of}
use Rattle.rela_letter_source.specs.Sources.{IsSourceOf}
use Rattle.rela_names.specs.Alphabet.{path_symbols}
use Rattle.rela_names.specs.Shortlex.{First}
use Rattle.rela_trans.specs.Runs.{Relates}
use Rattle.rela_engine.specs.Case.{paths_in}
use Rattle.rela_engine.specs.LetterImages.{TellsFirst, TellsSource}
use Rattle.rela_engine.proofs.LeastWords.{paths_least}
use Rattle.rela_engine.proofs.LetterImages.{source_alike, tells_first_path}
use Rattle.rela_engine.proofs.by_letters.row_with_source.Goals as goal

pub returns-in-Some : goal.returns-in-Some
returns-in-Some g c =
    let case = c.args.case.now in
    let k = case.compiled.now in
    let names = case.alphabet.now in
    let blocks = case.blocks.now in
    let graph = c.args.graph.now in
    let t = c.args.relation.now.small in
    let laid_out = c.letters.result.now in
    let paths = c.args.paths.now in
    let parents = c.args.parents.now in
    let letters = c.args.offence.now.letters in
    let of = c.args.offence.now.side in
    let seen = c.requires.side in
    let few : path_symbols names ≤ length blocks =
    omega (arith, seen.blocks.refines.same_symbols, c.blocks-2.ensures.together.symbols, seen.alphabet) in
    let least = paths_least blocks graph k.check.level names c.nodes.ensures.topology few seen.placed seen.blocks.before seen.blocks.drops seen.blocks.loops in
    let source = c.as_slice.result.now in
    let told = rw c.in-Some.is at c.in_ok-source.ensures in
    let of_letters = subst (λ (l : List ℕ). First (IsSourceOf (coarse_of laid_out.letters parents) paths laid_out l) c.in-Some.source) c.as_slice-letters.ensures told.first in
    let first = subst (λ (l : List ℕ). First (IsSourceOf (coarse_of t.letters parents) paths t letters) l) (sym c.as_slice.ensures)
    (source_alike parents paths laid_out t letters c.in-Some.source c.letters.ensures of_letters) in
    IfOk-weaker c.row_of_letters.result (TellsSource blocks letters of source)
    (TellsFirst blocks (paths_in case graph) (Relates (read_by k.blocks) t) letters of)
    (λ row tells. tells_first_path k.blocks blocks parents seen.blocks.refines.same_symbols c.requires.parents seen.blocks.partition (paths_in case graph) paths t
    c.requires.paths seen.of_relation least letters of source row first tells)
    c.row_of_letters.ensures
