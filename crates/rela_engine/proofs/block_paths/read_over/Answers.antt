use Rattle.std.proofs.Common.{◌≡◌, ◌≤◌, ◌↔◌, ℕ, List, length, arith}
use Rattle.std.proofs.lemmas.Result.{IfOk-weaker}
use Rattle.rela_graph.specs.Paths.{Paths}
use Rattle.rela_letter_nfa.specs.Runs.{Accepts}
use Rattle.rela_names.specs.Alphabet.{path_symbols}
use Rattle.rela_nfa.specs.Relabelling.{blocks_of}
use Rattle.rela_engine.specs.LetterImages.{IsReadOver}
use Rattle.rela_engine.proofs.BlockPaths.{read_over}
use Rattle.rela_engine.proofs.block_paths.read_over.Goals as goal

pub returns : goal.returns
returns c =
    let names = c.args.alphabet.now in
    let blocks = c.args.blocks.now in
    let level = c.args.compiled.now.check.level in
    let paths = c.args.paths.now in
    let few : path_symbols names ≤ length blocks =
    omega (arith, c.requires.blocks.refines.same_symbols, c.blocks-2.ensures.together.symbols, c.requires.alphabet) in
    IfOk-weaker c.over_blocks.result (λ made. (v : List ℕ) → Accepts made v ↔ ((u : List ℕ) × Accepts paths u × (blocks_of blocks u ≡ v)))
    (IsReadOver blocks (Paths c.args.graph.now level names))
    (λ made language. read_over c.args.compiled.now.blocks blocks c.args.graph.now level names paths made c.nodes.ensures.topology few c.requires.placed
    c.requires.blocks c.requires.paths language)
    c.over_blocks.ensures.language
