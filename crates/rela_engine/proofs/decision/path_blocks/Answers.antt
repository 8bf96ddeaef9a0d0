use Rattle.std.proofs.Common.{◌≡◌, ◌<◌, ℕ, List, length, map, refl, ◌∙◌, ap, sym, subst}
use Rattle.std.specs.List.{All}
use Rattle.std.proofs.lemmas.Result.{IfOk-weaker}
use Rattle.rela_build.specs.Reading.{read_by}
use Rattle.rela_graph.specs.Paths.{Paths}
use Rattle.rela_labels.specs.Partition.{block_count, block_of}
use Rattle.rela_restriction.specs.Excess.{IsReadAs}
use Rattle.rela_engine.proofs.MetOn.{gathered, inputs_below, paths_read}
use Rattle.rela_engine.proofs.decision.path_blocks.Goals as goal

pub blocks_of_each-requires : goal.blocks_of_each-requires
blocks_of_each-requires c =
    let k = c.args.compiled.now in
    let found = gathered k.check k.locations k.blocks k.check.level c.level.result (length c.args.alphabet.now) c.args.graph.now c.nodes-nodes.result.now c.as_slice.result.now
    c.blocks-blocks.ensures.together c.requires.alphabet c.level.ensures c.nodes-nodes.ensures.nodes (c.as_slice.ensures.value ∙ c.in_ok-symbols.ensures) c.requires.placed in
    subst (λ (b : List ℕ). All (λ s. s < length b) c.as_slice.result.now) (sym c.blocks-blocks.ensures.blocks) found.2

pub returns-clause-below : goal.returns-clause-below
returns-clause-below c =
    let k = c.args.compiled.now in
    let symbols = c.as_slice.result.now in
    let found = gathered k.check k.locations k.blocks k.check.level c.level.result (length c.args.alphabet.now) c.args.graph.now c.nodes-nodes.result.now symbols
    c.blocks-blocks.ensures.together c.requires.alphabet c.level.ensures c.nodes-nodes.ensures.nodes (c.as_slice.ensures.value ∙ c.in_ok-symbols.ensures) c.requires.placed in
    IfOk-weaker c.blocks_of_each.result (λ inputs. inputs.items ≡ map (block_of c.blocks-blocks.result.now) symbols) (λ inputs. All (λ b. b < block_count k.blocks) inputs.items)
    (λ inputs are.
    subst (All (λ b. b < block_count k.blocks)) (sym (are ∙ ap (λ (b : List ℕ). map (block_of b) symbols) c.blocks-blocks.ensures.blocks))
    (inputs_below k.blocks symbols found.2))
    c.blocks_of_each.ensures

pub returns-clause-paths : goal.returns-clause-paths
returns-clause-paths c =
    let k = c.args.compiled.now in
    let g = c.args.graph.now in
    let names = c.args.alphabet.now in
    let symbols = c.as_slice.result.now in
    let found = gathered k.check k.locations k.blocks k.check.level c.level.result (length names) g c.nodes-nodes.result.now symbols
    c.blocks-blocks.ensures.together c.requires.alphabet c.level.ensures c.nodes-nodes.ensures.nodes (c.as_slice.ensures.value ∙ c.in_ok-symbols.ensures) c.requires.placed in
    IfOk-weaker c.blocks_of_each.result (λ inputs. inputs.items ≡ map (block_of c.blocks-blocks.result.now) symbols)
    (λ inputs. (w : List ℕ) → Paths g k.check.level names w → IsReadAs (read_by k.blocks) inputs.items w)
    (λ inputs are w path.
    let they = are ∙ ap (λ (b : List ℕ). map (block_of b) symbols) c.blocks-blocks.ensures.blocks ∙ ap (map (block_of k.blocks)) found.1 in
    subst (λ (l : List ℕ). IsReadAs (read_by k.blocks) l w) (sym they)
    (paths_read k.blocks k.check.level (length names) g found.0 c.requires.placed c.nodes-nodes.ensures.topology names refl w path))
    c.blocks_of_each.ensures
