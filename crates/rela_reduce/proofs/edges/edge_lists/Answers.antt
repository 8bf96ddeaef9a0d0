use Rattle.std.proofs.Common.{◌≡◌, ◌∷◌, [], ◌++◌, List, get_or, map, take, ap, sym, ◌∙◌, subst, arith}
use Rattle.std.specs.List.{All}
use Rattle.std.proofs.lemmas.List.{length-map, map-append, map_more}
use Rattle.std.proofs.lemmas.List.Elements.{All-get_or}
use Rattle.rela_nfa.specs.Automaton.{Move}
use Rattle.rela_reduce.specs.Numbered.{edges_by, labelled}
use Rattle.rela_reduce.specs.Stored.{lists_of}
use Rattle.rela_reduce.specs.declared.arrow.Arrow.{Arrow}
use Rattle.rela_reduce.proofs.Labelling.{IsKnown}
use Rattle.rela_reduce.proofs.Stepping.{row_read}
use Rattle.rela_reduce.proofs.edges.edge_lists.Goals as goal

pub edges_of-requires : goal.edges_of-requires
edges_of-requires g c =
    let lists = c.args.lists.now in
    let i = c.loop-arrows.arrows-index in
    let row : c.deref.result.now ≡ get_or (lists_of lists) i [] =
    row_read lists i c.arrows-item.result c.deref.result.now c.loop-arrows-test.true c.arrows-item.is c.deref.ensures.value in
    subst (All (IsKnown _)) (sym row) (All-get_or (All (IsKnown _)) (lists_of lists) i [] (omega (arith, c.loop-arrows-test.true, length-map lists (λ v. v.items))) c.requires)

pub loop-arrows-preserved : goal.loop-arrows-preserved
loop-arrows-preserved g c =
    let lists = c.args.lists.now in
    let i = c.loop-arrows.arrows-index in
    let edges : List Arrow → List Move = map (labelled c.args.labels.now) in
    let list : c.deref.result.now ≡ (get_or lists i c.arrows-item.result).items = c.deref.ensures.value ∙ ap (λ v. v.items) c.arrows-item.is in
    c.in_ok-push.ensures.list
    ∙ ap (λ (ms : List Move). c.loop-arrows.edges ++ ms ∷ []) (c.in_ok-list.ensures ∙ ap edges list)
    ∙ ap (λ (mss : List (List Move)). mss ++ edges (get_or lists i c.arrows-item.result).items ∷ []) c.loop-arrows.invariant
    ∙ sym (map-append edges (lists_of (take i lists)) ((get_or lists i c.arrows-item.result).items ∷ []))
    ∙ ap (edges_by c.args.labels.now) (sym (map_more (λ v. v.items) lists i c.arrows-item.result c.loop-arrows-test.true))
