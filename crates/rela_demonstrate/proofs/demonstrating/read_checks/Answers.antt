use Rattle.rela_inputs.specs.Specified.{specified_by}
use Rattle.rela_demonstrate.proofs.Forms.{Sizes}
use Rattle.rela_demonstrate.proofs.LayerLaws.{memory_passed, tree_is, tree_memory, asked_here, asked_read}
use Rattle.rela_demonstrate.proofs.demonstrating.read_checks.Goals as goal

pub returns-in_err-file-clause-layered : goal.returns-in_err-file-clause-layered
returns-in_err-file-clause-layered c = λ n here is.
    memory_passed _ c.from_residual.result c.in_err-file.field-0.0 c.from_residual.ensures.1
    (tree_memory n _ _ c.in_err-file.field-0.0 c.spec.ensures c.in_err-file.ensures.tree is.spec)

pub returns-clause-layered : goal.returns-clause-layered
returns-clause-layered c = λ n here is.
    let tree = tree_is n _ _ c.in_ok-file.file c.spec.ensures c.in_ok-file.ensures.tree is.spec in
    let sizes : Sizes = record {
      nodes_of_class = c.sizes_of_path_terms.ensures.nodes_of_class;
      depth_of_class = c.sizes_of_path_terms.ensures.depth_of_class;
      nodes_of_one = c.sizes_of_path_terms.ensures.nodes_of_one;
      depth_of_one = c.sizes_of_path_terms.ensures.depth_of_one;
      nodes_of_union = c.sizes_of_path_terms.ensures.nodes_of_union;
      depth_of_union = c.sizes_of_path_terms.ensures.depth_of_union;
      nodes_of_concat = c.sizes_of_path_terms.ensures.nodes_of_concat;
      depth_of_concat = c.sizes_of_path_terms.ensures.depth_of_concat;
      nodes_of_star = c.sizes_of_path_terms.ensures.nodes_of_star;
      depth_of_star = c.sizes_of_path_terms.ensures.depth_of_star;
      nodes_of_complement = c.sizes_of_path_terms.ensures.nodes_of_complement;
      depth_of_complement = c.sizes_of_path_terms.ensures.depth_of_complement;
      nodes_of_identity = c.sizes_of_rel_terms.ensures.nodes_of_identity;
      depth_of_identity = c.sizes_of_rel_terms.ensures.depth_of_identity;
      nodes_of_product = c.sizes_of_rel_terms.ensures.nodes_of_product;
      depth_of_product = c.sizes_of_rel_terms.ensures.depth_of_product;
      nodes_of_rel_union = c.sizes_of_rel_terms.ensures.nodes_of_union;
      depth_of_rel_union = c.sizes_of_rel_terms.ensures.depth_of_union;
      nodes_of_rel_concat = c.sizes_of_rel_terms.ensures.nodes_of_concat;
      depth_of_rel_concat = c.sizes_of_rel_terms.ensures.depth_of_concat;
      nodes_of_compose = c.sizes_of_rel_terms.ensures.nodes_of_compose;
      depth_of_compose = c.sizes_of_rel_terms.ensures.depth_of_compose;
    } in
    asked_read n specified_by c.ask.result sizes is.from_one is.at_most (asked_here n _ _ _ here tree c.ask.ensures.asked)
