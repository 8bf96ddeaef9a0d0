use Rattle.rela_expand.proofs.BodySizes.{AreSizes, body_measure, pair}
use Rattle.rela_expand.proofs.laws.bodies_are_as_large_as_their_shapes.Goals as goal

pub returns : goal.returns
returns c =
    let p = c.sizes_of_path_terms.ensures in
    let r = c.sizes_of_rel_terms.ensures in
    let sizes : AreSizes = record {
      empty = pair p.nodes_of_empty p.depth_of_empty;
      class = λ x. pair (p.nodes_of_class x) (p.depth_of_class x);
      one = λ x. pair (p.nodes_of_one x) (p.depth_of_one x);
      union = λ x y. pair (p.nodes_of_union x y) (p.depth_of_union x y);
      concat = λ x y. pair (p.nodes_of_concat x y) (p.depth_of_concat x y);
      meet = λ x y. pair (p.nodes_of_meet x y) (p.depth_of_meet x y);
      complement = λ x. pair (p.nodes_of_complement x) (p.depth_of_complement x);
      star = λ x. pair (p.nodes_of_star x) (p.depth_of_star x);
      identity = λ x. pair (r.nodes_of_identity x) (r.depth_of_identity x);
      product = λ x y. pair (r.nodes_of_product x y) (r.depth_of_product x y);
      union_r = λ x y. pair (r.nodes_of_union x y) (r.depth_of_union x y);
      concat_r = λ x y. pair (r.nodes_of_concat x y) (r.depth_of_concat x y);
      compose = λ x y. pair (r.nodes_of_compose x y) (r.depth_of_compose x y);
    }
    in
    body_measure sizes
