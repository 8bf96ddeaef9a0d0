use Rattle.rela_subset.proofs.ByLetter.{all_between, from_before_to}
use Rattle.rela_subset.proofs.letter_edge.edges_by.Goals as goal

pub slice_bounds-result-count : goal.slice_bounds-result-count
slice_bounds-result-count c =
    from_before_to c.args.edges.now c.args.letter c.place_of-from.result c.place_after-to.result c.place_of-from.ensures.parted c.place_after-to.ensures.parted
    c.place_of-from.ensures.within c.place_after-to.ensures.within

pub slice_bounds-result-start : goal.slice_bounds-result-start
slice_bounds-result-start c =
    from_before_to c.args.edges.now c.args.letter c.place_of-from.result c.place_after-to.result c.place_of-from.ensures.parted c.place_after-to.ensures.parted
    c.place_of-from.ensures.within c.place_after-to.ensures.within

pub returns : goal.returns
returns c =
    all_between c.args.edges.now c.args.letter c.place_of-from.result c.place_after-to.result c.place_of-from.ensures.parted c.place_after-to.ensures.parted
    c.place_of-from.ensures.within c.place_after-to.ensures.within
