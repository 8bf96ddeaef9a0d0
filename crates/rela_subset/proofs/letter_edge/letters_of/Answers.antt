use Rattle.std.proofs.Common.{◌∙◌, ◌<◌, get_or, subst, sym}
use Rattle.rela_subset.specs.declared.letter_edge.LetterEdge.{LetterEdge}
use Rattle.rela_subset.proofs.ByLetter.{letters_all, letters_more, letters_none}
use Rattle.rela_subset.proofs.letter_edge.letters_of.Goals as goal

pub loop-edge-init : goal.loop-edge-init
loop-edge-init g c = record {
  size = c.in_ok-set.ensures.size;
  letters = letters_none (g.L.LabelSet.letters c.in_ok-set.set) c.in_ok-set.ensures.empty;
}

pub add-requires : goal.add-requires
add-requires g c =
    let d : LetterEdge = record { letter = 0; to = 0 } in
    subst (λ n. (get_or c.args.edges.now c.loop-edge.edge-index d).letter < n) (sym c.loop-edge.invariant.size) (c.requires.below c.loop-edge.edge-index d c.loop-edge-test.true)

pub loop-edge-preserved : goal.loop-edge-preserved
loop-edge-preserved g c = record {
  size = c.in_ok-add.ensures.size ∙ c.loop-edge.invariant.size;
  letters =
      letters_more c.args.edges.now c.loop-edge.edge-index (record { letter = 0; to = 0 }) (g.L.LabelSet.letters c.loop-edge.set) (g.L.LabelSet.letters c.add.new.self) c.loop-edge-test.true
      c.loop-edge.invariant.letters c.in_ok-add.ensures.added c.in_ok-add.ensures.others;
}

pub returns-clause-letters : goal.returns-clause-letters
returns-clause-letters g c = letters_all c.args.edges.now c.loop-edge.edge-index (g.L.LabelSet.letters c.loop-edge.set) c.loop-edge-test.false c.loop-edge.invariant.letters
