use Rattle.std.proofs.Common.{Bool, List, ◌++◌, map, ◌∙◌, sym, ap, subst}
use Rattle.std.specs.List.{All, flat_map}
use Rattle.std.proofs.lemmas.List.{take_all}
use Rattle.rela_trans.specs.Composition.{first_moves, second_moves, moves_with}
use Rattle.rela_trans.specs.Machine.{IsSized, moves_of}
use Rattle.rela_trans.specs.Stored.{kind_of, move_of}
use Rattle.rela_trans.specs.declared.moves.Move.{Move}
use Rattle.rela_trans.proofs.NumberedMoves.{next_lead}
use Rattle.rela_trans.proofs.compose.joint_moves.Goals as goal

pub add_with-requires : goal.add_with-requires
add_with-requires g c =
    let letters = g.L.LabelSet.letters in
    let a = c.args.first.now in
    let b = c.args.second.now in (
      a.letters,
      subst (λ m. IsSized a.letters (kind_of letters m.kind)) (sym c.made-item.is) (c.moves-left.ensures.sized c.loop-made.made-index c.made-item.result c.loop-made-test.true),
      subst (λ n. All (λ second. IsSized n (kind_of letters second.kind)) c.moves-right.result.now) (sym c.requires.letters) c.moves-right.ensures.sized,
    )

pub returns : goal.returns
returns g c =
    let a = c.args.first.now in
    let b = c.args.second.now in
    let x = c.args.pair in
    let moves =
    c.loop-made.invariant
    ∙ ap (λ (l : List (Move (List Bool))). first_moves x.right (moves_of a x.left) ++ second_moves x.left (moves_of b x.right) ++ flat_map (λ m. moves_with m (moves_of b x.right)) l)
    (ap (λ l. map (move_of g.L.LabelSet.letters) l) (take_all c.loop-made.made-index c.moves-left.result.now c.loop-made-test.false) ∙ c.moves-left.ensures.moves) in
    record {
      moves = moves;
      lead = next_lead a b c.moves-left.ensures.machine c.moves-right.ensures.machine x c.requires.left c.requires.right;
    }
