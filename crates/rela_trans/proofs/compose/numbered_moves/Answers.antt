use Rattle.std.proofs.Common.{◌≡◌, ◌+◌, ◌<◌, Bool, List, [], ◌∷◌, ◌++◌, length, map, take, drop, reverse, vec_len, get_or, ◌∙◌, sym, ap, arith}
use Rattle.std.proofs.lemmas.List.{map_push}
use Rattle.rela_trans.specs.Composition.{joint_of, numbered}
use Rattle.rela_trans.specs.Stored.{kind_of, move_of}
use Rattle.rela_trans.specs.declared.moves.Move.{Move}
use Rattle.rela_trans.proofs.NumberedMoves.{numbered_more, numbered_all, popped}
use Rattle.rela_trans.proofs.compose.numbered_moves.Goals as goal

pub loop-made-preserved : goal.loop-made-preserved
loop-made-preserved g c =
    let letters = g.L.LabelSet.letters in
    let all = c.args.joint.items in
    let targets = c.args.targets.now in
    let n = vec_len c.pop.new.self in
    let one_more : n + 1 ≡ vec_len c.loop-made.joint = c.in-Some.ensures.cases in
    let below : n < length all = omega (arith, one_more, c.loop-made.invariant.within) in
    let in_targets : n < length targets = omega (arith, below, c.requires, c.args.joint.ok.0) in
    let last = popped all c.loop-made.joint.items c.pop.new.self.items n c.in-Some.made (c.loop-made.invariant.left ∙ ap (λ k. take k all) (sym one_more)) below c.in-Some.ensures.items in
    let pushed : Move (List Bool) = record { kind = kind_of letters c.in-Some.made.kind; to = get_or targets c.len-in-Some.result 0 } in
    let so_far = reverse (numbered (map (joint_of letters) (drop (n + 1) all)) (drop (n + 1) targets)) in
    record {
      left = last.0;
      within = omega (arith, below);
      done =
          ap (λ l. map (move_of letters) l) c.in_ok-push.ensures.items ∙ map_push (move_of letters) c.loop-made.moves.items _
          ∙ ap (λ l. l ++ pushed ∷ []) (c.loop-made.invariant.done ∙ ap (λ k. reverse (numbered (map (joint_of letters) (drop k all)) (drop k targets))) (sym one_more))
          ∙ ap (λ k. so_far ++ record { kind = kind_of letters c.in-Some.made.kind; to = get_or targets k 0 } ∷ []) c.len-in-Some.ensures
          ∙ numbered_more letters all targets n c.in-Some.made below in_targets last.1;
    }

pub returns : goal.returns
returns g c =
    ap (λ l. map (move_of g.L.LabelSet.letters) l) c.reverse.ensures.items
    ∙ numbered_all g.L.LabelSet.letters (move_of g.L.LabelSet.letters) c.loop-made.moves.items c.args.joint.items c.args.targets.now (vec_len c.loop-made.joint) c.in_default.ensures.cases.0
    c.loop-made.invariant.done
