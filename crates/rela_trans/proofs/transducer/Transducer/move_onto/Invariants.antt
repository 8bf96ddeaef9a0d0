use Rattle.std.proofs.Common.{◌≡◌, ◌++◌, length, map, drop}
use Rattle.std.specs.List.{range_with_len}
use Rattle.rela_trans.specs.Construction.{leaving}
use Rattle.rela_trans.specs.Machine.{Machine}
use Rattle.rela_trans.specs.Stored.{moves_in}
use Rattle.rela_trans.proofs.transducer.Transducer.move_onto.Given as goal

abbrev pub invariant-loop-q : goal.invariant-loop-q
invariant-loop-q g l =
    let first : Machine = record { letters = 0; start = 0; finals = l.finals.items; moves = moves_in g.L.LabelSet.letters l.initial.lists.items } in
    record {
      done : moves_in g.L.LabelSet.letters l.moves.items ≡ moves_in g.L.LabelSet.letters l.fn.moves.items ++ map (leaving first l.by l.exit) (range_with_len 0 l.q);
      rest : drop l.q l.lists.items ≡ drop l.q l.initial.lists.items;
      each : length l.lists.items ≡ length l.finals.items;
    }
