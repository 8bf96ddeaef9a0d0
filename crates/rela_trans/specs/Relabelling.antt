-- A transducer whose letters are blocks of symbols, over a finer partition.
use Rattle.std.specs.Prelude.{ℕ, Bool, List}
use Rattle.rela_nfa.specs.Relabelling.{relabelled}
use Rattle.rela_trans.specs.Machine.{Kind}
use Rattle.rela_trans.specs.declared.moves.Move.{Move}
use Rattle.rela_trans.specs.declared.moves.MoveKind.TheVariants.{Silent, In, Out, Same}

-- the kind, by the letters that lie in its set: `parents` gives for each new letter the old one in which it lies
abbrev pub relabelled_kind : List ℕ → Kind → Kind
relabelled_kind parents Silent = Silent
relabelled_kind parents (In set) = In (relabelled parents set)
relabelled_kind parents (Out set) = Out (relabelled parents set)
relabelled_kind parents (Same set) = Same (relabelled parents set)

abbrev pub relabelled_move : List ℕ → Move (List Bool) → Move (List Bool)
relabelled_move parents move = record { kind = relabelled_kind parents move.kind; to = move.to }
