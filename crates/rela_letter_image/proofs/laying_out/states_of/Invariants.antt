use Rattle.std.proofs.Common.{◌≡◌}
use Rattle.rela_letter_image.specs.Branches.{ends_of, passing}
use Rattle.rela_letter_image.specs.LetterMoves.{none_laid}
use Rattle.rela_letter_image.proofs.Laying.{AreStatesTo}
use Rattle.rela_letter_image.proofs.laying_out.states_of.Given as goal

abbrev pub invariant-loop-q : goal.invariant-loop-q
invariant-loop-q g l = record { ended : AreStatesTo (passing (ends_of l.kept) l.relation) l.q l.lists.0; none : l.lists.1 ≡ none_laid }
