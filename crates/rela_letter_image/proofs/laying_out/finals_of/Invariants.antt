use Rattle.std.proofs.Common.{◌≡◌, take}
use Rattle.rela_letter_image.proofs.laying_out.finals_of.Given as goal

abbrev pub invariant-loop-q : goal.invariant-loop-q
invariant-loop-q g l = l.finals.items ≡ take l.q l.relation.finals
