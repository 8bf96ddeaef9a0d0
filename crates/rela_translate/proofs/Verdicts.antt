-- No word offends against a check that is met.
use Rattle.std.proofs.Common.{inl, inr, Bool, true, false, List, ℕ}
use Rattle.rela_rir.specs.Words.{WordSet}
use Rattle.rela_translate.specs.Verdict.{AreMet, Offends}

pub none_offends : (at_most : Bool) (X Y : WordSet) → AreMet at_most X Y → (w : List ℕ) → Offends at_most X Y w → ⊥
none_offends false X Y met w (inl missing) = missing.1 ((met w).0 missing.0)
none_offends false X Y met w (inr extra) = extra.0 ((met w).1 extra.1)
none_offends true X Y met w extra = extra.1 (met w extra.0)
