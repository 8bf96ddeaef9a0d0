use Rattle.std.proofs.Common.{◌≡◌, ℕ, ◌<◌, IsTrue, false, get_or}
use Rattle.std.specs.List.{slice_index}
use Rattle.rela_letter_image.specs.LetterMoves.{Laid}
use Rattle.rela_letter_image.specs.Needs.{AreKept}
use Rattle.rela_letter_image.proofs.needs.are_needs.Given as goal

abbrev pub invariant-loop-q : goal.invariant-loop-q
invariant-loop-q l = record {
  final : (p : ℕ) → p < l.q → IsTrue (get_or l.finals p false) → slice_index l.needs p ≡ 0;
  kept : (p : ℕ) (d : Laid) → p < l.q → AreKept l.needs (slice_index l.needs p) (get_or l.states.0 p d);
}
