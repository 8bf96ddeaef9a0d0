use Rattle.std.proofs.Common.{◌≡◌, ℕ, ◌<◌, length, get_or}
use Rattle.rela_labels.proofs.ascending.places_in.Given as goal

abbrev pub invariant-loop-symbol : goal.invariant-loop-symbol
invariant-loop-symbol l = record {
  len : length l.places.items ≡ l.symbol-index;
  below : (k : ℕ) → k < l.symbol-index → get_or l.places.items k 0 < length l.ascending;
  each : (k : ℕ) → k < l.symbol-index → get_or l.ascending (get_or l.places.items k 0) 0 ≡ get_or l.symbols k 0;
}
