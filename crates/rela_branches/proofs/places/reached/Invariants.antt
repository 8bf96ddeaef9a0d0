use Rattle.std.proofs.Common.{◌≡◌, ℕ, List, ◌<◌, length}
use Rattle.rela_branches.specs.Places.{Chain, Has, IsMarked, Leads}
use Rattle.rela_branches.proofs.places.reached.Given as goal

-- what is marked is reached; the set is marked, and what leads on from marked places before this one
abbrev pub invariant-loop-place : goal.invariant-loop-place
invariant-loop-place l = record {
  long : length l.marks.items ≡ length l.rows;
  reached : (j : ℕ) → IsMarked l.marks.items j → (i : ℕ) × (stops : List ℕ) × Has l.from i × Chain l.rows i stops j;
  begun : (i : ℕ) → Has l.from i → IsMarked l.marks.items i;
  led : (i j : ℕ) → i < l.place → IsMarked l.marks.items i → Leads l.rows i j → IsMarked l.marks.items j;
}
