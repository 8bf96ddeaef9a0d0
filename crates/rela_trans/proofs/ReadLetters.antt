-- Related words hold letters alone.
use Rattle.std.proofs.Common.{◌≡◌, ℕ, ◌<◌, Bool, List, [], length, sym, subst, arith}
use Rattle.std.specs.List.{All}
use Rattle.std.proofs.lemmas.List.Elements.{All-nil, All-cons, All-append, All-contains}
use Rattle.rela_trans.specs.Machine.{Machine, Kind, IsMachine, IsMove, IsSized, moves_of, machine_states}
use Rattle.rela_trans.specs.Runs.{IsSymbolOf, Does, HasStep, ReachR, Relates}
use Rattle.rela_trans.specs.declared.moves.MoveKind.TheVariants.{Silent, In, Out, Same}
use Rattle.rela_trans.proofs.Accessors.{moves_ok}
use Rattle.rela_trans.proofs.Reaching.{reach_each}
use Rattle.rela_trans.proofs.SharedLetters.{has_below}

module _ (letters : ℕ) where
  abbrev AreLetters : List ℕ → Type 0
  AreLetters w = All (λ k. k < letters) w

  no_letter : (w : List ℕ) → w ≡ [] → AreLetters w
  no_letter w e = subst AreLetters (sym e) (All-nil (λ k. k < letters))

  one_letter : (set : List Bool) (w : List ℕ) → length set ≡ letters → IsSymbolOf (λ k. k) set w → AreLetters w
  one_letter set w size (s, among, e) = subst AreLetters (sym e) (All-cons (λ k. k < letters) s [] (omega (arith, has_below set s among, size)) (All-nil (λ k. k < letters)))

  done_letters : (kind : Kind) (input output : List ℕ) → IsSized letters kind → Does (λ k. k) kind input output → AreLetters input × AreLetters output
  done_letters Silent input output size does = (no_letter input does.0, no_letter output does.1)
  done_letters (In set) input output size does = (one_letter set input size does.0, no_letter output does.1)
  done_letters (Out set) input output size does = (no_letter input does.0, one_letter set output size does.1)
  done_letters (Same set) input output size does = let read = one_letter set input size does.0 in (read, subst AreLetters (sym does.1) read)

module _ (t : Machine) (ok : IsMachine t) where
  sized_step : (p q : ℕ) (input output : List ℕ) (step : HasStep (λ k. k) t p input output q) → IsSized t.letters step.0
  sized_step p q input output step =
      (All-contains (IsMove t.letters (machine_states t)) (moves_of t p) (record { kind = step.0; to = q }) (moves_ok t ok p) step.1).sized

  reached_letters : (q : ℕ) (u v : List ℕ) → ReachR (λ k. k) t q u v → AreLetters t.letters u × AreLetters t.letters v
  reached_letters q u v reach =
      reach_each (λ k. k) t (λ q u v. AreLetters t.letters u × AreLetters t.letters v)
      (λ p q u v input output reach before step.
      let done = done_letters t.letters step.0 input output (sized_step p q input output step) step.2 in (
        All-append (λ k. k < t.letters) u input before.0 done.0,
        All-append (λ k. k < t.letters) v output before.1 done.1,
      ))
      (All-nil (λ k. k < t.letters), All-nil (λ k. k < t.letters)) q u v reach

  pub letters_read : (u v : List ℕ) → Relates (λ k. k) t u v → All (λ k. k < t.letters) u
  letters_read u v (q, reach, final) = (reached_letters q u v reach).0

  pub letters_written : (u v : List ℕ) → Relates (λ k. k) t u v → All (λ k. k < t.letters) v
  letters_written u v (q, reach, final) = (reached_letters q u v reach).1
