-- Transducers whose letters are those of symbols by one or another partition.
use Rattle.std.proofs.Common.{◌≡◌, ℕ, ◌<◌, ◌↔◌, Bool, true, List, [], ◌∷◌, ◌++◌, length, sym, subst, arith}
use Rattle.std.specs.List.{All}
use Rattle.std.proofs.lemmas.List.Elements.{All-nil, All-cons, All-append, All-contains, All-head, All-tail}
use Rattle.rela_labels.specs.Letters.{has}
use Rattle.rela_labels.specs.Partition.{block_of, block_count}
use Rattle.rela_trans.specs.Machine.{Machine, Kind, IsMachine, IsMove, IsSized, moves_of, machine_states}
use Rattle.rela_trans.specs.Runs.{IsSymbolOf, Does, Follow, ReachR, Relates, Step, inputs, outputs}
use Rattle.rela_trans.specs.declared.moves.MoveKind.TheVariants.{Silent, In, Out, Same}
use Rattle.rela_build.specs.Reading.{read_by}
use Rattle.rela_nfa.specs.Automaton.{Automaton}
use Rattle.rela_nfa.specs.Relabelling.{blocks_of}
use Rattle.rela_nfa.specs.Runs.{Accepts, Reach}
use Rattle.rela_cert.specs.CheckRelations.{IsRefined}
use Rattle.rela_cert.proofs.LetterLaws.{has_below, is_symbol, moves_ok, read_symbol, read_word}

all_front : (P : ℕ → Type 0) (u v : List ℕ) → All P (u ++ v) → All P u
all_front P [] v each = All-nil P
all_front P (s ∷ u) v each = All-cons P s u (All-head P s (u ++ v) each) (all_front P u v (All-tail P s (u ++ v) each))

all_rest : (P : ℕ → Type 0) (u v : List ℕ) → All P (u ++ v) → All P v
all_rest P [] v each = each
all_rest P (s ∷ u) v each = all_rest P u v (All-tail P s (u ++ v) each)

-- where two ways to read agree on the symbols below n
module _ (f g : ℕ → ℕ) (n : ℕ) (same : (s : ℕ) → s < n → f s ≡ g s) where
  abbrev IsWithin : List ℕ → Type 0
  IsWithin w = All (λ s. s < n) w

  reread_symbol : (set : List Bool) (w : List ℕ) → IsWithin w → IsSymbolOf f set w → IsSymbolOf g set w
  reread_symbol set w within (s, among, e) =
      let below : s < n = All-head (λ s. s < n) s [] (subst IsWithin e within) in
      (s, subst (λ k. has set k ≡ true) (same s below) among, e)

  reread_does : (kind : Kind) (input output : List ℕ) → IsWithin input → IsWithin output → Does f kind input output → Does g kind input output
  reread_does Silent input output in_input in_output does = does
  reread_does (In set) input output in_input in_output does = (reread_symbol set input in_input does.0, does.1)
  reread_does (Out set) input output in_input in_output does = (does.0, reread_symbol set output in_output does.1)
  reread_does (Same set) input output in_input in_output does = (reread_symbol set input in_input does.0, does.1)

  reread_steps : (t : Machine) (steps : List Step) (p q : ℕ) → Follow f t p steps q → IsWithin (inputs steps) → IsWithin (outputs steps) → Follow g t p steps q
  reread_steps t [] p q here in_u in_v = here
  reread_steps t (step ∷ rest) p q ((kind, among, does), later) in_u in_v = (
    (
      kind,
      among,
      reread_does kind step.input step.output (all_front (λ s. s < n) step.input (inputs rest) in_u) (all_front (λ s. s < n) step.output (outputs rest) in_v) does,
    ),
    reread_steps t rest step.to q later (all_rest (λ s. s < n) step.input (inputs rest) in_u) (all_rest (λ s. s < n) step.output (outputs rest) in_v),
  )

  pub reread_reach : (t : Machine) (q : ℕ) (u v : List ℕ) → ReachR f t q u v → IsWithin u → IsWithin v → ReachR g t q u v
  reread_reach t q u v (steps, follows, reads, writes) in_u in_v =
      (steps, reread_steps t steps t.start q follows (subst IsWithin (sym reads) in_u) (subst IsWithin (sym writes) in_v), reads, writes)

  pub reread : (t : Machine) (u v : List ℕ) → IsWithin u → IsWithin v → Relates f t u v → Relates g t u v
  reread t u v in_u in_v (q, reach, final) = (q, reread_reach t q u v reach in_u in_v, final)

-- where only symbols below n have letters
module _ (f : ℕ → ℕ) (t : Machine) (ok : IsMachine t) (n : ℕ) (only : (s : ℕ) → f s < t.letters → s < n) where
  abbrev AreBelow : List ℕ → Type 0
  AreBelow w = All (λ s. s < n) w

  none_below : (w : List ℕ) → w ≡ [] → AreBelow w
  none_below w e = subst AreBelow (sym e) (All-nil (λ s. s < n))

  symbol_below : (set : List Bool) (w : List ℕ) → length set ≡ t.letters → IsSymbolOf f set w → AreBelow w
  symbol_below set w size (s, among, e) =
      subst AreBelow (sym e) (All-cons (λ s. s < n) s [] (only s (omega (arith, has_below set (f s) among, size))) (All-nil (λ s. s < n)))

  does_below : (kind : Kind) (input output : List ℕ) → IsSized t.letters kind → Does f kind input output → AreBelow input × AreBelow output
  does_below Silent input output size does = (none_below input does.0, none_below output does.1)
  does_below (In set) input output size does = (symbol_below set input size does.0, none_below output does.1)
  does_below (Out set) input output size does = (none_below input does.0, symbol_below set output size does.1)
  does_below (Same set) input output size does =
      let read = symbol_below set input size does.0 in
      (read, subst AreBelow (sym does.1) read)

  steps_below : (steps : List Step) (p q : ℕ) → Follow f t p steps q → AreBelow (inputs steps) × AreBelow (outputs steps)
  steps_below [] p q here = (All-nil (λ s. s < n), All-nil (λ s. s < n))
  steps_below (step ∷ rest) p q ((kind, among, does), later) =
      let move = All-contains (IsMove t.letters (machine_states t)) (moves_of t p) (record { kind = kind; to = step.to }) (moves_ok t ok p) among in
      let first = does_below kind step.input step.output move.sized does in
      let more = steps_below rest step.to q later in
      (All-append (λ s. s < n) step.input (inputs rest) first.0 more.0, All-append (λ s. s < n) step.output (outputs rest) first.1 more.1)

  pub reach_below : (q : ℕ) (u v : List ℕ) → ReachR f t q u v → AreBelow u × AreBelow v
  reach_below q u v (steps, follows, reads, writes) =
      let below = steps_below steps t.start q follows in
      (subst AreBelow reads below.0, subst AreBelow writes below.1)

  -- related words are of such symbols alone
  pub related_below : (u v : List ℕ) → Relates f t u v → AreBelow u × AreBelow v
  related_below u v (q, reach, final) = reach_below q u v reach

abbrev AreSymbols : List ℕ → List ℕ → Type 0
AreSymbols fine w = All (λ s. s < length fine) w

module _ (coarse fine : List ℕ) (same_symbols : length fine ≡ length coarse) (t u : Machine) (t_ok : IsMachine t) (u_ok : IsMachine u)
    (t_letters : t.letters ≡ block_count coarse) (u_letters : u.letters ≡ block_count fine) where
  by_coarse : (s : ℕ) → s < length fine → read_by coarse s ≡ block_of coarse s
  by_coarse s below = read_symbol coarse s (omega (arith, below, same_symbols))

  coarse_only : (s : ℕ) → read_by coarse s < t.letters → s < length fine
  coarse_only s letter = let symbol = is_symbol coarse s (omega (arith, letter, t_letters)) in omega (arith, symbol, same_symbols)

  fine_only : (s : ℕ) → read_by fine s < u.letters → s < length fine
  fine_only s letter = is_symbol fine s (omega (arith, letter, u_letters))

  -- what is told of symbols that have blocks
  module _ (a : Automaton)
      (reaches : (p q : ℕ) (v w : List ℕ) → AreSymbols fine v → AreSymbols fine w → Reach a p (blocks_of fine v) → ReachR (block_of fine) u q v w ↔ ReachR (block_of coarse) t q v w)
      (relates : (v w : List ℕ) → AreSymbols fine v → AreSymbols fine w → Accepts a (blocks_of fine v) → Relates (block_of fine) u v w ↔ Relates (block_of coarse) t v w) where
    pub refined_for : IsRefined coarse fine a t u
    refined_for = record {
      machine = u_ok;
      letters = u_letters;
      reached = λ p q v w leads. (
        λ reach.
            let below = reach_below (read_by fine) u u_ok (length fine) fine_only q v w reach in
            reread_reach (block_of coarse) (read_by coarse) (length fine) (λ s within. sym (by_coarse s within)) t q v w
            ((reaches p q v w below.0 below.1 (subst (Reach a p) (read_word fine v below.0) leads)).0
            (reread_reach (read_by fine) (block_of fine) (length fine) (read_symbol fine) u q v w reach below.0 below.1)) below.0 below.1,
        λ reach.
            let below = reach_below (read_by coarse) t t_ok (length fine) coarse_only q v w reach in
            reread_reach (block_of fine) (read_by fine) (length fine) (λ s within. sym (read_symbol fine s within)) u q v w
            ((reaches p q v w below.0 below.1 (subst (Reach a p) (read_word fine v below.0) leads)).1
            (reread_reach (read_by coarse) (block_of coarse) (length fine) by_coarse t q v w reach below.0 below.1)) below.0 below.1,
      );
      relation = λ v w accepted. (
        λ related.
            let below = related_below (read_by fine) u u_ok (length fine) fine_only v w related in
            reread (block_of coarse) (read_by coarse) (length fine) (λ s within. sym (by_coarse s within)) t v w below.0 below.1
            ((relates v w below.0 below.1 (subst (Accepts a) (read_word fine v below.0) accepted)).0
            (reread (read_by fine) (block_of fine) (length fine) (read_symbol fine) u v w below.0 below.1 related)),
        λ related.
            let below = related_below (read_by coarse) t t_ok (length fine) coarse_only v w related in
            reread (block_of fine) (read_by fine) (length fine) (λ s within. sym (read_symbol fine s within)) u v w below.0 below.1
            ((relates v w below.0 below.1 (subst (Accepts a) (read_word fine v below.0) accepted)).1
            (reread (read_by coarse) (block_of coarse) (length fine) by_coarse t v w below.0 below.1 related)),
      );
    }
