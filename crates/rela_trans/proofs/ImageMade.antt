-- An image as it is built.
use Rattle.std.proofs.Common.{◌≡◌, ℕ, ◌<◌, ◌↔◌, List, map, Some, refl}
use Rattle.std.specs.List.{All, Contains, slice_get}
use Rattle.rela_pairs.specs.Exploration.{Exploration, NumbersNext}
use Rattle.rela_pairs.specs.Reachable.{Reachable, AreDistinct, MoreThan}
use Rattle.rela_pairs.specs.declared.pair.Pair.{Pair}
use Rattle.rela_nfa.specs.Automaton.{Automaton, IsAutomaton, states}
use Rattle.rela_nfa.specs.Meeting.{pair_of}
use Rattle.rela_nfa.specs.Runs.{Reach, Accepts}
use Rattle.rela_trans.specs.Composition.{Covers, IsProduct, next_pairs}
use Rattle.rela_trans.specs.ImageMoves.{source_of, product_of}
use Rattle.rela_trans.specs.Images.{AreReachedFrom, IsImage, IsWritten}
use Rattle.rela_trans.specs.Machine.{Machine, IsMachine, machine_states}
use Rattle.rela_trans.specs.Runs.{ReachR, Relates}
use Rattle.rela_trans.specs.declared.tapes.Tape.TheVariants.{Both}
use Rattle.rela_trans.proofs.Composed.{explored_states, more_through, more_reachable, product_ok, product_composition, product_relation}
use Rattle.rela_trans.proofs.ImagePairs.{more_from, more_through_source, image_of, image_language}
use Rattle.rela_trans.proofs.Lifted.{IsLifted, lifted_ok, lifted_reach, lifted_relation}
use Rattle.rela_trans.proofs.NumberedMoves.{next_lead}
use Rattle.rela_trans.proofs.WrittenWords.{written_states, written_ok, written_reached, written_language}

module _ (a : Automaton) (t : Machine) (ok : IsAutomaton a) where
  pub source_lifted : IsLifted Both a (source_of a)
  source_lifted = record { letters = refl; start = refl; finals = refl; moves = refl }

  source_ok : IsMachine (source_of a)
  source_ok = lifted_ok Both a (source_of a) ok source_lifted

  pub source_reached : (read : ℕ → ℕ) (q : ℕ) (u v : List ℕ) → ReachR read (source_of a) q u v ↔ (Reach a q (map read u) × (v ≡ u))
  source_reached read q u v = lifted_reach Both a (source_of a) ok source_lifted read q u v

  source_relation : (read : ℕ → ℕ) (u v : List ℕ) → Relates read (source_of a) u v ↔ (Accepts a (map read u) × (v ≡ u))
  source_relation read u v = lifted_relation Both a (source_of a) ok source_lifted read u v

  pub image_lead : IsMachine t → (x : Pair) → x.left < states a → x.right < machine_states t → All (λ (y : Pair). (y.left < states a) × (y.right < machine_states t)) (next_pairs (source_of a) t x)
  image_lead ok_t x left right = next_lead (source_of a) t source_ok ok_t x left right

  pub image_more : (limit : ℕ) → MoreThan limit (Reachable (next_pairs (source_of a) t) (pair_of a.start t.start)) → MoreThan limit (AreReachedFrom a t)
  image_more limit more = more_from a t (source_of a) source_reached limit (more_through (source_of a) t source_ok limit more)

  pub image_reachable : (limit : ℕ) → MoreThan limit (AreReachedFrom a t) → MoreThan limit (Reachable (next_pairs (source_of a) t) (pair_of a.start t.start))
  image_reachable limit more = more_reachable (source_of a) t source_ok limit (more_through_source a t (source_of a) source_reached limit more)

  pub image_states : IsMachine t → (pairs : List Pair) → ((x : Pair) → Contains pairs x ↔ Reachable (next_pairs (source_of a) t) (pair_of a.start t.start) x)
      → All (λ x. (x.left < states a) × (x.right < machine_states t)) pairs
  image_states ok_t pairs each = explored_states (source_of a) t source_ok ok_t pairs each

  module _ (explored : Exploration) (r : Automaton) (written : IsWritten (product_of (source_of a) t explored) r) (ok_t : IsMachine t) (letters : a.letters ≡ t.letters)
      (distinct : AreDistinct explored.pairs) (first : slice_get explored.pairs 0 ≡ Some (pair_of a.start t.start))
      (each : (x : Pair) → Contains explored.pairs x ↔ Reachable (next_pairs (source_of a) t) (pair_of a.start t.start) x)
      (targets : NumbersNext (next_pairs (source_of a) t) explored) where
    abbrev product : Machine
    product = product_of (source_of a) t explored

    built : IsProduct (source_of a) t explored product
    built = record { letters = refl; start = refl; moves = refl; finals = refl }

    made_ok : IsMachine product
    made_ok = product_ok (source_of a) t product explored built source_ok distinct first each targets ok_t letters

    pub image_ok : IsAutomaton r
    image_ok = written_ok product r written made_ok

    pub image_pairs : IsImage a t explored.pairs r
    image_pairs =
        image_of a t (source_of a) source_reached product r refl refl (written_states product r written made_ok) explored.pairs
        (product_composition (source_of a) t product explored built source_ok distinct first each targets) (written_reached product r written made_ok)

    pub image_words : (read : ℕ → ℕ) → Covers read a.letters → (v : List ℕ) → Accepts r (map read v) ↔ ((u : List ℕ) × Accepts a (map read u) × Relates read t u v)
    image_words =
        image_language a t (source_of a) source_reached product r refl refl (written_states product r written made_ok) source_relation
        (product_relation (source_of a) t product explored built source_ok distinct first each targets) (written_language product r written made_ok)
