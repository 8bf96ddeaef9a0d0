-- The part that is complemented, with silent edges that add no word to its language.
use Rattle.std.proofs.Common.{ℕ, ◌≤◌, ◌↔◌, Bool, List, ◌++◌, length, take, inl, inr, arith}
use Rattle.std.proofs.lemmas.List.{length-take-le}
use Rattle.std.proofs.lemmas.List.Elements.{All-take}
use Rattle.rela_nfa.specs.Automaton.{Automaton}
use Rattle.rela_nfa.specs.Runs.{Accepts}
use Rattle.rela_subset.specs.Deterministic.{Deterministic, IsOver}
use Rattle.rela_subset.specs.Subsets.{AreApart, ReachSame, ReachSets}
use Rattle.rela_complement.specs.Telling.{IsTold, TellsWords}
use Rattle.rela_complement.proofs.Continued.{told_by_end}
use Rattle.rela_complement.proofs.Pairs.{first_pairs, weaker_pairs}
use Rattle.rela_complement.specs.Least.{IsLeast}

-- where many words are told apart, fewer are
pub fewer_told : (a : Automaton) (over : List Bool) (m n : ℕ) → m ≤ n → TellsWords a over n → TellsWords a over m
fewer_told a over m n few told =
    let within : m ≤ length told.words = omega (arith, few, told.count) in record {
      words = take m told.words;
      count = length-take-le m told.words within;
      letters = All-take (IsOver over) m told.words told.letters;
      told = first_pairs (IsTold a over) told.words m within told.told;
    }

-- words that are told apart by continuing them reach as many sets of states
pub sets_of_told : (a : Automaton) (over : List Bool) (n : ℕ) → TellsWords a over n → ReachSets a over n
sets_of_told a over n told =
    record { words = told.words; count = told.count; letters = told.letters; apart = weaker_pairs (IsTold a over) (AreApart a) apart told.words told.told } where
      apart : (v w : List ℕ) → IsTold a over v w → AreApart a v w
      apart v w (z, within, inl (accepted, refused)) = let found = told_by_end a v w z accepted refused in (found.0, inl found.1)
      apart v w (z, within, inr (accepted, refused)) = let found = told_by_end a w v z accepted refused in (found.0, inr found.1)

-- what holds of one automaton and a second, and of the second and a third
pub language_through : (a b c : Automaton) → ((w : List ℕ) → Accepts b w ↔ Accepts a w) → ((w : List ℕ) → Accepts c w ↔ Accepts b w) → (w : List ℕ) → Accepts c w ↔ Accepts a w
language_through a b c first second w = (λ accepts. (first w).0 ((second w).0 accepts), λ accepts. (second w).1 ((first w).1 accepts))

pub same_through : (a b c : Automaton) → ((v w : List ℕ) → ReachSame a v w → ReachSame b v w) → ((v w : List ℕ) → ReachSame b v w → ReachSame c v w)
    → (v w : List ℕ) → ReachSame a v w → ReachSame c v w
same_through a b c first second v w same = second v w (first v w same)

pub apart_through : (a b c : Automaton) → ((v w : List ℕ) → AreApart b v w → AreApart a v w) → ((v w : List ℕ) → AreApart c v w → AreApart b v w)
    → (v w : List ℕ) → AreApart c v w → AreApart a v w
apart_through a b c first second v w apart = first v w (second v w apart)

module _ (over : List Bool) (a small : Automaton) (language : (w : List ℕ) → Accepts small w ↔ Accepts a w)
    (same : (v w : List ℕ) → ReachSame a v w → ReachSame small v w) (apart : (v w : List ℕ) → AreApart small v w → AreApart a v w) where
  -- as many sets of states are reached of the part
  pub small_sets : (n : ℕ) → ReachSets small over n → ReachSets a over n
  small_sets n sets = record { words = sets.words; count = sets.count; letters = sets.letters; apart = weaker_pairs (AreApart small) (AreApart a) apart sets.words sets.apart }

  -- words that the part tells, the other tells too
  told_so : (v w : List ℕ) → IsTold a over v w → IsTold small over v w
  told_so v w (z, within, inl (accepted, refused)) =
      (z, within, inl ((language (v ++ z)).1 accepted, λ other. refused ((language (w ++ z)).0 other)))
  told_so v w (z, within, inr (accepted, refused)) =
      (z, within, inr ((language (w ++ z)).1 accepted, λ other. refused ((language (v ++ z)).0 other)))

  pub small_within : (n : ℕ) → ¬ TellsWords small over n → ¬ TellsWords a over n
  small_within n within told =
      within (record { words = told.words; count = told.count; letters = told.letters; told = weaker_pairs (IsTold a over) (IsTold small over) told_so told.words told.told })

  pub small_least : (d : Deterministic) → IsLeast over small d → IsLeast over a d
  small_least d least = record {
    over_is = least.over_is;
    language = λ w. (
      λ accepted. let both = (least.language w).0 accepted in (both.0, (language w).0 both.1),
      λ both. (least.language w).1 (both.0, (language w).1 both.1),
    );
    alike = λ v w v_over w_over reach. least.alike v w v_over w_over (same v w reach);
    told = λ v w v_over w_over differ. apart v w (least.told v w v_over w_over differ);
  }
