-- The sets of states that words reach in several automata.
use Rattle.std.proofs.Common.{◌≡◌, ◌≢◌, ℕ, zero, suc, ◌<◌, List, [], ◌∷◌, ◌++◌, length, get_or, refl, sym, ap, ◌∙◌, subst, inl, inr, arith}
use Rattle.std.proofs.lemmas.List.Elements.{All-head, All-tail, All-nil, All-cons}
use Rattle.rela_nfa.specs.Automaton.{Automaton}
use Rattle.rela_nfa.specs.StateSet.{Lists}
use Rattle.rela_closed.specs.Closed.{AreApart, SameStates}
use Rattle.rela_build.specs.Complement.{ReachSame}
use Rattle.rela_closed.specs.Sets.{AreReached, ReachedBy}
use Rattle.rela_closed.proofs.Ascending.{same_lists, same_or_apart}
use Rattle.rela_closed.proofs.Targets.{Contains-head, Contains-tail}

-- two words that reach the same set
lists_same : (a : Automaton) (v w : List ℕ) (set : List ℕ) → Lists (ReachedBy a v) set → Lists (ReachedBy a w) set → ReachSame a v w
lists_same a v w set first second q = (λ r. (second.members q).0 ((first.members q).1 r), λ r. (first.members q).0 ((second.members q).1 r))

-- two words that reach the same sets
pub sets_same : (automata : List Automaton) (v w : List ℕ) (sets : List (List ℕ)) → AreReached automata v sets → AreReached automata w sets → SameStates automata v w
sets_same [] v w sets first second = All-nil (λ a. ReachSame a v w)
sets_same (a ∷ automata) v w [] first second = absurd first
sets_same (a ∷ automata) v w (set ∷ sets) first second =
    All-cons (λ a. ReachSame a v w) a automata (lists_same a v w set first.0 second.0) (sets_same automata v w sets first.1 second.1)

-- words that reach the same states reach one list of sets
pub same_sets : (automata : List Automaton) (v w : List ℕ) (sets others : List (List ℕ)) → AreReached automata v sets → AreReached automata w others → SameStates automata v w
    → sets ≡ others
same_sets [] v w sets others first second same = first ∙ sym second
same_sets (a ∷ automata) v w [] others first second same = absurd first
same_sets (a ∷ automata) v w (set ∷ sets) [] first second same = absurd second
same_sets (a ∷ automata) v w (set ∷ sets) (other ∷ others) first second same =
    ap (λ s. s ∷ sets) (same_lists (ReachedBy a v) (ReachedBy a w) set other first.0 second.0 (All-head (λ a. ReachSame a v w) a automata same))
    ∙ ap (λ l. other ∷ l) (same_sets automata v w sets others first.1 second.1 (All-tail (λ a. ReachSame a v w) a automata same))

-- sets that differ tell the words apart
pub sets_apart : (automata : List Automaton) (v w : List ℕ) (sets others : List (List ℕ)) → AreReached automata v sets → AreReached automata w others → sets ≢ others
    → AreApart automata v w
sets_apart [] v w sets others first second differ = absurd (differ (first ∙ sym second))
sets_apart (a ∷ automata) v w [] others first second differ = absurd first
sets_apart (a ∷ automata) v w (set ∷ sets) [] first second differ = absurd second
sets_apart (a ∷ automata) v w (set ∷ sets) (other ∷ others) first second differ = elim (same_or_apart set other first.0.ordered second.0.ordered) [
  | inl same ↦
      let (b, among, told) = sets_apart automata v w sets others first.1 second.1 (λ equal. differ (ap (λ s. s ∷ sets) same ∙ ap (λ l. other ∷ l) equal)) in
      (b, Contains-tail a automata b among, told)
  | inr apart ↦ (
    a,
    Contains-head a automata,
    (
      apart.0,
      elim apart.1 [
        | inl one ↦ inl ((first.0.members apart.0).0 one.0, λ r. one.1 ((second.0.members apart.0).1 r))
        | inr one ↦ inr ((second.0.members apart.0).0 one.0, λ r. one.1 ((first.0.members apart.0).1 r))
      ],
    ),
  )
]

-- one automaton more
pub reached_more : (automata : List Automaton) (a : Automaton) (word : List ℕ) (sets : List (List ℕ)) (set : List ℕ) → AreReached automata word sets → Lists (ReachedBy a word) set
    → AreReached (automata ++ a ∷ []) word (sets ++ set ∷ [])
reached_more [] a word sets set none is = subst (λ l. AreReached (a ∷ []) word (l ++ set ∷ [])) (sym none) (is, refl)
reached_more (b ∷ automata) a word [] set before is = absurd before
reached_more (b ∷ automata) a word (other ∷ sets) set before is = (before.0, reached_more automata a word sets set before.1 is)

pub reached_each : (automata : List Automaton) (word : List ℕ) (sets : List (List ℕ)) → AreReached automata word sets → length sets ≡ length automata
reached_each [] word sets none = ap length none
reached_each (a ∷ automata) word [] reached = absurd reached
reached_each (a ∷ automata) word (set ∷ sets) reached = ap suc (reached_each automata word sets reached.1)

pub reached_at : (automata : List Automaton) (word : List ℕ) (sets : List (List ℕ)) → AreReached automata word sets → (i : ℕ) (a : Automaton) → i < length automata
    → Lists (ReachedBy (get_or automata i a) word) (get_or sets i [])
reached_at [] word sets reached i d below = absurd (omega (arith, below))
reached_at (a ∷ automata) word [] reached i d below = absurd reached
reached_at (a ∷ automata) word (set ∷ sets) reached zero d below = reached.0
reached_at (a ∷ automata) word (set ∷ sets) reached (suc i) d below = reached_at automata word sets reached.1 i d (omega (arith, below))
