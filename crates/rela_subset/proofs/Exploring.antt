-- The sets that have been found, one more of them left by its edges.
use Rattle.std.proofs.Common.{◌≡◌, ℕ, ◌+◌, ◌<◌, Bool, true, false, not, ◌&&◌, List, [], ◌∷◌, ◌++◌, length, get_or, refl, sym, ◌∙◌, subst, inl, inr, arith}
use Rattle.std.specs.List.{All}
use Rattle.std.proofs.lemmas.Bool.{cases_lt, false≢true}
use Rattle.std.proofs.lemmas.List.{get_or_append_left, get_or_push, length_push}
use Rattle.std.proofs.lemmas.List.Elements.{All-weaker}
use Rattle.rela_labels.specs.Letters.{has}
use Rattle.rela_nfa.specs.Automaton.{Automaton, IsAutomaton, Move, IsMove, states}
use Rattle.rela_nfa.specs.StateSet.{Lists}
use Rattle.rela_subset.specs.Expansion.{AreFound, AreLabelled, Follows, HasGrown, IsExpandedOver, IsExplored, IsOut, Leads}
use Rattle.rela_subset.specs.Sets.{AreDistinct, ReachedBy}
use Rattle.rela_subset.specs.Subsets.{ReachSets}
use Rattle.rela_subset.proofs.Bundling.{digit}
use Rattle.rela_subset.proofs.Finding.{found_more, found_sets, found_start, found_within, more_sets, new_arrives, old_arrives, with_longer}

-- the first set alone
pub explored_start : (a : Automaton) (over : List Bool) (first : List ℕ) (sets : List (List ℕ)) → sets ≡ first ∷ [] → Lists (ReachedBy a []) first → IsExplored a over sets []
explored_start a over first sets one is = subst (λ all. IsExplored a over all []) (sym one) (record {
  words = [] ∷ [];
  found = found_start a over first is;
  out = λ i below. absurd (omega (arith, below));
})

-- what a set's expansion adds
module _ (a : Automaton) (over : List Bool) (sets : List (List ℕ)) (edges : List (List Move)) (is : IsExplored a over sets edges)
    (left : length edges < length sets) (new : List (List ℕ)) (letters : List ℕ)
    (grows : HasGrown a over (get_or sets (length edges) []) sets new letters) where
  abbrev longer_words : List (List ℕ)
  longer_words = with_longer is.words (length edges) letters

  wider : (moves : List Move) → AreLabelled (length over) (length sets) moves → AreLabelled (length over) (length new) moves
  wider moves are = record {
    sized = All-weaker (IsMove (length over) (length sets)) (IsMove (length over) (length new))
        (λ move fits. record {
          sized = fits.sized;
          leads = let below = fits.leads in let more = more_sets a over sets is.words (length edges) is.found left new letters grows in omega arith;
        }) moves are.sized;
    labelled = are.labelled;
  }

  old_out : (i : ℕ) (moves : List Move) → i < length sets → IsOut a over sets is.words i moves → IsOut a over new longer_words i moves
  old_out i moves below out = record {
    edges = wider moves out.edges;
    split = out.split;
    leads = λ k read. let lead = out.leads k read in record {
      to = lead.to;
      by = lead.by;
      arrives = old_arrives a over sets is.words (length edges) is.found left new letters grows i k lead.to below lead.arrives;
    };
  }

  new_follows : (k : ℕ) (moves : List Move) → Leads a (get_or sets (length edges) []) sets new letters moves k → Follows a new longer_words (length edges) moves k
  new_follows k moves lead = record {
    to = lead.to;
    by = lead.by;
    arrives = new_arrives a over sets is.words (length edges) is.found left new letters grows k lead.to lead.comes;
  }

  explored_by : (moves : List Move) → IsOut a over new longer_words (length edges) moves → IsExplored a over new (edges ++ moves ∷ [])
  explored_by moves out_here =
      let longer = length_push edges moves in
      let few = is.found.few in
      record {
        words = longer_words;
        found = subst (AreFound a over new longer_words) (sym longer) (found_more a over sets is.words (length edges) is.found left new letters grows);
        out = λ i within. elim (cases_lt i (length edges)) [
          | inl below ↦
              subst (λ ms. IsOut a over new longer_words i ms) (sym (get_or_append_left edges (moves ∷ []) [] i below)) (old_out i (get_or edges i []) (omega arith) (is.out i below))
          | inr last ↦
              let at : length edges ≡ i = omega arith in
              subst (λ ms. IsOut a over new longer_words i ms) (sym (get_or_push edges moves [] i at)) (subst (λ n. IsOut a over new longer_words n moves) at out_here)
        ];
      }

  -- the words reach as many sets
  pub reach_sets : (n : ℕ) → length new ≡ n → AreDistinct new → ReachSets a over n
  reach_sets n count distinct =
      found_sets a over new longer_words (length edges + 1) (found_more a over sets is.words (length edges) is.found left new letters grows) n (omega arith) distinct

-- the states of a set are states
pub explored_within : (a : Automaton) (over : List Bool) (sets : List (List ℕ)) (edges : List (List Move)) → IsAutomaton a → IsExplored a over sets edges
    → (i : ℕ) → i < length sets → All (λ q. q < states a) (get_or sets i [])
explored_within a over sets edges ok is = found_within a over sets is.words (length edges) is.found ok

-- one set more has been left by its edges
pub explored_more : (a : Automaton) (over : List Bool) (sets : List (List ℕ)) (edges : List (List Move)) (new : List (List ℕ)) (set : List ℕ) (moves : List Move)
    → IsExplored a over sets edges → length edges < length sets → set ≡ get_or sets (length edges) [] → IsExpandedOver a over set sets new moves → IsExplored a over new (edges ++ moves ∷ [])
explored_more a over sets edges new set moves is left at expanded =
    let (rest, none, done) = subst (λ s. IsExpandedOver a over s sets new moves) at expanded in
    explored_by a over sets edges is left new done.letters done.grown moves (record {
      edges = done.edges;
      split = λ k. done.split k ∙ all_read (has over k) (has rest k) (none k);
      leads = λ k read. new_follows a over sets edges is left new done.letters done.grown k moves (done.leads k read (none k));
    })
  where
    all_read : (x y : Bool) → y ≡ false → digit (x && not y) ≡ digit x
    all_read true true e = absurd (false≢true (sym e))
    all_read true false e = refl
    all_read false y e = refl
