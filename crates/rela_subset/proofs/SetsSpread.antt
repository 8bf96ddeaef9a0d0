-- One more block of letters that lead from a set, where no edges are kept.
use Rattle.std.proofs.Common.{◌≡◌, ℕ, ◌<◌, Bool, true, false, not, ◌&&◌, List, [], ◌∷◌, ◌++◌, length, get_or, sym, ap, ◌∙◌, subst, inl, inr}
use Rattle.std.proofs.lemmas.Bool.{false≢true}
use Rattle.std.proofs.lemmas.List.{append_assoc, map_push}
use Rattle.std.proofs.lemmas.List.Elements.{All-nil}
use Rattle.rela_labels.specs.Letters.{has}
use Rattle.rela_nfa.specs.Automaton.{Automaton}
use Rattle.rela_nfa.specs.StateSet.{Lists}
use Rattle.rela_subset.specs.declared.arrival.Arrival.{Arrival}
use Rattle.rela_subset.specs.Expansion.{IsAlike}
use Rattle.rela_subset.specs.Searching.{HasArrived, IsSpread, arrivals_from}
use Rattle.rela_subset.specs.Sets.{NextFrom}
use Rattle.rela_subset.proofs.TakenAway.{after, before_or_here, not_before, still}
use Rattle.rela_subset.proofs.Growing.{GrowsBy, comes_new, comes_old, grows_new, grows_old, no_letters}
use Rattle.rela_subset.proofs.Narrowing.{next_alike}

-- no letters yet
pub spread_none : (a : Automaton) (over rest : List Bool) (set : List ℕ) (sets : List (List ℕ)) → rest ≡ over → IsSpread a over rest set sets sets []
spread_none a over rest set sets same = record {
  grown = no_letters a over set sets;
  leads = λ k read done. absurd (false≢true (sym done ∙ ap (λ b. has b k) same ∙ read));
  within = λ k h. sym (ap (λ b. has b k) same) ∙ h;
  ahead = λ k h. All-nil (λ found. found < k);
}

-- how the sets that were found from the set of number p stand behind what was there
pub record Spreads (a : Automaton) (over rest : List Bool) (p : ℕ) (set : List ℕ) (old new : List (List ℕ)) (before after : List Arrival) : Type 0 where
  pub letters : List ℕ
  pub arrived : after ≡ before ++ arrivals_from p letters
  pub spread : IsSpread a over rest set old new letters

module _ (a : Automaton) (over rest rest' block : List Bool) (set : List ℕ) (old mid new : List (List ℕ)) (letter : ℕ) (next : List ℕ)
    (among : has rest letter ≡ true) (least : (k : ℕ) → k < letter → has rest k ≡ false)
    (alike : IsAlike a set rest letter block) (cut : (k : ℕ) → has rest' k ≡ (has rest k && not (has block k)))
    (follows : Lists (NextFrom a set letter) next) where
  spread_by : (letters letters' : List ℕ) (to : ℕ) → IsSpread a over rest set old mid letters → GrowsBy a over set old mid new letters letters' letter to → to < length new → get_or new to [] ≡ next
      → IsSpread a over rest' set old new letters'
  spread_by letters letters' to is grows within at = record {
    grown = grows.grown;
    leads = λ k read done. elim (before_or_here a rest rest' block set letter among least alike cut k done) [
      | inl before ↦ let lead = is.leads k read before in (lead.0, comes_old a over set old mid new letters letters' letter to grows k lead.0 lead.1)
      | inr here ↦ (
        to,
        comes_new a over set old mid new letters letters' letter to grows k within (subst (Lists (NextFrom a set k)) (sym at) (next_alike a set letter k next ((alike k).0 here.1).1 follows))
            (not_before a rest rest' block set letter among least alike cut k here.0),
      )
    ];
    within = λ k h. is.within k (still a rest rest' block set letter among least alike cut k h);
    ahead = λ k h. grows.ahead k (is.ahead k (still a rest rest' block set letter among least alike cut k h)) (after a rest rest' block set letter among least alike cut k h);
  }

  pub spread_more : (p : ℕ) (start before behind : List Arrival) → Spreads a over rest p set old mid start before
      → HasArrived next (record { from = p; letter = letter }) mid new before behind → Spreads a over rest' p set old new start behind
  spread_more p start before behind is came = elim came.put [
    | inl same ↦ record {
      letters = is.letters;
      arrived = same.1 ∙ is.arrived;
      spread =
          spread_by is.letters is.letters came.to is.spread
          (grows_old a over set old mid new is.letters letter came.to is.spread.grown (is.spread.ahead letter among) same.0 came.within) came.within came.at;
    }
    | inr pushed ↦ record {
      letters = is.letters ++ letter ∷ [];
      arrived =
          pushed.2 ∙ ap (λ l. l ++ record { from = p; letter = letter } ∷ []) is.arrived
          ∙ append_assoc start (arrivals_from p is.letters) (record { from = p; letter = letter } ∷ [])
          ∙ ap (λ l. start ++ l) (sym (map_push (λ k. let arrival : Arrival = record { from = p; letter = k } in arrival) is.letters letter));
      spread =
          spread_by is.letters (is.letters ++ letter ∷ []) came.to is.spread
          (grows_new a over set old mid new is.letters letter came.to is.spread.grown (is.spread.ahead letter among) next (is.spread.within letter among) follows pushed.0 pushed.1)
          came.within came.at;
    }
  ]
