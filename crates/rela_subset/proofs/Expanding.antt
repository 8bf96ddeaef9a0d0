-- One more block of letters out of a set.
use Rattle.std.proofs.Common.{◌≡◌, ℕ, ◌+◌, ◌<◌, ◌⊎◌, Bool, true, false, not, ◌&&◌, List, [], ◌∷◌, ◌++◌, length, get_or, refl, sym, ap, ◌∙◌, subst, inl, inr, arith}
use Rattle.std.specs.List.{All, count_by}
use Rattle.std.specs.Option.{IsSome}
use Rattle.std.proofs.lemmas.Bool.{cases_Bool, false≢true}
use Rattle.std.proofs.lemmas.List.Elements.{All-nil, All-weaker}
use Rattle.rela_labels.specs.Letters.{has}
use Rattle.rela_nfa.specs.Automaton.{Automaton, Move, IsMove}
use Rattle.rela_nfa.specs.StateSet.{Lists}
use Rattle.rela_subset.specs.Deterministic.{takes}
use Rattle.rela_subset.specs.Expansion.{HasGrown, IsAlike, IsExpanded, IsPutIn}
use Rattle.rela_subset.specs.Sets.{NextFrom}
use Rattle.rela_subset.proofs.TakenAway.{after, before_or_here, in_rest, not_before, still}
use Rattle.rela_subset.proofs.Bundling.{digit, put_count, put_labelled, put_target, put_target_old}
use Rattle.rela_subset.proofs.Growing.{GrowsBy, comes_new, comes_old, grows_by, grows_new, no_letters}
use Rattle.rela_subset.proofs.Narrowing.{next_alike}

-- no letters yet
pub expanded_none : (a : Automaton) (over rest : List Bool) (set : List ℕ) (sets : List (List ℕ)) (moves : List Move) → rest ≡ over → moves ≡ [] → IsExpanded a over rest set sets sets moves
expanded_none a over rest set sets moves same none = record {
  letters = [];
  grown = no_letters a over set sets;
  edges = record {
    sized = subst (All (IsMove (length over) (length sets))) (sym none) (All-nil (IsMove (length over) (length sets)));
    labelled = subst (All (λ move. IsSome move.label)) (sym none) (All-nil (λ (move : Move). IsSome move.label));
  };
  split = λ k. ap (count_by (takes k)) none ∙ nothing (has over k) (has rest k) (ap (λ b. has b k) same);
  leads = λ k read done. absurd (false≢true (sym done ∙ ap (λ b. has b k) same ∙ read));
  within = λ k h. sym (ap (λ b. has b k) same) ∙ h;
  ahead = λ k h. All-nil (λ found. found < k);
}
  where
    nothing : (x y : Bool) → y ≡ x → 0 ≡ digit (x && not y)
    nothing true true e = refl
    nothing true false e = absurd (cc)
    nothing false y e = refl

-- where the limit is passed, a set is new
pub grown_last : (a : Automaton) (over rest : List Bool) (set : List ℕ) (old mid new : List (List ℕ)) (letter : ℕ) (next : List ℕ) (moves : List Move)
    → IsExpanded a over rest set old mid moves → has rest letter ≡ true → Lists (NextFrom a set letter) next → new ≡ mid ++ next ∷ [] → (letters : List ℕ) × HasGrown a over set old new letters
grown_last a over rest set old mid new letter next moves is among follows pushed =
    let grows = grows_new a over set old mid new is.letters letter (length mid) is.grown (is.ahead letter among) next (is.within letter among) follows pushed refl in
    (is.letters ++ letter ∷ [], grows.grown)

module _ (a : Automaton) (over rest rest' block : List Bool) (set : List ℕ) (old mid new : List (List ℕ)) (letter to : ℕ) (next : List ℕ) (moves moves' : List Move)
    (is : IsExpanded a over rest set old mid moves) (among : has rest letter ≡ true) (least : (k : ℕ) → k < letter → has rest k ≡ false)
    (alike : IsAlike a set rest letter block) (cut : (k : ℕ) → has rest' k ≡ (has rest k && not (has block k)))
    (follows : Lists (NextFrom a set letter) next) (at : get_or new to [] ≡ next) (within : to < length new)
    (put : IsPutIn block to moves moves') where
  free : (k : ℕ) → has block k ≡ true → count_by (takes k) moves ≡ 0
  free k h = is.split k ∙ none (has over k) (has rest k) (in_rest a rest rest' block set letter among least alike cut k h)
    where
      none : (x y : Bool) → y ≡ true → digit (x && not y) ≡ 0
      none true true e = refl
      none true false e = absurd (cc)
      none false y e = refl

  split' : (k : ℕ) → count_by (takes k) moves' ≡ digit (has over k && not (has rest' k))
  split' k =
      put_count block to moves moves' put k (free k) ∙ ap (λ n. n + digit (has block k)) (is.split k)
      ∙ sums (has over k) (has rest k) (has block k) (in_rest a rest rest' block set letter among least alike cut k) (is.within k) ∙ ap (λ b. digit (has over k && not b)) (sym (cut k))
    where
      sums : (x y z : Bool) → (z ≡ true → y ≡ true) → (y ≡ true → x ≡ true) → digit (x && not y) + digit z ≡ digit (x && not (y && not z))
      sums true true true zy yx = omega arith
      sums true true false zy yx = omega arith
      sums true false true zy yx = let never = zy refl in cc
      sums true false false zy yx = omega arith
      sums false true z zy yx = let never = yx refl in cc
      sums false false true zy yx = let never = zy refl in cc
      sums false false false zy yx = omega arith

  expanded_by : (letters' : List ℕ) → GrowsBy a over set old mid new is.letters letters' letter to → length block ≡ length over → IsExpanded a over rest' set old new moves'
  expanded_by letters' grows size = record {
    letters = letters';
    grown = grows.grown;
    edges = put_labelled block to moves moves' put (length over) (length new) size within (record {
      sized = All-weaker (IsMove (length over) (length mid)) (IsMove (length over) (length new))
          (λ move fits. record { sized = fits.sized; leads = let below = fits.leads in let longer = grows.longer in omega arith }) moves is.edges.sized;
      labelled = is.edges.labelled;
    });
    split = split';
    leads = λ k read done. elim (before_or_here a rest rest' block set letter among least alike cut k done) [
      | inl before ↦
          let lead = is.leads k read before in
          let not_block : has block k ≡ false =
          elim (cases_Bool (has block k)) [ inl yes' ↦ absurd (false≢true (sym before ∙ in_rest a rest rest' block set letter among least alike cut k yes')) | inr no' ↦ no' ] in
          record {
            to = lead.to;
            by = put_target_old block to moves moves' put k not_block ∙ lead.by;
            comes = comes_old a over set old mid new is.letters letters' letter to grows k lead.to lead.comes;
          }
      | inr here ↦ record {
        to = to;
        by = put_target block to moves moves' put k here.1 (free k here.1);
        comes = comes_new a over set old mid new is.letters letters' letter to grows k within
            (subst (Lists (NextFrom a set k)) (sym at) (next_alike a set letter k next ((alike k).0 here.1).1 follows)) (not_before a rest rest' block set letter among least alike cut k here.0);
      }
    ];
    within = λ k h. is.within k (still a rest rest' block set letter among least alike cut k h);
    ahead = λ k h. grows.ahead k (is.ahead k (still a rest rest' block set letter among least alike cut k h)) (after a rest rest' block set letter among least alike cut k h);
  }

  pub expanded_more : length block ≡ length over → (new ≡ mid) ⊎ ((new ≡ mid ++ next ∷ []) × (to ≡ length mid)) → IsExpanded a over rest' set old new moves'
  expanded_more size put_sets =
      let (letters', grows) = grows_by a over set old mid new is.letters letter to next is.grown (is.ahead letter among) (is.within letter among) follows within put_sets in
      expanded_by letters' grows size
