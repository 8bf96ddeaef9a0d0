-- The silent ones of edges, and where they lead.
use Rattle.std.proofs.Common.{◌≡◌, ℕ, ◌+◌, ◌<◌, ◌↔◌, zero, suc, Bool, List, [], ◌∷◌, ◌++◌, length, get_or, map, take, Option, None, Some, refl, sym, ap, ◌∙◌, subst, inl, inr}
use Rattle.std.specs.List.{All, Contains}
use Rattle.std.specs.Option.{option_to_list}
use Rattle.std.proofs.lemmas.List.{append-nil, map_more}
use Rattle.std.proofs.lemmas.List.Concat.{flat_map-append}
use Rattle.std.proofs.lemmas.List.Elements.{All-contains, All-map, All-weaker}
use Rattle.rela_nfa.specs.Automaton.{Automaton, IsMove, Move, moves_of, states}
use Rattle.rela_nfa.specs.Reading.{SilentlyFrom}
use Rattle.rela_nfa.specs.Runs.{Follow, HasStep, Step, spelled}
use Rattle.rela_subset.specs.Silent.{IsSilentAs, if_silent, silents}
use Rattle.rela_subset.proofs.SortingOut.{all_among, contains_flat}
use Rattle.rela_subset.proofs.Targets.{Contains-head, Contains-nil, Contains-cons_cases}

-- one edge more
pub silents_more : {X : Type 0} (move : X → Move) (xs : List X) (i : ℕ) (x : X) → i < length xs → x ≡ get_or xs i x
    → silents (map move (take (i + 1) xs)) ≡ silents (map move (take i xs)) ++ if_silent (move x).label (move x).to
silents_more move xs i x below at =
    ap silents (map_more move xs i x below ∙ ap (λ e. map move (take i xs) ++ move e ∷ []) (sym at))
    ∙ flat_map-append (λ m. if_silent m.label m.to) (map move (take i xs)) (move x ∷ [])
    ∙ ap (λ ms. silents (map move (take i xs)) ++ ms) (append-nil (if_silent (move x).label (move x).to))

only : (label : Option (List Bool)) (to : ℕ) (m : Move) → Contains (if_silent label to) m → record { label = label; to = to } ≡ m
only None to m c = elim (Contains-cons_cases (record { label = None; to = to }) [] m c) [ inl same ↦ same | inr other ↦ absurd (Contains-nil m other) ]
only (Some set) to m c = absurd (Contains-nil m c)

silent_among : (moves : List Move) (m : Move) → Contains (silents moves) m → Contains moves m
silent_among moves m c =
    let (n, among, at) = (contains_flat (λ k. if_silent k.label k.to) moves m).0 c in
    subst (Contains moves) (only n.label n.to m at) among

silent_of : (moves : List Move) (q : ℕ) → Contains (silents moves) (record { label = None; to = q }) ↔ Contains moves (record { label = None; to = q })
silent_of moves q =
    let m : Move = record { label = None; to = q } in
    (silent_among moves m, λ among. (contains_flat (λ k. if_silent k.label k.to) moves m).1 (m, among, Contains-head m []))

-- the silent edges of each state are edges of an automaton
pub silents_ok : (letters n : ℕ) (edges : List (List Move)) → All (All (IsMove letters n)) edges → All (All (IsMove letters n)) (map silents edges)
silents_ok letters n edges ok =
    All-map (All (IsMove letters n)) silents edges
    (All-weaker (All (IsMove letters n)) (λ moves. All (IsMove letters n) (silents moves))
    (λ moves all. all_among (IsMove letters n) (silents moves) (λ m c. All-contains (IsMove letters n) moves m all (silent_among moves m c))) edges ok)

at : (edges : List (List Move)) (p : ℕ) → get_or (map silents edges) p [] ≡ silents (get_or edges p [])
at [] p = refl
at (moves ∷ edges) zero = refl
at (moves ∷ edges) (suc p) = at edges p

-- and they lead on as before
pub silent_as : (a s : Automaton) → states s ≡ states a → s.edges ≡ map silents a.edges → IsSilentAs a s
silent_as a s count edges = record {
  count = count;
  silent = λ p q.
      let same : moves_of s p ≡ silents (moves_of a p) = ap (λ l. get_or l p []) edges ∙ at a.edges p in
      let both = silent_of (moves_of a p) q in (
        λ step. both.0 (subst (λ ms. Contains ms (record { label = None; to = q })) same step),
        λ step. subst (λ ms. Contains ms (record { label = None; to = q })) (sym same) (both.1 step),
      );
}

follow_as : (a b : Automaton) → ((p q : ℕ) → HasStep a p None q → HasStep b p None q) → (steps : List Step) (p q : ℕ) → Follow a p steps q → spelled steps ≡ [] → Follow b p steps q
follow_as a b same [] p q follows none = follows
follow_as a b same (step ∷ rest) p q follows none =
    let both = first step.letter follows.0 none in
    (both.0, follow_as a b same rest step.to q follows.1 both.1)
  where
    first : (letter : Option ℕ) → HasStep a p letter step.to → option_to_list letter ++ spelled rest ≡ [] → HasStep b p letter step.to × (spelled rest ≡ [])
    first None taken empty = (same p step.to taken, empty)
    first (Some k) taken empty = absurd (cc)

-- so the same states are led to
pub silently_as : (a s : Automaton) → IsSilentAs a s → (starts : List ℕ) (q : ℕ) → SilentlyFrom s starts q ↔ SilentlyFrom a starts q
silently_as a s is starts q = (
  λ (p, start, (steps, follows, none)). (p, start, (steps, follow_as s a (λ m n. (is.silent m n).0) steps p q follows none, none)),
  λ (p, start, (steps, follows, none)). (p, start, (steps, follow_as a s (λ m n. (is.silent m n).1) steps p q follows none, none)),
)
