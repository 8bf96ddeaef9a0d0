-- Edges by one letter alone, in ascending order of it.
use Rattle.std.proofs.Common.{◌≡◌, ◌≢◌, ℕ, ◌+◌, ◌-◌, ◌<◌, ◌≤◌, ◌⊎◌, ◌↔◌, ◌==◌, Bool, true, false, List, [], ◌∷◌, ◌++◌, length, get_or, take, drop, sym, ap, ◌∙◌, subst, inl, inr, arith, length-take, length-drop}
use Rattle.std.specs.List.{Contains}
use Rattle.std.specs.List.Sorted.{IsPartitionPoint}
use Rattle.std.proofs.lemmas.Bool.{cases_lt, eq-eqb, eqb-true, false≢true}
use Rattle.std.proofs.lemmas.List.{append-nil, get_or-take, get_or-drop, take_more, take_all}
use Rattle.std.proofs.lemmas.List.Elements.{Contains-append_left, Contains-push, Contains-push_cases}
use Rattle.rela_labels.specs.Letters.{has}
use Rattle.rela_nfa.specs.StateSet.{Adds, Inserts}
use Rattle.rela_subset.specs.Outgoing.{HasEnd, IsAlone}
use Rattle.rela_subset.specs.declared.letter_edge.LetterEdge.{LetterEdge}
use Rattle.rela_subset.proofs.Sets.{adds_both, adds_nothing}
use Rattle.rela_subset.proofs.Targets.{Contains-nil}

-- the edges by a letter stand together
module _ (edges : List LetterEdge) (letter from to : ℕ) (at_start : IsPartitionPoint (λ edge. edge.letter < letter) (λ edge. letter ≤ edge.letter) edges from)
    (at_end : IsPartitionPoint (λ edge. edge.letter ≤ letter) (λ edge. letter < edge.letter) edges to) (from_within : from ≤ length edges) (to_within : to ≤ length edges) where
  pub from_before_to : from ≤ to
  from_before_to = elim (cases_lt to from) [
    | inl below ↦
        let d : LetterEdge = record { letter = 0; to = 0 } in
        let low = at_start.0 to d (omega arith) below in
        let high = at_end.1 to d (omega arith) (omega (arith, from_within, below)) in
        absurd (omega (arith, low, high))
    | inr above ↦ above
  ]

  abbrev part : List LetterEdge
  part = take (to - from) (drop from edges)

  part_length : length part ≡ to - from
  part_length = let v = from_before_to in simp (length-take, length-drop) (omega (arith, v, to_within, from_within))

  part_at : (k : ℕ) (d : LetterEdge) → k < to - from → get_or part k d ≡ get_or edges (from + k) d
  part_at k d h = rw (get_or-take, get_or-drop)

  pub all_between : (q : ℕ) → HasEnd edges letter q ↔ ((k : ℕ) × HasEnd (take (to - from) (drop from edges)) k q)
  all_between q = (
    λ h.
        let edge : LetterEdge = record { letter = letter; to = q } in
        let own : (get_or edges h.0 edge).letter ≡ letter = ap (λ (e : LetterEdge). e.letter) h.2 in
        let low : from ≤ h.0 = elim (cases_lt h.0 from) [ inl below ↦ let l = at_start.0 h.0 edge (omega arith) below in absurd (omega (arith, l, own)) | inr above ↦ above ] in
        let high : h.0 < to = elim (cases_lt h.0 to) [ inl below ↦ below | inr above ↦ let l = at_end.1 h.0 edge above h.1 in absurd (omega (arith, l, own)) ] in
        let small : h.0 - from < to - from = omega (arith, low, high) in
        let place : from + (h.0 - from) ≡ h.0 = omega (arith, low) in
        (letter, (h.0 - from, subst (λ n. h.0 - from < n) (sym part_length) small, part_at (h.0 - from) edge small ∙ ap (λ n. get_or edges n edge) place ∙ h.2)),
    λ (k, (i, below, at)).
        let edge : LetterEdge = record { letter = k; to = q } in
        let small : i < to - from = subst (λ n. i < n) part_length below in
        let there : from + i < length edges = omega (arith, small, to_within) in
        let found : get_or edges (from + i) edge ≡ edge = sym (part_at i edge small) ∙ at in
        let own : (get_or edges (from + i) edge).letter ≡ k = ap (λ (e : LetterEdge). e.letter) found in
        let low = at_start.1 (from + i) edge (omega arith) there in
        let high = at_end.0 (from + i) edge (omega arith) (omega (arith, small)) in
        let same : k ≡ letter = omega (arith, low, high, own) in
        subst (λ l. HasEnd edges l q) same (from + i, there, found),
  )

-- the letters of the edges so far
abbrev pub AreLetters : List LetterEdge → List Bool → Type 0
AreLetters edges set = (k : ℕ) → (has set k ≡ true) ↔ ((q : ℕ) × HasEnd edges k q)

pub letters_none : (set : List Bool) → ((k : ℕ) → has set k ≡ false) → AreLetters [] set
letters_none set empty k = (λ h. absurd (false≢true (sym (empty k) ∙ h)), λ (q, c). absurd (Contains-nil _ c))

pub letters_more : (edges : List LetterEdge) (i : ℕ) (d : LetterEdge) (set set' : List Bool) → i < length edges → AreLetters (take i edges) set
    → has set' (get_or edges i d).letter ≡ true → ((k : ℕ) → k ≢ (get_or edges i d).letter → has set' k ≡ has set k) → AreLetters (take (i + 1) edges) set'
letters_more edges i d set set' below before added others =
    let edge : LetterEdge = get_or edges i d in
    subst (λ es. AreLetters es set') (sym (take_more edges i d below)) (λ k. (
      λ h. elim (cases_here edge.letter k) [
        | inl same ↦ (edge.to, subst (λ l. HasEnd (take i edges ++ edge ∷ []) l edge.to) (sym same) (Contains-push (take i edges) edge))
        | inr apart ↦ let (q, c) = (before k).0 (sym (others k apart) ∙ h) in (q, Contains-append_left (take i edges) (edge ∷ []) _ c)
      ],
      λ (q, c). elim (cases_here edge.letter k) [
        | inl same ↦ subst (λ l. has set' l ≡ true) (sym same) added
        | inr apart ↦ elim (Contains-push_cases (take i edges) edge _ c) [
          | inl earlier ↦ others k apart ∙ (before k).1 (q, earlier)
          | inr here ↦ absurd (apart (sym (ap (λ (e : LetterEdge). e.letter) here)))
        ]
      ],
    ))
  where
    cases_here : (letter k : ℕ) → (k ≡ letter) ⊎ (k ≢ letter)
    cases_here letter k = elim (cases_lt k letter) [
      | inl less ↦ inr (λ e. omega (arith, less, e))
      | inr upto ↦ elim (cases_lt letter k) [ inl more ↦ inr (λ e. omega (arith, more, e)) | inr equal ↦ inl (omega (arith, upto, equal)) ]
    ]

pub letters_all : (edges : List LetterEdge) (i : ℕ) (set : List Bool) → length edges ≤ i → AreLetters (take i edges) set → AreLetters edges set
letters_all edges i set all are = subst (λ es. AreLetters es set) (take_all i edges all) are

-- the only letter of a set is alone
pub only_alone : (set : List Bool) (only : ℕ) → ((k : ℕ) → has set k ≡ (only == k)) → IsAlone set only
only_alone set only is k = (λ h. sym (eqb-true only k (sym (is k) ∙ h)), λ e. is k ∙ eq-eqb only k (sym e))

-- the ends of the edges so far
abbrev pub IsEnd : List LetterEdge → ℕ → Type 0
IsEnd edges q = (k : ℕ) × HasEnd edges k q

pub ends_none : (now : List ℕ) → Adds (IsEnd []) now now
ends_none now = adds_nothing (IsEnd []) now (λ m (k, c). Contains-nil _ c)

inserted : (n : ℕ) (old new : List ℕ) → Inserts old new n → Adds (λ q. n ≡ q) old new
inserted n old new inserts = record {
  longer = elim inserts.1 [ inl same ↦ ([], same ∙ sym (append-nil old)) | inr more ↦ (n ∷ [], more) ];
  each = λ m c. elim inserts.1 [ inl same ↦ inl (subst (λ l. Contains l m) same c) | inr more ↦ Contains-push_cases old n m (subst (λ l. Contains l m) more c) ];
  all = λ m same. subst (Contains new) same inserts.0;
}

pub ends_more : (edges : List LetterEdge) (i : ℕ) (d : LetterEdge) (first mid new : List ℕ) → i < length edges → Adds (IsEnd (take i edges)) first mid
    → Inserts mid new (get_or edges i d).to → Adds (IsEnd (take (i + 1) edges)) first new
ends_more edges i d first mid new below before inserts =
    let edge : LetterEdge = get_or edges i d in
    subst (λ es. Adds (IsEnd es) first new) (sym (take_more edges i d below))
    (adds_both (IsEnd (take i edges)) (λ q. edge.to ≡ q) (IsEnd (take i edges ++ edge ∷ [])) first mid new before (inserted edge.to mid new inserts)
    (λ m (k, c). (k, Contains-append_left (take i edges) (edge ∷ []) _ c))
    (λ m same. (edge.letter, subst (λ n. HasEnd (take i edges ++ edge ∷ []) edge.letter n) same (Contains-push (take i edges) edge)))
    (λ m (k, c). elim (Contains-push_cases (take i edges) edge _ c) [ inl earlier ↦ inl (k, earlier) | inr here ↦ inr (ap (λ (e : LetterEdge). e.to) here) ]))

pub ends_all : (edges : List LetterEdge) (i : ℕ) (first now : List ℕ) → length edges ≤ i → Adds (IsEnd (take i edges)) first now → Adds (IsEnd edges) first now
ends_all edges i first now all adds = subst (λ es. Adds (IsEnd es) first now) (take_all i edges all) adds
