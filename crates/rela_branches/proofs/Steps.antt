-- Steps over one symbol, and words of path symbols.
use Rattle.std.proofs.Common.{◌≡◌, ℕ, ◌+◌, ◌<◌, ◌≤◌, ◌↔◌, ◌⊎◌, List, [], ◌∷◌, ◌++◌, length, get_or, take, drop, inl, inr, arith, refl, sym, ap, subst, ◌∙◌, length-append, append_assoc}
use Rattle.std.specs.Prelude.{Some, slice_get}
use Rattle.std.specs.List.{All, concat}
use Rattle.std.proofs.lemmas.List.{drop_more, drop_all, get_or_append_left, length-take-le, take-append-drop}
use Rattle.std.proofs.lemmas.List.Elements.{All-nil, All-cons, All-head, All-tail, All-append}
use Rattle.std.proofs.lemmas.Option.{get_or_from_slice_get, slice_get-get_or}
use Rattle.std.proofs.Math.Seq.{get_or-append_seam}
use Rattle.rela_rir.specs.Words.{Star}
use Rattle.rela_rir.specs.Meaning.{IsPathWord}
use Rattle.rela_rir.specs.declared.set.SymbolSet.{SymbolSet}
use Rattle.rela_branches.specs.Places.{AreBelow, Has}
use Rattle.rela_branches.specs.Walks.{IsBefore, IsLed, IsLetter, IsStep}
use Rattle.rela_branches.specs.declared.letters.Letter.{Letter}
use Rattle.rela_branches.specs.declared.letters.Letter.TheVariants.{Path}
use Rattle.rela_branches.proofs.Members.{follow, has_next, has_none}

-- a front that ends behind the symbol at a place
last_split : (front rest : List ℕ) (i s : ℕ) → slice_get (front ++ rest) i ≡ Some s → length front ≡ i + 1 → front ≡ take i front ++ s ∷ []
last_split front rest i s read long =
    let inside : i < length front = omega arith in
    let at : get_or front i 0 ≡ s = sym (get_or_append_left front rest 0 i inside) ∙ get_or_from_slice_get (front ++ rest) i s 0 read in
    let last : drop i front ≡ s ∷ [] =
    drop_more front i 0 inside ∙ ap (λ (x : ℕ). x ∷ drop (i + 1) front) at ∙ ap (λ (xs : List ℕ). s ∷ xs) (drop_all (i + 1) front (omega arith)) in
    sym (take-append-drop i front) ∙ ap (λ (xs : List ℕ). take i front ++ xs) last

module _ (classes : List SymbolSet) (path_symbols : ℕ) (word : List ℕ) (letter : Letter) where
  -- the words of one symbol of the letter
  abbrev pub Symbols : List ℕ → Type 0
  Symbols w = (s : ℕ) × (w ≡ s ∷ []) × IsLetter classes path_symbols letter s

  pub step_led : (from to : List ℕ) → IsStep classes path_symbols word letter from to → IsLed word Symbols from to
  step_led from to step = record {
    below = step.below;
    has = λ front rest split. follow (step.has (length front)) (
      λ h.
          let i = h.0 in
          let s = h.2.0 in
          let long = h.3 in
          let joined : front ≡ take i front ++ s ∷ [] = last_split front rest i s (subst (λ (w : List ℕ). slice_get w i ≡ Some s) split h.2.1) long in
          let start : length (take i front) ≡ i = length-take-le i front (omega arith) in
          record { start = take i front; piece = s ∷ []; joined = joined; begun = subst (Has from) (sym start) h.1; in_set = (s, refl, h.2.2) },
      λ a.
          let s = a.in_set.0 in
          let joined : front ≡ a.start ++ s ∷ [] = a.joined ∙ ap (λ (p : List ℕ). a.start ++ p) a.in_set.1 in
          let whole : word ≡ a.start ++ s ∷ rest = split ∙ ap (λ (f : List ℕ). f ++ rest) joined ∙ append_assoc a.start (s ∷ []) rest in
          let long : length word ≡ length a.start + length (s ∷ rest) = ap length whole ∙ length-append a.start (s ∷ rest) in
          let inside : length a.start < length word = omega arith in
          let at : get_or word (length a.start) 0 ≡ s = ap (λ (w : List ℕ). get_or w (length a.start) 0) whole ∙ get_or-append_seam a.start s rest 0 in
          let read : slice_get word (length a.start) ≡ Some s = slice_get-get_or word (length a.start) 0 inside ∙ ap (λ (x : ℕ). Some x) at in
          let end : length front ≡ length a.start + 1 = ap length joined ∙ length-append a.start (s ∷ []) in
          (length a.start, a.begun, (s, read, a.in_set.2), end),
    );
  }

  -- one more place is stepped from, or is not
  abbrev Stepped : List ℕ → ℕ → Type 0
  Stepped from j = (i : ℕ) × Has from i × IsBefore classes path_symbols word letter i × (j ≡ i + 1)

  module _ (from : List ℕ) (xs xs' : List ℕ) (k : ℕ) (inside : k < length from)
      (so_far : (j : ℕ) → (Has xs j ⊎ Stepped (drop k from) j) ↔ Stepped from j) where
    pub step_more : IsBefore classes path_symbols word letter (get_or from k 0)
        → ((j : ℕ) → Has xs' j ↔ (Has xs j ⊎ (j ≡ get_or from k 0 + 1)))
        → (j : ℕ) → (Has xs' j ⊎ Stepped (drop (k + 1) from) j) ↔ Stepped from j
    step_more before pushed j =
        let x = get_or from k 0 in
        follow (
          λ h. elim h [
            | inl there ↦ elim ((pushed j).0 there) [ inl old ↦ inl old | inr e ↦ inr (x, (has_next from k x inside).1 (inl refl), before, e) ]
            | inr later ↦ inr (later.0, (has_next from k later.0 inside).1 (inr later.1), later.2, later.3)
          ],
          λ h. elim h [
            | inl old ↦ inl ((pushed j).1 (inl old))
            | inr there ↦ elim ((has_next from k there.0 inside).0 there.1) [
              | inl e ↦ inl ((pushed j).1 (inr (there.3 ∙ ap (λ (i : ℕ). i + 1) e)))
              | inr later ↦ inr (there.0, later, there.2, there.3)
            ]
          ],
        ) (so_far j)

    pub step_less : (IsBefore classes path_symbols word letter (get_or from k 0) → ⊥)
        → (j : ℕ) → (Has xs j ⊎ Stepped (drop (k + 1) from) j) ↔ Stepped from j
    step_less before j =
        follow (
          λ h. elim h [ inl old ↦ inl old | inr later ↦ inr (later.0, (has_next from k later.0 inside).1 (inr later.1), later.2, later.3) ],
          λ h. elim h [
            | inl old ↦ inl old
            | inr there ↦ elim ((has_next from k there.0 inside).0 there.1) [
              | inl e ↦ absurd (before (subst (IsBefore classes path_symbols word letter) e there.2))
              | inr later ↦ inr (there.0, later, there.2, there.3)
            ]
          ],
        ) (so_far j)

  pub step_done : (from to : List ℕ) (k : ℕ) → length from ≤ k → AreBelow (length word + 1) to
      → ((j : ℕ) → (Has to j ⊎ Stepped (drop k from) j) ↔ Stepped from j) → IsStep classes path_symbols word letter from to
  step_done from to k past below so_far = record {
    below = below;
    has = λ j. follow (λ h. inl h, λ h. elim h [ inl there ↦ there | inr left ↦ absurd (has_none from k left.0 past left.1) ]) (so_far j);
  }

-- words of path symbols are words of one path symbol after another
module _ (classes : List SymbolSet) (path_symbols : ℕ) where
  abbrev OfPath : List ℕ → Type 0
  OfPath = Symbols classes path_symbols [] Path

  all_of : (pieces : List (List ℕ)) → All OfPath pieces → IsPathWord path_symbols (concat pieces)
  all_of [] each = All-nil (λ s. s < path_symbols)
  all_of (piece ∷ pieces) each =
      let one = All-head OfPath piece pieces each in
      All-append (λ s. s < path_symbols) piece (concat pieces)
      (subst (IsPathWord path_symbols) (sym one.1) (All-cons (λ s. s < path_symbols) one.0 [] one.2 (All-nil (λ s. s < path_symbols))))
      (all_of pieces (All-tail OfPath piece pieces each))

  star_of : (w : List ℕ) → IsPathWord path_symbols w → Star OfPath w
  star_of [] all = record { pieces = []; joined = refl; each = All-nil OfPath }
  star_of (s ∷ w) all =
      let later = star_of w (All-tail (λ t. t < path_symbols) s w all) in record {
        pieces = (s ∷ []) ∷ later.pieces;
        joined = ap (λ (v : List ℕ). s ∷ v) later.joined;
        each = All-cons OfPath (s ∷ []) later.pieces (s, refl, All-head (λ t. t < path_symbols) s w all) later.each;
      }

  pub path_words : (w : List ℕ) → Star OfPath w ↔ IsPathWord path_symbols w
  path_words w = (λ star. subst (IsPathWord path_symbols) (sym star.joined) (all_of star.pieces star.each), λ all. star_of w all)
