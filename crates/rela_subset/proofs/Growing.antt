-- The sets that follow a set, where one more letter has been asked for.
use Rattle.std.proofs.Common.{◌≡◌, ℕ, ◌+◌, ◌-◌, ◌<◌, ◌≤◌, ◌⊎◌, Bool, true, List, [], ◌∷◌, ◌++◌, length, get_or, refl, sym, ap, ◌∙◌, subst, inl, inr, arith, length-append}
use Rattle.std.specs.List.{All}
use Rattle.std.proofs.lemmas.Bool.{cases_lt}
use Rattle.std.proofs.lemmas.List.{append-nil, append_assoc, get_or_append_left, get_or_push, length_push}
use Rattle.std.proofs.lemmas.List.Elements.{All-nil, All-push}
use Rattle.rela_labels.specs.Letters.{has}
use Rattle.rela_nfa.specs.Automaton.{Automaton}
use Rattle.rela_nfa.specs.StateSet.{Lists}
use Rattle.rela_subset.specs.Expansion.{Comes, HasGrown}
use Rattle.rela_subset.specs.Sets.{NextFrom}

-- how the sets and the letters by which they were found stand after one that was asked for by a letter
pub record GrowsBy (a : Automaton) (over : List Bool) (set : List ℕ) (old mid new : List (List ℕ)) (letters letters' : List ℕ) (letter to : ℕ) : Type 0 where
  pub grown : HasGrown a over set old new letters'
  pub longer : length mid ≤ length new
  pub same : (t : ℕ) → t < length mid → get_or new t [] ≡ get_or mid t []
  pub kept : (i : ℕ) → i < length letters → (i < length letters') × (get_or letters' i 0 ≡ get_or letters i 0)
  pub early : (to < length old) ⊎ ((i : ℕ) × (i < length letters') × (to ≡ length old + i) × (get_or letters' i 0 ≤ letter))
  pub ahead : (k : ℕ) → All (λ found. found < k) letters → letter < k → All (λ found. found < k) letters'

module _ (a : Automaton) (over : List Bool) (set : List ℕ) (old mid new : List (List ℕ)) (letters : List ℕ) (letter to : ℕ)
    (grown : HasGrown a over set old mid letters) (ahead : All (λ found. found < letter) letters) where
  mid_length : length mid ≡ length old + length letters
  mid_length = ap length grown.appended ∙ length-append old grown.more ∙ ap (λ n. length old + n) grown.each

  -- the set was among them
  pub grows_old : new ≡ mid → to < length new → GrowsBy a over set old mid new letters letters letter to
  grows_old same within = record {
    grown = subst (λ sets. HasGrown a over set old sets letters) (sym same) grown;
    longer = let e = ap length same in omega arith;
    same = λ t below. ap (λ sets. get_or sets t []) same;
    kept = λ i below. (below, refl);
    early = elim (cases_lt to (length old)) [
      | inl below ↦ inl below
      | inr above ↦
          let i : ℕ = to - length old in
          let in_letters : i < length letters = omega (arith, ap length same, mid_length) in
          let before : get_or letters i 0 < letter = ahead i 0 in_letters in
          inr (i, in_letters, omega arith, omega arith)
    ];
    ahead = λ k all below. all;
  }

  -- the set is new
  pub grows_new : (next : List ℕ) → has over letter ≡ true → Lists (NextFrom a set letter) next → new ≡ mid ++ next ∷ [] → to ≡ length mid → GrowsBy a over set old mid new letters (letters ++ letter ∷ []) letter to
  grows_new next read follows pushed at =
      let more = grown.more ++ next ∷ [] in
      let letters' = letters ++ letter ∷ [] in
      let len : length letters' ≡ length letters + 1 = length_push letters letter in
      let more_len : length more ≡ length letters + 1 = length_push grown.more next ∙ ap (λ n. n + 1) grown.each in
      let each = grown.each in
      record {
        grown = record {
          more = more;
          appended = pushed ∙ ap (λ sets. sets ++ next ∷ []) grown.appended ∙ append_assoc old grown.more (next ∷ []);
          each = more_len ∙ sym len;
          rising = λ i j below within. elim (cases_lt j (length letters)) [
            | inl before ↦
                subst (λ n. n < get_or letters' j 0) (sym (get_or_append_left letters (letter ∷ []) 0 i (omega arith)))
                (subst (λ n. get_or letters i 0 < n) (sym (get_or_append_left letters (letter ∷ []) 0 j before)) (grown.rising i j below before))
            | inr last ↦
                subst (λ n. n < get_or letters' j 0) (sym (get_or_append_left letters (letter ∷ []) 0 i (omega arith)))
                (subst (λ n. get_or letters i 0 < n) (sym (get_or_push letters letter 0 j (omega arith))) (ahead i 0 (omega arith)))
          ];
          read = All-push (λ k. has over k ≡ true) letters letter grown.read read;
          found = λ i within. elim (cases_lt i (length letters)) [
            | inl before ↦
                subst (λ k. Lists (NextFrom a set k) (get_or more i [])) (sym (get_or_append_left letters (letter ∷ []) 0 i before))
                (subst (λ s. Lists (NextFrom a set (get_or letters i 0)) s) (sym (get_or_append_left grown.more (next ∷ []) [] i (omega arith))) (grown.found i before))
            | inr last ↦
                subst (λ k. Lists (NextFrom a set k) (get_or more i [])) (sym (get_or_push letters letter 0 i (omega arith)))
                (subst (λ s. Lists (NextFrom a set letter) s) (sym (get_or_push grown.more next [] i (omega arith))) follows)
          ];
        };
        longer = let e : length new ≡ length mid + 1 = ap length pushed ∙ length_push mid next in omega arith;
        same = λ t below. ap (λ sets. get_or sets t []) pushed ∙ get_or_append_left mid (next ∷ []) [] t below;
        kept = λ i below. (omega arith, get_or_append_left letters (letter ∷ []) 0 i below);
        early = let last : get_or letters' (length letters) 0 ≡ letter = get_or_push letters letter 0 (length letters) refl in
            inr (length letters, omega arith, at ∙ mid_length, omega arith);
        ahead = λ k all below. All-push (λ found. found < k) letters letter all below;
      }

pub no_letters : (a : Automaton) (over : List Bool) (set : List ℕ) (sets : List (List ℕ)) → HasGrown a over set sets sets []
no_letters a over set sets = record {
  more = [];
  appended = sym (append-nil sets);
  each = refl;
  rising = λ i j below within. absurd (omega (arith, within));
  read = All-nil (λ letter. has over letter ≡ true);
  found = λ i within. absurd (omega (arith, within));
}

module _ (a : Automaton) (over : List Bool) (set : List ℕ) (old mid new : List (List ℕ)) (letters letters' : List ℕ) (letter to : ℕ)
    (grows : GrowsBy a over set old mid new letters letters' letter to) where
  -- where an earlier letter came
  pub comes_old : (k t : ℕ) → Comes a set old mid letters k t → Comes a set old new letters' k t
  comes_old k t comes =
      let below = comes.within in let longer = grows.longer in
      record {
        within = omega arith;
        follows = subst (Lists (NextFrom a set k)) (sym (grows.same t below)) comes.follows;
        early = elim comes.early [
          | inl older ↦ inl older
          | inr new_one ↦
              let kept = grows.kept new_one.0 new_one.1 in
              inr (new_one.0, kept.0, new_one.2, subst (λ n. n ≤ k) (sym kept.1) new_one.3)
        ];
      }

  -- where this letter comes, and a later one by which the same edges may be taken
  pub comes_new : (k : ℕ) → to < length new → Lists (NextFrom a set k) (get_or new to []) → letter ≤ k → Comes a set old new letters' k to
  comes_new k within follows upto = record {
    within = within;
    follows = follows;
    early = elim grows.early [
      | inl older ↦ inl older
      | inr new_one ↦ let before = new_one.3 in inr (new_one.0, new_one.1, new_one.2, omega arith)
    ];
  }

-- the set was among them, or is new
pub grows_by : (a : Automaton) (over : List Bool) (set : List ℕ) (old mid new : List (List ℕ)) (letters : List ℕ) (letter to : ℕ) (next : List ℕ)
    → HasGrown a over set old mid letters → All (λ found. found < letter) letters → has over letter ≡ true → Lists (NextFrom a set letter) next → to < length new
    → (new ≡ mid) ⊎ ((new ≡ mid ++ next ∷ []) × (to ≡ length mid)) → (letters' : List ℕ) × GrowsBy a over set old mid new letters letters' letter to
grows_by a over set old mid new letters letter to next grown ahead read follows within put = elim put [
  | inl same ↦ (letters, grows_old a over set old mid new letters letter to grown ahead same within)
  | inr pushed ↦ (letters ++ letter ∷ [], grows_new a over set old mid new letters letter to grown ahead next read follows pushed.0 pushed.1)
]
