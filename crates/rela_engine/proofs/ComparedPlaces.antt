-- Where the comparison of two automata passes the limit, places of the terms that they were made of tell so many words apart.
use Rattle.std.proofs.Common.{◌≡◌, ◌+◌, ◌<◌, ◌⊎◌, ℕ, List, [], length, map, get_or, sym, ◌∙◌, subst, inl, inr, arith}
use Rattle.std.specs.Prelude.{Option}
use Rattle.std.specs.List.{AllPairs}
use Rattle.std.specs.Option.{ForSome}
use Rattle.std.proofs.lemmas.List.{length-map, get_or-map}
use Rattle.std.proofs.lemmas.List.Elements.{All-map, All-from_get_or}
use Rattle.rela_build.specs.Made.{Leads}
use Rattle.rela_build.specs.Reading.{read_by}
use Rattle.rela_compare.specs.Comparison.{ReachPairsBefore}
use Rattle.rela_labels.specs.Partition.{block_count, IsPartition}
use Rattle.rela_names.specs.Shortlex.{IsBefore}
use Rattle.rela_nfa.specs.Automaton.{Automaton}
use Rattle.rela_nfa.specs.Runs.{Reach}
use Rattle.rela_rir.specs.Limit.{IsCheckWord, ReachedPair}
use Rattle.rela_rir.specs.Places.{Scene}
use Rattle.rela_rir.specs.Tables.{IsPlaced, ManyWords, ToldByState}
use Rattle.rela_rir.specs.declared.term.PathTerm.{PathTerm}
use Rattle.rela_subset.specs.Subsets.{AreApart}
use Rattle.rela_engine.proofs.LeastSymbols.{least_word, least_words}
use Rattle.rela_engine.proofs.LeastWords.{before_letters}
use Rattle.rela_engine.proofs.LetterLaws.{Below}
use Rattle.rela_engine.proofs.PathLetters.{word_of_symbols}

-- terms have so many words that places tell apart as states that stand for their places tell apart
abbrev pub TellsByStates : Scene → Type 0
TellsByStates m =
    (last : Option (List ℕ)) (x y : PathTerm) (a b : List ℕ × Automaton) → IsPlaced m x (Leads a.0 a.1) → IsPlaced m y (Leads b.0 b.1) → (k : ℕ)
    → ManyWords (λ w. IsCheckWord m w × ForSome last (λ end. ¬ IsBefore end w)) (λ w z. ToldByState (Leads a.0 a.1) w z ⊎ ToldByState (Leads b.0 b.1) w z) k
    → ReachedPair m last x y k

module _ (m : Scene) (blocks : List ℕ) (is : IsPartition blocks) (symbols : length blocks ≡ m.setting.path_symbols + m.markers) where
  abbrev f : ℕ → ℕ
  f = read_by blocks

  -- a word that is read as letters is one of the check
  pub check_word : (v w : List ℕ) → map f v ≡ w → Below (block_count blocks) w → IsCheckWord m v
  check_word v w e below = subst (λ (k : ℕ). Below k v) symbols (word_of_symbols blocks v (subst (Below (block_count blocks)) (sym e) below))

  module _ (told : TellsByStates m) (x y : PathTerm) (a b : Automaton) (a_letters : a.letters ≡ block_count blocks)
      (placed_a : IsPlaced m x (Leads blocks a)) (placed_b : IsPlaced m y (Leads blocks b))
      (P P' : List ℕ → Type 0) (on : (w : List ℕ) → P w → P' (map f w)) (limit : ℕ) (many : ReachPairsBefore a b P' (limit + 1)) where
    abbrev word : List ℕ → List ℕ
    word = least_word blocks is

    below_at : (i : ℕ) → i < length many.words → Below (block_count blocks) (get_or many.words i [])
    below_at i within = subst (λ (k : ℕ). Below k (get_or many.words i [])) a_letters (many.letters i [] within)

    read_at : (i : ℕ) → i < length many.words → map f (word (get_or many.words i [])) ≡ get_or many.words i []
    read_at i within = (least_words blocks is (get_or many.words i []) (below_at i within)).read

    -- words of letters that some state tells apart are told apart as words of symbols
    told_by : (c : Automaton) (v w v' w' : List ℕ) → map f v' ≡ v → map f w' ≡ w → AreApart c v w → ToldByState (Leads blocks c) v' w'
    told_by c v w v' w' e d (q, one) = (
      q,
      elim one [
        | inl first ↦ inl (subst (Reach c q) (sym e) first.0, λ h. first.1 (subst (Reach c q) d h))
        | inr second ↦ inr ((λ h. second.1 (subst (Reach c q) e h)), subst (Reach c q) (sym d) second.0)
      ],
    )

    abbrev Told : List ℕ → List ℕ → Type 0
    Told v w = ToldByState (Leads blocks a) v w ⊎ ToldByState (Leads blocks b) v w

    told_at : (i j : ℕ) → i < j → j < length many.words → Told (word (get_or many.words i [])) (word (get_or many.words j []))
    told_at i j before within =
        let v = get_or many.words i [] in
        let w = get_or many.words j [] in
        let e = read_at i (omega (arith, before, within)) in
        elim (many.apart i j [] before within) [
          | inl one ↦ inl (told_by a v w (word v) (word w) e (read_at j within) one)
          | inr two ↦ inr (told_by b v w (word v) (word w) e (read_at j within) two)
        ]

    apart : AllPairs Told (map word many.words)
    apart i j d before within =
        let in_j : j < length many.words = omega (arith, within, length-map many.words word) in
        let in_i : i < length many.words = omega (arith, before, in_j) in
        subst (λ (v : List ℕ). Told v (get_or (map word many.words) j d)) (sym (get_or-map word many.words i [] d in_i))
        (subst (λ (w : List ℕ). Told (word (get_or many.words i [])) w) (sym (get_or-map word many.words j [] d in_j)) (told_at i j before in_j))

    module _ (last : Option (List ℕ)) (ends : ForSome last P) where
      abbrev IsEarly : List ℕ → Type 0
      IsEarly w = IsCheckWord m w × ForSome last (λ end. ¬ IsBefore end w)

      early_at : (i : ℕ) → i < length many.words → IsEarly (word (get_or many.words i []))
      early_at i within =
          let w = get_or many.words i [] in
          let least = least_words blocks is w (below_at i within) in (
            check_word (word w) w least.read (below_at i within),
            λ end at before.
                many.early i [] within (map f end) (on end (ends end at))
                (subst (IsBefore (map f end)) least.read (before_letters blocks is end (word w) least.least before)),
          )

      -- a comparison that passes the limit has so many words that places tell apart
      pub comparison_passes : ReachedPair m last x y (limit + 1)
      comparison_passes =
          told last x y (blocks, a) (blocks, b) placed_a placed_b (limit + 1) (record {
            words = map word many.words;
            many = length-map many.words word ∙ many.count;
            each = All-map IsEarly word many.words (All-from_get_or (λ w. IsEarly (word w)) many.words [] early_at);
            apart = apart;
          })
