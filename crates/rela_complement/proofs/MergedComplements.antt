-- What is known of an automaton with letters merged, and of its complement, read with each letter as its class.
use Rattle.std.proofs.Common.{◌≡◌, ◌∙◌, ℕ, ◌↔◌, Bool, true, List, [], ◌++◌, length, map, inl, inr, sym, subst}
use Rattle.std.proofs.lemmas.List.{map-append, length-map}
use Rattle.std.proofs.lemmas.List.Elements.{All-append, All-map, All-weaker}
use Rattle.rela_labels.specs.Letters.{has}
use Rattle.rela_labels.specs.Partition.{block_of}
use Rattle.rela_nfa.specs.Automaton.{Automaton, IsAutomaton}
use Rattle.rela_nfa.specs.Relabelling.{IsRelabelled}
use Rattle.rela_nfa.specs.Runs.{Reach, Accepts}
use Rattle.rela_build.specs.Complement.{IsComplement}
use Rattle.rela_subset.specs.Subsets.{AreApart, ReachSame, ReachSets}
use Rattle.rela_complement.specs.Merging.{IsMerged}
use Rattle.rela_complement.specs.Telling.{IsTold, TellsWords}
use Rattle.rela_complement.proofs.OtherLetters.{Below, IsOver, accepts_by, over_back, over_below, over_on, reach_by, reached_below, relabelled_ok}
use Rattle.rela_complement.proofs.Pairs.{pairs_among, pairs_mapped}

module _ (a : Automaton) (over : List Bool) (classes : List ℕ) (m : Automaton) (merged : List Bool) (is : IsMerged a over classes m merged) where
  -- the word of classes
  abbrev f : List ℕ → List ℕ
  f w = map (block_of classes) w

  within : (w : List ℕ) → IsOver over w → Below (length classes) w
  within w each = over_below classes merged w (subst (λ (s : List Bool). IsOver s w) is.over_by_classes each)

  to_classes : (w : List ℕ) → IsOver over w → IsOver merged (f w)
  to_classes w each = over_on classes merged w (subst (λ (s : List Bool). IsOver s w) is.over_by_classes each)

  of_classes : (w : List ℕ) → Below (length classes) w → IsOver merged (f w) → IsOver over w
  of_classes w below each = subst (λ (s : List Bool). IsOver s w) (sym is.over_by_classes) (over_back classes merged w below each)

  reach : (q : ℕ) (w : List ℕ) → IsOver over w → Reach a q w ↔ Reach m q (f w)
  reach q w each = reach_by classes m a is.by_classes q w (within w each)

  accepts : (w : List ℕ) → IsOver over w → Accepts a w ↔ Accepts m (f w)
  accepts w each = accepts_by classes m a is.by_classes w (within w each)

  -- ---- the complement

  module _ (s r : Automaton) (c : IsComplement m merged s) (spread : IsRelabelled classes s r) where
    r_ok : IsAutomaton r
    r_ok = relabelled_ok classes s r spread c.automaton

    below : (q : ℕ) (w : List ℕ) → Reach r q w → Below (length classes) w
    below q w reached = reached_below classes s r spread q w reached

    same : (v w : List ℕ) → IsOver over v → IsOver over w → ReachSame a v w → ReachSame m (f v) (f w)
    same v w v_over w_over alike q = (
      λ reached. (reach q w w_over).0 ((alike q).0 ((reach q v v_over).1 reached)),
      λ reached. (reach q v v_over).0 ((alike q).1 ((reach q w w_over).1 reached)),
    )

    apart : (v w : List ℕ) → IsOver over v → IsOver over w → AreApart m (f v) (f w) → AreApart a v w
    apart v w v_over w_over (q, inl (does, lacks)) = (q, inl ((reach q v v_over).1 does, λ reached. lacks ((reach q w w_over).0 reached)))
    apart v w v_over w_over (q, inr (does, lacks)) = (q, inr ((reach q w w_over).1 does, λ reached. lacks ((reach q v v_over).0 reached)))

    pub complement : IsComplement a over r
    complement = record {
      automaton = r_ok;
      letters = spread.letters ∙ sym is.by_classes.letters;
      after = λ w. c.after (f w);
      reached = λ q w. (
        λ reached.
            let low = below q w reached in
            let both = (c.reached q (f w)).0 ((reach_by classes s r spread q w low).0 reached) in
            (of_classes w low both.0, both.1),
        λ both. (reach_by classes s r spread q w (within w both.0)).1 ((c.reached q (f w)).1 (to_classes w both.0, both.1)),
      );
      alike = λ v w v_over w_over alike. c.alike (f v) (f w) (to_classes v v_over) (to_classes w w_over) (same v w v_over w_over alike);
      told = λ v w v_over w_over differ. apart v w v_over w_over (c.told (f v) (f w) (to_classes v v_over) (to_classes w w_over) differ);
      language = λ w. (
        λ accepted.
            let low = below accepted.0 w accepted.1 in
            let both = (c.language (f w)).0 ((accepts_by classes s r spread w low).0 accepted) in
            let w_over = of_classes w low both.0 in
            (w_over, λ bad. both.1 ((accepts w w_over).0 bad)),
        λ both.
            (accepts_by classes s r spread w (within w both.0)).1
            ((c.language (f w)).1 (to_classes w both.0, λ bad. both.1 ((accepts w both.0).1 bad))),
      );
    }

  -- ---- words that are told apart

  both_over : (v w : List ℕ) → IsOver over v → IsOver over w → IsOver over (v ++ w)
  both_over v w v_over w_over = All-append (λ k. has over k ≡ true) v w v_over w_over

  told_on : (v w : List ℕ) → IsOver over v → IsOver over w → IsTold a over v w → IsTold m merged (f v) (f w)
  told_on v w v_over w_over (z, z_over, inl (does, lacks)) = (
    f z,
    to_classes z z_over,
    inl (
      subst (Accepts m) (map-append (block_of classes) v z) ((accepts (v ++ z) (both_over v z v_over z_over)).0 does),
      λ bad. lacks ((accepts (w ++ z) (both_over w z w_over z_over)).1 (subst (Accepts m) (sym (map-append (block_of classes) w z)) bad)),
    ),
  )
  told_on v w v_over w_over (z, z_over, inr (does, lacks)) = (
    f z,
    to_classes z z_over,
    inr (
      subst (Accepts m) (map-append (block_of classes) w z) ((accepts (w ++ z) (both_over w z w_over z_over)).0 does),
      λ bad. lacks ((accepts (v ++ z) (both_over v z v_over z_over)).1 (subst (Accepts m) (sym (map-append (block_of classes) v z)) bad)),
    ),
  )

  pub untold : (n : ℕ) → ¬ TellsWords m merged n → ¬ TellsWords a over n
  untold n none told =
      none (record {
        words = map f told.words;
        count = length-map told.words f ∙ told.count;
        letters = All-map (IsOver merged) f told.words (All-weaker (IsOver over) (λ w. IsOver merged (f w)) to_classes told.words told.letters);
        told = pairs_mapped (IsTold m merged) f told.words []
            (pairs_among (IsOver over) (IsTold a over) (λ v w. IsTold m merged (f v) (f w)) told_on told.words told.letters told.told);
      })

  -- ---- sets of states that are reached

  -- the word of the letters that the classes are read as
  abbrev g : List ℕ → List ℕ
  g w = map (block_of is.letters) w

  to_letters : (w : List ℕ) → IsOver merged w → IsOver over (g w)
  to_letters w each = over_on is.letters over w (subst (λ (s : List Bool). IsOver s w) is.over_by_letters each)

  reach_m : (q : ℕ) (w : List ℕ) → IsOver merged w → Reach m q w ↔ Reach a q (g w)
  reach_m q w each =
      reach_by is.letters a m is.by_letters q w (over_below is.letters over w (subst (λ (s : List Bool). IsOver s w) is.over_by_letters each))

  apart_on : (v w : List ℕ) → IsOver merged v → IsOver merged w → AreApart m v w → AreApart a (g v) (g w)
  apart_on v w v_over w_over (q, inl (does, lacks)) = (q, inl ((reach_m q v v_over).0 does, λ reached. lacks ((reach_m q w w_over).1 reached)))
  apart_on v w v_over w_over (q, inr (does, lacks)) = (q, inr ((reach_m q w w_over).0 does, λ reached. lacks ((reach_m q v v_over).1 reached)))

  pub as_many_sets : (n : ℕ) → ReachSets m merged n → ReachSets a over n
  as_many_sets n sets = record {
    words = map g sets.words;
    count = length-map sets.words g ∙ sets.count;
    letters = All-map (IsOver over) g sets.words (All-weaker (IsOver merged) (λ w. IsOver over (g w)) to_letters sets.words sets.letters);
    apart = pairs_mapped (AreApart a) g sets.words []
        (pairs_among (IsOver merged) (AreApart m) (λ v w. AreApart a (g v) (g w)) apart_on sets.words sets.letters sets.apart);
  }
