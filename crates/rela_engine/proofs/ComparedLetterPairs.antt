-- The pairs of sets of states that a comparison of letter automata reaches before the first word that offends.
use Rattle.std.proofs.Common.{ℕ, true, false, inl, inr}
use Rattle.rela_letter_nfa.specs.Differences.{Differs, ReachPairsBefore}
use Rattle.rela_letter_nfa.specs.LetterAutomaton.{LetterAutomaton}
use Rattle.rela_letter_nfa.specs.Runs.{Accepts}
use Rattle.rela_letter_nfa.specs.declared.difference.Sought.TheVariants.{FirstAlone, EitherAlone}
use Rattle.rela_translate.specs.Verdict.{Offends}

module _ (a b : LetterAutomaton) (n : ℕ) where
  -- where words that the second alone has were looked for, as its first
  pub new_pairs : ReachPairsBefore b a (Differs FirstAlone b a) n → ReachPairsBefore a b (Offends true (Accepts a) (Accepts b)) n
  new_pairs reach = record {
    words = reach.words;
    count = reach.count;
    apart = λ i j d before within. elim (reach.apart i j d before within) [ inl one ↦ inr one | inr two ↦ inl two ];
    early = reach.early;
  }

  pub pairs_of_both : ReachPairsBefore a b (Differs EitherAlone a b) n → ReachPairsBefore a b (Offends false (Accepts a) (Accepts b)) n
  pairs_of_both reach = record {
    words = reach.words;
    count = reach.count;
    apart = reach.apart;
    early = λ i d within v offends before. reach.early i d within v (elim offends [ inl one ↦ inl one | inr one ↦ inr (one.1, one.0) ]) before;
  }
