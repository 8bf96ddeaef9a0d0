-- The pairs of sets of states that a comparison reaches before the first word that offends.
use Rattle.std.proofs.Common.{◌≡◌, ◌<◌, ℕ, true, false, sym, subst, inl, inr}
use Rattle.std.specs.List.{All}
use Rattle.rela_compare.specs.Comparison.{IsInFirstAlone, IsInOneAlone, ReachPairsBefore}
use Rattle.rela_nfa.specs.Automaton.{Automaton}
use Rattle.rela_nfa.specs.Runs.{Accepts}
use Rattle.rela_translate.specs.Verdict.{Offends}

module _ (a b : Automaton) (n : ℕ) where
  -- where words that the second alone has were looked for, as its first
  pub new_pairs : a.letters ≡ b.letters → ReachPairsBefore b a (IsInFirstAlone b a) n → ReachPairsBefore a b (Offends true (Accepts a) (Accepts b)) n
  new_pairs same reach = record {
    words = reach.words;
    count = reach.count;
    letters = subst (λ (k : ℕ). All (All (λ letter. letter < k)) reach.words) (sym same) reach.letters;
    apart = λ i j d before within. elim (reach.apart i j d before within) [ inl one ↦ inr one | inr two ↦ inl two ];
    early = reach.early;
  }

  pub pairs_of_both : ReachPairsBefore a b (IsInOneAlone a b) n → ReachPairsBefore a b (Offends false (Accepts a) (Accepts b)) n
  pairs_of_both reach = record {
    words = reach.words;
    count = reach.count;
    letters = reach.letters;
    apart = reach.apart;
    early = λ i d within v offends before. reach.early i d within v (elim offends [ inl one ↦ inl one | inr one ↦ inr (one.1, one.0) ]) before;
  }
