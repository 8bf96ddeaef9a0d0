use Rattle.std.proofs.Common.{◌≡◌, ℕ, ◌+◌, ◌-◌, ◌<◌, ◌^◌, Bool, List, subst, ◌∙◌, arith}
use Rattle.std.specs.Option.{IfNone}
use Rattle.std.proofs.lemmas.Result.{IfOk-weaker}
use Rattle.rela_names.specs.Shortlex.{First, IsBefore}
use Rattle.rela_nfa.specs.Runs.{Accepts}
use Rattle.rela_nfa.specs.declared.BuildError.{BuildError}
use Rattle.rela_subset.specs.Deterministic.{IsOver}
use Rattle.rela_subset.specs.Subsets.{IsUnwantedWord, IsWantedWord, ReachSetsBefore}
use Rattle.rela_compare.specs.Comparison.{ReachPairsBefore}
use Rattle.rela_compare.specs.Halves.{Differs, HasFinalFrom, IsAgreed, IsSought}
use Rattle.rela_compare.proofs.Differences.{AreJoined, first_differs, none_differs, pairs_before}
use Rattle.rela_compare.proofs.Results.{both_err, both_some, none_along}
use Rattle.rela_compare.proofs.difference.first_difference.Goals as goal

module _ (g : Rattle.rela_compare.proofs.difference.first_difference.Given.Over) (c : goal.After-drop-both-inside-4 g) where
  abbrev split : ℕ
  split = c.states.result - c.states-2.result

  abbrev over : List Bool
  over = g.L.LabelSet.letters c.in_ok-over.over

  joined : AreJoined c.args.a.now c.args.b.now c.in_ok-both.both over split
  joined = record {
    copied = record {
      letters = c.in_ok-both.ensures.letters;
      start = c.in_ok-both.ensures.start;
      first = c.in_ok-both.ensures.first;
      second = c.in_ok-both.ensures.second;
    };
    first_ok = c.letters.ensures.automaton;
    second_ok = c.states-2.ensures.automaton;
    same = c.requires;
    size = c.in_ok-over.ensures.size ∙ c.letters.ensures.letters;
    all = λ k below. c.in_ok-over.ensures.all k (omega (arith, below, c.letters.ensures.letters));
    split_at = omega (arith, c.states.ensures.states, c.states-2.ensures.states, c.in_ok-both.ensures.states);
  }

  abbrev wants : List ℕ → Type 0
  wants set = IsSought c.args.sought (HasFinalFrom c.args.a.now 1 set) (HasFinalFrom c.args.b.now split set)

pub returns-clause-first : goal.returns-clause-first
returns-clause-first g c =
    both_some c.first_word.result (First (IsWantedWord c.in_ok-both.both (over g c) (wants g c)))
    (λ word. (v : List ℕ) → IsOver (over g c) v → IsBefore v word → IsUnwantedWord c.in_ok-both.both (wants g c) v) (First (Differs c.args.sought c.args.a.now c.args.b.now))
    (first_differs c.args.sought c.args.a.now c.args.b.now c.in_ok-both.both (over g c) (split g c) (joined g c)) c.first_word.ensures.first c.first_word.ensures.before

pub returns-clause-none : goal.returns-clause-none
returns-clause-none g c =
    IfOk-weaker c.first_word.result (λ found. IfNone found ((v : List ℕ) → IsOver (over g c) v → IsUnwantedWord c.in_ok-both.both (wants g c) v))
    (λ found. IfNone found ((word : List ℕ) → IsAgreed c.args.sought (Accepts c.args.a.now word) (Accepts c.args.b.now word)))
    (λ found. none_along found ((v : List ℕ) → IsOver (over g c) v → IsUnwantedWord c.in_ok-both.both (wants g c) v) ((word : List ℕ) → IsAgreed c.args.sought (Accepts c.args.a.now word) (Accepts c.args.b.now word))
    (none_differs c.args.sought c.args.a.now c.args.b.now c.in_ok-both.both (over g c) (split g c) (joined g c))) c.first_word.ensures.none

pub returns-clause-limit : goal.returns-clause-limit
returns-clause-limit g c =
    both_err c.first_word.result (λ e. e ≡ BuildError.Limit → ReachSetsBefore c.in_ok-both.both (over g c) (wants g c) (c.saturating_add.result + 1))
    (λ e. e ≡ BuildError.Limit → c.saturating_add.result < 2 ^ 63)
    (λ e. e ≡ BuildError.Limit → ReachPairsBefore c.args.a.now c.args.b.now (Differs c.args.sought c.args.a.now c.args.b.now) (c.args.limit + 1))
    (λ e reach bounded is.
    let small = bounded is in
    let next : c.saturating_add.result ≡ c.args.limit + 1 = omega (arith, c.saturating_add.ensures, small) in
    pairs_before c.args.sought c.args.a.now c.args.b.now c.in_ok-both.both (over g c) (split g c) (joined g c) (c.args.limit + 1)
    (subst (λ n. ReachSetsBefore c.in_ok-both.both (over g c) (wants g c) (n + 1)) next (reach is))) c.first_word.ensures.limit c.first_word.ensures.bounded
