use Rattle.std.proofs.Common.{◌≡◌, ℕ, ◌/◌, ◌+◌, sym, subst, false}
use Rattle.rela_labels.proofs.LettersOfWords.{zeros_wide, no_bits}
use Rattle.rela_labels.specs.Words.{bit_of, IsWide}
use Rattle.rela_labels.proofs.wide_members.no_bits.Goals as goal

pub returns-clause-wide : goal.returns-clause-wide
returns-clause-wide c =
    subst (λ words. IsWide c.args.size words) (sym (c.in_ok-words.ensures.items_if_clones_equal (λ y e. e))) (zeros_wide c.args.size c.ranges.size.fits)

pub returns-clause-none : goal.returns-clause-none
returns-clause-none c =
    subst (λ words. (k : ℕ) → bit_of words k ≡ false) (sym (c.in_ok-words.ensures.items_if_clones_equal (λ y e. e))) (no_bits ((c.args.size + 63) / 64))
