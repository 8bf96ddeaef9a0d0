use Rattle.std.proofs.Common.{refl, sym, ◌∙◌}
use Rattle.std.proofs.lemmas.Bool.{false≢true}
use Rattle.rela_labels.proofs.WordBits.{only_bit, not_only_bit}
use Rattle.rela_labels.proofs.words.is_only_bit.Goals as goal

pub returns-then-word-word_of : goal.returns-then-word-word_of
returns-then-word-word_of c = (
  λ h. absurd (false≢true h),
  λ only.
      absurd (not_only_bit c.args.words.now c.args.letter c.loop-i.i c.word_of.result ((c.type_inv.words c.loop-i.i).fits) c.word_of.type_inv
      c.word_of.ensures c.if-word-word_of.true only),
)

pub returns : goal.returns
returns c = (
  λ _. only_bit c.args.words.now c.args.letter c.loop-i.i (sym c.has_bit.ensures ∙ c.if-not-has_bit.false) c.loop-i-test.false c.loop-i.invariant,
  λ _. refl,
)
