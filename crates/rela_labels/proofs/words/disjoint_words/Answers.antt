use Rattle.std.proofs.Common.{refl}
use Rattle.std.proofs.lemmas.Bool.{false≢true}
use Rattle.rela_labels.proofs.WordBits.{no_shared_bit, shared_bit}
use Rattle.rela_labels.proofs.words.disjoint_words.Goals as goal

pub returns-then-words-i-ne0 : goal.returns-then-words-i-ne0
returns-then-words-i-ne0 c = (
  λ h. absurd (false≢true h),
  λ none. absurd (shared_bit c.args.words.now c.args.other.now c.loop-i.i ((c.type_inv.words c.loop-i.i).fits) c.if-words-i-ne0.true none),
)

pub returns : goal.returns
returns c = (λ _. no_shared_bit c.args.words.now c.args.other.now c.loop-i.i c.loop-i-test.false c.loop-i.invariant, λ _. refl)
