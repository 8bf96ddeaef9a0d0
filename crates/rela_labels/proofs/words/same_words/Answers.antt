use Rattle.std.proofs.Common.{refl}
use Rattle.std.proofs.lemmas.Bool.{false≢true}
use Rattle.rela_labels.proofs.WordBits.{bits_of_same_words, some_bit_differs}
use Rattle.rela_labels.proofs.words.same_words.Goals as goal

pub returns-then-words-i : goal.returns-then-words-i
returns-then-words-i c = (
  λ h. absurd (false≢true h),
  λ same. absurd (some_bit_differs c.args.words.now c.args.other.now c.loop-i.i c.requires c.type_inv.words c.type_inv.other c.if-words-i.true same),
)

pub returns : goal.returns
returns c = (λ _. bits_of_same_words c.args.words.now c.args.other.now c.loop-i.i c.requires c.loop-i-test.false c.loop-i.invariant, λ _. refl)
