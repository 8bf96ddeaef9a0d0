use Rattle.std.proofs.Common.{◌≡◌, ◌≤◌, ◌∙◌, ◌<◌, [], ◌∷◌, inl, length, sym, subst, arith}
use Rattle.std.proofs.lemmas.Bool.{true≢false}
use Rattle.rela_blocks.specs.RowBlocks.{symbols_of}
use Rattle.rela_build.specs.Reading.{HoldsJust}
use Rattle.rela_certfile.specs.Listed.{words_of}
use Rattle.rela_closed.specs.Closed.{IsClosed}
use Rattle.rela_closed.specs.Words as letters
use Rattle.rela_cert.specs.Letters.{letter_words}
use Rattle.rela_cert.specs.RowParts.{paths_at}
use Rattle.rela_cert.proofs.AlikeRows.{image_closed, images_open}
use Rattle.rela_cert.proofs.MappedWords.{in_order, letter_words_are, ordered}
use Rattle.rela_cert.proofs.RowJudged.{all_hold}
use Rattle.rela_cert.proofs.alike_rows.judge_one.Goals as goal

pub lettered-requires : goal.lettered-requires
lettered-requires c =
    let n = length c.args.row.now.alphabet.now in
    let symbols : length c.args.blocks.now ≡ symbols_of c.args.row.now.check.now n = c.requires.blocks.letters.symbols in
    let less : symbols_of c.args.row.now.check.now n ≤ length c.args.blocks.now = omega (arith, symbols) in
    (in_order c.args.blocks.now (symbols_of c.args.row.now.check.now n) (length c.args.blocks.now) c.args.images.now less c.requires.images).0

pub are_closed-requires : goal.are_closed-requires
are_closed-requires c =
    let n = length c.args.row.now.alphabet.now in
    let bound = symbols_of c.args.row.now.check.now n in
    ordered c.args.blocks.now bound c.args.images.now c.as_slice.result.now (c.as_slice.ensures.value ∙ c.in_ok-steps.ensures)
    (in_order c.args.blocks.now bound bound c.args.images.now (omega arith) c.requires.images)

pub returns-then-closed-clause-judged : goal.returns-then-closed-clause-judged
returns-then-closed-clause-judged c listed = c.requires.met

pub returns-then-closed-clause-closed : goal.returns-then-closed-clause-closed
returns-then-closed-clause-closed c met =
    let row = c.args.row.now in
    let n = length row.alphabet.now in
    let blocks = c.args.blocks.now in
    let all = c.in_ok-all.all in
    let words_are : letters.words_of c.as_slice.result.now ≡ letter_words blocks (words_of c.args.images.now) =
    letter_words_are blocks c.args.images.now c.as_slice.result.now (c.as_slice.ensures.value ∙ c.in_ok-steps.ensures) in
    let holds : HoldsJust blocks (λ s. s < symbols_of row.check.now n) all =
    all_hold blocks (symbols_of row.check.now n) c.requires.blocks.letters.symbols all (c.in_ok-all.ensures.size ∙ c.blocks-count.ensures.count)
    (λ k below. c.in_ok-all.ensures.all k (omega (arith, below, c.blocks-count.ensures.count))) in
    image_closed row.check.now n (paths_at row) blocks c.requires.blocks.letters c.args.image.now c.requires.image all holds (words_of c.args.images.now)
    (subst (IsClosed all (c.args.image.now ∷ [])) words_are (c.in_ok-closed.ensures.0 c.if-closed.true))

pub returns-clause-judged : goal.returns-clause-judged
returns-clause-judged c listed =
    let row = c.args.row.now in
    let n = length row.alphabet.now in
    let blocks = c.args.blocks.now in
    let all = c.in_ok-all.all in
    let words_are : letters.words_of c.as_slice.result.now ≡ letter_words blocks (words_of c.args.images.now) =
    letter_words_are blocks c.args.images.now c.as_slice.result.now (c.as_slice.ensures.value ∙ c.in_ok-steps.ensures) in
    let holds : HoldsJust blocks (λ s. s < symbols_of row.check.now n) all =
    all_hold blocks (symbols_of row.check.now n) c.requires.blocks.letters.symbols all (c.in_ok-all.ensures.size ∙ c.blocks-count.ensures.count)
    (λ k below. c.in_ok-all.ensures.all k (omega (arith, below, c.blocks-count.ensures.count))) in
    inl (images_open row.check.now n (paths_at row) blocks c.requires.blocks.letters c.args.image.now c.requires.image all holds (words_of c.args.images.now)
    (λ closed. true≢false (sym (c.in_ok-closed.ensures.1 (subst (IsClosed all (c.args.image.now ∷ [])) (sym words_are) closed)) ∙ c.if-closed.false)))
