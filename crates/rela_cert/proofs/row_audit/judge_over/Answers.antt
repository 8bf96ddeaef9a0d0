use Rattle.std.proofs.Common.{◌≡◌, ◌≤◌, ◌∙◌, length, refl, sym, arith}
use Rattle.std.proofs.lemmas.Result.{IfOk-weaker}
use Rattle.rela_blocks.specs.RowBlocks.{symbols_of}
use Rattle.rela_blocks.specs.Scenes.{after_image, before_image, lettering_of, paths_of}
use Rattle.rela_certfile.specs.Listed.{words_of}
use Rattle.rela_closed.specs.Words as letters
use Rattle.rela_labels.specs.Partition.{block_count}
use Rattle.rela_cert.specs.Letters.{letter_words}
use Rattle.rela_cert.specs.RowNames.{name_of}
use Rattle.rela_cert.proofs.MappedWords.{in_order, letter_words_are, ordered}
use Rattle.rela_cert.proofs.RowJudged.{all_hold, judged_by, made_automaton, made_letters}
use Rattle.rela_cert.proofs.TermsMean.{ImagesMean}
use Rattle.rela_cert.proofs.row_audit.judge_over.Goals as goal

pub lettered-requires : goal.lettered-requires
lettered-requires c =
    let n = length c.args.row.now.alphabet.now in
    let symbols : length c.args.blocks.now ≡ symbols_of c.args.row.now.check.now n = c.requires.blocks.letters.symbols in
    let less : symbols_of c.args.row.now.check.now n ≤ length c.args.blocks.now = omega (arith, symbols) in
    (in_order c.args.blocks.now (symbols_of c.args.row.now.check.now n) (length c.args.blocks.now) c.args.images.now less c.requires.images).0

pub judge_words-requires-clause-before : goal.judge_words-requires-clause-before
judge_words-requires-clause-before c = made_automaton (Unit {0}) _ _ _ c.args.both.now.before c.requires.before

pub judge_words-requires-clause-after : goal.judge_words-requires-clause-after
judge_words-requires-clause-after c = made_automaton (Unit {0}) _ _ _ c.args.both.now.after c.requires.after

pub judge_words-requires-clause-same_letters : goal.judge_words-requires-clause-same_letters
judge_words-requires-clause-same_letters c =
    let check = c.args.row.now.check.now in
    let names = c.args.row.now.alphabet.now in
    let l = lettering_of check (length names) c.args.blocks.now in
    let flow = paths_of check.level names c.args.row.now.pair.now.before c.args.row.now.pair.now.after in
    made_letters (Unit {0}) l flow (after_image check (length names)) c.args.both.now.after c.requires.after
    ∙ sym (made_letters (Unit {0}) l flow (before_image check (length names)) c.args.both.now.before c.requires.before)

pub judge_words-requires-clause-over : goal.judge_words-requires-clause-over
judge_words-requires-clause-over c k below =
    let check = c.args.row.now.check.now in
    let names = c.args.row.now.alphabet.now in
    let l = lettering_of check (length names) c.args.blocks.now in
    let flow = paths_of check.level names c.args.row.now.pair.now.before c.args.row.now.pair.now.after in
    let same : c.args.both.now.before.letters ≡ block_count c.args.blocks.now =
    made_letters (Unit {0}) l flow (before_image check (length names)) c.args.both.now.before c.requires.before in
    c.in_ok-all.ensures.all k (omega (arith, below, same, c.blocks-count.ensures.count))

pub judge_words-requires-clause-ordered : goal.judge_words-requires-clause-ordered
judge_words-requires-clause-ordered c =
    let n = length c.args.row.now.alphabet.now in
    let bound = symbols_of c.args.row.now.check.now n in
    ordered c.args.blocks.now bound c.args.images.now c.as_slice.result.now (c.as_slice.ensures.value ∙ c.in_ok-steps.ensures)
    (in_order c.args.blocks.now bound bound c.args.images.now (omega arith) c.requires.images)

pub returns : goal.returns
returns c =
    let check = c.args.row.now.check.now in
    let names = c.args.row.now.alphabet.now in
    let n = length names in
    let blocks = c.args.blocks.now in
    let flow = paths_of check.level names c.args.row.now.pair.now.before c.args.row.now.pair.now.after in
    let means : ImagesMean check n flow = record {
      before = c.images_mean_the_body.ensures.before (name_of c.args.row.now) n check.body refl;
      after = c.images_mean_the_body.ensures.after (name_of c.args.row.now) n check.body refl;
    } in
    let words_are : letters.words_of c.as_slice.result.now ≡ letter_words blocks (words_of c.args.images.now) =
    letter_words_are c.args.blocks.now c.args.images.now c.as_slice.result.now (c.as_slice.ensures.value ∙ c.in_ok-steps.ensures) in
    IfOk-weaker c.judge_words.result _ _
    (λ j told complements. judged_by (Unit {0}) check n flow means blocks c.requires.blocks.letters c.args.both.now.before c.args.both.now.after c.requires.before c.requires.after
    c.in_ok-all.all (all_hold blocks (symbols_of check n) c.requires.blocks.letters.symbols c.in_ok-all.all (c.in_ok-all.ensures.size ∙ c.blocks-count.ensures.count)
    (λ k below. c.in_ok-all.ensures.all k (omega (arith, below, c.blocks-count.ensures.count))))
    4000000 complements c.args.images.now c.at_most.result c.at_most.ensures (letters.words_of c.as_slice.result.now) words_are j told)
    c.judge_words.ensures
