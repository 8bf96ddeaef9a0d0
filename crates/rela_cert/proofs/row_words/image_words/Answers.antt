use Rattle.std.proofs.Common.{◌≡◌, ◌∙◌, ◌<◌, List, [], ◌∷◌, Bool, length, refl, sym, subst, arith}
use Rattle.std.proofs.lemmas.List.Elements.{All-contains}
use Rattle.std.proofs.lemmas.Result.{IfOk-weaker}
use Rattle.rela_build.specs.Complement.{IsOver}
use Rattle.rela_build.specs.Reading.{HoldsJust}
use Rattle.rela_closed.specs.Words.{words_of}
use Rattle.rela_nfa.specs.Runs.{Accepts}
use Rattle.rela_translate.specs.Verdict.{AreMet, Meets, Offends}
use Rattle.rela_cert.specs.Found.{AreFound}
use Rattle.rela_cert.proofs.Options.{if_none_weaker, if_some_weaker}
use Rattle.rela_cert.proofs.Excuses.{many_excused, offence_excused}
use Rattle.rela_cert.proofs.FoundBlocks.{over_each}
use Rattle.rela_cert.proofs.RowWords.{meets}
use Rattle.rela_cert.proofs.TermsMean.{ImagesMean}
use Rattle.rela_labels.specs.Partition.{block_count}
use Rattle.rela_cert.specs.RowNames.{name_of}
use Rattle.rela_cert.specs.RowParts.{after_term, before_term, lettering_at, paths_at, symbols_at}
use Rattle.rela_cert.proofs.RowJudged.{all_hold, made_automaton, made_letters}
use Rattle.rela_cert.proofs.row_words.image_words.Goals as goal

pub words_if_met-requires-clause-before : goal.words_if_met-requires-clause-before
words_if_met-requires-clause-before c = made_automaton (Unit {0}) _ _ _ c.args.both.now.before c.requires.before

pub words_if_met-requires-clause-after : goal.words_if_met-requires-clause-after
words_if_met-requires-clause-after c = made_automaton (Unit {0}) _ _ _ c.args.both.now.after c.requires.after

pub words_if_met-requires-clause-same_letters : goal.words_if_met-requires-clause-same_letters
words_if_met-requires-clause-same_letters c =
    let row = c.args.row.now in
    let l = lettering_at row c.args.letters.now.blocks in
    made_letters (Unit {0}) l (paths_at row) (after_term row) c.args.both.now.after c.requires.after
    ∙ sym (made_letters (Unit {0}) l (paths_at row) (before_term row) c.args.both.now.before c.requires.before)

pub words_if_met-requires-clause-over : goal.words_if_met-requires-clause-over
words_if_met-requires-clause-over c k below =
    let row = c.args.row.now in
    let same : c.args.both.now.before.letters ≡ block_count c.args.letters.now.blocks =
    made_letters (Unit {0}) (lettering_at row c.args.letters.now.blocks) (paths_at row) (before_term row) c.args.both.now.before c.requires.before in
    c.in_ok-all.ensures.all k (omega (arith, below, same, c.count.ensures))

pub returns-in-Ok-clause-found : goal.returns-in-Ok-clause-found
returns-in-Ok-clause-found c =
    let row = c.args.row.now in
    let blocks = c.args.letters.now.blocks in
    let automata = c.args.both.now.before ∷ c.args.both.now.after ∷ [] in
    IfOk-weaker c.words_if_met.result _ _
    (λ found. if_some_weaker (λ kept. kept ≡ c.in-Ok.steps.items)
    (λ steps. (over : List Bool) × HoldsJust blocks (λ s. s < symbols_at row) over × AreFound over automata steps) found
    (λ kept same. (
      c.in_ok-all.all,
      all_hold blocks (symbols_at row) c.requires.letters.blocks.letters.symbols c.in_ok-all.all (c.in_ok-all.ensures.size ∙ c.count.ensures)
          (λ k below. c.in_ok-all.ensures.all k (omega (arith, below, c.count.ensures))),
      subst (AreFound c.in_ok-all.all automata) (sym same)
          (record { ordered = c.in-Ok.ensures.ordered; closed = c.in-Ok.ensures.closed; first = c.in-Ok.ensures.first; ascending = c.in-Ok.ensures.ascending }),
    )))
    c.words_if_met.ensures.same

pub returns-in-Ok-clause-met : goal.returns-in-Ok-clause-met
returns-in-Ok-clause-met c =
    let row = c.args.row.now in
    let means : ImagesMean row.check.now (length row.alphabet.now) (paths_at row) = record {
      before = c.images_mean_the_body.ensures.before (name_of row) (length row.alphabet.now) row.check.now.body refl;
      after = c.images_mean_the_body.ensures.after (name_of row) (length row.alphabet.now) row.check.now.body refl;
    } in
    let a = c.args.both.now.before in
    let b = c.args.both.now.after in
    IfOk-weaker c.words_if_met.result _ _
    (λ found. if_some_weaker (λ kept. AreMet c.at_most.result (Accepts a) (Accepts b)) (λ kept. Meets row.check.now (length row.alphabet.now) (paths_at row).pre (paths_at row).post) found
    (λ kept met. meets (Unit {0}) row.check.now (length row.alphabet.now) (paths_at row) means c.args.letters.now.blocks a b c.requires.before c.requires.after
    (subst (λ (at_most : Bool). AreMet at_most (Accepts a) (Accepts b)) c.at_most.ensures met)))
    c.words_if_met.ensures.met

pub returns-in-Ok-clause-excused : goal.returns-in-Ok-clause-excused
returns-in-Ok-clause-excused c =
    let row = c.args.row.now in
    let means : ImagesMean row.check.now (length row.alphabet.now) (paths_at row) = record {
      before = c.images_mean_the_body.ensures.before (name_of row) (length row.alphabet.now) row.check.now.body refl;
      after = c.images_mean_the_body.ensures.after (name_of row) (length row.alphabet.now) row.check.now.body refl;
    } in
    let blocks = c.args.letters.now.blocks in
    let a = c.args.both.now.before in
    let b = c.args.both.now.after in
    let over = c.in_ok-all.all in
    let holds = all_hold blocks (symbols_at row) c.requires.letters.blocks.letters.symbols over (c.in_ok-all.ensures.size ∙ c.count.ensures)
    (λ k below. c.in_ok-all.ensures.all k (omega (arith, below, c.count.ensures))) in
    let found : AreFound over (a ∷ b ∷ []) c.in-Ok.steps.items = record { ordered = c.in-Ok.ensures.ordered; closed = c.in-Ok.ensures.closed; first = c.in-Ok.ensures.first; ascending = c.in-Ok.ensures.ascending } in
    IfOk-weaker c.words_if_met.result _ _
    (λ kept. if_none_weaker kept
    (λ offends. offence_excused (name_of row) (c.reached_states_are_places.ensures (name_of row)) blocks c.requires.letters.blocks.letters c.args.states a b
    c.requires.before c.requires.after over holds means offends.0 (All-contains (IsOver over) (words_of c.in-Ok.steps.items) offends.0 (over_each over (a ∷ b ∷ []) c.in-Ok.steps.items found) offends.1)
    (subst (λ (at_most : Bool). Offends at_most (Accepts a) (Accepts b) offends.0) c.at_most.ensures offends.2)))
    c.words_if_met.ensures.offends

pub returns-clause-excused : goal.returns-clause-excused
returns-clause-excused c =
    let row = c.args.row.now in
    let blocks = c.args.letters.now.blocks in
    many_excused (name_of row) (c.reached_states_are_places.ensures (name_of row)) blocks c.requires.letters.blocks.letters c.args.states
    c.args.both.now.before c.args.both.now.after c.requires.before c.requires.after c.in_ok-all.all
    (all_hold blocks (symbols_at row) c.requires.letters.blocks.letters.symbols c.in_ok-all.all (c.in_ok-all.ensures.size ∙ c.count.ensures)
    (λ k below. c.in_ok-all.ensures.all k (omega (arith, below, c.count.ensures))))
    (c.in-Err.ensures.limit c.in_ok-pass_limit-in-Err.ensures.limit)
