use Rattle.std.proofs.Common.{◌≡◌, None, Option, length, sym, subst}
use Rattle.std.specs.Prelude.{IfNone}
use Rattle.rela_build.specs.declared.stop.Stop.TheVariants.{Memory}
use Rattle.rela_cert.specs.Certified.{IsExcused}
use Rattle.rela_cert.specs.Found.{AreFoundFor}
use Rattle.rela_cert.specs.RowNames.{name_of}
use Rattle.rela_cert.specs.RowParts.{after_term, before_term, lettering_at, paths_at}
use Rattle.rela_cert.specs.declared.row_words.RowWords.{RowWords}
use Rattle.rela_cert.proofs.Excuses.{stopped_excused}
use Rattle.rela_cert.proofs.FoundRows.{noted_first}
use Rattle.rela_cert.proofs.Options.{both_ok}
use Rattle.rela_cert.proofs.row_words.words_of_row.Goals as goal

pub returns-in-Some-clause-words : goal.returns-in-Some-clause-words
returns-in-Some-clause-words c =
    let row = c.args.row.now in
    let words = rw c.in-Some.is at c.in_ok-images-in-Ok.ensures.found in
    record {
      noted = noted_first AreFoundFor (Unit {0}) (lettering_at row c.args.letters.now.blocks) (paths_at row) (before_term row) (after_term row)
          c.new-notes.result.items c.row_images.new.notes.items c.new-notes.ensures.items c.in-Ok.ensures.noted;
      before = c.in-Ok.both.before;
      after = c.in-Ok.both.after;
      made_before = c.in-Ok.ensures.before;
      made_after = c.in-Ok.ensures.after;
      over = words.0;
      holds = words.1;
      found = words.2;
    }

pub returns-in-Err-clause-excused : goal.returns-in-Err-clause-excused
returns-in-Err-clause-excused c =
    let row = c.args.row.now in
    let excused = IsExcused (length row.alphabet.now) c.args.states row.check.now (paths_at row) in
    both_ok (λ found. found ≡ None) (λ _. ¬ (c.in-Err.stop ≡ Memory)) (λ found. IfNone found excused) c.none_built.result
    (λ found none other. subst (λ (o : Option RowWords). IfNone o excused) (sym none)
    (stopped_excused (name_of row) (c.reached_states_are_places.ensures (name_of row)) c.args.letters.now.blocks c.requires.letters.blocks.letters c.args.states
    (c.complements_inside.ensures.reached (name_of row)) (length c.new-notes.result.items) c.in-Err.stop c.in-Err.ensures.stopped other))
    c.none_built.ensures.none c.none_built.ensures.stop
