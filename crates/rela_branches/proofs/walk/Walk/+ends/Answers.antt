use Rattle.std.proofs.Common.{rules, ◌≡◌, ◌+◌, ◌∙◌, ℕ, List, length, subst, sym, ap, refl, true, false, [], ◌⊎◌}
use Rattle.std.specs.Prelude.{Vec}
use Rattle.rela_rir.specs.Meaning.{IsPathWord}
use Rattle.rela_rir.specs.Words.{Concatenation, Star}
use Rattle.rela_translate.specs.Lang.{Lang}
use Rattle.rela_translate.specs.Zones.{path_symbols}
use Rattle.rela_translate.specs.declared.body.Expr.TheViews.{the_lemmas}
use Rattle.rela_branches.specs.Places.{AllBelow, AreJoined, AreKept, AreNext, AreReached, Each, EachOfTwo}
use Rattle.rela_branches.specs.Walks.{IsLed, IsStep}
use Rattle.rela_branches.specs.declared.letters.Letter.TheVariants.{Class}
use Rattle.rela_branches.proofs.Ends.{alt_ends, as_rows, by_words, empty_ends, ends_below, if_ok, meet_ends, not_ends, onward_shown, rows_below, seq_ends, shown_long, singles_below, star_ends, step_ends}
use Rattle.rela_branches.proofs.Forms.{alt_is, class_is, lang_empty, meet_is, not_is, seq_is, star_is}
use Rattle.rela_branches.proofs.Steps.{Symbols}
use Rattle.rela_branches.proofs.walk.Walk.+ends.Goals as goal

pub ends-requires-in-Seq : goal.ends-requires-in-Seq
ends-requires-in-Seq t c =
    (search (rules, the_lemmas), ends_below c.args.self.now.word.now (Lang c.args.self.now.classes.now (path_symbols c.args.self.now.locations) c.get.result.now) c.args.from.now c.in_ok-middle-in-Seq.middle.items c.as_slice.result.now (length c.args.self.now.word.now + 1) c.in_ok-middle-in-Seq.ensures c.as_slice.ensures.value refl)

pub returns-in_ok-middle-in-Seq : goal.returns-in_ok-middle-in-Seq
returns-in_ok-middle-in-Seq t c =
    if_ok (λ (to : Vec (List ℕ) _). Each (IsLed c.args.self.now.word.now (Lang c.args.self.now.classes.now (path_symbols c.args.self.now.locations) c.get-in-Seq.result.now)) c.as_slice.result.now to.items)
    (λ (to : Vec (List ℕ) _). Each (IsLed c.args.self.now.word.now (Lang c.args.self.now.classes.now (path_symbols c.args.self.now.locations) c.args.path.now)) c.args.from.now to.items) c.ends-in-Seq.result
    (λ to made. by_words c.args.self.now.word.now (Concatenation (Lang c.args.self.now.classes.now (path_symbols c.args.self.now.locations) c.get.result.now) (Lang c.args.self.now.classes.now (path_symbols c.args.self.now.locations) c.get-in-Seq.result.now)) (Lang c.args.self.now.classes.now (path_symbols c.args.self.now.locations) c.args.path.now) c.args.from.now to.items (seq_is c.args.self.now.classes.now (path_symbols c.args.self.now.locations) c.args.path.now c.in-Seq.a c.in-Seq.b c.get.result.now c.get-in-Seq.result.now c.in-Seq.is c.get.ensures c.get-in-Seq.ensures)
    (seq_ends c.args.self.now.word.now (Lang c.args.self.now.classes.now (path_symbols c.args.self.now.locations) c.get.result.now) (Lang c.args.self.now.classes.now (path_symbols c.args.self.now.locations) c.get-in-Seq.result.now) c.args.from.now c.in_ok-middle-in-Seq.middle.items c.as_slice.result.now to.items c.in_ok-middle-in-Seq.ensures c.as_slice.ensures.value made))
    c.ends-in-Seq.ensures

pub joined_each-requires-clause-first : goal.joined_each-requires-clause-first
joined_each-requires-clause-first t c =
    ends_below c.args.self.now.word.now (Lang c.args.self.now.classes.now (path_symbols c.args.self.now.locations) c.get-in-Alt.result.now) c.args.from.now c.in_ok-first-in-Alt.first.items c.as_slice-in-Alt.result.now c.bound.result c.in_ok-first-in-Alt.ensures c.as_slice-in-Alt.ensures.value c.bound.ensures

pub joined_each-requires-clause-second : goal.joined_each-requires-clause-second
joined_each-requires-clause-second t c =
    ends_below c.args.self.now.word.now (Lang c.args.self.now.classes.now (path_symbols c.args.self.now.locations) c.get-in-Alt-2.result.now) c.args.from.now c.in_ok-second-in-Alt.second.items c.as_slice-in-Alt-2.result.now c.bound.result c.in_ok-second-in-Alt.ensures c.as_slice-in-Alt-2.ensures.value c.bound.ensures

pub returns-in_ok-second-in-Alt : goal.returns-in_ok-second-in-Alt
returns-in_ok-second-in-Alt t c =
    if_ok (λ (to : Vec (List ℕ) _). EachOfTwo (AreJoined c.bound.result) c.as_slice-in-Alt.result.now c.as_slice-in-Alt-2.result.now to.items)
    (λ (to : Vec (List ℕ) _). Each (IsLed c.args.self.now.word.now (Lang c.args.self.now.classes.now (path_symbols c.args.self.now.locations) c.args.path.now)) c.args.from.now to.items) c.joined_each.result
    (λ to made. by_words c.args.self.now.word.now (λ w. (Lang c.args.self.now.classes.now (path_symbols c.args.self.now.locations) c.get-in-Alt.result.now) w ⊎ (Lang c.args.self.now.classes.now (path_symbols c.args.self.now.locations) c.get-in-Alt-2.result.now) w) (Lang c.args.self.now.classes.now (path_symbols c.args.self.now.locations) c.args.path.now) c.args.from.now to.items (alt_is c.args.self.now.classes.now (path_symbols c.args.self.now.locations) c.args.path.now c.in-Alt.a c.in-Alt.b c.get-in-Alt.result.now c.get-in-Alt-2.result.now c.in-Alt.is c.get-in-Alt.ensures c.get-in-Alt-2.ensures)
    (alt_ends c.args.self.now.word.now (Lang c.args.self.now.classes.now (path_symbols c.args.self.now.locations) c.get-in-Alt.result.now) (Lang c.args.self.now.classes.now (path_symbols c.args.self.now.locations) c.get-in-Alt-2.result.now) c.args.from.now c.in_ok-first-in-Alt.first.items c.in_ok-second-in-Alt.second.items c.as_slice-in-Alt.result.now c.as_slice-in-Alt-2.result.now to.items c.bound.result c.in_ok-first-in-Alt.ensures c.in_ok-second-in-Alt.ensures c.as_slice-in-Alt.ensures.value c.as_slice-in-Alt-2.ensures.value c.bound.ensures made))
    c.joined_each.ensures

pub ends-requires-in-Meet : goal.ends-requires-in-Meet
ends-requires-in-Meet t c =
    (search (rules, the_lemmas), singles_below c.as_slice-in-Meet.result.now c.in_ok-each-in-Meet.each.items c.bound-in-Meet.result (length c.args.self.now.word.now + 1) c.as_slice-in-Meet.ensures.value c.in_ok-each-in-Meet.ensures c.bound-in-Meet.ensures)

pub ends-requires-in-Meet-2 : goal.ends-requires-in-Meet-2
ends-requires-in-Meet-2 t c =
    (search (rules, the_lemmas), singles_below c.as_slice-in-Meet-2.result.now c.in_ok-each-in-Meet.each.items c.bound-in-Meet.result (length c.args.self.now.word.now + 1) c.as_slice-in-Meet-2.ensures.value c.in_ok-each-in-Meet.ensures c.bound-in-Meet.ensures)

pub next_of_kept-requires-clause-first : goal.next_of_kept-requires-clause-first
next_of_kept-requires-clause-first t c =
    rows_below c.args.self.now.word.now (Lang c.args.self.now.classes.now (path_symbols c.args.self.now.locations) c.get-in-Meet.result.now) c.in_ok-first-in-Meet.first.items c.as_slice-in-Meet-3.result.now (length c.as_slice-in-Meet-3.result.now) (as_rows c.args.self.now.word.now (Lang c.args.self.now.classes.now (path_symbols c.args.self.now.locations) c.get-in-Meet.result.now) c.as_slice-in-Meet.result.now c.in_ok-each-in-Meet.each.items c.in_ok-first-in-Meet.first.items c.bound-in-Meet.result c.as_slice-in-Meet.ensures.value c.in_ok-each-in-Meet.ensures c.bound-in-Meet.ensures c.in_ok-first-in-Meet.ensures) c.as_slice-in-Meet-3.ensures.value (shown_long c.args.self.now.word.now (Lang c.args.self.now.classes.now (path_symbols c.args.self.now.locations) c.get-in-Meet.result.now) c.in_ok-first-in-Meet.first.items c.as_slice-in-Meet-3.result.now (as_rows c.args.self.now.word.now (Lang c.args.self.now.classes.now (path_symbols c.args.self.now.locations) c.get-in-Meet.result.now) c.as_slice-in-Meet.result.now c.in_ok-each-in-Meet.each.items c.in_ok-first-in-Meet.first.items c.bound-in-Meet.result c.as_slice-in-Meet.ensures.value c.in_ok-each-in-Meet.ensures c.bound-in-Meet.ensures c.in_ok-first-in-Meet.ensures) c.as_slice-in-Meet-3.ensures.value)

pub next_of_kept-requires-clause-second : goal.next_of_kept-requires-clause-second
next_of_kept-requires-clause-second t c =
    rows_below c.args.self.now.word.now (Lang c.args.self.now.classes.now (path_symbols c.args.self.now.locations) c.get-in-Meet-2.result.now) c.in_ok-second-in-Meet.second.items c.as_slice-in-Meet-4.result.now (length c.as_slice-in-Meet-3.result.now) (as_rows c.args.self.now.word.now (Lang c.args.self.now.classes.now (path_symbols c.args.self.now.locations) c.get-in-Meet-2.result.now) c.as_slice-in-Meet-2.result.now c.in_ok-each-in-Meet.each.items c.in_ok-second-in-Meet.second.items c.bound-in-Meet.result c.as_slice-in-Meet-2.ensures.value c.in_ok-each-in-Meet.ensures c.bound-in-Meet.ensures c.in_ok-second-in-Meet.ensures) c.as_slice-in-Meet-4.ensures.value (shown_long c.args.self.now.word.now (Lang c.args.self.now.classes.now (path_symbols c.args.self.now.locations) c.get-in-Meet.result.now) c.in_ok-first-in-Meet.first.items c.as_slice-in-Meet-3.result.now (as_rows c.args.self.now.word.now (Lang c.args.self.now.classes.now (path_symbols c.args.self.now.locations) c.get-in-Meet.result.now) c.as_slice-in-Meet.result.now c.in_ok-each-in-Meet.each.items c.in_ok-first-in-Meet.first.items c.bound-in-Meet.result c.as_slice-in-Meet.ensures.value c.in_ok-each-in-Meet.ensures c.bound-in-Meet.ensures c.in_ok-first-in-Meet.ensures) c.as_slice-in-Meet-3.ensures.value)

pub next_of_kept-requires-clause-from : goal.next_of_kept-requires-clause-from
next_of_kept-requires-clause-from t c =
    subst (λ (n : ℕ). AllBelow n c.args.from.now) (sym (shown_long c.args.self.now.word.now (Lang c.args.self.now.classes.now (path_symbols c.args.self.now.locations) c.get-in-Meet.result.now) c.in_ok-first-in-Meet.first.items c.as_slice-in-Meet-3.result.now (as_rows c.args.self.now.word.now (Lang c.args.self.now.classes.now (path_symbols c.args.self.now.locations) c.get-in-Meet.result.now) c.as_slice-in-Meet.result.now c.in_ok-each-in-Meet.each.items c.in_ok-first-in-Meet.first.items c.bound-in-Meet.result c.as_slice-in-Meet.ensures.value c.in_ok-each-in-Meet.ensures c.bound-in-Meet.ensures c.in_ok-first-in-Meet.ensures) c.as_slice-in-Meet-3.ensures.value)) c.requires

pub returns-in_ok-second-in-Meet : goal.returns-in_ok-second-in-Meet
returns-in_ok-second-in-Meet t c =
    if_ok (λ (to : Vec (List ℕ) _). (rows : List (List ℕ)) × EachOfTwo (AreKept (length c.as_slice-in-Meet-3.result.now) true) c.as_slice-in-Meet-3.result.now c.as_slice-in-Meet-4.result.now rows × Each (AreNext rows) c.args.from.now to.items)
    (λ (to : Vec (List ℕ) _). Each (IsLed c.args.self.now.word.now (Lang c.args.self.now.classes.now (path_symbols c.args.self.now.locations) c.args.path.now)) c.args.from.now to.items) c.next_of_kept.result
    (λ to made. by_words c.args.self.now.word.now (λ w. (Lang c.args.self.now.classes.now (path_symbols c.args.self.now.locations) c.get-in-Meet.result.now) w × (Lang c.args.self.now.classes.now (path_symbols c.args.self.now.locations) c.get-in-Meet-2.result.now) w) (Lang c.args.self.now.classes.now (path_symbols c.args.self.now.locations) c.args.path.now) c.args.from.now to.items (meet_is c.args.self.now.classes.now (path_symbols c.args.self.now.locations) c.args.path.now c.in-Meet.a c.in-Meet.b c.get-in-Meet.result.now c.get-in-Meet-2.result.now c.in-Meet.is c.get-in-Meet.ensures c.get-in-Meet-2.ensures)
    (meet_ends c.args.self.now.word.now c.in_ok-first-in-Meet.first.items c.in_ok-second-in-Meet.second.items c.as_slice-in-Meet-3.result.now c.as_slice-in-Meet-4.result.now c.args.from.now to.items (Lang c.args.self.now.classes.now (path_symbols c.args.self.now.locations) c.get-in-Meet.result.now) (Lang c.args.self.now.classes.now (path_symbols c.args.self.now.locations) c.get-in-Meet-2.result.now) (as_rows c.args.self.now.word.now (Lang c.args.self.now.classes.now (path_symbols c.args.self.now.locations) c.get-in-Meet.result.now) c.as_slice-in-Meet.result.now c.in_ok-each-in-Meet.each.items c.in_ok-first-in-Meet.first.items c.bound-in-Meet.result c.as_slice-in-Meet.ensures.value c.in_ok-each-in-Meet.ensures c.bound-in-Meet.ensures c.in_ok-first-in-Meet.ensures) (as_rows c.args.self.now.word.now (Lang c.args.self.now.classes.now (path_symbols c.args.self.now.locations) c.get-in-Meet-2.result.now) c.as_slice-in-Meet-2.result.now c.in_ok-each-in-Meet.each.items c.in_ok-second-in-Meet.second.items c.bound-in-Meet.result c.as_slice-in-Meet-2.ensures.value c.in_ok-each-in-Meet.ensures c.bound-in-Meet.ensures c.in_ok-second-in-Meet.ensures) c.as_slice-in-Meet-3.ensures.value c.as_slice-in-Meet-4.ensures.value c.requires made))
    c.next_of_kept.ensures

pub ends-requires-in-Not : goal.ends-requires-in-Not
ends-requires-in-Not t c =
    (search (rules, the_lemmas), singles_below c.as_slice-in-Not.result.now c.in_ok-each-in-Not.each.items c.bound-in-Not.result (length c.args.self.now.word.now + 1) c.as_slice-in-Not.ensures.value c.in_ok-each-in-Not.ensures c.bound-in-Not.ensures)

pub next_of_kept-requires-in-Not-clause-first : goal.next_of_kept-requires-in-Not-clause-first
next_of_kept-requires-in-Not-clause-first t c =
    rows_below c.args.self.now.word.now (IsPathWord (path_symbols c.args.self.now.locations)) c.in_ok-paths-in-Not.paths.items c.as_slice-in-Not-2.result.now (length c.as_slice-in-Not-2.result.now) c.in_ok-paths-in-Not.ensures c.as_slice-in-Not-2.ensures.value (shown_long c.args.self.now.word.now (IsPathWord (path_symbols c.args.self.now.locations)) c.in_ok-paths-in-Not.paths.items c.as_slice-in-Not-2.result.now c.in_ok-paths-in-Not.ensures c.as_slice-in-Not-2.ensures.value)

pub next_of_kept-requires-in-Not-clause-second : goal.next_of_kept-requires-in-Not-clause-second
next_of_kept-requires-in-Not-clause-second t c =
    rows_below c.args.self.now.word.now (Lang c.args.self.now.classes.now (path_symbols c.args.self.now.locations) c.get-in-Not.result.now) c.in_ok-rows-in-Not.rows.items c.as_slice-in-Not-3.result.now (length c.as_slice-in-Not-2.result.now) (as_rows c.args.self.now.word.now (Lang c.args.self.now.classes.now (path_symbols c.args.self.now.locations) c.get-in-Not.result.now) c.as_slice-in-Not.result.now c.in_ok-each-in-Not.each.items c.in_ok-rows-in-Not.rows.items c.bound-in-Not.result c.as_slice-in-Not.ensures.value c.in_ok-each-in-Not.ensures c.bound-in-Not.ensures c.in_ok-rows-in-Not.ensures) c.as_slice-in-Not-3.ensures.value (shown_long c.args.self.now.word.now (IsPathWord (path_symbols c.args.self.now.locations)) c.in_ok-paths-in-Not.paths.items c.as_slice-in-Not-2.result.now c.in_ok-paths-in-Not.ensures c.as_slice-in-Not-2.ensures.value)

pub next_of_kept-requires-in-Not-clause-from : goal.next_of_kept-requires-in-Not-clause-from
next_of_kept-requires-in-Not-clause-from t c =
    subst (λ (n : ℕ). AllBelow n c.args.from.now) (sym (shown_long c.args.self.now.word.now (IsPathWord (path_symbols c.args.self.now.locations)) c.in_ok-paths-in-Not.paths.items c.as_slice-in-Not-2.result.now c.in_ok-paths-in-Not.ensures c.as_slice-in-Not-2.ensures.value)) c.requires

pub returns-in_ok-paths-in-Not : goal.returns-in_ok-paths-in-Not
returns-in_ok-paths-in-Not t c =
    if_ok (λ (to : Vec (List ℕ) _). (rows : List (List ℕ)) × EachOfTwo (AreKept (length c.as_slice-in-Not-2.result.now) false) c.as_slice-in-Not-2.result.now c.as_slice-in-Not-3.result.now rows × Each (AreNext rows) c.args.from.now to.items)
    (λ (to : Vec (List ℕ) _). Each (IsLed c.args.self.now.word.now (Lang c.args.self.now.classes.now (path_symbols c.args.self.now.locations) c.args.path.now)) c.args.from.now to.items) c.next_of_kept-in-Not.result
    (λ to made. by_words c.args.self.now.word.now (λ w. IsPathWord (path_symbols c.args.self.now.locations) w × (¬ (Lang c.args.self.now.classes.now (path_symbols c.args.self.now.locations) c.get-in-Not.result.now) w)) (Lang c.args.self.now.classes.now (path_symbols c.args.self.now.locations) c.args.path.now) c.args.from.now to.items (not_is c.args.self.now.classes.now (path_symbols c.args.self.now.locations) c.args.path.now c.in-Not.part c.get-in-Not.result.now c.in-Not.is c.get-in-Not.ensures)
    (not_ends c.args.self.now.word.now c.in_ok-paths-in-Not.paths.items c.in_ok-rows-in-Not.rows.items c.as_slice-in-Not-2.result.now c.as_slice-in-Not-3.result.now c.args.from.now to.items (IsPathWord (path_symbols c.args.self.now.locations)) (Lang c.args.self.now.classes.now (path_symbols c.args.self.now.locations) c.get-in-Not.result.now) c.in_ok-paths-in-Not.ensures (as_rows c.args.self.now.word.now (Lang c.args.self.now.classes.now (path_symbols c.args.self.now.locations) c.get-in-Not.result.now) c.as_slice-in-Not.result.now c.in_ok-each-in-Not.each.items c.in_ok-rows-in-Not.rows.items c.bound-in-Not.result c.as_slice-in-Not.ensures.value c.in_ok-each-in-Not.ensures c.bound-in-Not.ensures c.in_ok-rows-in-Not.ensures) c.as_slice-in-Not-2.ensures.value c.as_slice-in-Not-3.ensures.value c.requires made))
    c.next_of_kept-in-Not.ensures

pub ends-requires-in-Star : goal.ends-requires-in-Star
ends-requires-in-Star t c =
    (search (rules, the_lemmas), singles_below c.as_slice-in-Star.result.now c.in_ok-each-in-Star.each.items c.bound-in-Star.result (length c.args.self.now.word.now + 1) c.as_slice-in-Star.ensures.value c.in_ok-each-in-Star.ensures c.bound-in-Star.ensures)

pub reached_each-requires-clause-rows : goal.reached_each-requires-clause-rows
reached_each-requires-clause-rows t c =
    rows_below c.args.self.now.word.now (Lang c.args.self.now.classes.now (path_symbols c.args.self.now.locations) c.get-in-Star.result.now) c.in_ok-rows-in-Star.rows.items c.as_slice-in-Star-2.result.now (length c.as_slice-in-Star-2.result.now) (as_rows c.args.self.now.word.now (Lang c.args.self.now.classes.now (path_symbols c.args.self.now.locations) c.get-in-Star.result.now) c.as_slice-in-Star.result.now c.in_ok-each-in-Star.each.items c.in_ok-rows-in-Star.rows.items c.bound-in-Star.result c.as_slice-in-Star.ensures.value c.in_ok-each-in-Star.ensures c.bound-in-Star.ensures c.in_ok-rows-in-Star.ensures) c.as_slice-in-Star-2.ensures.value (shown_long c.args.self.now.word.now (Lang c.args.self.now.classes.now (path_symbols c.args.self.now.locations) c.get-in-Star.result.now) c.in_ok-rows-in-Star.rows.items c.as_slice-in-Star-2.result.now (as_rows c.args.self.now.word.now (Lang c.args.self.now.classes.now (path_symbols c.args.self.now.locations) c.get-in-Star.result.now) c.as_slice-in-Star.result.now c.in_ok-each-in-Star.each.items c.in_ok-rows-in-Star.rows.items c.bound-in-Star.result c.as_slice-in-Star.ensures.value c.in_ok-each-in-Star.ensures c.bound-in-Star.ensures c.in_ok-rows-in-Star.ensures) c.as_slice-in-Star-2.ensures.value)

pub reached_each-requires-clause-onward : goal.reached_each-requires-clause-onward
reached_each-requires-clause-onward t c =
    onward_shown c.args.self.now.word.now (Lang c.args.self.now.classes.now (path_symbols c.args.self.now.locations) c.get-in-Star.result.now) c.in_ok-rows-in-Star.rows.items c.as_slice-in-Star-2.result.now (as_rows c.args.self.now.word.now (Lang c.args.self.now.classes.now (path_symbols c.args.self.now.locations) c.get-in-Star.result.now) c.as_slice-in-Star.result.now c.in_ok-each-in-Star.each.items c.in_ok-rows-in-Star.rows.items c.bound-in-Star.result c.as_slice-in-Star.ensures.value c.in_ok-each-in-Star.ensures c.bound-in-Star.ensures c.in_ok-rows-in-Star.ensures) c.as_slice-in-Star-2.ensures.value

pub reached_each-requires-clause-from : goal.reached_each-requires-clause-from
reached_each-requires-clause-from t c =
    subst (λ (n : ℕ). AllBelow n c.args.from.now) (sym (shown_long c.args.self.now.word.now (Lang c.args.self.now.classes.now (path_symbols c.args.self.now.locations) c.get-in-Star.result.now) c.in_ok-rows-in-Star.rows.items c.as_slice-in-Star-2.result.now (as_rows c.args.self.now.word.now (Lang c.args.self.now.classes.now (path_symbols c.args.self.now.locations) c.get-in-Star.result.now) c.as_slice-in-Star.result.now c.in_ok-each-in-Star.each.items c.in_ok-rows-in-Star.rows.items c.bound-in-Star.result c.as_slice-in-Star.ensures.value c.in_ok-each-in-Star.ensures c.bound-in-Star.ensures c.in_ok-rows-in-Star.ensures) c.as_slice-in-Star-2.ensures.value)) c.requires

pub returns-in_ok-rows-in-Star : goal.returns-in_ok-rows-in-Star
returns-in_ok-rows-in-Star t c =
    if_ok (λ (to : Vec (List ℕ) _). Each (AreReached c.as_slice-in-Star-2.result.now) c.args.from.now to.items)
    (λ (to : Vec (List ℕ) _). Each (IsLed c.args.self.now.word.now (Lang c.args.self.now.classes.now (path_symbols c.args.self.now.locations) c.args.path.now)) c.args.from.now to.items) c.reached_each.result
    (λ to made. by_words c.args.self.now.word.now (Star (Lang c.args.self.now.classes.now (path_symbols c.args.self.now.locations) c.get-in-Star.result.now)) (Lang c.args.self.now.classes.now (path_symbols c.args.self.now.locations) c.args.path.now) c.args.from.now to.items (star_is c.args.self.now.classes.now (path_symbols c.args.self.now.locations) c.args.path.now c.in-Star.part c.get-in-Star.result.now c.in-Star.is c.get-in-Star.ensures)
    (star_ends c.args.self.now.word.now (Lang c.args.self.now.classes.now (path_symbols c.args.self.now.locations) c.get-in-Star.result.now) c.in_ok-rows-in-Star.rows.items c.as_slice-in-Star-2.result.now c.args.from.now to.items (as_rows c.args.self.now.word.now (Lang c.args.self.now.classes.now (path_symbols c.args.self.now.locations) c.get-in-Star.result.now) c.as_slice-in-Star.result.now c.in_ok-each-in-Star.each.items c.in_ok-rows-in-Star.rows.items c.bound-in-Star.result c.as_slice-in-Star.ensures.value c.in_ok-each-in-Star.ensures c.bound-in-Star.ensures c.in_ok-rows-in-Star.ensures) c.as_slice-in-Star-2.ensures.value c.requires made))
    c.reached_each.ensures

pub returns-in-Empty : goal.returns-in-Empty
returns-in-Empty t c =
    if_ok (λ (to : Vec (List ℕ) _). Each (λ set copy. copy ≡ set) c.args.from.now to.items)
    (λ (to : Vec (List ℕ) _). Each (IsLed c.args.self.now.word.now (Lang c.args.self.now.classes.now (path_symbols c.args.self.now.locations) c.args.path.now)) c.args.from.now to.items) c.copied_each.result
    (λ to made. by_words c.args.self.now.word.now (λ w. w ≡ []) (Lang c.args.self.now.classes.now (path_symbols c.args.self.now.locations) c.args.path.now) c.args.from.now to.items (ap (Lang c.args.self.now.classes.now (path_symbols c.args.self.now.locations)) c.in-Empty.is ∙ lang_empty c.args.self.now.classes.now (path_symbols c.args.self.now.locations)) (empty_ends c.args.self.now.word.now c.args.from.now to.items c.requires made))
    c.copied_each.ensures

pub returns-in-Class : goal.returns-in-Class
returns-in-Class t c =
    if_ok (λ (to : Vec (List ℕ) _). Each (IsStep c.args.self.now.classes.now (path_symbols c.args.self.now.locations) c.args.self.now.word.now (Class c.in-Class.entry)) c.args.from.now to.items)
    (λ (to : Vec (List ℕ) _). Each (IsLed c.args.self.now.word.now (Lang c.args.self.now.classes.now (path_symbols c.args.self.now.locations) c.args.path.now)) c.args.from.now to.items) c.step_each.result
    (λ to made. by_words c.args.self.now.word.now (Symbols c.args.self.now.classes.now (path_symbols c.args.self.now.locations) c.args.self.now.word.now (Class c.in-Class.entry)) (Lang c.args.self.now.classes.now (path_symbols c.args.self.now.locations) c.args.path.now) c.args.from.now to.items (class_is c.args.self.now.classes.now (path_symbols c.args.self.now.locations) c.args.path.now c.in-Class.entry c.in-Class.is) (step_ends c.args.self.now.classes.now (path_symbols c.args.self.now.locations) c.args.self.now.word.now (Class c.in-Class.entry) c.args.from.now to.items made))
    c.step_each.ensures
