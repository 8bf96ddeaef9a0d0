use Rattle.std.proofs.Common.{◌≡◌, ◌+◌, ◌<◌, ◌≤◌, [], get_or, length, sym, ap, ◌∙◌, subst, inr, arith}
use Rattle.std.proofs.lemmas.Result.{err_from_is_err_and}
use Rattle.rela_closed.specs.Listing.{IsLed}
use Rattle.rela_closed.specs.Words.{words_of}
use Rattle.rela_closed.proofs.Leaving.{no_more_letters}
use Rattle.rela_closed.proofs.LeftLetters.{done_after, leads_from, led_new, same_table, searched_known, searched_new, told_after}
use Rattle.rela_closed.proofs.Listed.{table_kept, table_longer, table_one_longer}
use Rattle.rela_closed.proofs.Searching.{search_next, search_old, search_passed}
use Rattle.rela_closed.proofs.SetsFound.{sets_in}
use Rattle.rela_closed.proofs.TakenBlocks.{done_skipped, fewer_remain}
use Rattle.rela_closed.proofs.WordLists.{ordered_push, words_of_length}
use Rattle.rela_closed.proofs.finding.leave.Goals as goal

pub loop-letter-preserved-then-not-has_left : goal.loop-letter-preserved-then-not-has_left
loop-letter-preserved-then-not-has_left g c =
    let over = g.L.LabelSet.letters c.args.over.now in
    let words = words_of c.loop-letter.steps.items in
    let table = c.loop-letter.table in
    let letter = c.loop-letter.letter in
    let none = sym c.has_left.ensures ∙ c.if-not-has_left.true in
    record {
      same = c.loop-letter.invariant.same;
      more = c.loop-letter.invariant.more;
      few = c.loop-letter.invariant.few;
      ordered = c.loop-letter.invariant.ordered;
      searched = search_old c.shortlex_is_transitive.ensures over c.args.reader.now words table c.args.number letter c.loop-letter.invariant.searched (λ read. c.loop-letter.invariant.done letter read (inr none));
      told = c.loop-letter.invariant.told;
      over = c.loop-letter.invariant.over;
      done =
          done_skipped over (λ k. IsLed c.args.reader.now words table c.args.number k) c.loop-letter.blocks letter none c.loop-letter.invariant.done;
    }

pub loop-letter-preserved-then-branch-known : goal.loop-letter-preserved-then-branch-known
loop-letter-preserved-then-branch-known g c =
    let over = g.L.LabelSet.letters c.args.over.now in
    let automata = c.args.reader.now in
    let words = words_of c.loop-letter.steps.items in
    let table = c.loop-letter.table in
    let table' = c.number.new.self in
    let letter = c.loop-letter.letter in
    let p = c.args.number in
    let n = c.in_ok-number.field-0 in
    let block = g.L.LabelSet.letters c.in_ok-take.field-0 in
    let is = c.in_ok-take.ensures.block in
    let fewer = c.in_ok-take.ensures.fewer in
    let next = sets_in c.in_ok-next.next.items in
    let numbered = c.in_ok-number.ensures.numbered in
    let known : n < length table = omega (arith, c.if-branch-known.true, c.len-known.ensures.len) in
    let p_in : p < length words = omega (arith, c.loop-letter.invariant.searched.each, c.loop-letter.invariant.more, c.requires.number) in
    let leads =
    leads_from automata c.loop-letter.reader (get_or table p []) (sets_in c.get-in-loop-letter.result.now) next letter c.loop-letter.invariant.same c.get-in-loop-letter.ensures
    c.in_ok-next.ensures.leads in
    let same = same_table over automata words table table' p letter n next c.loop-letter.invariant.searched p_in numbered leads known in
    let searched = searched_known over automata words table table' p letter n next c.loop-letter.invariant.searched p_in numbered leads known c.shortlex_is_transitive.ensures in
    let kept : get_or table' p [] ≡ get_or table p [] = ap (λ t. get_or t p []) same in
    record {
      same = c.in_ok-next.ensures.same ∙ c.loop-letter.invariant.same;
      more = omega (arith, ap length same, c.loop-letter.invariant.more);
      few = omega (arith, ap length same, c.loop-letter.invariant.few);
      ordered = c.loop-letter.invariant.ordered;
      searched = searched;
      told = told_after over automata words table p letter c.loop-letter.blocks c.take.new.self block c.loop-letter.invariant.told c.loop-letter.invariant.over is fewer c.loop-letter.invariant.done
          words table' kept;
      over = λ k there. c.loop-letter.invariant.over k (fewer_remain block c.loop-letter.blocks c.take.new.self fewer k there);
      done = done_after over automata words table p letter c.loop-letter.blocks c.take.new.self block c.loop-letter.invariant.told c.loop-letter.invariant.over is fewer c.loop-letter.invariant.done
          words table' kept c.shortlex_is_transitive.ensures searched p_in (λ k led. subst (λ t. IsLed automata words t p k) (sym same) led);
    }

pub returns-in_err-within-clause-limit : goal.returns-in_err-within-clause-limit
returns-in_err-within-clause-limit g c =
    let over = g.L.LabelSet.letters c.args.over.now in
    let automata = c.args.reader.now in
    let words = words_of c.loop-letter.steps.items in
    let table = c.loop-letter.table in
    let table' = c.number.new.self in
    let letter = c.loop-letter.letter in
    let p = c.args.number in
    let n = c.in_ok-number.field-0 in
    let is = c.in_ok-take.ensures.block in
    let next = sets_in c.in_ok-next.next.items in
    let numbered = c.in_ok-number.ensures.numbered in
    let new : length table ≤ n = omega (arith, c.if-branch-known.false, c.len-known.ensures.len) in
    let p_in : p < length words = omega (arith, c.loop-letter.invariant.searched.each, c.loop-letter.invariant.more, c.requires.number) in
    let leads =
    leads_from automata c.loop-letter.reader (get_or table p []) (sets_in c.get-in-loop-letter.result.now) next letter c.loop-letter.invariant.same c.get-in-loop-letter.ensures
    c.in_ok-next.ensures.leads in
    let searched =
    searched_new over automata c.loop-letter.steps.items c.push.new.self.items table table' p letter n next c.in_ok-push.ensures.items c.loop-letter.invariant.searched p_in numbered leads
    (c.loop-letter.invariant.over letter (is.within letter is.member)) new c.shortlex_is_transitive.ensures in
    let past = c.in_err-within.ensures.limit.1 in
    let e = err_from_is_err_and c.from_residual-in_err-within.result c.from_residual-in_err-within.ensures.1 in
    rw (e.1, e.2) (λ _.
    search_passed c.shortlex_is_transitive.ensures over automata (words_of c.push.new.self.items) table' p (letter + 1) c.args.limit searched c.len.ensures.distinct (omega (arith, c.len.ensures.len, past))
    (omega (arith, table_one_longer automata next table table' n numbered, c.loop-letter.invariant.few)))

pub loop-letter-preserved : goal.loop-letter-preserved
loop-letter-preserved g c =
    let over = g.L.LabelSet.letters c.args.over.now in
    let automata = c.args.reader.now in
    let steps = c.loop-letter.steps.items in
    let steps' = c.push.new.self.items in
    let words = words_of steps in
    let table = c.loop-letter.table in
    let table' = c.number.new.self in
    let letter = c.loop-letter.letter in
    let p = c.args.number in
    let n = c.in_ok-number.field-0 in
    let block = g.L.LabelSet.letters c.in_ok-take.field-0 in
    let is = c.in_ok-take.ensures.block in
    let fewer = c.in_ok-take.ensures.fewer in
    let next = sets_in c.in_ok-next.next.items in
    let numbered = c.in_ok-number.ensures.numbered in
    let past : length table ≤ n = omega (arith, c.if-branch-known.false, c.len-known.ensures.len) in
    let p_in : p < length words = omega (arith, c.loop-letter.invariant.searched.each, c.loop-letter.invariant.more, c.requires.number) in
    let leads =
    leads_from automata c.loop-letter.reader (get_or table p []) (sets_in c.get-in-loop-letter.result.now) next letter c.loop-letter.invariant.same c.get-in-loop-letter.ensures
    c.in_ok-next.ensures.leads in
    let read = c.loop-letter.invariant.over letter (is.within letter is.member) in
    let searched =
    searched_new over automata steps steps' table table' p letter n next c.in_ok-push.ensures.items c.loop-letter.invariant.searched p_in numbered leads read past c.shortlex_is_transitive.ensures in
    let kept = table_kept automata next table table' n numbered p (omega (arith, c.loop-letter.invariant.more, c.requires.number)) in
    let p_in' : p < length (words_of steps') = omega (arith, searched.each, table_longer automata next table table' n numbered, c.loop-letter.invariant.more, c.requires.number) in
    record {
      same = c.in_ok-next.ensures.same ∙ c.loop-letter.invariant.same;
      more = omega (arith, table_longer automata next table table' n numbered, c.loop-letter.invariant.more);
      few = omega (arith, c.len.ensures.len, c.in_ok-within.ensures.few);
      ordered = ordered_push steps steps' (record { parent = p; letter = letter }) c.in_ok-push.ensures.items c.loop-letter.invariant.ordered
          (omega (arith, c.loop-letter.invariant.searched.each, words_of_length steps, p_in));
      searched = searched;
      told = told_after over automata words table p letter c.loop-letter.blocks c.take.new.self block c.loop-letter.invariant.told c.loop-letter.invariant.over is fewer c.loop-letter.invariant.done
          (words_of steps') table' kept;
      over = λ k there. c.loop-letter.invariant.over k (fewer_remain block c.loop-letter.blocks c.take.new.self fewer k there);
      done = done_after over automata words table p letter c.loop-letter.blocks c.take.new.self block c.loop-letter.invariant.told c.loop-letter.invariant.over is fewer c.loop-letter.invariant.done
          (words_of steps') table' kept c.shortlex_is_transitive.ensures searched p_in'
          (led_new over automata steps steps' table table' p letter n next c.in_ok-push.ensures.items c.loop-letter.invariant.searched p_in numbered leads read past c.shortlex_is_transitive.ensures);
    }

pub returns-clause-searched : goal.returns-clause-searched
returns-clause-searched g c =
    search_next c.shortlex_is_transitive.ensures (g.L.LabelSet.letters c.args.over.now) c.args.reader.now (words_of c.loop-letter.steps.items) c.loop-letter.table c.args.number c.loop-letter.letter
    c.loop-letter.invariant.searched (no_more_letters (g.L.LabelSet.letters c.args.over.now) c.loop-letter.letter (omega (arith, c.size-letter-end.ensures.size, c.loop-letter-test.false)))
