use Rattle.std.proofs.Common.{◌∷◌, [], length, map, sym, ap, ◌∙◌, subst, arith}
use Rattle.rela_closed.specs.Listing.{IsSearched}
use Rattle.rela_closed.specs.Sets.{AreReached}
use Rattle.rela_closed.specs.Words.{words_of}
use Rattle.rela_closed.proofs.FirstWords.{search_apart, search_ascending, search_closed, search_done, search_few, search_first}
use Rattle.rela_closed.proofs.Searching.{search_start}
use Rattle.rela_closed.proofs.SetsFound.{sets_in}
use Rattle.rela_closed.proofs.finding.find.Goals as goal

pub loop-number-init : goal.loop-number-init
loop-number-init g c =
    let searched : IsSearched (g.L.LabelSet.letters c.args.over.now) c.first.new.self ([] ∷ []) c.number.new.self 0 0 =
    search_start c.shortlex_is_transitive.ensures (g.L.LabelSet.letters c.args.over.now) c.first.new.self (sets_in c.in_ok-first.field-0.items) c.new-table.result c.number.new.self c.in_ok-number.field-0 c.new-table.ensures
    c.in_ok-number.ensures.numbered (subst (λ l. AreReached l [] (sets_in c.in_ok-first.field-0.items)) (sym c.in_ok-first.ensures.same) c.in_ok-first.ensures.first) in
    record {
      automata = c.in_ok-first.ensures.same ∙ c.in_ok-reader.ensures;
      number = omega arith;
      few = omega (arith, searched.each, c.requires.some);
      ordered = λ i d below. absurd (omega (arith, below, ap length c.new-steps.ensures.items));
      searched = subst (λ l. IsSearched (g.L.LabelSet.letters c.args.over.now) c.first.new.self (words_of l) c.number.new.self 0 0) (sym c.new-steps.ensures.items) searched;
    }

module _ (g : Rattle.rela_closed.proofs.finding.find.Given.Over) (c : goal.After-drop-reader-inside-3 g) where
  found : IsSearched (g.L.LabelSet.letters c.args.over.now) (map (λ a. a.now) c.args.automata.now) (words_of c.loop-number.steps.items) c.loop-number.table
      (length (words_of c.loop-number.steps.items)) 0
  found =
      search_done (g.L.LabelSet.letters c.args.over.now) (map (λ a. a.now) c.args.automata.now) c.loop-number.reader (words_of c.loop-number.steps.items) c.loop-number.table
      c.loop-number.number c.loop-number.invariant.automata c.loop-number.invariant.number (omega (arith, c.len.ensures.len, c.loop-number-test.false)) c.loop-number.invariant.searched

pub returns-clause-closed : goal.returns-clause-closed
returns-clause-closed g c = search_closed c.shortlex_is_transitive.ensures c.shortlex_is_irreflexive.ensures _ _ _ c.loop-number.table (found g c) c.len.ensures.distinct

pub returns-clause-first : goal.returns-clause-first
returns-clause-first g c = search_first c.shortlex_is_transitive.ensures c.shortlex_is_irreflexive.ensures _ _ _ c.loop-number.table (found g c) c.len.ensures.distinct

pub returns-clause-ascending : goal.returns-clause-ascending
returns-clause-ascending g c = search_ascending c.shortlex_is_transitive.ensures c.shortlex_is_irreflexive.ensures _ _ _ c.loop-number.table (found g c) c.len.ensures.distinct

pub returns-clause-apart : goal.returns-clause-apart
returns-clause-apart g c = search_apart c.shortlex_is_transitive.ensures c.shortlex_is_irreflexive.ensures _ _ _ c.loop-number.table (found g c) c.len.ensures.distinct

pub returns-clause-told : goal.returns-clause-told
returns-clause-told g c =
    search_few c.shortlex_is_transitive.ensures c.shortlex_is_irreflexive.ensures _ _ (words_of c.loop-number.steps.items) c.loop-number.table (found g c) c.len.ensures.distinct c.args.limit
    (omega (arith, c.loop-number.invariant.searched.each, c.loop-number.invariant.few))
