use Rattle.std.proofs.Common.{◌≡◌, ℕ, Some, [], get_or, length, sym, ◌∙◌, subst, inr, arith}
use Rattle.rela_nfa.specs.Runs.{StepIn}
use Rattle.rela_closed.specs.Listing.{AreEdges, LeadsOut}
use Rattle.rela_closed.proofs.Edges.{edges_more, edges_skip, put_here, put_old}
use Rattle.rela_closed.proofs.Leaving.{leads_as}
use Rattle.rela_closed.proofs.TakenBlocks.{block_leads, done_skipped, done_taken, done_weaker, fewer_remain, told_fewer}
use Rattle.rela_closed.proofs.transitions.edges_from.Goals as goal

pub loop-letter-preserved-then-not-has_left : goal.loop-letter-preserved-then-not-has_left
loop-letter-preserved-then-not-has_left g c =
    let over = g.L.LabelSet.letters c.args.over.now in
    let sets = get_or c.args.table.now c.args.number [] in
    let bundle = c.loop-letter.bundle in
    let letter = c.loop-letter.letter in
    let none = sym c.has_left.ensures ∙ c.if-not-has_left.true in
    record {
      same = c.loop-letter.invariant.same;
      kept = c.loop-letter.invariant.kept;
      size = c.loop-letter.invariant.size;
      told = c.loop-letter.invariant.told;
      over = c.loop-letter.invariant.over;
      edges = edges_skip over c.args.reader.now c.args.table.now sets letter bundle (λ read. c.loop-letter.invariant.done letter read (inr none)) c.loop-letter.invariant.edges;
      done =
          done_skipped over (λ k. (to : ℕ) × StepIn bundle (Some k) to) c.loop-letter.blocks letter none c.loop-letter.invariant.done;
    }

pub returns-in_default-clause-left : goal.returns-in_default-clause-left
returns-in_default-clause-left g c =
    let letter = c.loop-letter.letter in
    let out = rw c.in_default.is at c.in_ok-to.ensures.out in
    record {
      from = c.args.number;
      letter = letter;
      within = c.requires.number;
      read = c.loop-letter.invariant.over letter (sym c.has_left.ensures ∙ c.if-not-has_left.false);
      out =
          subst (λ l. LeadsOut l c.args.table.now (get_or c.args.table.now c.args.number []) letter) c.loop-letter.invariant.same
          (subst (λ t. LeadsOut c.loop-letter.reader t (get_or t c.args.number []) letter) c.loop-letter.invariant.kept out);
    }

pub put-requires : goal.put-requires
put-requires g c = λ i d below set e.
    let is = c.in_ok-label.ensures.block in
    (c.loop-letter.invariant.edges.moves i d below).sized set e ∙ sym (is.sized ∙ c.loop-letter.invariant.size)

pub loop-letter-preserved : goal.loop-letter-preserved
loop-letter-preserved g c =
    let over = g.L.LabelSet.letters c.args.over.now in
    let automata = c.args.reader.now in
    let table = c.args.table.now in
    let sets = get_or table c.args.number [] in
    let letter = c.loop-letter.letter in
    let old = c.loop-letter.bundle in
    let new = c.put.new.self in
    let to = c.in-Some.to in
    let block = g.L.LabelSet.letters c.in_ok-label.label in
    let is = c.in_ok-label.ensures.block in
    let fewer = c.in_ok-label.ensures.fewer in
    let follows = rw c.in-Some.is at c.in_ok-to.ensures.follows in
    let kept = rw c.in-Some.is at c.in_ok-to.ensures.kept in
    let put = c.in_ok-put.ensures in
    let leads = leads_as automata c.loop-letter.reader table c.loop-letter.table c.args.number letter to c.loop-letter.invariant.same c.loop-letter.invariant.kept follows in
    record {
      same = c.in_ok-to.ensures.same ∙ c.loop-letter.invariant.same;
      kept = kept ∙ c.loop-letter.invariant.kept;
      size = fewer.size ∙ c.loop-letter.invariant.size;
      told = told_fewer block c.loop-letter.blocks c.take.new.self fewer automata sets c.loop-letter.invariant.told;
      over = λ k there. c.loop-letter.invariant.over k (fewer_remain block c.loop-letter.blocks c.take.new.self fewer k there);
      edges =
          edges_more over automata table sets letter to block old new leads.below
          (λ j among. (
            c.loop-letter.invariant.over j (is.within j among),
            block_leads automata sets c.loop-letter.blocks letter block c.loop-letter.invariant.told is j among (get_or table to []) leads.leads,
          ))
          (is.sized ∙ c.loop-letter.invariant.size) is.member put c.loop-letter.invariant.edges;
      done =
          done_taken over (λ k. (t : ℕ) × StepIn new (Some k) t) c.loop-letter.blocks c.take.new.self letter block is fewer (λ k read among. (to, put_here block to old new put k among))
          (done_weaker over (λ k. (t : ℕ) × StepIn old (Some k) t) (λ k. (t : ℕ) × StepIn new (Some k) t) c.loop-letter.blocks letter (λ k led. (led.0, put_old block to old new put k led.0 led.1))
          c.loop-letter.invariant.done);
    }

pub returns-clause-edges : goal.returns-clause-edges
returns-clause-edges g c =
    let over = g.L.LabelSet.letters c.args.over.now in
    let table = c.args.table.now in
    let all : c.loop-letter.letter ≡ length over = omega (arith, c.size-letter-end.ensures.size, c.loop-letter-test.false, c.loop-letter.auto.letter-end) in
    subst (AreEdges over c.args.reader.now table (get_or table c.args.number []) (length over)) (sym c.into_edges.ensures)
    (subst (λ k. AreEdges over c.args.reader.now table (get_or table c.args.number []) k c.loop-letter.bundle) all c.loop-letter.invariant.edges)
