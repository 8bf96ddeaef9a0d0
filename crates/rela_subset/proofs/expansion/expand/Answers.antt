use Rattle.std.proofs.Common.{◌≡◌, ℕ, ◌<◌, ◌&&◌, not, true, false, List, [], ◌∷◌, ◌++◌, get_or, length, refl, ap, sym, subst, ◌∙◌}
use Rattle.std.proofs.lemmas.Result.{err_from_is_err_and}
use Rattle.rela_labels.specs.Letters.{has}
use Rattle.rela_nfa.specs.Automaton.{Automaton}
use Rattle.rela_nfa.specs.StateSet.{Lists}
use Rattle.rela_subset.specs.Expansion.{HasGrown, IsAlike}
use Rattle.rela_subset.specs.Outgoing.{AreSortedOut, moves_from}
use Rattle.rela_subset.specs.Sets.{AreDistinct, NextFrom}
use Rattle.rela_subset.specs.declared.blocks.Block.{Block}
use Rattle.rela_subset.proofs.Expanding.{expanded_none, expanded_more, grown_last}
use Rattle.rela_subset.proofs.Fewer.{fewer_left}
use Rattle.rela_subset.proofs.OutOfSets.{next_of, some_is, sorted_in, sorted_same}
use Rattle.rela_subset.proofs.TakenAway.{itself}
use Rattle.rela_subset.proofs.expansion.expand.Goals as goal

pub loop-blocks-init : goal.loop-blocks-init
loop-blocks-init g c = record {
  expanded =
      expanded_none c.args.outgoing.now.automaton (g.L.LabelSet.letters c.args.over.now) c.in_ok-blocks.blocks.left (get_or c.args.sets.now c.args.number []) c.args.sets.now c.args.bundle.now
      c.in_ok-blocks.ensures.left c.requires.none;
  few = c.requires.few;
  count = refl;
  size = ap length c.in_ok-blocks.ensures.left;
  sorted =
      sorted_in c.args.outgoing.now.automaton c.gather.new.self (get_or c.args.sets.now c.args.number []) c.get.result.now c.in_ok-gather.ensures.automaton c.get.ensures
      c.in_ok-gather.ensures.sorted c.in_ok-blocks.blocks c.in_ok-blocks.ensures.singles c.in_ok-blocks.ensures.others;
}

pub returns-in_err-to-clause-limit : goal.returns-in_err-to-clause-limit
returns-in_err-to-clause-limit g c =
    let set = get_or c.args.sets.now c.args.number [] in
    let rest = c.loop-blocks.blocks.left in
    let letter = c.in-Some.block.letter in
    let member = some_is c.in-Some.is (λ (b : Block g.row.L.Denot). has rest b.letter ≡ true) c.in_ok-block.ensures.member in
    let reaches =
    next_of c.args.outgoing.now.automaton c.gather.new.self set c.get.result.now c.in_ok-gather.ensures.automaton c.get.ensures c.in_ok-gather.ensures.sorted
    letter c.following.new.visited.states c.in_ok-following.ensures.following in
    let follows : Lists (NextFrom c.args.outgoing.now.automaton set letter) c.states-next.result.now = subst (Lists (NextFrom c.args.outgoing.now.automaton set letter)) (sym c.states-next.ensures.states) reaches in
    let p = err_from_is_err_and c.from_residual-in_err-to.result c.from_residual-in_err-to.ensures.1 in
    rw (p.1, p.2) (λ e.
    let next = c.states-next.result.now in
    let same = c.in_err-to.ensures.unchanged in
    let (letters, grown) =
    grown_last c.args.outgoing.now.automaton (g.L.LabelSet.letters c.args.over.now) rest set c.args.sets.now c.loop-blocks.sets (c.loop-blocks.sets ++ next ∷ [])
    letter next c.loop-blocks.bundle c.loop-blocks.invariant.expanded member follows refl in (
      ap length same ∙ c.in_err-to.ensures.limit e,
      (
        next,
        letters,
        subst (λ sets. AreDistinct (sets ++ next ∷ [])) (sym same) (c.in_err-to.ensures.lacking e),
        subst (λ sets. HasGrown c.args.outgoing.now.automaton (g.L.LabelSet.letters c.args.over.now) set c.args.sets.now (sets ++ next ∷ []) letters) (sym same) grown,
      ),
    ))

pub put-requires : goal.put-requires
put-requires g c = λ k move below label is.
    let sized =
    some_is c.in-Some.is (λ (b : Block g.row.L.Denot). length (g.L.LabelSet.letters b.letters) ≡ length c.loop-blocks.blocks.left) c.in_ok-block.ensures.sized in
    (c.loop-blocks.invariant.expanded.edges.sized k move below).sized label is ∙ sym (sized ∙ c.loop-blocks.invariant.size)

pub loop-blocks-smaller : goal.loop-blocks-smaller
loop-blocks-smaller g c =
    let letters = g.L.LabelSet.letters in
    let set = get_or c.args.sets.now c.args.number [] in
    let rest = c.loop-blocks.blocks.left in
    let left = c.next.new.self.left in
    let block = letters c.in-Some.block.letters in
    let letter = c.in-Some.block.letter in
    let member = some_is c.in-Some.is (λ (b : Block g.row.L.Denot). has rest b.letter ≡ true) c.in_ok-block.ensures.member in
    let taken = some_is c.in-Some.is (λ (b : Block g.row.L.Denot). (k : ℕ) → has left k ≡ (has rest k && not (has (letters b.letters) k))) c.in_ok-block.ensures.taken in
    let alike =
    some_is c.in-Some.is (λ (b : Block g.row.L.Denot). (a : Automaton) (states : List ℕ) → AreSortedOut (moves_from a states) c.loop-blocks.blocks.singles c.loop-blocks.blocks.others
    → IsAlike a states rest b.letter (letters b.letters)) c.in_ok-block.ensures.alike c.args.outgoing.now.automaton set c.loop-blocks.invariant.sorted in
    fewer_left rest block left letter c.in_ok-block.ensures.size taken member (itself c.args.outgoing.now.automaton rest block set letter member alike)

pub loop-blocks-preserved : goal.loop-blocks-preserved
loop-blocks-preserved g c =
    let letters = g.L.LabelSet.letters in
    let set = get_or c.args.sets.now c.args.number [] in
    let rest = c.loop-blocks.blocks.left in
    let left = c.next.new.self.left in
    let block = letters c.in-Some.block.letters in
    let letter = c.in-Some.block.letter in
    let member = some_is c.in-Some.is (λ (b : Block g.row.L.Denot). has rest b.letter ≡ true) c.in_ok-block.ensures.member in
    let taken = some_is c.in-Some.is (λ (b : Block g.row.L.Denot). (k : ℕ) → has left k ≡ (has rest k && not (has (letters b.letters) k))) c.in_ok-block.ensures.taken in
    let alike =
    some_is c.in-Some.is (λ (b : Block g.row.L.Denot). (a : Automaton) (states : List ℕ) → AreSortedOut (moves_from a states) c.loop-blocks.blocks.singles c.loop-blocks.blocks.others
    → IsAlike a states rest b.letter (letters b.letters)) c.in_ok-block.ensures.alike c.args.outgoing.now.automaton set c.loop-blocks.invariant.sorted in
    let least = some_is c.in-Some.is (λ (b : Block g.row.L.Denot). (k : ℕ) → k < b.letter → has rest k ≡ false) c.in_ok-block.ensures.least in
    let reaches =
    next_of c.args.outgoing.now.automaton c.gather.new.self set c.get.result.now c.in_ok-gather.ensures.automaton c.get.ensures c.in_ok-gather.ensures.sorted
    letter c.following.new.visited.states c.in_ok-following.ensures.following in
    let follows : Lists (NextFrom c.args.outgoing.now.automaton set letter) c.states-next.result.now = subst (Lists (NextFrom c.args.outgoing.now.automaton set letter)) (sym c.states-next.ensures.states) reaches in
    let sized = some_is c.in-Some.is (λ (b : Block g.row.L.Denot). length (letters b.letters) ≡ length rest) c.in_ok-block.ensures.sized in
    record {
      expanded =
          expanded_more c.args.outgoing.now.automaton (letters c.args.over.now) rest left block set c.args.sets.now c.loop-blocks.sets c.number.new.self letter c.in_ok-to.to
          c.states-next.result.now c.loop-blocks.bundle c.put.new.self c.loop-blocks.invariant.expanded member least alike taken follows
          c.in_ok-to.ensures.at c.in_ok-to.ensures.within c.in_ok-put.ensures (sized ∙ c.loop-blocks.invariant.size) c.in_ok-to.ensures.grown;
      few = c.in_ok-to.ensures.few;
      count = c.in_ok-following.ensures.count ∙ c.loop-blocks.invariant.count;
      size = c.in_ok-block.ensures.size ∙ c.loop-blocks.invariant.size;
      sorted =
          sorted_same (moves_from c.args.outgoing.now.automaton set) c.loop-blocks.blocks.singles c.next.new.self.singles c.loop-blocks.blocks.others c.next.new.self.others
          c.in_ok-block.ensures.singles c.in_ok-block.ensures.others c.loop-blocks.invariant.sorted;
    }
