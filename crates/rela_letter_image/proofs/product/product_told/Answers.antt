use Rattle.std.proofs.Common.{◌≡◌, ℕ, ◌<◌, ◌≤◌, List, Some, length, get_or, sym, ap, ◌∙◌, subst, arith}
use Rattle.std.specs.List.{slice_get}
use Rattle.std.proofs.lemmas.Option.{slice_get-get_or}
use Rattle.rela_nfa.specs.Meeting.{pair_of}
use Rattle.rela_pairs.specs.declared.pair.Pair.{Pair}
use Rattle.rela_letter_image.specs.Coarse.{coarse_of}
use Rattle.rela_letter_image.specs.Product.{IsProduct}
use Rattle.rela_letter_image.proofs.BuiltStates.{all_ok, all_product, built_more, told_kept}
use Rattle.rela_letter_image.proofs.product.product_told.Goals as goal

-- the pair that was read from a list of them
pair_read : (pairs read : List Pair) (n m : ℕ) (none : Pair) → read ≡ pairs → m ≡ n → n < length pairs → slice_get pairs n ≡ Some (get_or read m none)
pair_read pairs read n m none same is below = slice_get-get_or pairs n none below ∙ (λ i. Some (get_or (sym same i) (sym is i) none))

pub queue-preserved : goal.queue-preserved
queue-preserved c =
    let grown = c.queue.growing in
    let n = length grown.parts.finals in
    let none : Pair = pair_of 0 0 in
    let x : Pair = get_or c.pairs-in-queue.result.now c.states-in-queue-2.result none in
    let below : n < length grown.pairs = omega (arith, c.states-in-queue.ensures, c.queue-test.true, ap (λ (l : List Pair). length l) c.pairs.ensures.pairs) in
    let at = pair_read grown.pairs c.pairs-in-queue.result.now n c.states-in-queue-2.result none c.pairs-in-queue.ensures.pairs c.states-in-queue-2.ensures below in
    record {
      built = built_more c.args.coarse.now c.args.paths.now c.args.relation.now grown c.add_state.new.growing x c.queue.invariant.built at c.in_ok-add_state.ensures;
      told = told_kept c.args.coarse.now c.args.paths.now c.args.relation.now grown c.add_state.new.growing x c.queue.invariant.built at c.in_ok-add_state.ensures ∙ c.queue.invariant.told;
    }

pub finish-requires-clause-automaton : goal.finish-requires-clause-automaton
finish-requires-clause-automaton c =
    let grown = c.queue.growing in
    let done : length grown.pairs ≤ length grown.parts.finals =
    omega (arith, c.states-in-queue.ensures, c.queue-test.false, ap (λ (l : List Pair). length l) c.pairs.ensures.pairs) in
    all_ok c.args.coarse.now c.args.paths.now c.args.relation.now grown c.queue.invariant.built done

pub returns : goal.returns
returns c =
    let grown = c.queue.growing in
    let coarse = c.args.coarse.now in
    let a = c.args.paths.now in
    let t = c.args.relation.now in
    let done : length grown.pairs ≤ length grown.parts.finals =
    omega (arith, c.states-in-queue.ensures, c.queue-test.false, ap (λ (l : List Pair). length l) c.pairs.ensures.pairs) in (
      grown.pairs,
      subst (λ d. IsProduct (coarse_of t.letters coarse) a t d grown.pairs c.finish.result) c.queue.invariant.told
          (subst (λ r. IsProduct (coarse_of t.letters coarse) a t grown.told grown.pairs r) (sym c.finish.ensures) (all_product coarse a t grown c.queue.invariant.built done c.start-2.ensures.machine)),
    )
