use Rattle.std.proofs.Common.{ℕ, ◌+◌, Bool, List, [], ◌∷◌, ◌++◌, length, map, get_or, ◌∙◌, ap, arith, length-append}
use Rattle.std.specs.List.{range_with_len}
use Rattle.rela_nfa.specs.Automaton.{Move}
use Rattle.rela_nfa.specs.Construction.{single, link, link_by}
use Rattle.rela_nfa.specs.Stored.{move_of}
use Rattle.rela_nfa.proofs.Chains.{links_more, links_all}
use Rattle.rela_nfa.proofs.words.edges_of_word.Goals as goal

pub loop-letter-preserved : goal.loop-letter-preserved
loop-letter-preserved g c =
    let n = c.args.letters in
    let word = c.args.word.now in
    let i = c.loop-letter.letter-index in
    let one = single n (get_or word i 0) in
    let made = λ (set : List Bool) (k : ℕ). c.loop-letter.edges ++ link_by set k ∷ [] in (
      c.in_ok-add_link.ensures.empty,
      ap length c.in_ok-add_link.ensures.edges ∙ length-append c.loop-letter.edges (link_by (g.L.LabelSet.letters c.in_ok-set.set) (length c.loop-letter.edges) ∷ []) ∙ ap (λ k. k + 1) c.loop-letter.invariant.1,
      c.in_ok-add_link.ensures.edges ∙ (λ j. made (c.in_ok-set.ensures j) (c.loop-letter.invariant.1 j))
          ∙ ap (λ (l : List (List Move)). l ++ link_by one i ∷ []) c.loop-letter.invariant.2 ∙ links_more n word i c.loop-letter-test.true,
    )

pub returns : goal.returns
returns g c =
    let move = move_of g.L.LabelSet.letters in
    let sets = map (single c.args.letters) c.args.word.now in
    c.in_ok-push.ensures.list ∙ ap (λ (l : List (List Move)). l ++ map move c.loop-letter.leaving.items ∷ []) c.loop-letter.invariant.2
    ∙ ap (λ v. map (link sets) (range_with_len 0 c.loop-letter.letter-index) ++ map move v ∷ []) c.loop-letter.invariant.0
    ∙ links_all c.args.letters c.args.word.now c.loop-letter.letter-index (omega arith) (omega arith)

pub one_letter-requires-clause-below : goal.one_letter-requires-clause-below
one_letter-requires-clause-below g c = c.requires.letters c.loop-letter.letter-index 0 c.loop-letter-test.true

pub add_link-requires-clause-room : goal.add_link-requires-clause-room
add_link-requires-clause-room g c = omega (arith, c.loop-letter.invariant.1)
