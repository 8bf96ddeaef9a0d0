use Rattle.std.proofs.Common.{List, ℕ, ◌+◌, take, sym, ap, ◌∙◌, subst}
use Rattle.std.proofs.lemmas.List.{take_more, take_all}
use Rattle.rela_nfa.specs.Reading.{AreReached}
use Rattle.rela_nfa.specs.StateSet.{Members}
use Rattle.rela_nfa.proofs.nfa.Nfa.accepts.Goals as goal

pub loop-letter-preserved : goal.loop-letter-preserved
loop-letter-preserved g c =
    let a = c.args.self.now in
    let word = c.args.word.now in
    let i = c.loop-letter.letter-index in
    let reached = c.in_ok-reach_next.ensures.reached (take i word) (subst (λ (l : List ℕ). AreReached a (take i word) l) (sym c.states-in-loop-letter.ensures.states) c.loop-letter.invariant.reached) in
    record {
      count = ap (λ (s : Members). s.count) c.swap.ensures.x_after ∙ c.in_ok-reach_next.ensures.count ∙ c.loop-letter.invariant.room;
      room = ap (λ (s : Members). s.count) c.swap.ensures.y_after ∙ c.loop-letter.invariant.count;
      reached =
          subst (λ (s : Members). AreReached a (take (i + 1) word) s.states) (sym c.swap.ensures.x_after)
          (subst (λ (w : List ℕ). AreReached a w c.reach_next.new.set.states) (sym (take_more word i 0 c.loop-letter-test.true)) reached);
    }

pub returns : goal.returns
returns g c =
    let reached : AreReached c.args.self.now c.args.word.now c.loop-letter.reached.states =
    subst (λ (w : List ℕ). AreReached c.args.self.now w c.loop-letter.reached.states) (take_all c.loop-letter.letter-index c.args.word.now c.loop-letter-test.false)
    c.loop-letter.invariant.reached in (
      λ final. let some = c.any_final.ensures.0 final in (some.0, (reached some.0).0 some.1, some.2),
      λ accepts. c.any_final.ensures.1 (accepts.0, (reached accepts.0).1 accepts.1, accepts.2),
    )
