use Rattle.std.proofs.Common.{◌<◌, get_or, take, refl, sym, ◌∙◌, subst, inl, inr}
use Rattle.std.specs.List.{Contains}
use Rattle.std.proofs.lemmas.List.{take_all, take_more}
use Rattle.std.proofs.lemmas.List.Elements.{All-get_or, Contains-push_cases}
use Rattle.rela_nfa.specs.Automaton.{moves_of, states}
use Rattle.rela_closed.specs.Splitting.{AreSorted}
use Rattle.rela_closed.proofs.SortedOut.{more_more, more_same, still_all}
use Rattle.rela_closed.proofs.Targets.{Contains-nil}
use Rattle.rela_closed.proofs.Walks.{set_within}
use Rattle.rela_closed.proofs.labels.Labels.put_from.Goals as goal

pub loop-q-init : goal.loop-q-init
loop-q-init g c = record {
  size = refl;
  more = more_same (g.L.LabelSet.letters c.args.over.now) c.args.self.now;
  sorted = λ q among. absurd (Contains-nil q among);
}

pub loop-q-preserved : goal.loop-q-preserved
loop-q-preserved g c =
    let over = g.L.LabelSet.letters c.args.over.now in
    let before = c.loop-q.self in
    let after = c.put_all.new.self in
    let set = c.args.set.now in
    let i = c.loop-q.q-index in
    let here = get_or set i 0 in
    record {
      size = c.in_ok-put_all.ensures.size ∙ c.loop-q.invariant.size;
      more = more_more over c.args.self.now before after c.loop-q.invariant.more (c.in_ok-put_all.ensures.more over);
      sorted = λ q among. elim (Contains-push_cases (take i set) here q (subst (λ l. Contains l q) (take_more set i 0 c.loop-q-test.true) among)) [
        | inl earlier ↦ still_all over before after (c.in_ok-put_all.ensures.more over) (moves_of c.args.a.now q) (c.loop-q.invariant.sorted q earlier)
        | inr last ↦
            subst (λ n. AreSorted over after (moves_of c.args.a.now n)) last
            (subst (AreSorted over after) c.edges.ensures.moves (c.in_ok-put_all.ensures.sorted over))
      ];
    }

pub returns-clause-sorted : goal.returns-clause-sorted
returns-clause-sorted g c = λ q among.
    c.loop-q.invariant.sorted q (subst (λ l. Contains l q) (sym (take_all c.loop-q.q-index c.args.set.now c.loop-q-test.false)) among)

pub edges-requires : goal.edges-requires
edges-requires g c =
    All-get_or (λ q. q < states c.args.a.now) c.args.set.now c.loop-q.q-index 0 c.loop-q-test.true
    (set_within c.args.a.now c.letters.ensures.automaton c.requires.met.0 c.args.set.now c.requires.met.1.0)
