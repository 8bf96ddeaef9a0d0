use Rattle.std.proofs.Common.{◌≡◌, ◌<◌, ◌++◌, length, get_or, drop, map, take, ap, ◌∙◌, subst, arith}
use Rattle.std.proofs.lemmas.List.{get_or_default}
use Rattle.rela_trans.specs.Detours.{redirected}
use Rattle.rela_trans.specs.Machine.{Machine, IsMachine, machine_states}
use Rattle.rela_trans.specs.Stored.{moves_in}
use Rattle.rela_trans.proofs.Coaccessible.{whole_taken}
use Rattle.rela_trans.proofs.Shortening.{IsShortened, shortened_begins, shortened_direct, shortened_ok, shortened_reach, shortened_relation, shortened_states}
use Rattle.rela_trans.proofs.transducer.Transducer.shortened.Given.{Over}
use Rattle.rela_trans.proofs.transducer.Transducer.shortened.Goals as goal

-- what is built of it
abbrev built_of : (g : Over) → goal.After-row_known-1 g → Machine
built_of g c = record {
  letters = c.self.inside.letters;
  start = c.index.result.now;
  finals = c.self.inside.finals.items;
  moves = moves_in g.L.LabelSet.letters (take c.self.inside.moves.len (c.redirect_each.new.lists ++ drop (length c.redirect_each.new.lists) c.self.inside.moves.items));
}

module _ (g : Over) (c : goal.After-row_known-1 g) where
  ok : IsMachine c.args.self
  ok = subst IsMachine c.self.view_is c.self.invariant.1

  below : c.self.inside.start < length c.in_ok-ends.ends.items
  below =
      let starts : c.args.self.start < machine_states c.args.self = (ok).starts in
      let same : c.self.inside.start ≡ c.args.self.start = ap (λ (x : Machine). x.start) c.self.view_is in
      omega (arith, c.in_ok-ends.ensures.count)

  built : IsShortened c.in_ok-ends.ends.items c.args.self (built_of g c)
  built =
      let ends = c.in_ok-ends.ends.items in
      record {
        letters = ap (λ (x : Machine). x.letters) c.self.view_is;
        start = c.index.ensures ∙ get_or_default ends c.self.inside.start c.index.result.now 0 below ∙ ap (λ (x : Machine). get_or ends x.start 0) c.self.view_is;
        finals = ap (λ (x : Machine). x.finals) c.self.view_is;
        moves =
            ap (moves_in g.L.LabelSet.letters)
            (whole_taken c.self.inside.moves.len c.redirect_each.new.lists (drop (length c.redirect_each.new.lists) c.self.inside.moves.items)
            (c.redirect_each.auto.lists ∙ c.deref_mut.ensures.len))
            ∙ c.redirect_each.ensures ∙ ap (λ l. map (map (redirected l)) (moves_in g.L.LabelSet.letters c.deref_mut.result.now)) c.deref.ensures.value
            ∙ ap (λ lists. map (map (redirected ends)) (moves_in g.L.LabelSet.letters lists)) c.deref_mut.ensures.value
            ∙ ap (λ (x : Machine). map (map (redirected ends)) x.moves) c.self.view_is;
        led = c.in_ok-ends.ensures.led;
        ended = c.in_ok-ends.ensures.ended;
      }

pub invariant_of-result : goal.invariant_of-result
invariant_of-result g c = (c.self.invariant.0, shortened_ok c.in_ok-ends.ends.items c.args.self (built_of g c) (ok g c) (built g c))

pub returns : goal.returns
returns g c =
    let ends = c.in_ok-ends.ends.items in
    let t = c.args.self in
    record {
      letters = (built g c.before).letters;
      states = shortened_states ends t (built_of g c.before) (ok g c.before) (built g c.before);
      begins = shortened_begins ends t (built_of g c.before) (ok g c.before) (built g c.before);
      direct = shortened_direct ends t (built_of g c.before) (ok g c.before) (built g c.before);
      reached = shortened_reach ends t (built_of g c.before) (ok g c.before) (built g c.before);
      relation = shortened_relation ends t (built_of g c.before) (ok g c.before) (built g c.before);
    }
