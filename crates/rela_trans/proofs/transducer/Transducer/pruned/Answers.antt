use Rattle.std.proofs.Common.{◌++◌, length, drop, map, take, ap, ◌∙◌, subst}
use Rattle.rela_trans.specs.Coaccessible.{kept_by}
use Rattle.rela_trans.specs.Machine.{Machine, IsMachine}
use Rattle.rela_trans.specs.Stored.{moves_in}
use Rattle.rela_trans.proofs.Coaccessible.{whole_taken}
use Rattle.rela_trans.proofs.LeadingOn.{IsPruned, pruned_ok, pruned_reach, pruned_relation, pruned_states, pruned_useful}
use Rattle.rela_trans.proofs.transducer.Transducer.pruned.Given.{Over}
use Rattle.rela_trans.proofs.transducer.Transducer.pruned.Goals as goal

-- what is built of it
abbrev built_of : (g : Over) → goal.After-moves-2-1 g → Machine
built_of g c = record {
  letters = c.self.inside.letters;
  start = c.self.inside.start;
  finals = c.self.inside.finals.items;
  moves = moves_in g.L.LabelSet.letters (take c.self.inside.moves.len (c.keep_each.new.lists ++ drop (length c.keep_each.new.lists) c.self.inside.moves.items));
}

module _ (g : Over) (c : goal.After-moves-2-1 g) where
  built : IsPruned c.in_ok-flags.flags.items c.args.self (built_of g c)
  built = record {
    letters = ap (λ (x : Machine). x.letters) c.self.view_is;
    start = ap (λ (x : Machine). x.start) c.self.view_is;
    finals = ap (λ (x : Machine). x.finals) c.self.view_is;
    moves =
        ap (moves_in g.L.LabelSet.letters)
        (whole_taken c.self.inside.moves.len c.keep_each.new.lists (drop (length c.keep_each.new.lists) c.self.inside.moves.items) (c.keep_each.auto.lists ∙ c.deref_mut.ensures.len))
        ∙ c.keep_each.ensures ∙ ap (λ flags. map (kept_by flags) (moves_in g.L.LabelSet.letters c.deref_mut.result.now)) c.deref.ensures.value
        ∙ ap (λ lists. map (kept_by c.in_ok-flags.flags.items) (moves_in g.L.LabelSet.letters lists)) c.deref_mut.ensures.value
        ∙ ap (λ (x : Machine). map (kept_by c.in_ok-flags.flags.items) x.moves) c.self.view_is;
    leading = c.in_ok-flags.ensures.leading;
  }

pub invariant_of-result : goal.invariant_of-result
invariant_of-result g c =
    (c.self.invariant.0, pruned_ok c.in_ok-flags.flags.items c.args.self (built_of g c) (built g c) (subst IsMachine c.self.view_is c.self.invariant.1))

pub returns : goal.returns
returns g c =
    let flags = c.in_ok-flags.flags.items in
    let t = c.args.self in
    record {
      letters = (built g c.before).letters;
      states = pruned_states flags t (built_of g c.before) (built g c.before);
      useful = pruned_useful flags t (built_of g c.before) (built g c.before);
      reached = pruned_reach flags t (built_of g c.before) (built g c.before);
      relation = pruned_relation flags t (built_of g c.before) (built g c.before);
    }
