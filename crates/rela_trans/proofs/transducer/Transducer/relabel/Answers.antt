use Rattle.std.proofs.Common.{◌≡◌, ℕ, ◌<◌, map, length, ◌∙◌, sym, ap, subst, arith}
use Rattle.rela_labels.specs.Partition.{block_of, block_count}
use Rattle.rela_trans.specs.Machine.{Machine, IsMachine}
use Rattle.rela_trans.specs.Relabelling.{relabelled_move}
use Rattle.rela_trans.specs.Stored.{moves_in}
use Rattle.rela_trans.proofs.Relabelled.{block_below, IsRelabelled, relabelled_states, relabelled_ok, relabelled_reach, relabelled_relation}
use Rattle.rela_trans.proofs.transducer.Transducer.relabel.Given.{Over}
use Rattle.rela_trans.proofs.transducer.Transducer.relabel.Goals as goal

pub relabelled_lists-requires-clause-few : goal.relabelled_lists-requires-clause-few
relabelled_lists-requires-clause-few g c =
    omega (arith, ap length c.deref-3.ensures.value, c.in_ok-parents.ensures.len, c.in_ok-parents.parents.ok.0, c.blocks-letters.ensures.count, c.blocks-letters.type_inv)

pub relabelled_lists-requires-clause-fits : goal.relabelled_lists-requires-clause-fits
relabelled_lists-requires-clause-fits g c =
    subst g.M.LabelSet.fits (omega (arith, ap length c.deref-3.ensures.value, c.in_ok-parents.ensures.len, c.in_ok-parents.parents.ok.0)) c.requires.fits

-- what was built of it
abbrev made : (g : Over) → goal.In_ok-moves g → Machine
made g c = record {
  letters = c.blocks-letters.result;
  start = c.self.inside.start;
  finals = c.in_ok-finals.finals.items;
  moves = moves_in g.M.LabelSet.letters c.in_ok-moves.moves.items;
}

module _ (g : Over) (c : goal.In_ok-moves g) where
  -- the blocks of the fine partition are those that have a parent
  parents_count : block_count c.args.to.now ≡ length c.in_ok-parents.parents.items
  parents_count = sym c.in_ok-parents.ensures.len ∙ c.in_ok-parents.parents.ok.0

  made_is : IsRelabelled c.in_ok-parents.parents.items c.args.self.now (made g c)
  made_is =
      let parents = c.in_ok-parents.parents.items in
      record {
        letters = c.blocks-letters.ensures.count ∙ parents_count;
        start = ap (λ (x : Machine). x.start) c.self.view_is;
        finals = c.in_ok-finals.ensures.items ∙ c.deref.ensures.value ∙ ap (λ (x : Machine). x.finals) c.self.view_is;
        moves =
            c.in_ok-moves.ensures ∙ ap (λ l. map (map (relabelled_move l)) (moves_in g.L.LabelSet.letters c.deref-2.result.now)) c.deref-3.ensures.value
            ∙ ap (λ l. map (map (relabelled_move parents)) (moves_in g.L.LabelSet.letters l)) c.deref-2.ensures.value
            ∙ ap (λ (x : Machine). map (map (relabelled_move parents)) x.moves) c.self.view_is;
      }

pub invariant_of-result : goal.invariant_of-result
invariant_of-result g c = (
  subst g.M.LabelSet.fits (sym c.blocks-letters.ensures.count) c.requires.fits,
  relabelled_ok c.in_ok-parents.parents.items c.args.self.now (made g c) (made_is g c) (subst IsMachine c.self.view_is c.self.invariant.1),
)

-- the same, once the parents were let go
abbrev built_of : (g : Over) → goal.After-drop-parents-2 g → Machine
built_of g c = record {
  letters = c.blocks-letters.result;
  start = c.self.inside.start;
  finals = c.in_ok-finals.finals.items;
  moves = moves_in g.M.LabelSet.letters c.in_ok-moves.moves.items;
}

module _ (g : Over) (c : goal.After-drop-parents-2 g) where
  -- the blocks of the fine partition are those that have a parent
  count : block_count c.args.to.now ≡ length c.in_ok-parents.parents.items
  count = sym c.in_ok-parents.ensures.len ∙ c.in_ok-parents.parents.ok.0

  within : (s : ℕ) → s < length c.args.to.now → block_of c.args.to.now s < length c.in_ok-parents.parents.items
  within s below = omega (arith, block_below c.args.to.now s below, count)

  built : IsRelabelled c.in_ok-parents.parents.items c.args.self.now (built_of g c)
  built =
      let parents = c.in_ok-parents.parents.items in
      record {
        letters = c.blocks-letters.ensures.count ∙ count;
        start = ap (λ (x : Machine). x.start) c.self.view_is;
        finals = c.in_ok-finals.ensures.items ∙ c.deref.ensures.value ∙ ap (λ (x : Machine). x.finals) c.self.view_is;
        moves =
            c.in_ok-moves.ensures ∙ ap (λ l. map (map (relabelled_move l)) (moves_in g.L.LabelSet.letters c.deref-2.result.now)) c.deref-3.ensures.value
            ∙ ap (λ l. map (map (relabelled_move parents)) (moves_in g.L.LabelSet.letters l)) c.deref-2.ensures.value
            ∙ ap (λ (x : Machine). map (map (relabelled_move parents)) x.moves) c.self.view_is;
      }

pub returns : goal.returns
returns g c =
    let parents = c.in_ok-parents.parents.items in
    let t = c.args.self.now in
    let fine = c.args.to.now in
    record {
      letters = c.blocks-letters.ensures.count;
      states = relabelled_states parents t (built_of g c) (built g c);
      reached = relabelled_reach parents t (built_of g c) (built g c) c.args.from.now fine (length fine) c.in_ok-parents.ensures.parents (within g c);
      relation = relabelled_relation parents t (built_of g c) (built g c) c.args.from.now fine (length fine) c.in_ok-parents.ensures.parents (within g c);
    }
