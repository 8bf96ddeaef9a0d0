use Rattle.std.proofs.Common.{◌≡◌, ℕ, ◌<◌, Bool, false, List, IsTrue, get_or, map, length, ◌∙◌, sym, ap, subst, arith}
use Rattle.std.specs.List.{range_with_len}
use Rattle.rela_labels.specs.Partition.{block_of, block_count}
use Rattle.rela_trans.specs.Machine.{Machine, IsMachine, machine_states}
use Rattle.rela_trans.specs.Reached.{IsKept, MayReach, kept_moves}
use Rattle.rela_trans.specs.Stored.{moves_in}
use Rattle.rela_trans.specs.declared.moves.Move.{Move}
use Rattle.rela_trans.proofs.Kept.{kept_states, kept_ok, kept_reach, kept_relation}
use Rattle.rela_trans.proofs.Relabelled.{block_below}
use Rattle.rela_trans.proofs.transducer.Transducer.relabel_reached.Given.{Over}
use Rattle.rela_trans.proofs.transducer.Transducer.relabel_reached.Goals as goal

-- the same by what is lent
lent : (parents lent_parents : List ℕ) (kept lent_kept : List Bool) (t : Machine) (moves : List (List (Move (List Bool)))) → lent_parents ≡ parents → lent_kept ≡ kept
    → moves ≡ map (kept_moves lent_parents lent_kept t) (range_with_len 0 (machine_states t)) → moves ≡ map (kept_moves parents kept t) (range_with_len 0 (machine_states t))
lent parents lent_parents kept lent_kept t moves same_parents same_kept e =
    e ∙ (λ i. map (kept_moves (same_parents i) (same_kept i) t) (range_with_len 0 (machine_states t)))

pub kept_lists-requires-clause-few : goal.kept_lists-requires-clause-few
kept_lists-requires-clause-few g c =
    omega (arith, ap length c.deref-4.ensures.value, c.in_ok-parents.ensures.len, c.in_ok-parents.parents.ok.0, c.letters-letters.ensures.letters, c.letters-letters.type_inv, c.requires.sources)

pub kept_lists-requires-clause-fits : goal.kept_lists-requires-clause-fits
kept_lists-requires-clause-fits g c =
    subst g.M.LabelSet.fits (omega (arith, ap length c.deref-4.ensures.value, c.in_ok-parents.ensures.len, c.in_ok-parents.parents.ok.0, c.requires.sources)) c.letters-letters.ensures.fits

-- what was built of it
abbrev made : (g : Over) → goal.In_ok-moves g → Machine
made g c = record {
  letters = c.letters-letters.result;
  start = c.self.inside.start;
  finals = c.in_ok-finals.finals.items;
  moves = moves_in g.M.LabelSet.letters c.in_ok-moves.moves.items;
}

module _ (g : Over) (c : goal.In_ok-moves g) where
  made_is : IsKept c.in_ok-parents.parents.items c.in_ok-kept.kept.items c.args.self.now (made g c)
  made_is = record {
    letters = c.letters-letters.ensures.letters ∙ c.requires.sources ∙ sym c.in_ok-parents.ensures.len ∙ c.in_ok-parents.parents.ok.0;
    start = ap (λ (x : Machine). x.start) c.self.view_is;
    finals = c.in_ok-finals.ensures.items ∙ c.deref-2.ensures.value ∙ ap (λ (x : Machine). x.finals) c.self.view_is;
    moves = lent c.in_ok-parents.parents.items _ c.in_ok-kept.kept.items _ c.args.self.now _ c.deref-4.ensures.value c.deref-3.ensures.value c.in_ok-moves.ensures;
  }

pub invariant_of-result : goal.invariant_of-result
invariant_of-result g c = (
  subst g.M.LabelSet.fits (sym c.letters-letters.ensures.letters) c.letters-letters.ensures.fits,
  kept_ok c.in_ok-parents.parents.items c.in_ok-kept.kept.items c.args.self.now (made g c) (made_is g c) (subst IsMachine c.self.view_is c.self.invariant.1),
)

-- the same, once the parents were let go
abbrev built_of : (g : Over) → goal.After-drop-parents-2 g → Machine
built_of g c = record {
  letters = c.letters-letters.result;
  start = c.self.inside.start;
  finals = c.in_ok-finals.finals.items;
  moves = moves_in g.M.LabelSet.letters c.in_ok-moves.moves.items;
}

module _ (g : Over) (c : goal.After-drop-parents-2 g) where
  -- the blocks of the fine partition are those that have a parent
  count : block_count c.args.to.now ≡ length c.in_ok-parents.parents.items
  count = sym c.in_ok-parents.ensures.len ∙ c.in_ok-parents.parents.ok.0

  within : (s : ℕ) → s < length c.args.to.now → block_of c.args.to.now s < length c.in_ok-parents.parents.items
  within s below = omega (arith, block_below c.args.to.now s below, count)

  built : IsKept c.in_ok-parents.parents.items c.in_ok-kept.kept.items c.args.self.now (built_of g c)
  built = record {
    letters = c.letters-letters.ensures.letters ∙ c.requires.sources ∙ count;
    start = ap (λ (x : Machine). x.start) c.self.view_is;
    finals = c.in_ok-finals.ensures.items ∙ c.deref-2.ensures.value ∙ ap (λ (x : Machine). x.finals) c.self.view_is;
    moves = lent c.in_ok-parents.parents.items _ c.in_ok-kept.kept.items _ c.args.self.now _ c.deref-4.ensures.value c.deref-3.ensures.value c.in_ok-moves.ensures;
  }

  all : (q : ℕ) → MayReach c.in_ok-parents.parents.items c.args.sources.now c.args.self.now q → IsTrue (get_or c.in_ok-kept.kept.items q false)
  all q reached = (c.in_ok-kept.ensures.reached q).1 (subst (λ l. MayReach l c.args.sources.now c.args.self.now q) (sym c.deref.ensures.value) reached)

pub returns : goal.returns
returns g c =
    let parents = c.in_ok-parents.parents.items in
    let kept = c.in_ok-kept.kept.items in
    let t = c.args.self.now in
    let a = c.args.sources.now in
    let fine = c.args.to.now in
    let ok = subst IsMachine c.self.view_is c.self.invariant.1 in
    let ok_a = c.letters-letters.ensures.automaton in
    record {
      letters = c.letters-letters.ensures.letters ∙ c.requires.sources;
      states = kept_states parents kept t (built_of g c) (built g c) ok;
      reached = kept_reach parents kept t (built_of g c) (built g c) ok a ok_a (all g c) c.args.from.now fine (length fine) c.in_ok-parents.ensures.parents (within g c);
      relation = kept_relation parents kept t (built_of g c) (built g c) ok a ok_a (all g c) c.args.from.now fine (length fine) c.in_ok-parents.ensures.parents (within g c);
    }
