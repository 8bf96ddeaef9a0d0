use Rattle.std.proofs.Common.{◌≡◌, ℕ, ◌↔◌, true, map, sym, subst}
use Rattle.rela_labels.specs.Letters.{has}
use Rattle.rela_closed.specs.Splitting.{AreTogether, IsBlock, Splitting}
use Rattle.rela_closed.proofs.TakenBlocks.{split_block}
use Rattle.rela_closed.proofs.blocks.Blocks.split_off.Goals as goal

pub returns-clause-block : goal.returns-clause-block
returns-clause-block g c =
    let letters = g.L.LabelSet.letters in
    let inside : Splitting = record {
      left = letters c.self.inside.left;
      rest = letters c.self.inside.rest;
      labels = map (λ label. letters label.now) c.self.inside.labels.items;
    } in
    subst (λ s. IsBlock s c.args.letter (letters c.in_ok-block.block)) c.self.view_is
    (split_block inside c.args.letter (letters c.in_ok-block.block) (subst (λ (s : Splitting). has s.rest c.args.letter ≡ true) (sym c.self.view_is) c.requires) c.self.invariant.1
    (subst (λ ls. (k : ℕ) → (has (letters c.in_ok-block.block) k ≡ true) ↔ ((has inside.rest k ≡ true) × AreTogether (map (λ label. letters label.now) ls) c.args.letter k)) c.deref.ensures.value
    c.in_ok-block.ensures.together) c.in_ok-block.ensures.size)
