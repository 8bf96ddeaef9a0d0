use Rattle.std.proofs.Common.{ℕ, ◌+◌, ◌<◌, length, get_or, take, arith, refl, sym, subst, ◌∙◌}
use Rattle.std.proofs.lemmas.List.Elements.{Contains-get_or}
use Rattle.rela_labels.specs.Splitting.{IsMoved}
use Rattle.rela_labels.proofs.MovedKeys.{all_moved, moved_before, moved_now}
use Rattle.rela_labels.proofs.splitter.move_members.Goals as goal
use Rattle.rela_labels.proofs.splitter.move_members.Goals.{then-keys-s, else-keys-s}

pub loop-s-preserved : goal.loop-s-preserved
loop-s-preserved c =
    let m : ℕ = get_or c.args.members.now c.loop-s.s-index 0 in
    let within : m < length c.args.keys.now = c.requires.within c.loop-s.s-index 0 c.loop-s-test.true in
    let len = c.loop-s.invariant.len in
    record {
      len = c.if-keys-s.auto.keys ∙ c.loop-s.invariant.len;
      each =
          elim c.if-keys-s.branch [
            | then-keys-s w ↦
                subst
                (λ keys. (s : ℕ) → s < length c.args.keys.now
                → IsMoved (take (c.loop-s.s-index + 1) c.args.members.now) c.args.moved.now c.args.keys.now keys s)
                (sym w.keys-is)
                (moved_now c.args.members.now c.args.moved.now c.args.keys.now c.loop-s.keys c.args.first c.loop-s.s-index m _ c.loop-s-test.true refl
                (omega arith) w.if-keys-s.true refl
                (c.requires.given m (Contains-get_or c.args.members.now c.loop-s.s-index 0 c.loop-s-test.true))
                c.loop-s.invariant.each c.loop-s.invariant.len)
            | else-keys-s w ↦
                subst
                (λ keys. (s : ℕ) → s < length c.args.keys.now
                → IsMoved (take (c.loop-s.s-index + 1) c.args.members.now) c.args.moved.now c.args.keys.now keys s)
                (sym w.keys-is)
                (moved_before c.args.members.now c.args.moved.now c.args.keys.now c.loop-s.keys c.args.first c.loop-s.s-index m c.loop-s-test.true refl within
                w.if-keys-s.false (c.requires.keys_below m 0 within) c.loop-s.invariant.each)
          ];
    }

pub returns : goal.returns
returns c = λ s s_in. all_moved c.args.members.now _ _ _ c.loop-s.s-index s c.loop-s-test.false (c.loop-s.invariant.each s s_in)
