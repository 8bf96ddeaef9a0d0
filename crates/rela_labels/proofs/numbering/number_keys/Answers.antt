use Rattle.std.proofs.Common.{take, ◌∙◌, arith}
use Rattle.std.proofs.lemmas.List.{length-take-le}
use Rattle.rela_labels.proofs.KeysInOrder.{every_key, all_numbered, keys_pushed, same_numbers}
use Rattle.rela_labels.proofs.numbering.number_keys.Goals as goal

pub returns-clause-numbered : goal.returns-clause-numbered
returns-clause-numbered c =
    all_numbered c.args.keys.now _ _ _ (every_key c.args.keys.now c.loop-key.key-index _ _ _ c.loop-key-test.false c.loop-key.invariant.numbering)
    c.requires.some c.requires.few

pub returns-clause-same : goal.returns-clause-same
returns-clause-same c =
    same_numbers c.args.keys.now _ _ _ (every_key c.args.keys.now c.loop-key.key-index _ _ _ c.loop-key-test.false c.loop-key.invariant.numbering)

pub push-requires-clause-below : goal.push-requires-clause-below
push-requires-clause-below c = omega (arith, c.loop-key.invariant.bound, c.requires.below c.loop-key.key-index 0 c.loop-key-test.true)

pub push-requires-clause-few : goal.push-requires-clause-few
push-requires-clause-few c =
    omega (arith, c.loop-key.invariant.numbering.len, length-take-le c.loop-key.key-index c.args.keys.now (omega arith), c.loop-key-test.true, c.requires.few)

pub push-requires-clause-short : goal.push-requires-clause-short
push-requires-clause-short c = c.loop-key.invariant.numbering.short

pub loop-key-init : goal.loop-key-init
loop-key-init c = record { bound = c.in_ok-numbering.ensures.bound; numbering = c.in_ok-numbering.ensures.numbering }

pub loop-key-preserved : goal.loop-key-preserved
loop-key-preserved c =
    let keys = c.args.keys.now in
    let is = c.loop-key.invariant in
    record {
      bound = c.in_ok-push.ensures.bound ∙ is.bound;
      numbering = keys_pushed keys c.loop-key.key-index c.push.new.self.numbers.items c.push.new.self.blocks.items c.push.new.self.firsts.items c.loop-key-test.true
          (c.in_ok-push.ensures.numbering (take c.loop-key.key-index keys) is.numbering);
    }

pub returns-clause-len : goal.returns-clause-len
returns-clause-len c =
    let is = every_key c.args.keys.now c.loop-key.key-index _ _ _ c.loop-key-test.false c.loop-key.invariant.numbering in
    is.len
