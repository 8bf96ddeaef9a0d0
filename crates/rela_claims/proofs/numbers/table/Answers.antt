use Rattle.std.proofs.Common.{◌+◌, List, drop, fold, map, ap, sym, ◌∙◌, arith}
use Rattle.rela_claims.specs.Classes.{Class, with_class}
use Rattle.rela_claims.specs.Written.{class_of, classes_of}
use Rattle.rela_claims.specs.declared.classes.Mention.{Mention}
use Rattle.rela_claims.proofs.Keys.{key_more, keys_are_few}
use Rattle.rela_claims.proofs.Steps.{rest_is}
use Rattle.rela_claims.proofs.numbers.table.Goals as goal

pub loop-mention-preserved : goal.loop-mention-preserved
loop-mention-preserved c =
    let old = c.loop-mention.table.keys in
    let new = c.insert.new.self.keys in
    let m = c.mention-item.result in
    let rest = drop (c.loop-mention.mention-index + 1) c.args.mentions.now in
    record {
      rest =
          ap (λ (table : List Class). fold with_class table (classes_of rest)) (key_more old new m.class c.in_ok-insert.ensures.keys)
          ∙ sym (ap (λ (ms : List Mention). fold with_class (map class_of old) (classes_of ms))
          (rest_is c.args.mentions.now c.loop-mention.mention-index m c.loop-mention-test.true c.mention-item.is))
          ∙ c.loop-mention.invariant.rest;
      few = omega (arith, keys_are_few old new m.class c.in_ok-insert.ensures.keys, c.loop-mention.invariant.few);
    }
