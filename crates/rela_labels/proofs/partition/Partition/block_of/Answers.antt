use Rattle.std.proofs.Common.{◌<◌, length, get_or, arith, sym, ap, subst, ◌∙◌, vec_len}
use Rattle.rela_labels.specs.declared.base.Base.{Base}
use Rattle.rela_labels.proofs.ApartLeast.{size_of_value, base_block, block_among, block_apart}
use Rattle.rela_labels.proofs.partition.Partition.block_of.Goals as goal

pub index-requires-in-None : goal.index-requires-in-None
index-requires-in-None c =
    let len = size_of_value _ _ _ _ _ c.self.view_is in
    let items = c.self.inside.base.value.blocks.ok.0 in
    let below : c.args.s < vec_len c.self.inside.base.value.blocks = omega arith in
    subst (λ (base : Base). c.args.s < vec_len base.blocks) (sym c.deref-in-None.ensures) below

pub index-requires-in-None-2 : goal.index-requires-in-None-2
index-requires-in-None-2 c =
    let block = c.index-in-None.result.now in
    let items = c.self.inside.numbers.ok.0 in
    let below : block < length c.self.inside.numbers.items =
    base_block _ _ _ _ _ _ _ _ c.args.s block c.self.invariant c.self.view_is c.requires
    (c.index-in-None.ensures ∙ ap (λ (base : Base). get_or base.blocks.items c.args.s block) c.deref-in-None.ensures) in
    omega arith

pub returns-in-Some-clause-block : goal.returns-in-Some-clause-block
returns-in-Some-clause-block c =
    (block_apart _ _ _ _ _ _ _ _ _ c.args.s c.in-Some.place _ c.self.invariant c.self.view_is c.requires c.deref.ensures.value c.in-Some.ensures c.index.ensures).block

pub returns-in-Some-clause-below : goal.returns-in-Some-clause-below
returns-in-Some-clause-below c =
    (block_apart _ _ _ _ _ _ _ _ _ c.args.s c.in-Some.place _ c.self.invariant c.self.view_is c.requires c.deref.ensures.value c.in-Some.ensures c.index.ensures).below

pub returns-in-None-clause-block : goal.returns-in-None-clause-block
returns-in-None-clause-block c =
    let block = c.index-in-None.result.now in
    (block_among _ _ _ _ _ _ _ _ _ c.args.s block _ c.self.invariant c.self.view_is c.requires c.deref.ensures.value c.in-None.ensures
    (c.index-in-None.ensures ∙ ap (λ (base : Base). get_or base.blocks.items c.args.s block) c.deref-in-None.ensures) c.index-in-None-2.ensures).block

pub returns-in-None-clause-below : goal.returns-in-None-clause-below
returns-in-None-clause-below c =
    let block = c.index-in-None.result.now in
    (block_among _ _ _ _ _ _ _ _ _ c.args.s block _ c.self.invariant c.self.view_is c.requires c.deref.ensures.value c.in-None.ensures
    (c.index-in-None.ensures ∙ ap (λ (base : Base). get_or base.blocks.items c.args.s block) c.deref-in-None.ensures) c.index-in-None-2.ensures).below
