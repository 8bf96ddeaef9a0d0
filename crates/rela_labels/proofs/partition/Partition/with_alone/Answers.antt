use Rattle.std.proofs.Common.{◌<◌, length, sym, subst}
use Rattle.std.specs.List.{All}
use Rattle.rela_labels.specs.declared.base.Base.{Base}
use Rattle.rela_labels.proofs.ApartLeast.{all_within, alone_by_calls}
use Rattle.rela_labels.proofs.partition.Partition.with_alone.Goals as goal

pub number_apart-requires-clause-within : goal.number_apart-requires-clause-within
number_apart-requires-clause-within c =
    subst (λ (base : Base). All (λ s. s < length base.blocks.items) c.deref-3.result.now) (sym c.deref-2.ensures)
    (all_within _ _ _ _ _ _ _ _ _ c.args.symbols.now _ _ c.self.invariant c.self.view_is c.requires c.deref.ensures.value c.in_ok-apart.ensures.members
    c.deref-3.ensures.value)

pub returns-clause-symbols : goal.returns-clause-symbols
returns-clause-symbols c =
    (alone_by_calls c.self.inside.base.value c.deref-2.result.now c.in_ok-base.base.value _ _ _ _ _ _ c.args.symbols.now c.in_ok-apart.apart.items
    c.deref-3.result.now c.in_ok-beside.beside.items c.in_ok-beside.numbers.items c.in_ok-beside.least.items c.self.invariant c.self.view_is
    c.deref-2.ensures c.in_ok-base.ensures.cases c.deref-3.ensures.value c.in_ok-beside.ensures c.deref.ensures.value c.in_ok-apart.ensures.members).symbols

pub returns-clause-together : goal.returns-clause-together
returns-clause-together c =
    (alone_by_calls c.self.inside.base.value c.deref-2.result.now c.in_ok-base.base.value _ _ _ _ _ _ c.args.symbols.now c.in_ok-apart.apart.items
    c.deref-3.result.now c.in_ok-beside.beside.items c.in_ok-beside.numbers.items c.in_ok-beside.least.items c.self.invariant c.self.view_is
    c.deref-2.ensures c.in_ok-base.ensures.cases c.deref-3.ensures.value c.in_ok-beside.ensures c.deref.ensures.value c.in_ok-apart.ensures.members).together
