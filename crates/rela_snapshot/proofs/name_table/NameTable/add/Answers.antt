use Rattle.std.proofs.Common.{◌∙◌, refl, ap, map, not}
use Rattle.rela_snapshot.proofs.Distinct.{table_more}
use Rattle.rela_snapshot.proofs.Keys.{has_name-keys, with_name-keys}
use Rattle.rela_snapshot.proofs.name_table.NameTable.add.Goals as goal

pub returns-clause-added : goal.returns-clause-added
returns-clause-added c =
    let e = ap not (has_name-keys _ c.args.name.now c.self.inside.names.keys c.self.view_is) in
    c.in_ok-is_new.ensures.added ∙ e

pub returns-clause-names : goal.returns-clause-names
returns-clause-names c = with_name-keys _ c.args.name c.self.inside.names.keys _ c.self.view_is c.in_ok-is_new.ensures.keys

pub invariant_of-self-2 : goal.invariant_of-self-2
invariant_of-self-2 c =
    table_more (map (λ k. k.now) c.self.inside.names.keys) _ c.args.name.now c.self.invariant (rw c.self.view_is c.requires)
    (with_name-keys _ c.args.name c.self.inside.names.keys _ refl c.in_ok-is_new.ensures.keys)

pub returns-clause-distinct : goal.returns-clause-distinct
returns-clause-distinct c =
    let table = table_more (map (λ k. k.now) c.self.inside.names.keys) _ c.args.name.now c.self.invariant (rw c.self.view_is c.requires)
    (with_name-keys _ c.args.name c.self.inside.names.keys _ refl c.in_ok-is_new.ensures.keys) in
    table.distinct
