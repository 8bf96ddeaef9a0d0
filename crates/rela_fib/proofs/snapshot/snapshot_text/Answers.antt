use Rattle.std.proofs.Common.{ap, arith, inr, length, subst, sym}
use Rattle.rela_tables.specs.Located.{AreInterfaces}
use Rattle.rela_fib.proofs.Chains.{if_ok_weaker, on_ok_from}
use Rattle.rela_fib.proofs.Flows.{many_edges, not_long_by, not_many_by, planned, too_long, written}
use Rattle.rela_fib.proofs.Laws.{AreLaws}
use Rattle.rela_fib.proofs.Loading.{loads_as}
use Rattle.rela_fib.proofs.Located.{nodes_located}
use Rattle.rela_fib.proofs.Steps.{as_many_nodes, matched}
use Rattle.rela_fib.proofs.snapshot.snapshot_text.Goals as goal

pub new-requires-clause-located : goal.new-requires-clause-located
new-requires-clause-located c = subst (AreInterfaces c.args.locations.now) (sym c.as_slice-2.ensures.value) (nodes_located c.args.locations.now c.args.tables.now c.in_ok-nodes.nodes.items c.requires c.in_ok-nodes.ensures)

pub text_of-requires-clause-matched : goal.text_of-requires-clause-matched
text_of-requires-clause-matched c = matched c.args.locations.now c.args.tables.now c.as_slice-2.result.now c.in_ok-devices.devices c.in_ok-devices.ensures

pub text_of-requires-clause-few : goal.text_of-requires-clause-few
text_of-requires-clause-few c = omega (arith, as_many_nodes c.args.locations.now c.args.tables.now c.as_slice-2.result.now c.in_ok-devices.devices c.in_ok-devices.ensures, ap length c.as_slice-2.ensures.value, c.if-len-gt-MAX_NODES.false, c.len.ensures, c.in_ok-nodes.nodes.ok.0)

pub returns-clause-text : goal.returns-clause-text
returns-clause-text c =
    let plan = planned c.args.locations.now c.args.tables.now c.args.other.now _ _ _ _ _ _ _ _ _ _ _ _ c.as_slice.ensures.value c.as_slice-2.ensures.value c.as_slice-3.ensures.value c.starts.ensures c.as_slice-4.ensures.value c.as_slice-5.ensures.value c.as_slice-6.ensures.value
    c.in_ok-nodes.ensures (omega (arith, c.if-len-gt-MAX_NODES.false, c.len.ensures, c.in_ok-nodes.nodes.ok.0)) c.in_ok-starts.ensures c.in_ok-classes.ensures.classes c.in_ok-classes.ensures.uniform (omega (arith, c.if-len-gt-MAX_FLOWS.false, c.len-2.ensures, c.in_ok-classes.classes.ok.0)) c.in_ok-devices.ensures c.in_ok-end.ensures in
    if_ok_weaker c.text_of.result _ _ (λ text is. written c.args.locations.now c.args.tables.now c.args.other.now _ _ _ c.in_ok-devices.devices _ text.items plan is) c.text_of.ensures.text

pub returns-clause-loads : goal.returns-clause-loads
returns-clause-loads c =
    let laws : AreLaws = record { texts = c.canonical_texts_write_their_prefixes.ensures; apart = c.prefixes_of_one_length_are_apart.ensures.ipv4; one_list = c.classes_are_unique.ensures } in
    let plan = planned c.args.locations.now c.args.tables.now c.args.other.now _ _ _ _ _ _ _ _ _ _ _ _ c.as_slice.ensures.value c.as_slice-2.ensures.value c.as_slice-3.ensures.value c.starts.ensures c.as_slice-4.ensures.value c.as_slice-5.ensures.value c.as_slice-6.ensures.value
    c.in_ok-nodes.ensures (omega (arith, c.if-len-gt-MAX_NODES.false, c.len.ensures, c.in_ok-nodes.nodes.ok.0)) c.in_ok-starts.ensures c.in_ok-classes.ensures.classes c.in_ok-classes.ensures.uniform (omega (arith, c.if-len-gt-MAX_FLOWS.false, c.len-2.ensures, c.in_ok-classes.classes.ok.0)) c.in_ok-devices.ensures c.in_ok-end.ensures in
    if_ok_weaker c.text_of.result _ _ (λ text is. loads_as laws c.args.locations.now c.args.tables.now c.args.other.now text.items c.interfaces_ascend.ensures c.requires plan.devices_are.tables
    (written c.args.locations.now c.args.tables.now c.args.other.now _ _ _ c.in_ok-devices.devices _ text.items plan is)) c.text_of.ensures.text

pub returns-clause-too_many : goal.returns-clause-too_many
returns-clause-too_many c =
    let plan = planned c.args.locations.now c.args.tables.now c.args.other.now _ _ _ _ _ _ _ _ _ _ _ _ c.as_slice.ensures.value c.as_slice-2.ensures.value c.as_slice-3.ensures.value c.starts.ensures c.as_slice-4.ensures.value c.as_slice-5.ensures.value c.as_slice-6.ensures.value
    c.in_ok-nodes.ensures (omega (arith, c.if-len-gt-MAX_NODES.false, c.len.ensures, c.in_ok-nodes.nodes.ok.0)) c.in_ok-starts.ensures c.in_ok-classes.ensures.classes c.in_ok-classes.ensures.uniform (omega (arith, c.if-len-gt-MAX_FLOWS.false, c.len-2.ensures, c.in_ok-classes.classes.ok.0)) c.in_ok-devices.ensures c.in_ok-end.ensures in
    λ e. inr (inr (many_edges c.args.locations.now c.args.tables.now c.args.other.now _ _ _ c.in_ok-devices.devices _ plan (c.text_of.ensures.too_many e)))

pub returns-clause-too_long : goal.returns-clause-too_long
returns-clause-too_long c =
    let plan = planned c.args.locations.now c.args.tables.now c.args.other.now _ _ _ _ _ _ _ _ _ _ _ _ c.as_slice.ensures.value c.as_slice-2.ensures.value c.as_slice-3.ensures.value c.starts.ensures c.as_slice-4.ensures.value c.as_slice-5.ensures.value c.as_slice-6.ensures.value
    c.in_ok-nodes.ensures (omega (arith, c.if-len-gt-MAX_NODES.false, c.len.ensures, c.in_ok-nodes.nodes.ok.0)) c.in_ok-starts.ensures c.in_ok-classes.ensures.classes c.in_ok-classes.ensures.uniform (omega (arith, c.if-len-gt-MAX_FLOWS.false, c.len-2.ensures, c.in_ok-classes.classes.ok.0)) c.in_ok-devices.ensures c.in_ok-end.ensures in
    λ e. too_long c.args.locations.now c.args.tables.now c.args.other.now _ _ _ c.in_ok-devices.devices _ plan (c.text_of.ensures.too_long e)

pub returns-clause-few : goal.returns-clause-few
returns-clause-few c =
    let laws : AreLaws = record { texts = c.canonical_texts_write_their_prefixes.ensures; apart = c.prefixes_of_one_length_are_apart.ensures.ipv4; one_list = c.classes_are_unique.ensures } in
    let plan = planned c.args.locations.now c.args.tables.now c.args.other.now _ _ _ _ _ _ _ _ _ _ _ _ c.as_slice.ensures.value c.as_slice-2.ensures.value c.as_slice-3.ensures.value c.starts.ensures c.as_slice-4.ensures.value c.as_slice-5.ensures.value c.as_slice-6.ensures.value
    c.in_ok-nodes.ensures (omega (arith, c.if-len-gt-MAX_NODES.false, c.len.ensures, c.in_ok-nodes.nodes.ok.0)) c.in_ok-starts.ensures c.in_ok-classes.ensures.classes c.in_ok-classes.ensures.uniform (omega (arith, c.if-len-gt-MAX_FLOWS.false, c.len-2.ensures, c.in_ok-classes.classes.ok.0)) c.in_ok-devices.ensures c.in_ok-end.ensures in
    on_ok_from c.text_of.result _ _ (λ text is. not_many_by laws c.args.locations.now c.args.tables.now c.args.other.now _ _ _ c.in_ok-devices.devices _ is.flows plan is.flows_are) c.text_of.ensures.text

pub returns-clause-few_where_long : goal.returns-clause-few_where_long
returns-clause-few_where_long c =
    let laws : AreLaws = record { texts = c.canonical_texts_write_their_prefixes.ensures; apart = c.prefixes_of_one_length_are_apart.ensures.ipv4; one_list = c.classes_are_unique.ensures } in
    let plan = planned c.args.locations.now c.args.tables.now c.args.other.now _ _ _ _ _ _ _ _ _ _ _ _ c.as_slice.ensures.value c.as_slice-2.ensures.value c.as_slice-3.ensures.value c.starts.ensures c.as_slice-4.ensures.value c.as_slice-5.ensures.value c.as_slice-6.ensures.value
    c.in_ok-nodes.ensures (omega (arith, c.if-len-gt-MAX_NODES.false, c.len.ensures, c.in_ok-nodes.nodes.ok.0)) c.in_ok-starts.ensures c.in_ok-classes.ensures.classes c.in_ok-classes.ensures.uniform (omega (arith, c.if-len-gt-MAX_FLOWS.false, c.len-2.ensures, c.in_ok-classes.classes.ok.0)) c.in_ok-devices.ensures c.in_ok-end.ensures in
    λ e. let is = c.text_of.ensures.too_long e in not_many_by laws c.args.locations.now c.args.tables.now c.args.other.now _ _ _ c.in_ok-devices.devices _ is.flows plan is.flows_are

pub returns-clause-short : goal.returns-clause-short
returns-clause-short c =
    let laws : AreLaws = record { texts = c.canonical_texts_write_their_prefixes.ensures; apart = c.prefixes_of_one_length_are_apart.ensures.ipv4; one_list = c.classes_are_unique.ensures } in
    let plan = planned c.args.locations.now c.args.tables.now c.args.other.now _ _ _ _ _ _ _ _ _ _ _ _ c.as_slice.ensures.value c.as_slice-2.ensures.value c.as_slice-3.ensures.value c.starts.ensures c.as_slice-4.ensures.value c.as_slice-5.ensures.value c.as_slice-6.ensures.value
    c.in_ok-nodes.ensures (omega (arith, c.if-len-gt-MAX_NODES.false, c.len.ensures, c.in_ok-nodes.nodes.ok.0)) c.in_ok-starts.ensures c.in_ok-classes.ensures.classes c.in_ok-classes.ensures.uniform (omega (arith, c.if-len-gt-MAX_FLOWS.false, c.len-2.ensures, c.in_ok-classes.classes.ok.0)) c.in_ok-devices.ensures c.in_ok-end.ensures in
    on_ok_from c.text_of.result _ _ (λ text is. not_long_by laws c.args.locations.now c.args.tables.now c.args.other.now _ _ _ c.in_ok-devices.devices _ text.items plan is) c.text_of.ensures.text
