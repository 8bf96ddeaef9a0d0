use Rattle.std.proofs.Common.{refl, arith}
use Rattle.rela_flows.proofs.Exactly.{refused}
use Rattle.rela_flows.proofs.PrefixTexts.{IsSlashed, slashed_at, no_slash, no_length, IsCut, no_address, too_long4, too_long6, read4, read6}
use Rattle.rela_flows.proofs.prefix.Prefix.parse.Goals as goal

pub returns-in_default : goal.returns-in_default
returns-in_default c = refused _ _ refl (no_slash c.args.text.now c.cut.result.0.now c.cut.result.1 c.in_default.is c.cut.ensures)

pub returns-in_err-length : goal.returns-in_err-length
returns-in_err-length c =
    let slashed : IsSlashed c.args.text.now c.cut.result.0.now c.in-Some.length.now = slashed_at c.args.text.now c.cut.result.0.now c.cut.result.1 c.in-Some.length c.in-Some.is c.cut.ensures in
    refused _ _ c.from_residual.ensures (no_length c.args.text.now c.cut.result.0.now c.in-Some.length.now slashed c.in_err-length.ensures)

pub overflow_cast-length : goal.overflow_cast-length
overflow_cast-length c = let octet = (c.in_ok-length.ensures c.in_ok-length.field-0).0 refl in omega (arith, octet.fits)

pub returns-in_err-v6-in-None : goal.returns-in_err-v6-in-None
returns-in_err-v6-in-None c =
    let slashed : IsSlashed c.args.text.now c.cut.result.0.now c.in-Some.length.now = slashed_at c.args.text.now c.cut.result.0.now c.cut.result.1 c.in-Some.length c.in-Some.is c.cut.ensures in
    let cut : IsCut c.args.text.now c.cut.result.0.now c.in-Some.length.now c.in_ok-length.field-0 = record { slashed = slashed; length = (c.in_ok-length.ensures c.in_ok-length.field-0).0 refl } in
    refused _ _ c.from_residual-in_err-v6-in-None.ensures (no_address _ _ _ _ cut c.in-None.ensures c.in_err-v6-in-None.ensures)

pub returns-in_err-new-in-Some-ipv4_address : goal.returns-in_err-new-in-Some-ipv4_address
returns-in_err-new-in-Some-ipv4_address c =
    let slashed : IsSlashed c.args.text.now c.cut.result.0.now c.in-Some.length.now = slashed_at c.args.text.now c.cut.result.0.now c.cut.result.1 c.in-Some.length c.in-Some.is c.cut.ensures in
    let cut : IsCut c.args.text.now c.cut.result.0.now c.in-Some.length.now c.in_ok-length.field-0 = record { slashed = slashed; length = (c.in_ok-length.ensures c.in_ok-length.field-0).0 refl } in
    refused _ _ c.from_residual-in_err-new-in-Some-ipv4_address.ensures (too_long4 _ _ _ _ c.in-Some-ipv4_address.v4 cut c.in-Some-ipv4_address.ensures c.in_err-new-in-Some-ipv4_address.ensures.exact)

pub returns-in_err-new-in-None : goal.returns-in_err-new-in-None
returns-in_err-new-in-None c =
    let slashed : IsSlashed c.args.text.now c.cut.result.0.now c.in-Some.length.now = slashed_at c.args.text.now c.cut.result.0.now c.cut.result.1 c.in-Some.length c.in-Some.is c.cut.ensures in
    let cut : IsCut c.args.text.now c.cut.result.0.now c.in-Some.length.now c.in_ok-length.field-0 = record { slashed = slashed; length = (c.in_ok-length.ensures c.in_ok-length.field-0).0 refl } in
    refused _ _ c.from_residual-in_err-new-in-None.ensures (too_long6 _ _ _ _ c.in_ok-v6-in-None.v6 cut c.in_ok-v6-in-None.ensures c.in_err-new-in-None.ensures.exact)

pub returns-in_ok-new-in-Some-ipv4_address : goal.returns-in_ok-new-in-Some-ipv4_address
returns-in_ok-new-in-Some-ipv4_address c =
    let slashed : IsSlashed c.args.text.now c.cut.result.0.now c.in-Some.length.now = slashed_at c.args.text.now c.cut.result.0.now c.cut.result.1 c.in-Some.length c.in-Some.is c.cut.ensures in
    let cut : IsCut c.args.text.now c.cut.result.0.now c.in-Some.length.now c.in_ok-length.field-0 = record { slashed = slashed; length = (c.in_ok-length.ensures c.in_ok-length.field-0).0 refl } in
    read4 _ _ _ _ c.in-Some-ipv4_address.v4 c.in_ok-new-in-Some-ipv4_address.field-0 cut c.in-Some-ipv4_address.ensures c.in_ok-new-in-Some-ipv4_address.ensures.exact

pub returns-in_ok-new-in-None : goal.returns-in_ok-new-in-None
returns-in_ok-new-in-None c =
    let slashed : IsSlashed c.args.text.now c.cut.result.0.now c.in-Some.length.now = slashed_at c.args.text.now c.cut.result.0.now c.cut.result.1 c.in-Some.length c.in-Some.is c.cut.ensures in
    let cut : IsCut c.args.text.now c.cut.result.0.now c.in-Some.length.now c.in_ok-length.field-0 = record { slashed = slashed; length = (c.in_ok-length.ensures c.in_ok-length.field-0).0 refl } in
    read6 _ _ _ _ c.in_ok-v6-in-None.v6 c.in_ok-new-in-None.field-0 cut c.in_ok-v6-in-None.ensures c.in_ok-new-in-None.ensures.exact
