use Rattle.std.proofs.Common.{◌≡◌, ◌^◌, ◌*◌, ◌+◌, ◌-◌, drop, Some, None, bit_or, refl, sym, ◌∙◌, ap, subst, arith}
use Rattle.std.proofs.lemmas.List.{take_rest}
use Rattle.rela_flows.proofs.Exactly.{refused, given}
use Rattle.rela_flows.proofs.Ipv6Addresses.{Reads, IsFirstGap, whole_refused, whole_only, whole_read, left_refused, right_refused, too_many, joined_number, short_read, short_only, left_room, few_read}
use Rattle.rela_flows.proofs.prefix.reading.ipv6_address.Goals as goal

pub returns-in_err-groups : goal.returns-in_err-groups
returns-in_err-groups c = refused _ _ c.from_residual.ensures (whole_refused c.args.text.now c.in_default.ensures c.in_err-groups.ensures)

pub returns-then-groups-eq8 : goal.returns-then-groups-eq8
returns-then-groups-eq8 c =
    let groups = c.in_ok-groups.groups in
    given _ _ groups.number refl
    (whole_read c.args.text.now groups c.in_ok-groups.ensures c.if-groups-eq8.true)
    (λ a is. ap (λ f. f.number) (sym (whole_only c.args.text.now groups c.in_default.ensures c.in_ok-groups.ensures a is)))

pub returns-else-groups-eq8 : goal.returns-else-groups-eq8
returns-else-groups-eq8 c = refused _ _ refl (λ a is.
    c.if-groups-eq8.false (ap (λ f. f.count) (whole_only c.args.text.now c.in_ok-groups.groups c.in_default.ensures c.in_ok-groups.ensures a is)))

pub returns-in_err-left : goal.returns-in_err-left
returns-in_err-left c =
    let at : IsFirstGap c.args.text.now c.in-Some.gap = record { gap = c.in-Some.ensures.0; first = c.in-Some.ensures.1 } in
    refused _ _ c.from_residual-in_err-left.ensures (left_refused c.args.text.now c.in-Some.gap at c.in_err-left.ensures)

pub returns-in_err-right : goal.returns-in_err-right
returns-in_err-right c =
    let at : IsFirstGap c.args.text.now c.in-Some.gap = record { gap = c.in-Some.ensures.0; first = c.in-Some.ensures.1 } in
    let right : Reads (drop (c.in-Some.gap + 2) c.args.text.now) None = subst (λ t. Reads t None) (take_rest c.args.text.now (c.in-Some.gap + 2)) c.in_err-right.ensures in
    refused _ _ c.from_residual-in_err-right.ensures (right_refused c.args.text.now c.in-Some.gap at right)

pub overflow_add-left : goal.overflow_add-left
overflow_add-left c =
    omega (arith, few_read _ c.in_ok-left.left c.in_ok-left.ensures, few_read _ c.in_ok-right.right c.in_ok-right.ensures)

pub returns-then-left-right-gt7 : goal.returns-then-left-right-gt7
returns-then-left-right-gt7 c =
    let at : IsFirstGap c.args.text.now c.in-Some.gap = record { gap = c.in-Some.ensures.0; first = c.in-Some.ensures.1 } in
    let right : Reads (drop (c.in-Some.gap + 2) c.args.text.now) (Some c.in_ok-right.right) = subst (λ t. Reads t (Some c.in_ok-right.right)) (take_rest c.args.text.now (c.in-Some.gap + 2)) c.in_ok-right.ensures in
    refused _ _ refl (too_many c.args.text.now c.in-Some.gap c.in_ok-left.left c.in_ok-right.right at c.in_ok-left.ensures right c.if-left-right-gt7.true)

pub shifted-requires-clause-room : goal.shifted-requires-clause-room
shifted-requires-clause-room c = left_room _ c.in_ok-left.left c.in_ok-left.ensures

pub returns : goal.returns
returns c =
    let left = c.in_ok-left.left in
    let right = c.in_ok-right.right in
    let at : IsFirstGap c.args.text.now c.in-Some.gap = record { gap = c.in-Some.ensures.0; first = c.in-Some.ensures.1 } in
    let reads : Reads (drop (c.in-Some.gap + 2) c.args.text.now) (Some right) = subst (λ t. Reads t (Some right)) (take_rest c.args.text.now (c.in-Some.gap + 2)) c.in_ok-right.ensures in
    let number : bit_or c.shifted.result right.number ≡ left.number * 2 ^ (16 * (8 - left.count)) + right.number =
    ap (λ k. bit_or k right.number) c.shifted.ensures ∙ joined_number _ left right reads c.if-left-right-gt7.false in
    given _ _ (left.number * 2 ^ (16 * (8 - left.count)) + right.number) (ap Some number)
    (short_read c.args.text.now c.in-Some.gap left right at c.in_ok-left.ensures reads c.if-left-right-gt7.false)
    (short_only c.args.text.now c.in-Some.gap left right at c.in_ok-left.ensures reads)
