use Rattle.std.proofs.Common.{◌≡◌, ℕ, length, ◌∷◌, ◌+◌, ◌*◌, ◌^◌, ◌<◌, ◌%◌, bit_or, option_copied, refl, sym, ◌∙◌, ap, lit≤, arith}
use Rattle.rela_flows.specs.Fields.{separator_of, bits_of, IsField, parts_of}
use Rattle.std.proofs.lemmas.Bool.{eqb-true, eqb-false}
use Rattle.std.proofs.lemmas.Nat.{pow_pos}
use Rattle.rela_flows.proofs.Exactly.{refused}
use Rattle.rela_flows.specs.Written.{parts_in}
use Rattle.rela_flows.proofs.FieldRuns.{all_of_empty, all_of_some, run_start, cut_parts, none_past_eight, none_at_no_field, runs_on, runs_out, none_left, shifted_in, shifted_fits}
use Rattle.rela_flows.proofs.prefix.reading.read_fields.Goals as goal
use Rattle.rela_flows.proofs.prefix.reading.read_fields.Goals.{then-is_empty, else-is_empty}

pub loop-rest-init : goal.loop-rest-init
loop-rest-init c =
    let parts : parts_of (separator_of c.args.notation) (option_copied c.if-is_empty.rest) ≡ parts_in (separator_of c.args.notation) c.args.text.now =
    elim c.if-is_empty.branch [
      | then-is_empty w ↦ all_of_empty _ c.args.text.now _ (eqb-true (length c.args.text.now) 0 (sym w.if-is_empty.ensures)) w.rest-is
      | else-is_empty w ↦ all_of_some _ c.args.text.now _ c.args.text (omega (arith, eqb-false (length c.args.text.now) 0 (sym w.if-is_empty.ensures))) w.rest-is refl
    ] in
    record { few = lit≤ tt; small = pow_pos (bits_of c.args.notation * 0); run = λ fields. rw parts (run_start c.args.notation c.args.text.now fields) }

pub returns-then-read-eq8 : goal.returns-then-read-eq8
returns-then-read-eq8 c =
    let parts : parts_of (separator_of c.args.notation) (option_copied c.loop-rest.rest) ≡ c.cut.result.0.now ∷ parts_of (separator_of c.args.notation) (option_copied c.cut.result.1) =
    cut_parts c.separator.result _ c.loop-rest.rest c.in-Some.more _ c.cut.result.1 c.in-Some.is c.separator.ensures c.cut.ensures in
    refused _ _ refl (none_past_eight c.args.notation c.args.text.now c.loop-rest.read.count c.loop-rest.read.number _ _ _ c.loop-rest.invariant.run parts c.if-read-eq8.true)

pub returns-in_err-field : goal.returns-in_err-field
returns-in_err-field c =
    let parts : parts_of (separator_of c.args.notation) (option_copied c.loop-rest.rest) ≡ c.cut.result.0.now ∷ parts_of (separator_of c.args.notation) (option_copied c.cut.result.1) =
    cut_parts c.separator.result _ c.loop-rest.rest c.in-Some.more _ c.cut.result.1 c.in-Some.is c.separator.ensures c.cut.ensures in
    refused _ _ c.from_residual.ensures (none_at_no_field c.args.notation c.args.text.now c.loop-rest.read.count c.loop-rest.read.number _ _ _ c.loop-rest.invariant.run parts c.in_err-field.ensures)

pub loop-rest-preserved : goal.loop-rest-preserved
loop-rest-preserved c =
    let n : ℕ = c.in_ok-field.field-0 in
    let parts : parts_of (separator_of c.args.notation) (option_copied c.loop-rest.rest) ≡ c.cut.result.0.now ∷ parts_of (separator_of c.args.notation) (option_copied c.cut.result.1) =
    cut_parts c.separator.result _ c.loop-rest.rest c.in-Some.more _ c.cut.result.1 c.in-Some.is c.separator.ensures c.cut.ensures in
    let field : IsField c.args.notation c.cut.result.0.now n = (c.in_ok-field.ensures n).0 refl in
    let room : c.loop-rest.read.count < 8 = omega (arith, c.if-read-eq8.false, c.loop-rest.invariant.few) in
    let number : bit_or (c.loop-rest.read.number * 2 ^ c.bits.result % 2 ^ 128) c.from.result ≡ c.loop-rest.read.number * 2 ^ bits_of c.args.notation + n =
    ap (λ k. bit_or (c.loop-rest.read.number * 2 ^ c.bits.result % 2 ^ 128) k) c.from.ensures
    ∙ shifted_in c.args.notation c.loop-rest.read.count c.loop-rest.read.number c.bits.result n c.cut.result.0.now room c.loop-rest.invariant.small c.bits.ensures field in
    record {
      few = omega (arith, room);
      small = rw number (shifted_fits c.args.notation c.loop-rest.read.count c.loop-rest.read.number n c.cut.result.0.now c.loop-rest.invariant.small field);
      run = runs_on c.args.notation c.args.text.now c.loop-rest.read.count c.loop-rest.read.number _ _ _ n _ c.loop-rest.invariant.run parts field number;
    }

pub returns : goal.returns
returns c = runs_out c.args.notation c.args.text.now _ c.loop-rest.read c.loop-rest.invariant.run (none_left _ _ c.in_default.not-Some) c.loop-rest.invariant.few
