use Rattle.std.proofs.Common.{ℕ, take}
use Rattle.std.proofs.lemmas.List.{take_all}
use Rattle.serde_json.specs.Written.{compact_text}
use Rattle.rela_demo.specs.Text.{number_data}
use Rattle.rela_demo.proofs.Arrays.{closed, opened_more, opened_none}
use Rattle.rela_demo.proofs.pieces.push_numbers.Goals as goal

pub loop-place-init : goal.loop-place-init
loop-place-init c = opened_none (λ (n : ℕ). compact_text (number_data n)) c.args.numbers.now c.args.text.now.items c.push.new.self.items c.in_ok-push.ensures.items

pub loop-place-preserved : goal.loop-place-preserved
loop-place-preserved c = opened_more (λ (n : ℕ). compact_text (number_data n)) c.args.numbers.now c.loop-place.place _ c.args.text.now.items c.loop-place.text.items c.push_comma.new.text.items c.push_number.new.text.items c.loop-place-test.true c.loop-place.invariant c.in_ok-push_comma.ensures c.in_ok-push_number.ensures

pub returns : goal.returns
returns c = closed number_data c.args.numbers.now (take c.loop-place.place c.args.numbers.now) c.args.text.now.items c.loop-place.text.items c.push-2.new.self.items (take_all c.loop-place.place c.args.numbers.now c.loop-place-test.false) c.loop-place.invariant c.in_ok-push-2.ensures.items
