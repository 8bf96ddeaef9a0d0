use Rattle.std.proofs.Common.{◌≡◌, ◌≤◌, Some, length, arith}
use Rattle.json.specs.Json.{after_end_array}
use Rattle.rela_tokens.specs.Pieces.{text}
use Rattle.rela_tokens.proofs.Standing.{array_holds, string_holds}
use Rattle.rela_tokens.proofs.Grown.{first_held, next_held}
use Rattle.rela_tokens.proofs.lists.read_texts.Goals as goal

pub texts-init : goal.texts-init
texts-init c = record {
  held = first_held text 0 _ _ _ _ _ c.in_ok-texts.ensures.items c.in_ok-push.ensures.items (string_holds 0 _ _);
  shorter = omega arith;
}

pub texts-preserved : goal.texts-preserved
texts-preserved c =
    let l = c.texts in
    let same : c.take_end_array.new.self ≡ l.reader = grind arith in
    let known : length l.reader ≤ length c.args.reader.now = l.invariant.shorter in
    record {
      held = next_held text 0 _ _ _ _ _ _ _ same c.in_ok-push-2.ensures.items l.invariant.held c.in_ok-text.ensures.text;
      shorter = grind (arith, known);
    }

pub returns-clause-texts : goal.returns-clause-texts
returns-clause-texts c =
    let closed : after_end_array c.texts.reader ≡ Some c.take_end_array.new.self = grind arith in
    array_holds 0 _ _ _ _ c.texts.invariant.held closed
