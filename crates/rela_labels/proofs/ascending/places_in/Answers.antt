use Rattle.std.proofs.Common.{◌≡◌, ℕ, ◌<◌, length, get_or, ap, arith}
use Rattle.std.proofs.lemmas.List.{length_push}
use Rattle.rela_labels.proofs.KeysInOrder.{each_pushed}
use Rattle.rela_labels.proofs.ascending.places_in.Goals as goal

pub loop-symbol-init : goal.loop-symbol-init
loop-symbol-init c = record {
  len = ap length c.in_ok-places.ensures.items;
  below = λ k below. absurd (omega arith);
  each = λ k below. absurd (omega arith);
}

pub place_of-requires-clause-there : goal.place_of-requires-clause-there
place_of-requires-clause-there c = c.requires.there c.loop-symbol.symbol-index 0 c.loop-symbol-test.true

pub loop-symbol-preserved : goal.loop-symbol-preserved
loop-symbol-preserved c =
    let ascending = c.args.ascending.now in
    let symbols = c.args.symbols.now in
    let places = c.loop-symbol.places.items in
    let items = c.in_ok-push.ensures.items in
    let is = c.loop-symbol.invariant in
    record {
      len = omega (arith, ap length items, length_push places c.place_of.result, is.len);
      below = each_pushed (λ (k place : ℕ). place < length ascending) places c.push.new.self.items c.place_of.result c.loop-symbol.symbol-index is.len is.below c.place_of.ensures.below
          items;
      each = each_pushed (λ (k place : ℕ). get_or ascending place 0 ≡ get_or symbols k 0) places c.push.new.self.items c.place_of.result c.loop-symbol.symbol-index is.len is.each
          c.place_of.ensures.at items;
    }

pub returns : goal.returns
returns c =
    let is = c.loop-symbol.invariant in
    let end = c.loop-symbol-test.false in
    record {
      len = omega (arith, is.len, end, c.loop-symbol.auto.symbol-index-end);
      below = λ k within. is.below k (omega (arith, within, end));
      each = λ k within. is.each k (omega (arith, within, end));
    }
