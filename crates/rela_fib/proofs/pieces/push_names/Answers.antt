use Rattle.std.proofs.Common.{◌∙◌, ◌++◌, ap, arith, ℕ, List, [], take}
use Rattle.std.proofs.lemmas.List.{length-map, take_all}
use Rattle.serde_json.specs.Data.{string}
use Rattle.serde_json.specs.Written.{compact_text}
use Rattle.rela_names.specs.declared.level.Level.TheVariants.{Interface}
use Rattle.rela_locations.specs.Network.{name_of}
use Rattle.rela_fib.specs.Text.{names_of}
use Rattle.rela_fib.proofs.Arrays.{closed, opened_more, opened_none}
use Rattle.rela_fib.proofs.Chains.{name_entry}
use Rattle.rela_fib.proofs.pieces.push_names.Goals as goal

pub loop-place-init : goal.loop-place-init
loop-place-init c = opened_none (λ (name : List ℕ). compact_text (string name)) (names_of c.args.locations.now c.args.nodes.now) c.args.text.now.items c.push.new.self.items c.in_ok-push.ensures.items

pub loop-place-preserved : goal.loop-place-preserved
loop-place-preserved c =
    let network = c.args.locations.now in
    let nodes = c.args.nodes.now in
    let entry = name_entry network nodes c.loop-place.place c.name_in.result.now c.alphabet-alphabet.result.now c.loop-place-test.true c.alphabet-alphabet.ensures c.name_in.ensures.name c.name_in.ensures.plain in
    opened_more (λ (name : List ℕ). compact_text (string name)) (names_of network nodes) c.loop-place.place [] c.args.text.now.items c.loop-place.text.items c.push_comma.new.text.items c.push_plain.new.text.items
    (omega (arith, c.loop-place-test.true, length-map nodes (name_of Interface network))) c.loop-place.invariant c.in_ok-push_comma.ensures (c.in_ok-push_plain.ensures ∙ ap (λ (s : List ℕ). c.push_comma.new.text.items ++ s) entry)

pub returns : goal.returns
returns c =
    let names = names_of c.args.locations.now c.args.nodes.now in
    closed string names (take c.loop-place.place names) c.args.text.now.items c.loop-place.text.items c.push-2.new.self.items
    (take_all c.loop-place.place names (omega (arith, c.loop-place-test.false, length-map c.args.nodes.now (name_of Interface c.args.locations.now)))) c.loop-place.invariant c.in_ok-push-2.ensures.items
