use Rattle.std.proofs.Common.{◌≡◌, ◌∙◌, ◌-◌, ◌++◌, ◌∷◌, [], ap, arith, codes, ℕ, List}
use Rattle.std.specs.List.{flat_map, range_with_len}
use Rattle.rela_demo.specs.Pieces.{entries_before, flow_text}
use Rattle.rela_demo.proofs.Ranges.{behind_more, behind_none, ended, one_entry}
use Rattle.rela_demo.proofs.snapshot.snapshot_text.Goals as goal

pub loop-number-init : goal.loop-number-init
loop-number-init c = behind_none (λ (k : ℕ). flow_text k c.args.nodes.now c.args.layered.now ++ 44 ∷ []) 1 c.extend_from_slice.new.self.items

pub loop-number-preserved : goal.loop-number-preserved
loop-number-preserved c =
    let one : ℕ → List ℕ = λ k. flow_text k c.args.nodes.now c.args.layered.now in
    behind_more (λ (k : ℕ). one k ++ 44 ∷ []) 1 c.loop-number.number c.extend_from_slice.new.self.items c.loop-number.text.items c.push.new.self.items c.loop-number.auto.number c.loop-number.invariant
    (one_entry one c.loop-number.number c.loop-number.text.items c.push_flow.new.text.items c.push.new.self.items c.in_ok-push_flow.ensures c.in_ok-push.ensures.items)

pub returns : goal.returns
returns c =
    let one : ℕ → List ℕ = λ k. flow_text k c.args.nodes.now c.args.layered.now in
    let seventh : List ℕ = flow_text 7 c.args.nodes.now c.args.seventh.now in
    let eighth : List ℕ = flow_text 8 c.args.nodes.now c.args.eighth.now in
    let tail : List ℕ = codes "]}" in
    let flat : ℕ → List ℕ = λ n. flat_map (λ (k : ℕ). one k ++ 44 ∷ []) (range_with_len 1 n) in
    let last : c.loop-number.number - 1 ≡ 6 = omega (arith, c.loop-number-test.false, c.loop-number.auto.number-end (omega arith)) in
    let all : c.loop-number.text.items ≡ c.extend_from_slice.new.self.items ++ flat 6 = c.loop-number.invariant ∙ ap (λ (n : ℕ). c.extend_from_slice.new.self.items ++ flat n) last in
    let head : c.extend_from_slice.new.self.items ≡ codes "{\"version\":1,\"flows\":[" = c.in_ok-extend_from_slice.ensures.items ∙ ap (λ (s : List ℕ). s ++ codes "{\"version\":1,\"flows\":[") c.in_ok-text.ensures.items in
    ended one (range_with_len 1 6) c.extend_from_slice.new.self.items c.loop-number.text.items c.push_flow-2.new.text.items c.push-2.new.self.items c.push_flow-3.new.text.items c.extend_from_slice-2.new.self.items seventh eighth tail
    all c.in_ok-push_flow-2.ensures c.in_ok-push-2.ensures.items c.in_ok-push_flow-3.ensures c.in_ok-extend_from_slice-2.ensures.items
    ∙ ap (λ (s : List ℕ). s ++ entries_before one (range_with_len 1 6) (seventh ++ 44 ∷ (eighth ++ tail))) head
