use Rattle.std.proofs.Common.{◌≡◌, ◌∙◌, ◌+◌, ◌-◌, ◌++◌, ap, ap₂, arith, append_assoc, codes, ℕ, List}
use Rattle.rela_demo.specs.Names.{Label, labels_from}
use Rattle.rela_demo.specs.Pieces.{array_text, device_text}
use Rattle.rela_demo.proofs.locations.locations_text.Goals as goal

pub returns : goal.returns
returns c =
    let n : ℕ = c.args.n in
    let start : List ℕ = codes "{\"version\":1,\"groups\":[{\"name\":\"all-devices\",\"devices\":" in
    let tail : List ℕ = codes "}]}" in
    let count : n + 1 - 1 ≡ n = omega arith in
    let labels : c.as_slice.result.now ≡ labels_from 1 n = c.as_slice.ensures.value ∙ c.in_ok-push_labels.ensures ∙ ap₂ (λ (ls : List Label) (k : ℕ). ls ++ labels_from 1 k) c.in_ok-labels.ensures.items count in
    let head : c.extend_from_slice.new.self.items ≡ start = c.in_ok-extend_from_slice.ensures.items ∙ ap (λ (s : List ℕ). s ++ start) c.in_ok-text.ensures.items in
    c.in_ok-extend_from_slice-2.ensures.items
    ∙ ap (λ (s : List ℕ). s ++ tail) (c.in_ok-push_devices.ensures ∙ ap₂ (λ (s : List ℕ) (ls : List Label). s ++ array_text device_text ls) head labels)
    ∙ append_assoc start (array_text device_text (labels_from 1 n)) tail
