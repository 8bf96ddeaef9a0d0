use Rattle.std.proofs.Common.{◌≡◌, ◌∙◌, ◌+◌, ◌-◌, ◌++◌, ◌∷◌, [], ap, ap₂, arith, ℕ, List}
use Rattle.rela_demo.specs.Layers.{node_labels}
use Rattle.rela_demo.specs.Names.{Label, label_a, labels_from}
use Rattle.rela_demo.specs.Pieces.{nodes_text}
use Rattle.rela_demo.proofs.snapshot.nodes_text.Goals as goal

pub returns : goal.returns
returns c =
    let n : ℕ = c.args.n in
    let count : n + 1 - 2 ≡ n - 1 = omega (arith, c.requires.from_one) in
    let first : c.push.new.self.items ≡ label_a 1 ∷ [] = c.in_ok-push.ensures.items ∙ ap (λ (ls : List Label). ls ++ label_a 1 ∷ []) c.in_ok-labels.ensures.items in
    let labels : c.as_slice.result.now ≡ node_labels n = c.as_slice.ensures.value ∙ c.in_ok-push_labels.ensures ∙ ap₂ (λ (ls : List Label) (k : ℕ). ls ++ labels_from 2 k) first count in
    c.in_ok-push_nodes.ensures ∙ ap₂ (λ (s : List ℕ) (ls : List Label). s ++ nodes_text ls) c.in_ok-text.ensures.items labels
