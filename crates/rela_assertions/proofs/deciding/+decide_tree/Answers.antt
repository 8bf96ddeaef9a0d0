use Rattle.std.proofs.Common.{◌≡◌, ◌∙◌, [], rules, sym, ap, subst}
use Rattle.rela_claims.specs.Named.{symbols_in_tree}
use Rattle.rela_claims.specs.declared.claim.Tree.{Tree}
use Rattle.rela_claims.specs.declared.claim.Tree.TheVariants.{And, Not, Or}
use Rattle.rela_claims.specs.declared.claim.Tree.TheViews.{the_lemmas}
use Rattle.rela_rir.specs.declared.value.Value.{Value}
use Rattle.rela_assertions.specs.Rows.{IsDecided, scene_for}
use Rattle.rela_assertions.proofs.ValueLaws.{and_decided, and_plain, leaf_decided, not_decided, or_decided, or_plain}
use Rattle.rela_assertions.proofs.deciding.+decide_tree.Goals as goal

pub decide_tree-requires : goal.decide_tree-requires
decide_tree-requires t c =
    let plain = and_plain c.args.tree.now c.in-And.a c.in-And.b c.in-And.is c.requires.plain in (
      search (rules, the_lemmas),
      (c.requires.classes, (subst (λ (x : Tree). symbols_in_tree x ≡ []) (sym c.get.ensures) plain.0, c.requires.located)),
    )

pub decide_tree-requires-in-And : goal.decide_tree-requires-in-And
decide_tree-requires-in-And t c =
    let plain = and_plain c.args.tree.now c.in-And.a c.in-And.b c.in-And.is c.requires.plain in (
      search (rules, the_lemmas),
      (c.requires.classes, (subst (λ (x : Tree). symbols_in_tree x ≡ []) (sym c.get-in-And.ensures) plain.1, c.requires.located)),
    )

pub decide_tree-requires-in-Or : goal.decide_tree-requires-in-Or
decide_tree-requires-in-Or t c =
    let plain = or_plain c.args.tree.now c.in-Or.a c.in-Or.b c.in-Or.is c.requires.plain in (
      search (rules, the_lemmas),
      (c.requires.classes, (subst (λ (x : Tree). symbols_in_tree x ≡ []) (sym c.get-in-Or.ensures) plain.0, c.requires.located)),
    )

pub decide_tree-requires-in-Or-2 : goal.decide_tree-requires-in-Or-2
decide_tree-requires-in-Or-2 t c =
    let plain = or_plain c.args.tree.now c.in-Or.a c.in-Or.b c.in-Or.is c.requires.plain in (
      search (rules, the_lemmas),
      (c.requires.classes, (subst (λ (x : Tree). symbols_in_tree x ≡ []) (sym c.get-in-Or-2.ensures) plain.1, c.requires.located)),
    )

pub returns-in_ok-push-in-Leaf : goal.returns-in_ok-push-in-Leaf
returns-in_ok-push-in-Leaf t c = record {
  decided = leaf_decided _ _ c.args.tree.now c.in-Leaf.assertion c.args.leaves.now.items c.push.new.self.items c.in_ok-leaf-in-Leaf.leaf c.value-value.result c.in-Leaf.is
      c.in_ok-push-in-Leaf.ensures.items c.in_ok-leaf-in-Leaf.ensures.leaf c.value-value.ensures;
}

pub returns-in_ok-second-in-And : goal.returns-in_ok-second-in-And
returns-in_ok-second-in-And t c = record {
  decided = subst (λ (v : Value). IsDecided (scene_for c.args.flow.now.alphabet.now c.args.flow.now.level c.args.flow.now.classes.now c.args.flow.now.pair.now) c.args.flow.now.complements.now c.args.tree.now
      c.args.leaves.now.items c.decide_tree-in-And.new.leaves.items v) (sym c.and.ensures)
      (and_decided _ _ c.get.result.now c.get-in-And.result.now _ _ _ _ _ c.in_ok-first-in-And.ensures.decided c.in_ok-second-in-And.ensures.decided c.args.tree.now
      (c.in-And.is ∙ ap (λ (x : Tree). And x c.in-And.b) (sym c.get.ensures) ∙ ap (λ (y : Tree). And c.get.result.now y) (sym c.get-in-And.ensures)));
}

pub returns-in_ok-second-in-Or : goal.returns-in_ok-second-in-Or
returns-in_ok-second-in-Or t c = record {
  decided = subst (λ (v : Value). IsDecided (scene_for c.args.flow.now.alphabet.now c.args.flow.now.level c.args.flow.now.classes.now c.args.flow.now.pair.now) c.args.flow.now.complements.now c.args.tree.now
      c.args.leaves.now.items c.decide_tree-in-Or-2.new.leaves.items v) (sym c.or.ensures)
      (or_decided _ _ c.get-in-Or.result.now c.get-in-Or-2.result.now _ _ _ _ _ c.in_ok-first-in-Or.ensures.decided c.in_ok-second-in-Or.ensures.decided c.args.tree.now
      (c.in-Or.is ∙ ap (λ (x : Tree). Or x c.in-Or.b) (sym c.get-in-Or.ensures) ∙ ap (λ (y : Tree). Or c.get-in-Or.result.now y) (sym c.get-in-Or-2.ensures)));
}

pub returns-in_ok-decide_tree-in-Not : goal.returns-in_ok-decide_tree-in-Not
returns-in_ok-decide_tree-in-Not t c = record {
  decided = subst (λ (v : Value). IsDecided (scene_for c.args.flow.now.alphabet.now c.args.flow.now.level c.args.flow.now.classes.now c.args.flow.now.pair.now) c.args.flow.now.complements.now c.args.tree.now
      c.args.leaves.now.items c.decide_tree-in-Not.new.leaves.items v) (sym c.not.ensures)
      (not_decided _ _ c.args.tree.now c.get-in-Not.result.now _ _ _ (c.in-Not.is ∙ ap Not (sym c.get-in-Not.ensures)) c.in_ok-decide_tree-in-Not.ensures.decided);
}
