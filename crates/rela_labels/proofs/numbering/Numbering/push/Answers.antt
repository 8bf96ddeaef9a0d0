use Rattle.std.proofs.Common.{◌++◌, [], ◌∷◌, sym, subst, ◌∙◌}
use Rattle.rela_labels.specs.Numbering.{IsNumbering}
use Rattle.rela_labels.proofs.KeysInOrder.{push_known, push_new, read_of}
use Rattle.rela_labels.proofs.numbering.Numbering.push.Goals as goal

pub returns-in-Some-clause-numbering : goal.returns-in-Some-clause-numbering
returns-in-Some-clause-numbering c = λ keys is.
    subst (λ blocks. IsNumbering (keys ++ c.args.key ∷ []) c.args.self.now.numbers.items blocks c.args.self.now.firsts.items)
    (sym c.in_ok-push.ensures.items)
    (push_known keys c.args.self.now.numbers.items c.args.self.now.blocks.items c.args.self.now.firsts.items c.args.key c.in-Some.block
    (read_of _ _ _ _ c.requires.below c.index.ensures c.in-Some.is) is)

pub returns-clause-numbering : goal.returns-clause-numbering
returns-clause-numbering c = λ keys is.
    push_new keys _ _ _ c.args.key _ _ _ _ (read_of _ _ _ _ c.requires.below c.index.ensures c.in_default.is) c.requires.below
    (c.len-block.ensures ∙ c.args.self.now.firsts.ok.0) (c.len.ensures ∙ c.args.self.now.blocks.ok.0)
    c.in_ok-push-3.ensures.items c.in_ok-push-2.ensures.items is
