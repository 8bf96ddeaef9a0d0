use Rattle.std.proofs.Common.{◌∙◌, List, ℕ, [], ◌∷◌, length, sym, subst}
use Rattle.std.proofs.lemmas.Result.{IfErr-weaker, IfOk-weaker}
use Rattle.rela_certfile.specs.Listed.{words_of}
use Rattle.rela_certfile.specs.declared.rows.Step.{Step}
use Rattle.rela_closed.specs.Closed.{IsClosed}
use Rattle.rela_cert.specs.Letters.{letter_words}
use Rattle.rela_cert.proofs.MappedWords.{letter_words_are, ordered}
use Rattle.rela_cert.proofs.checking.CheckingComplements.complement.Goals as goal

pub complement-requires-clause-ordered : goal.complement-requires-clause-ordered
complement-requires-clause-ordered c =
    ordered c.args.self.now.letters.now (length c.args.self.now.letters.now) c.block.result.now c.as_slice.result.now
    (c.as_slice.ensures.value ∙ c.in_ok-steps.ensures) c.block.ensures.steps

pub returns-clause-complement : goal.returns-clause-complement
returns-clause-complement c =
    IfOk-weaker c.answer_of.result _ _ (λ answer is. rw is at c.in_ok-made.ensures.complement) c.answer_of.ensures.made

pub returns-clause-told : goal.returns-clause-told
returns-clause-told c =
    IfOk-weaker c.answer_of.result _ _ (λ answer is all. rw is at c.in_ok-made.ensures.told) c.answer_of.ensures.made

pub returns-clause-answered : goal.returns-clause-answered
returns-clause-answered c =
    IfOk-weaker c.answer_of.result _ _ (λ answer is. tt) c.answer_of.ensures.made

pub returns-clause-refused : goal.returns-clause-refused
returns-clause-refused c =
    let blocks = c.args.self.now.letters.now in
    IfErr-weaker c.answer_of.result _ _
    (λ e is limit closed.
    let opened = rw is.0 at c.in_ok-made.ensures.open_list in
    opened (subst (λ (ws : List (List ℕ)). IsClosed c.args.over.now (c.args.a.now ∷ []) ws)
    (sym (letter_words_are blocks c.block.result.now c.as_slice.result.now (c.as_slice.ensures.value ∙ c.in_ok-steps.ensures)))
    (subst (λ (steps : List Step). IsClosed c.args.over.now (c.args.a.now ∷ []) (letter_words blocks (words_of steps))) (sym c.block.ensures.block) closed)))
    c.answer_of.ensures.refused
