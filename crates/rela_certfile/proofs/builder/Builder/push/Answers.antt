use Rattle.std.proofs.Common.{refl, ◌∙◌}
use Rattle.rela_certfile.proofs.Gathered.{gathers_word, gathers_block, gathers_row}
use Rattle.rela_certfile.proofs.builder.Builder.push.Goals as goal

pub returns-in_ok-push-in-Word : goal.returns-in_ok-push-in-Word
returns-in_ok-push-in-Word c = rw c.in-Word.is (λ items g.
    gathers_word items c.args.self.now _ c.in-Word.step g refl refl refl c.in_ok-push-in-Word.ensures.items)

pub returns-in_ok-push-in-Complement : goal.returns-in_ok-push-in-Complement
returns-in_ok-push-in-Complement c = rw c.in-Complement.is (λ items g.
    (gathers_block items c.args.self.now _ c.len.result g (c.len.ensures ∙ c.args.self.now.steps.ok.0) refl refl c.in_ok-push-in-Complement.ensures.items refl).0)

pub returns-in_ok-push-in-Images : goal.returns-in_ok-push-in-Images
returns-in_ok-push-in-Images c = rw c.in-Images.is (λ items g.
    (gathers_block items c.args.self.now _ c.len-in-Images.result g (c.len-in-Images.ensures ∙ c.args.self.now.steps.ok.0) refl refl c.in_ok-push-in-Images.ensures.items refl).1)

pub returns-in_ok-push-in-Row-2 : goal.returns-in_ok-push-in-Row-2
returns-in_ok-push-in-Row-2 c = rw c.in-Row.is (λ items g.
    gathers_row items c.args.self.now _ c.in-Row.place c.len-in-Row.result g (c.len-in-Row.ensures ∙ c.args.self.now.starts.ok.0)
    c.in_ok-push-in-Row-2.ensures.items c.in_ok-push-in-Row.ensures.items refl refl)
