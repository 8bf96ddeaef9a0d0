use Rattle.std.proofs.Common.{◌≡◌, [], map, inl, refl, sym, subst, rules}
use Rattle.std.specs.Prelude.{string_bytes}
use Rattle.rela_words.specs.Commands.{command_of}
use Rattle.rela_words.specs.Words.{Command}
use Rattle.rela_inputs.specs.Answer.{answer_by}
use Rattle.rela_top.specs.Operands.{operands_of}
use Rattle.rela_top.specs.Outcome.{Outcome, bad_words}
use Rattle.rela_top.proofs.Given.{asked_of, begins, only_asked, completes}
use Rattle.rela_top.proofs.running.run.Goals as goal

pub returns-in-Ok-answer-clause-unread_words : goal.returns-in-Ok-answer-clause-unread_words
returns-in-Ok-answer-clause-unread_words g c = λ none memory. absurd (none (command_of c.in-Ok.command) (asked_of _ _ c.in-Ok.ensures.asked))

pub returns-in-Ok-answer-clause-unread_words_open_nothing : goal.returns-in-Ok-answer-clause-unread_words_open_nothing
returns-in-Ok-answer-clause-unread_words_open_nothing g c = λ none. absurd (none (command_of c.in-Ok.command) (asked_of _ _ c.in-Ok.ensures.asked))

pub returns-in-Err-ReadFault-clause-unread_words : goal.returns-in-Err-ReadFault-clause-unread_words
returns-in-Err-ReadFault-clause-unread_words g c = λ none memory. absurd (none (command_of c.in-Ok.command) (asked_of _ _ c.in-Ok.ensures.asked))

pub returns-in-Err-ReadFault-clause-unread_words_open_nothing : goal.returns-in-Err-ReadFault-clause-unread_words_open_nothing
returns-in-Err-ReadFault-clause-unread_words_open_nothing g c = λ none. absurd (none (command_of c.in-Ok.command) (asked_of _ _ c.in-Ok.ensures.asked))

pub returns-clause-unread_words : goal.returns-clause-unread_words
returns-clause-unread_words g c = λ none memory. absurd (none (command_of c.in-Ok.command) (asked_of _ _ c.in-Ok.ensures.asked))

pub returns-clause-unread_words_open_nothing : goal.returns-clause-unread_words_open_nothing
returns-clause-unread_words_open_nothing g c = λ none. absurd (none (command_of c.in-Ok.command) (asked_of _ _ c.in-Ok.ensures.asked))

pub returns-in-Ok-answer-clause-complete : goal.returns-in-Ok-answer-clause-complete
returns-in-Ok-answer-clause-complete g c = λ steady command outcome ask given.
    let same = only_asked (map string_bytes c.args.words.now) (command_of c.in-Ok.command) command c.in-Ok.ensures.asked ask in
    completes (command_of c.in-Ok.command) command outcome (answer_by c.in-Ok-answer.answer) _ _ _ same
    (c.in-Ok-answer.ensures.complete steady outcome (subst (λ (x : Command). Outcome (g.F.Files.holds c.args.files.now) x outcome) (sym same) given)) (search rules)

pub returns-in-Err-ReadFault-clause-complete : goal.returns-in-Err-ReadFault-clause-complete
returns-in-Err-ReadFault-clause-complete g c = λ steady command outcome ask given.
    let same = only_asked (map string_bytes c.args.words.now) (command_of c.in-Ok.command) command c.in-Ok.ensures.asked ask in
    absurd (c.in-Err-ReadFault.ensures.fault_gives_nothing steady (cc) outcome (subst (λ (x : Command). Outcome (g.F.Files.holds c.args.files.now) x outcome) (sym same) given))

pub returns-in-Err-Bad-clause-bad_words : goal.returns-in-Err-Bad-clause-bad_words
returns-in-Err-Bad-clause-bad_words g c = λ bad. c.in-Err-Bad.ensures.bad c.in-Err-Bad.field-0-is

pub returns-in-Err-Bad-clause-answers : goal.returns-in-Err-Bad-clause-answers
returns-in-Err-Bad-clause-answers g c = λ read memory.
    (bad_words, inl (c.in-Err-Bad.ensures.bad c.in-Err-Bad.field-0-is, refl), c.deliver.ensures.delivered)

pub returns-in-Err-Bad-clause-complete : goal.returns-in-Err-Bad-clause-complete
returns-in-Err-Bad-clause-complete g c = λ steady command outcome ask given.
    absurd (c.in-Err-Bad.ensures.bad c.in-Err-Bad.field-0-is command ask)

pub returns-in-Ok-answer-clause-no_file_asked_opens_nothing : goal.returns-in-Ok-answer-clause-no_file_asked_opens_nothing
returns-in-Ok-answer-clause-no_file_asked_opens_nothing g c = λ asked.
    c.in-Ok-answer.ensures.opens_nothing
    (subst (λ (x : Command). operands_of x ≡ []) (sym (only_asked _ _ asked.0 c.in-Ok.ensures.asked asked.1)) asked.2)

pub returns-in-Err-ReadFault-clause-no_file_asked_opens_nothing : goal.returns-in-Err-ReadFault-clause-no_file_asked_opens_nothing
returns-in-Err-ReadFault-clause-no_file_asked_opens_nothing g c = λ asked.
    c.in-Err-ReadFault.ensures.opens_nothing
    (subst (λ (x : Command). operands_of x ≡ []) (sym (only_asked _ _ asked.0 c.in-Ok.ensures.asked asked.1)) asked.2)

pub returns-clause-no_file_asked_opens_nothing : goal.returns-clause-no_file_asked_opens_nothing
returns-clause-no_file_asked_opens_nothing g c = λ asked.
    c.in-Err-Memory-answer.ensures.opens_nothing
    (subst (λ (x : Command). operands_of x ≡ []) (sym (only_asked _ _ asked.0 c.in-Ok.ensures.asked asked.1)) asked.2)

pub returns-in-Ok-answer-clause-memory : goal.returns-in-Ok-answer-clause-memory
returns-in-Ok-answer-clause-memory g c = λ _. begins _ _ (asked_of _ _ c.in-Ok.ensures.asked)

pub returns-in-Err-ReadFault-clause-memory : goal.returns-in-Err-ReadFault-clause-memory
returns-in-Err-ReadFault-clause-memory g c = λ _. begins _ _ (asked_of _ _ c.in-Ok.ensures.asked)

pub returns-clause-memory : goal.returns-clause-memory
returns-clause-memory g c = λ _. begins _ _ (asked_of _ _ c.in-Ok.ensures.asked)
