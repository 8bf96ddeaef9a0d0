use Rattle.std.proofs.Common.{◌∙◌, Bool, List, length, map, sym, ap}
use Rattle.rela_closed.specs.Words.{words_of}
use Rattle.rela_cert.proofs.FlagWords.{after_each, before_each, judged}
use Rattle.rela_cert.proofs.words.judge_words.Goals as goal

pub judge_flags-requires : goal.judge_flags-requires
judge_flags-requires c =
    let a = c.args.images.now.before in
    let b = c.args.images.now.after in
    let flags = map (λ f. f.items) c.in-Some.followed.accepted.items in
    let are = rw c.in-Some.is at c.in_ok-followed.ensures.accepted in
    ap (λ (x : List Bool). length x) c.flags_of-before.ensures ∙ before_each a b (words_of c.args.steps.now) flags are
    ∙ sym (after_each a b (words_of c.args.steps.now) flags are) ∙ sym (ap (λ (x : List Bool). length x) c.flags_of-after.ensures)

pub returns-in-Some : goal.returns-in-Some
returns-in-Some c =
    let a = c.args.images.now.before in
    let b = c.args.images.now.after in
    let words = words_of c.args.steps.now in
    let flags = map (λ f. f.items) c.in-Some.followed.accepted.items in
    let are = rw c.in-Some.is at c.in_ok-followed.ensures.accepted in
    let closed = rw c.in-Some.is at c.in_ok-followed.ensures.closed in
    let empty = c.listed_words_are_over.ensures.empty c.args.steps.now in
    judged a b words flags are c.requires.before c.requires.after c.args.over.now c.requires.over c.requires.same_letters
    (c.closed_lists_decide.ensures.equal c.args.over.now a b words closed empty) (c.closed_lists_decide.ensures.included c.args.over.now a b words closed empty)
    c.args.at_most c.flags_of-before.result.now c.flags_of-after.result.now c.flags_of-before.ensures c.flags_of-after.ensures c.judge_flags.result c.judge_flags.ensures
