use Rattle.std.proofs.Common.{sym, ◌∙◌, subst}
use Rattle.std.proofs.lemmas.Bool.{false≢true}
use Rattle.std.proofs.lemmas.Result.{err_from_is_err_and}
use Rattle.rela_letter_nfa.specs.Pair.{IsSoughtSet}
use Rattle.rela_letter_nfa.specs.Searching.{AreUnwanted}
use Rattle.rela_letter_nfa.specs.Sets.{Enters}
use Rattle.rela_letter_nfa.proofs.Searching.{unwanted_more, wanted_last}
use Rattle.rela_letter_nfa.proofs.spreading.arrive.Goals as goal

pub returns-then-not-branch-clause-unwanted : goal.returns-then-not-branch-clause-unwanted
returns-then-not-branch-clause-unwanted c = λ _.
    let same = subst (Enters c.args.set.now c.args.sets.now c.insert.new.self) c.if-not-branch.true c.in_ok-insert.ensures in
    subst (AreUnwanted (IsSoughtSet c.args.sought c.args.both.now)) (sym same.0) c.requires.unwanted

pub returns-then-is_sought-clause-found : goal.returns-then-is_sought-clause-found
returns-then-is_sought-clause-found c = λ _.
    let grown = subst (Enters c.args.set.now c.args.sets.now c.insert.new.self) c.if-not-branch.false c.in_ok-insert.ensures in
    wanted_last (IsSoughtSet c.args.sought c.args.both.now) c.args.sets.now c.insert.new.self c.args.set.now grown c.requires.unwanted (c.is_sought.ensures.0 c.if-is_sought.true)

pub returns-in_err-within-clause-not_sought : goal.returns-in_err-within-clause-not_sought
returns-in_err-within-clause-not_sought c =
    let grown = subst (Enters c.args.set.now c.args.sets.now c.insert.new.self) c.if-not-branch.false c.in_ok-insert.ensures in
    let e = err_from_is_err_and c.from_residual-in_err-within.result c.from_residual-in_err-within.ensures.1 in
    rw (e.1, e.2) (λ _. unwanted_more (IsSoughtSet c.args.sought c.args.both.now) c.args.sets.now c.insert.new.self c.args.set.now grown c.requires.unwanted
    (λ wanted. false≢true (sym c.if-is_sought.false ∙ c.is_sought.ensures.1 wanted)))

pub returns-clause-unwanted : goal.returns-clause-unwanted
returns-clause-unwanted c = λ _.
    let grown = subst (Enters c.args.set.now c.args.sets.now c.insert.new.self) c.if-not-branch.false c.in_ok-insert.ensures in
    unwanted_more (IsSoughtSet c.args.sought c.args.both.now) c.args.sets.now c.insert.new.self c.args.set.now grown c.requires.unwanted
    (λ wanted. false≢true (sym c.if-is_sought.false ∙ c.is_sought.ensures.1 wanted))
