use Rattle.std.proofs.Common.{sym, ap, not, is_some, inr, ◌∙◌}
use Rattle.std.proofs.lemmas.Bool.{false≢true}
use Rattle.rela_reduce.proofs.PastDetours.{detour_in}
use Rattle.rela_reduce.proofs.passing.past.Goals as goal

pub detour-requires-in-Some : goal.detour-requires-in-Some
detour-requires-in-Some g c = detour_in c.args.a.now c.start.ensures.automaton c.args.q c.in-Some.r c.requires ((c.detour.ensures c.in-Some.r).0 c.in-Some.is)

pub returns-then-is_none-clause-state : goal.returns-then-is_none-clause-state
returns-then-is_none-clause-state g c = detour_in c.args.a.now c.start.ensures.automaton c.args.q c.in-Some.r c.requires ((c.detour.ensures c.in-Some.r).0 c.in-Some.is)

pub returns-then-is_none-clause-past : goal.returns-then-is_none-clause-past
returns-then-is_none-clause-past g c =
    inr ((c.detour.ensures c.in-Some.r).0 c.in-Some.is, λ s other. false≢true (sym (c.is_none.ensures ∙ ap not c.if-is_none.true) ∙ ap is_some ((c.detour-in-Some.ensures s).1 other)))
