use Rattle.std.proofs.Common.{◌+◌, ◌∙◌, ℕ, List, Result, Ok, Err, sym, subst}
use Rattle.std.specs.Result.{IfErr, IsErrAnd}
use Rattle.rela_nfa.specs.Relabelling.{IsRelabelled}
use Rattle.rela_complement.proofs.MergedComplements.{as_many_sets, complement, untold}
use Rattle.rela_complement.proofs.limited_complements.LimitedComplements.by_classes.Goals as goal

-- how a call that fails ends
exit : {T E : Type 0} (Q P : E → Type 0) (r : Result T E) → IsErrAnd r Q → ((e : E) → Q e → P e) → IfErr r P
exit Q P (Ok x) fails on = tt
exit Q P (Err e) fails on = on e fails

pub returns-in_err-nfa-clause-past : goal.returns-in_err-nfa-clause-past
returns-in_err-nfa-clause-past c =
    exit _ _ c.from_residual.result c.from_residual.ensures.1
    (λ e is limit a over merged. as_many_sets a over c.args.merged.now.classes.items c.args.merged.now.part c.args.merged.now.over merged (c.args.self.now + 1)
    (c.in_err-nfa.ensures.past (sym is ∙ limit)))

pub returns-clause-complement : goal.returns-clause-complement
returns-clause-complement c = λ a over merged.
    let part = c.args.merged.now.part in
    let spread : IsRelabelled c.args.merged.now.classes.items c.in_ok-nfa.nfa c.in_ok-relabelled.field-0 =
    subst (λ (l : List ℕ). IsRelabelled l c.in_ok-nfa.nfa c.in_ok-relabelled.field-0) c.deref.ensures.value c.in_ok-relabelled.ensures in
    complement a over c.args.merged.now.classes.items part c.args.merged.now.over merged c.in_ok-nfa.nfa c.in_ok-relabelled.field-0 c.in_ok-nfa.ensures.complement spread

pub returns-clause-within : goal.returns-clause-within
returns-clause-within c = λ a over merged.
    untold a over c.args.merged.now.classes.items c.args.merged.now.part c.args.merged.now.over merged (c.args.self.now + 1) c.in_ok-nfa.ensures.within
