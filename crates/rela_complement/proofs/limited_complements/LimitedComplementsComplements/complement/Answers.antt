use Rattle.std.proofs.Common.{sym, subst}
use Rattle.rela_build.specs.Complement.{IsComplement}
use Rattle.rela_complement.proofs.limited_complements.LimitedComplementsComplements.complement.Goals as goal
use Rattle.rela_complement.proofs.limited_complements.LimitedComplementsComplements.complement.Goals.{in-Some+in_ok-nfa-in-Some, in-None+in_ok-nfa-in-None}

pub returns-clause-complement : goal.returns-clause-complement
returns-clause-complement c =
    elim c.match-branch-2.branch [
      | in-Some+in_ok-nfa-in-Some w ↦
          subst (IsComplement c.args.a.now c.args.over.now) (sym w.nfa-is)
          (w.in_ok-nfa-in-Some.ensures.complement c.args.a.now c.args.over.now (rw w.in-Some.is at c.in_ok-merged.ensures.merged))
      | in-None+in_ok-nfa-in-None w ↦ subst (IsComplement c.args.a.now c.args.over.now) (sym w.nfa-is) w.in_ok-nfa-in-None.ensures.complement
    ]
