use Rattle.std.proofs.lemmas.Result.{IfOk-weaker}
use Rattle.rela_engine.proofs.assertion.compare.Goals as goal

pub returns-in-Equal-clause-same : goal.returns-in-Equal-clause-same
returns-in-Equal-clause-same c = rw c.in-Equal.is (IfOk-weaker c.equal.result _ _ (λ verdict same is. same.0 is) c.equal.ensures.same)

pub returns-in-Equal-clause-first : goal.returns-in-Equal-clause-first
returns-in-Equal-clause-first c = rw c.in-Equal.is c.equal.ensures.first

pub returns-in-Equal-clause-limit : goal.returns-in-Equal-clause-limit
returns-in-Equal-clause-limit c = rw c.in-Equal.is c.equal.ensures.limit

pub returns-in-Included-clause-first : goal.returns-in-Included-clause-first
returns-in-Included-clause-first c = rw c.in-Included.is c.included.ensures.first

pub returns-in-Included-clause-limit : goal.returns-in-Included-clause-limit
returns-in-Included-clause-limit c = rw c.in-Included.is c.included.ensures.limit
