-- What two clauses on a result say together.
use Rattle.std.proofs.Common.{Option, None, Some, Result, Ok, Err}
use Rattle.std.specs.Option.{IfNone, IfSome}
use Rattle.std.specs.Result.{IfErr, IfOk}

pub both_some : {X E : Type 0} (r : Result (Option X) E) (P Q R : X → Type 0) → ((x : X) → P x → Q x → R x)
    → IfOk r (λ o. IfSome o P) → IfOk r (λ o. IfSome o Q) → IfOk r (λ o. IfSome o R)
both_some (Ok (Some x)) P Q R both p q = both x p q
both_some (Ok None) P Q R both p q = tt
both_some (Err e) P Q R both p q = tt

pub both_err : {X E : Type 0} (r : Result X E) (P Q R : E → Type 0) → ((e : E) → P e → Q e → R e) → IfErr r P → IfErr r Q → IfErr r R
both_err (Ok x) P Q R both p q = tt
both_err (Err e) P Q R both p q = both e p q

pub none_along : {X : Type 0} (o : Option X) (P Q : Type 0) → (P → Q) → IfNone o P → IfNone o Q
none_along None P Q along p = along p
none_along (Some x) P Q along p = tt
