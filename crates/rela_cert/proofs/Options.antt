-- What holds of a value, if there is one.
use Rattle.std.proofs.Common.{Option, None, Some, Result, Ok, Err}
use Rattle.std.specs.Prelude.{IfErr, IfNone, IfOk, IfSome, OnOk}
use Rattle.std.specs.Result.{IsErrAnd}

pub if_some_weaker : {X : Type 0} (P Q : X → Type 0) (o : Option X) → ((x : X) → P x → Q x) → IfSome o P → IfSome o Q
if_some_weaker P Q None on is = tt
if_some_weaker P Q (Some x) on is = on x is

pub if_none_weaker : {X P Q : Type 0} (o : Option X) → (P → Q) → IfNone o P → IfNone o Q
if_none_weaker None on is = on is
if_none_weaker (Some x) on is = tt

-- what holds of each where nothing is found
pub if_none_each : {X Y : Type 0} (A Q : Y → Type 0) (o : Option X) → ((y : Y) → A y → IfNone o (Q y)) → IfNone o ((y : Y) → A y → Q y)
if_none_each A Q None each = each
if_none_each A Q (Some x) each = tt

-- two facts of what is Ok give a third
pub both_ok : {X E : Type 0} (P Q R : X → Type 0) (r : Result X E) → ((x : X) → P x → Q x → R x) → IfOk r P → IfOk r Q → IfOk r R
both_ok P Q R (Ok x) on p q = on x p q
both_ok P Q R (Err e) on p q = tt

-- and three facts a fourth
pub three_ok : {X E : Type 0} (P Q S R : X → Type 0) (r : Result X E) → ((x : X) → P x → Q x → S x → R x) → IfOk r P → IfOk r Q → IfOk r S → IfOk r R
three_ok P Q S R (Ok x) on p q s = on x p q s
three_ok P Q S R (Err e) on p q s = tt

pub on_ok : {X E P Q : Type 0} (r : Result X E) → (P → Q) → OnOk r P → OnOk r Q
on_ok (Ok x) on is = on is
on_ok (Err e) on is = tt

pub ok_weaker : {X E : Type 0} (P Q : X → Type 0) (r : Result X E) → ((x : X) → P x → Q x) → IfOk r P → IfOk r Q
ok_weaker P Q (Ok x) on is = on x is
ok_weaker P Q (Err e) on is = tt

pub always : {X E P : Type 0} (r : Result X E) → P → OnOk r P
always (Ok x) is = is
always (Err e) is = tt

-- what holds of the error where there is one
pub err_is : {X E : Type 0} (Q P : E → Type 0) (r : Result X E) → IsErrAnd r Q → ((e : E) → Q e → P e) → IfErr r P
err_is Q P (Ok x) fails on = tt
err_is Q P (Err e) fails on = on e fails
