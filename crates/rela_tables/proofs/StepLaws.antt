-- What steps answer, from what each of them answers.
use Rattle.std.proofs.Common.{◌≡◌, ◌∙◌, refl, sym, subst, Result, Ok, Err}
use Rattle.rela_snapshot.specs.Steps.{Is, After, ◌>>=◌, IsAnswer}

-- a step that has a value answers that
pub is_answer : {A : Type 0} (x r : A) → x ≡ r → IsAnswer (Is x) r
is_answer x r e = record { answers = sym e; alone = λ s h. h ∙ e }

-- a step, and what follows it
pub then_next : {A B E : Type 0} (Step : Result A E → Type 0) (Next : A → Result B E → Type 0) (x : A) (r : Result B E)
    → IsAnswer Step (Ok x) → IsAnswer (Next x) r → IsAnswer (Step >>= Next) r
then_next {A} {B} {E} Step Next x r step next = record {
  answers = (Ok x, step.answers, next.answers);
  alone = λ s h. next.alone s (subst (λ (y : Result A E). After Next y s) (step.alone h.0 h.1) h.2);
}

-- a step that refuses
pub then_refused : {A B E : Type 0} (Step : Result A E → Type 0) (Next : A → Result B E → Type 0) (e : E)
    → IsAnswer Step (Err e) → IsAnswer (Step >>= Next) (Err e)
then_refused {A} {B} {E} Step Next e step = record {
  answers = (Err e, step.answers, refl);
  alone = λ s h. subst (λ (y : Result A E). After Next y s) (step.alone h.0 h.1) h.2;
}

-- the same where the step has a value
pub value_next : {A B E : Type 0} (f : Result A E) (Next : A → Result B E → Type 0) (x : A) (r : Result B E)
    → f ≡ Ok x → IsAnswer (Next x) r → IsAnswer (Is f >>= Next) r
value_next f Next x r is next = then_next (Is f) Next x r (is_answer f (Ok x) is) next

pub value_refused : {A B E : Type 0} (f : Result A E) (Next : A → Result B E → Type 0) (e : E)
    → f ≡ Err e → IsAnswer (Is f >>= Next) (Err e)
value_refused f Next e is = then_refused (Is f) Next e (is_answer f (Err e) is)
