-- What two steps give one after the other, whatever their values are.
use Rattle.std.specs.Prelude.{◌≡◌, Bool, IsTrue, Result, Ok, Err}
use Rattle.rela_snapshot.specs.Steps.{◌>>=◌}
use Rattle.rela_inputs.specs.Given.{Agrees, IsGiven, IsRead, IsToldBy}
use Rattle.rela_inputs.specs.declared.reading.Halt.{Halt}
use Rattle.rela_inputs.specs.declared.refusal.Refusal.{Refusal}

-- Two steps: a first one, and what comes after its value. `Same` and `Alike` say how far what they give is told apart.
pub record Chain : Type 1 where
  pub Value : Type 0
  pub Made : Type 0
  pub Same : Value → Value → Type 0
  pub Alike : Made → Made → Type 0
  pub Step : Result Value Refusal → Type 0
  pub Next : Value → Result Made Refusal → Type 0

pub record Chained (told steady : Bool) (chain : Chain) : Type 0 where
  -- a first step that ends early ends both
  pub stopped : (halt : Halt) → IsGiven told steady chain.Same chain.Step (Err halt) →
      IsGiven told steady chain.Alike (chain.Step >>= chain.Next) (Err halt)
  -- after a value that nothing else is the same as, both give what the second does
  pub settled : (value : chain.Value) (result : Result chain.Made Halt) →
      ((other : chain.Value) → chain.Same value other → value ≡ other) →
      IsGiven told steady chain.Same chain.Step (Ok value) →
      IsGiven told steady chain.Alike (chain.Next value) result →
      IsGiven told steady chain.Alike (chain.Step >>= chain.Next) result
  -- and so they do where it agrees with all that is given after each value that is the same
  pub continued : (value : chain.Value) (result : Result chain.Made Halt) →
      IsGiven told steady chain.Same chain.Step (Ok value) → IsToldBy (chain.Next value) result →
      (IsTrue told → (other : chain.Value) → chain.Same value other →
      (given : Result chain.Made Refusal) → chain.Next other given →
      Agrees steady chain.Alike result given) →
      IsGiven told steady chain.Alike (chain.Step >>= chain.Next) result
  -- either step may be a call that opens no file: it gives the same over any files
  pub first_read : (result : Result chain.Value Halt) → IsRead chain.Same chain.Step result →
      IsGiven told steady chain.Same chain.Step result
  pub next_read : (value : chain.Value) (result : Result chain.Made Halt) →
      IsRead chain.Alike (chain.Next value) result →
      IsGiven told steady chain.Alike (chain.Next value) result
