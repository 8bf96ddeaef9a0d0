-- What a call answers, where steps over its inputs say what they give: a value, or the first refusal.
use Rattle.std.specs.Prelude.{◌≡◌, ⊤, Bool, true, IsTrue, IsFalse, Result, Ok, Err, IfErr}
use Rattle.rela_inputs.specs.Reading.{HaltsInside}
use Rattle.rela_inputs.specs.declared.reading.Halt.{Halt}
use Rattle.rela_inputs.specs.declared.reading.Halt.TheVariants.{Refused, ReadFault, Memory}
use Rattle.rela_inputs.specs.declared.refusal.Refusal.{Refusal}

abbrev pub Equals : {A : Type 0} → A → A → Type 0
Equals x y = x ≡ y

-- what was answered, with its value seen as data
abbrev pub seen : {A B : Type 0} → (A → B) → Result A Halt → Result B Halt
seen view (Ok x) = Ok (view x)
seen view (Err halt) = Err halt

-- the value or the refusal is what the steps give
abbrev pub IsToldBy : {A : Type 0} → (Result A Refusal → Type 0) → Result A Halt → Type 0
IsToldBy Steps (Ok x) = Steps (Ok x)
IsToldBy Steps (Err (Refused refusal)) = Steps (Err refusal)
IsToldBy Steps (Err ReadFault) = ⊤
IsToldBy Steps (Err Memory) = ⊤

-- The same was answered as is given, unless memory ran out. Over steady files no fault comes in its place.
abbrev pub Agrees : {A : Type 0} → Bool → (A → A → Type 0) → Result A Halt →
    Result A Refusal → Type 0
Agrees steady Same (Ok x) (Ok y) = Same x y
Agrees steady Same (Ok x) (Err refusal) = ⊥
Agrees steady Same (Err (Refused refusal)) (Ok y) = ⊥
Agrees steady Same (Err (Refused refusal)) (Err other) = refusal ≡ other
Agrees steady Same (Err ReadFault) given = IsFalse steady
Agrees steady Same (Err Memory) given = ⊤

-- What was answered is given, and where the inputs are told nothing else is, as far as `Same` tells values apart.
pub record IsGiven {A : Type 0} (told steady : Bool) (Same : A → A → Type 0)
    (Steps : Result A Refusal → Type 0) (result : Result A Halt) : Type 0 where
  pub told_by : IsToldBy Steps result
  pub alone : IsTrue told → (given : Result A Refusal) → Steps given →
      Agrees steady Same result given

-- the same of a call that opens no file
pub record IsRead {A : Type 0} (Same : A → A → Type 0) (Steps : Result A Refusal → Type 0)
    (result : Result A Halt) : Type 0 where
  pub given : IsGiven true true Same Steps result
  pub halts : IfErr result HaltsInside
