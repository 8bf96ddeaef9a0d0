-- Expanding parts one after another, from left to right, while the classes and markers that they use are numbered.
use Rattle.std.specs.Prelude.{ℕ, ◌+◌, ◌&&◌, Bool, List, [], ◌∷◌, ◌++◌, if◌then◌else◌, Result, Ok, Err}
use Rattle.std.specs.Bool.{beq}
use Rattle.std.specs.List.{list_any, position_or_len}
use Rattle.std.specs.Str.{bytes_eq}
use Rattle.rela_lex.specs.declared.error.SpecError.{SpecError}

-- a class: the path symbols that it lists, ascending, and whether it is all path symbols but those
pub record Listing : Type 0 where
  pub negated : Bool
  pub members : List ℕ

-- the class table so far, and how many markers have been given out
pub record Numbering : Type 0 where
  pub classes : List Listing
  pub markers : ℕ

-- before anything is used
abbrev pub nothing_numbered : Numbering
nothing_numbered = record { classes = []; markers = 0 }

-- what something becomes, and what is numbered after it
pub record Step (X : Type 0) : Type 0 where
  pub value : X
  pub after : Numbering

-- the step from what is numbered before, or the refusal
abbrev pub Expansion : Type 0 → Type 0
Expansion X = Numbering → Result (Step X) SpecError

abbrev pub gives : {X : Type 0} → X → Expansion X
gives x numbering = Ok (record { value = x; after = numbering })

abbrev pub refuses : {X : Type 0} → SpecError → Expansion X
refuses e numbering = Err e

abbrev pub go_on : {X Y : Type 0} → (X → Expansion Y) → Result (Step X) SpecError →
    Result (Step Y) SpecError
go_on f (Ok step) = f step.value step.after
go_on f (Err e) = Err e

infixl 10 ◌>>=◌
abbrev pub ◌>>=◌ : {X Y : Type 0} → Expansion X → (X → Expansion Y) → Expansion Y
(e >>= f) numbering = go_on f (e numbering)

-- each in its order
abbrev pub each : {X : Type 0} → List (Expansion X) → Expansion (List X)
each [] = gives []
each (e ∷ others) = do
  x ← e
  xs ← each others
  gives (x ∷ xs)

-- what uses nothing that is numbered
abbrev pub plainly : {X : Type 0} → Result X SpecError → Expansion X
plainly (Ok x) = gives x
plainly (Err e) = refuses e

abbrev pub same_listing : Listing → Listing → Bool
same_listing c d = beq c.negated d.negated && bytes_eq c.members d.members

-- the table with the class, which is put at the end at its first use
abbrev pub with_class : List Listing → Listing → List Listing
with_class classes c = if list_any (same_listing c) classes then classes else classes ++ c ∷ []

-- a class's number is its place in the table
abbrev pub numbered_class : Listing → Expansion ℕ
numbered_class c numbering = Ok (record {
  value = position_or_len (same_listing c) numbering.classes;
  after = record numbering { classes = with_class numbering.classes c };
})

-- the next marker; they are counted from 1
abbrev pub next_marker : Expansion ℕ
next_marker numbering = Ok (record {
  value = numbering.markers + 1;
  after = record numbering { markers = numbering.markers + 1 };
})
