-- Classes as they are written, wherever in the text that is, and the numbers that are known of them.
use Rattle.std.specs.Prelude.{◌≡◌, ℕ, ◌+◌, Bool, nat_eq, List, [], ◌∷◌, map, Some}
use Rattle.std.specs.HashMap.{get}
use Rattle.rela_expand.specs.Forms.{shape_at}
use Rattle.rela_expand.specs.Numbered.{or_none, placed, numbered}
use Rattle.rela_expand.specs.Numbering.{Listing, Numbering, Step}
use Rattle.rela_expand.specs.Places.{Place, in_some, located, locations_at}
use Rattle.rela_expand.specs.Shapes.{Shape}
use Rattle.rela_expand.specs.Tables.{entry_of}
use Rattle.rela_translate.specs.Zones.{drop_symbol}
use Rattle.rela_expand.specs.contracts.written.WrittenPartialEq.TheImpl.{eq-value as written_equal}
use Rattle.rela_translate.specs.declared.body.Expr.TheVariants as x
use Rattle.rela_expand.specs.declared.numbers.Numbers.{Numbers}
use Rattle.rela_expand.specs.declared.written.Pick.{Pick}
use Rattle.rela_expand.specs.declared.written.Pick.TheVariants as pick
use Rattle.rela_expand.specs.declared.written.Written.{Written}

-- the symbols that are picked, or none
abbrev pub picked : Place → Pick → List ℕ
picked place (pick.Within by name) = or_none (located place by name.now 0)
picked place pick.Drop = drop_symbol (locations_at place) ∷ []
picked place pick.Loop = (drop_symbol (locations_at place) + 1) ∷ []

-- the class that is written
abbrev pub class_of : Place → Written → Listing
class_of place written = record {
  negated = written.negated;
  members = in_some place (map (picked place) written.picks.items);
}

-- whether two classes are written alike
abbrev pub same_written : Written → Written → Bool
same_written = written_equal.it

-- from these classes on, with any number of markers, it comes to x and numbers nothing more
abbrev pub Gives : {X : Type 0} → (Numbering → Step X) → X → List Listing → Type 0
Gives f x classes = (markers : ℕ) → f (record { classes = classes; markers = markers })
    ≡ record { value = x; after = record { classes = classes; markers = markers } }

-- the table so far
abbrev pub table_of : Numbers → List Listing
table_of numbers = map entry_of numbers.classes.keys

-- what is known by what is written of a class is the number that it has in the table
abbrev pub AreWritten : Place → Numbers → Type 0
AreWritten place numbers = (written : Written) (k : ℕ) → get same_written numbers.written written
    ≡ Some k → Gives (placed (class_of place written)) k (table_of numbers)

-- what is known by the place of a form is the number that its class has in the table
abbrev pub ArePlaced : Place → List Shape → Numbers → Type 0
ArePlaced place shapes numbers = (at k : ℕ) → get nat_eq numbers.places at ≡ Some k →
    Gives (numbered place (shape_at shapes at)) (x.Class k) (table_of numbers)
