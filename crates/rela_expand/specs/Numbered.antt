-- What a shape becomes as its classes and markers are numbered from left to right.
use Rattle.std.specs.Prelude.{◌≡◌, ℕ, ◌+◌, Bool, List, [], map, Option, None, Some, Result, Ok, Err}
use Rattle.std.specs.List.{position_or_len}
use Rattle.rela_lex.specs.declared.error.SpecError.{SpecError}
use Rattle.rela_spec.specs.declared.tree.Member.{Member}
use Rattle.rela_spec.specs.declared.tree.Modifier.{Modifier}
use Rattle.rela_spec.specs.declared.tree.Modifier.TheVariants as m
use Rattle.rela_expand.specs.Expansions.{Names}
use Rattle.rela_expand.specs.Numbering.{Expansion, Listing, Numbering, Step, same_listing, with_class}
use Rattle.rela_expand.specs.Places.{Place, in_some, symbols_of}
use Rattle.rela_expand.specs.Shapes.{Shape, Empty, Class, Seq, Alt, Meet, Not, Star, BodyShape, Unit as Unit', Then, Else, Shapes}
use Rattle.rela_expand.specs.declared.bodies.BodyJoint.{BodyJoint}
use Rattle.rela_expand.specs.declared.bodies.BodyJoint.TheVariants as body_joint
use Rattle.rela_expand.specs.declared.forms.Joint.{Joint}
use Rattle.rela_expand.specs.declared.forms.Joint.TheVariants as joint
use Rattle.rela_translate.specs.declared.body.Expr.{Expr}
use Rattle.rela_translate.specs.declared.body.Expr.TheVariants as x
use Rattle.rela_translate.specs.declared.body.Change.{Change}
use Rattle.rela_translate.specs.declared.body.Change.TheVariants as change
use Rattle.rela_translate.specs.declared.body.Core.{Core}
use Rattle.rela_translate.specs.declared.body.Core.TheVariants as core

abbrev pub or_none : Result (List ℕ) SpecError → List ℕ
or_none (Ok symbols) = symbols
or_none (Err e) = []

-- it is no refusal
abbrev pub Succeeds : Result (List ℕ) SpecError → Type 0
Succeeds r = r ≡ Ok (or_none r)

-- what a member names, or nothing
abbrev pub named_by : Place → Member → List ℕ
named_by place member = or_none (symbols_of place member)

-- the path symbols that some member names, ascending
abbrev pub found : Place → List Member → List ℕ
found place members = in_some place (map (named_by place) members)

-- the class of the symbols that the members name
abbrev pub listing : Place → Bool → List Member → Listing
listing place negated members = record { negated = negated; members = found place members }

-- the place of the class in the table, and the table with it
abbrev pub placed : Listing → Numbering → Step ℕ
placed c n = record {
  value = position_or_len (same_listing c) n.classes;
  after = record n { classes = with_class n.classes c };
}

abbrev pub one_part : {X Y : Type 0} → (X → Y) → Step X → Step Y
one_part f a = record { value = f a.value; after = a.after }

-- the second part is numbered behind the first
abbrev pub two_parts : {X Y Z : Type 0} → (X → Y → Z) → Step X → (Numbering → Step Y) → Step Z
two_parts f a b = record { value = f a.value (b a.after).value; after = (b a.after).after }

abbrev pub numbered : Place → Shape → Numbering → Step Expr
numbered place Empty n = record { value = x.Empty; after = n }
numbered place (Class negated members) n =
    one_part x.Class (placed (listing place negated members) n)
numbered place (Seq a b) n = two_parts x.Seq (numbered place a n) (numbered place b)
numbered place (Alt a b) n = two_parts x.Alt (numbered place a n) (numbered place b)
numbered place (Meet a b) n = two_parts x.Meet (numbered place a n) (numbered place b)
numbered place (Not a) n = one_part x.Not (numbered place a n)
numbered place (Star a) n = one_part x.Star (numbered place a n)

abbrev pub expr_joined : Joint → Expr → Expr → Expr
expr_joined joint.Seq = x.Seq
expr_joined joint.Alt = x.Alt
expr_joined joint.Meet = x.Meet

abbrev pub core_joined : BodyJoint → Core → Core → Core
core_joined body_joint.Then = core.Then
core_joined body_joint.Else = core.Else

-- a path that is asked for has the next marker
abbrev pub marked : Step Expr → Step Change
marked a = record {
  value = change.AnyOf a.value (a.after.markers + 1);
  after = record { classes = a.after.classes; markers = a.after.markers + 1 };
}

abbrev pub numbered_change : Place → Modifier Shape → Numbering → Step Change
numbered_change place m.Preserve n = record { value = change.Preserve; after = n }
numbered_change place (m.Add p) n = one_part change.Add (numbered place p n)
numbered_change place (m.Remove p) n = one_part change.Remove (numbered place p n)
numbered_change place (m.Replace p q) n =
    two_parts change.Replace (numbered place p n) (numbered place q)
numbered_change place m.Drop n = record { value = change.Drop; after = n }
numbered_change place (m.AnyOf p) n = marked (numbered place p n)
numbered_change place (m.Ignore p) n = one_part change.Ignore (numbered place p n)

abbrev pub numbered_body : Place → BodyShape → Numbering → Step Core
numbered_body place (Unit' z c) n = two_parts core.Unit (numbered place z n)
    (numbered_change place c)
numbered_body place (Then a b) n = two_parts core.Then (numbered_body place a n)
    (numbered_body place b)
numbered_body place (Else a b) n = two_parts core.Else (numbered_body place a n)
    (numbered_body place b)

-- the expansion by way of a shape, or of its refusal
abbrev pub expands : {S X : Type 0} → (S → Numbering → Step X) → Result S SpecError → Expansion X
expands number (Ok shape) n = Ok (number shape n)
expands number (Err e) n = Err e

abbrev pub stands : {S X : Type 0} → (S → Numbering → Step X) → Option S → Option (Expansion X)
stands number None = None
stands number (Some shape) = Some (expands number (Ok shape))

-- what names stand for, by their shapes
abbrev pub expansions_of : Place → Shapes → Names
expansions_of place shapes = record {
  paths = λ name. stands (numbered place) (shapes.paths name);
  specs = λ name. stands (numbered_body place) (shapes.specs name);
}
