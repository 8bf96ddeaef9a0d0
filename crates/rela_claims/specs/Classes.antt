-- The classes that assertions name, and the symbols that each lists.
use Rattle.std.specs.Prelude.{ℕ, ◌+◌, ◌&&◌, Bool, true, false, List, [], ◌∷◌, ◌++◌, fold, length, not, if◌then◌else◌, Result, Ok, Err}
use Rattle.std.specs.List.{list_any, position_or_len}
use Rattle.std.specs.Str.{bytes_eq}
use Rattle.rela_lex.specs.declared.error.SpecError.{SpecError}
use Rattle.rela_lex.specs.declared.error.SpecError.TheVariants.{FinerLevel, UnknownLocation}
use Rattle.rela_locations.specs.Names.{has_name}
use Rattle.rela_locations.specs.Network.{Network, alphabet_of, by_level, is_finer, members_of, names_by}
use Rattle.rela_locations.specs.declared.members.By.{By}
use Rattle.rela_locations.specs.declared.members.By.TheVariants as by
use Rattle.rela_names.specs.declared.level.Level.{Level}
use Rattle.rela_rir.specs.declared.set.SymbolSet.{SymbolSet}
use Rattle.rela_spec.specs.declared.tree.Member.{Member}
use Rattle.rela_spec.specs.declared.tree.Member.TheVariants as member

-- the network, and the level of its locations that paths are made of
pub record Place : Type 0 where
  pub network : Network
  pub level : Level

-- a class as it is written, wherever that is: any one path symbol, or those that a member names
pub data Class : Type 0 where
  All : Class
  Within : By → List ℕ → Class
  Drop : Class
  Loop : Class

-- a class where it is written: the number of bytes before the name, or 0 where it has none
pub record Mention : Type 0 where
  pub class : Class
  pub at : ℕ

abbrev pub mention_of_all : Mention
mention_of_all = record { class = All; at = 0 }

-- a bare name is that of a location of the level
abbrev pub mention_of : Level → Member → Mention
mention_of level (member.Here name at) = record { class = Within (by_level level) name; at = at }
mention_of level (member.Within by name at) = record { class = Within by name; at = at }
mention_of level member.Drop = record { class = Drop; at = 0 }
mention_of level member.Loop = record { class = Loop; at = 0 }

-- what is named is there: first the level is looked at, and then the name
abbrev pub located : Place → By → List ℕ → ℕ → Result Class SpecError
located place by name at =
    if is_finer by place.level then Err (FinerLevel at)
    else if not (has_name (names_by by place.network) name) then Err (UnknownLocation at)
    else Ok (Within by name)

-- the class that is mentioned, where what it names is there
abbrev pub class_at : Place → Class → ℕ → Result Class SpecError
class_at place (Within by name) at = located place by name at
class_at place All at = Ok All
class_at place Drop at = Ok Drop
class_at place Loop at = Ok Loop

abbrev pub resolved_class : Place → Mention → Result Class SpecError
resolved_class place mention = class_at place mention.class mention.at

-- an entry of a class table: some path symbols, ascending, or all but those
pub record Listing : Type 0 where
  pub negated : Bool
  pub members : List ℕ

abbrev pub listing_of : SymbolSet → Listing
listing_of set = record { negated = set.negated; members = set.members }

-- the symbols that the class is made of; behind the locations come `drop` and `loop`
abbrev pub listing : Place → Class → Listing
listing place All = record { negated = true; members = [] }
listing place (Within by name) =
    record { negated = false; members = members_of place.level by name place.network }
listing place Drop =
    record { negated = false; members = length (alphabet_of place.level place.network) ∷ [] }
listing place Loop =
    record { negated = false; members = (length (alphabet_of place.level place.network) + 1) ∷ [] }

abbrev pub same_way : By → By → Bool
same_way by.Interface by.Interface = true
same_way by.Device by.Device = true
same_way by.Group by.Group = true
same_way by.Tag by.Tag = true
same_way _ _ = false

-- whether two classes are written alike
abbrev pub same_class : Class → Class → Bool
same_class All All = true
same_class (Within a x) (Within b y) = same_way a b && bytes_eq x y
same_class Drop Drop = true
same_class Loop Loop = true
same_class _ _ = false

-- the table with the class, which is put at the end at its first mention
abbrev pub with_class : List Class → Class → List Class
with_class table class = if list_any (same_class class) table then table else table ++ class ∷ []

-- the classes, each once
abbrev pub each_once : List Class → List Class
each_once classes = fold with_class [] classes

-- a class's number is its place in the table
abbrev pub number_in : List Class → Class → ℕ
number_in table class = position_or_len (same_class class) table
