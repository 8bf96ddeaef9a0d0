-- Classes as the code has them.
use Rattle.std.specs.Prelude.{ℕ, ◌<◌, ◌^◌, List, length, map}
use Rattle.rela_claims.specs.Classes.{Class, All, Within, Drop, Loop, Mention, number_in}
use Rattle.rela_claims.specs.declared.classes.Mention.{Mention as MentionAt}
use Rattle.rela_claims.specs.declared.classes.Written.{Written}
use Rattle.rela_claims.specs.declared.classes.Written.TheVariants as w
use Rattle.rela_claims.specs.declared.names.Names.{Names}
use Rattle.rela_claims.specs.declared.numbers.Numbers.{Numbers}

-- the class
abbrev pub class_of : Written → Class
class_of w.All = All
class_of (w.Within by name) = Within by name.now
class_of w.Drop = Drop
class_of w.Loop = Loop

-- the class with its place in the text
abbrev pub mentioned : MentionAt → Mention
mentioned mention = record { class = class_of mention.class; at = mention.at }

-- the classes of these mentions, in their order
abbrev pub classes_of : List MentionAt → List Class
classes_of mentions = map (λ mention. class_of mention.class) mentions

-- the number of each class
abbrev pub numbered : Numbers → Class → ℕ
numbered numbers = number_in (map class_of numbers.table.now.keys)

-- every number has 32 bits
abbrev pub IsNarrow : Numbers → Type 0
IsNarrow numbers = length numbers.table.now.keys < 2 ^ 32

-- the names, in the order in which they were taken
abbrev pub names_taken : Names → List (List ℕ)
names_taken names = map (λ name. name.now) names.taken.keys
