-- What a file says of a flow besides its graph.
use Rattle.std.specs.Prelude.{◌≡◌, ℕ, Bool, true, false, List, codes, if◌then◌else◌, Option, Some, None, Result, Ok, Err}
use Rattle.serde_json.specs.Data.{Data}
use Rattle.rela_json.specs.declared.error.LoadError.{LoadError}
use Rattle.rela_json.specs.declared.error.LoadError.TheVariants.{BadName, BadPrefix, RepeatedEntry}
use Rattle.rela_json.specs.Results.{◌>>=◌}
use Rattle.rela_names.specs.Name.{is_name}
use Rattle.rela_flows.specs.declared.prefix.Prefix.{Prefix}
use Rattle.rela_flows.specs.declared.prefix.Prefix.TheVariants.{V4, V6}
use Rattle.rela_flows.specs.Notation.{IsTextOf}
use Rattle.rela_snapshot.specs.declared.class.Family.{Family}
use Rattle.rela_snapshot.specs.declared.class.Family.TheVariants.{Ipv4, Ipv6}
use Rattle.rela_snapshot.specs.declared.version.Version.{Version}
use Rattle.rela_snapshot.specs.declared.version.Version.TheVariants.{One, Two}
use Rattle.rela_snapshot.specs.declared.version.FlowRules.{FlowRules}
use Rattle.rela_snapshot.specs.Names.{has_name}
use Rattle.rela_json.specs.Fields.{part_of, string_of}

-- these bytes as a name
unfoldable pub name_of : ℕ → List ℕ → Result (List ℕ) LoadError
name_of row bytes = if is_name bytes then Ok bytes else Err (BadName row)

-- the same, where no earlier flow has that name
unfoldable pub unused_name_of : List (List ℕ) → ℕ → List ℕ → Result (List ℕ) LoadError
unused_name_of names row bytes = do
  name ← name_of row bytes
  if has_name names name then Err (RepeatedEntry row) else Ok name

-- a flow's name
unfoldable pub flow_name_of : FlowRules → ℕ → Data → Result (List ℕ) LoadError
flow_name_of rules row d = do
  o ← part_of (codes "name") rules.flow row d
  bytes ← string_of rules.name row o
  name_of row bytes

-- the same, where no earlier flow has it
unfoldable pub new_name_of : FlowRules → List (List ℕ) → ℕ → Data → Result (List ℕ) LoadError
new_name_of rules names row d = do
  name ← flow_name_of rules row d
  if has_name names name then Err (RepeatedEntry row) else Ok name

-- the class that a flow names, or else `default`
unfoldable pub class_name_of : FlowRules → ℕ → Option Data → Result (List ℕ) LoadError
class_name_of rules row None = name_of row (codes "default")
class_name_of rules row (Some d) = do
  bytes ← string_of rules.class row (Some d)
  name_of row bytes

-- a flow's class
unfoldable pub class_of : FlowRules → ℕ → Data → Result (List ℕ) LoadError
class_of rules row d = do
  o ← part_of (codes "class") rules.flow row d
  class_name_of rules row o

-- the family of a prefix's addresses
abbrev pub family_of : Prefix → Family
family_of (V4 p) = Ipv4
family_of (V6 p) = Ipv6

-- it is of the family that is wanted, if one is
abbrev pub is_wanted : Option Family → Prefix → Bool
is_wanted None p = true
is_wanted (Some Ipv4) (V4 p) = true
is_wanted (Some Ipv4) (V6 p) = false
is_wanted (Some Ipv6) (V4 p) = false
is_wanted (Some Ipv6) (V6 p) = true

-- the prefix of a wanted family that a text writes, or the refusal where it writes none
unfoldable pub IsPrefixOf : Option Family → ℕ → List ℕ → Result Prefix LoadError → Type 0
IsPrefixOf wanted row text (Ok p) = IsTextOf text p × (is_wanted wanted p ≡ true)
IsPrefixOf wanted row text (Err e) = (e ≡ BadPrefix row) × ((p : Prefix) → IsTextOf text p →
    is_wanted wanted p ≡ false)

-- version 1 holds IPv4 alone
abbrev pub family_in : Version → Option Family
family_in One = Some Ipv4
family_in Two = None

unfoldable pub dst_text_of : FlowRules → ℕ → Data → Result (List ℕ) LoadError
dst_text_of rules row d = do
  o ← part_of (codes "dst") rules.flow row d
  string_of rules.dst row o

-- the prefix of all addresses of a family, which stands for a src that is left out
abbrev pub whole_family : Family → List ℕ
whole_family Ipv4 = codes "0.0.0.0/0"
whole_family Ipv6 = codes "::/0"

abbrev pub text_or_whole : FlowRules → ℕ → Family → Option Data → Result (List ℕ) LoadError
text_or_whole rules row family None = Ok (whole_family family)
text_or_whole rules row family (Some d) = string_of rules.src row (Some d)

unfoldable pub src_text_of : FlowRules → ℕ → Family → Data → Result (List ℕ) LoadError
src_text_of rules row family d = do
  o ← part_of (codes "src") rules.flow row d
  text_or_whole rules row family o
