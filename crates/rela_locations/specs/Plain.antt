-- Groups and devices that stand in a file as they are mostly written.
use Rattle.std.specs.Prelude.{◌≡◌, ℕ, List, ◌∷◌, Result, Ok, codes, map}
use Rattle.json.specs.Token.{Token, begin_array, begin_object, key}
use Rattle.serde_json.specs.Data.{Data}
use Rattle.rela_json.specs.Results.{◌>>=◌}
use Rattle.rela_json.specs.declared.error.LoadError.{LoadError}
use Rattle.rela_tokens.specs.Holds.{Holds}
use Rattle.rela_tokens.specs.Objects.{object_of}
use Rattle.rela_tokens.specs.Pieces.{list, member_of, whole}
use Rattle.rela_tokens.specs.declared.piece.Member.{Member}
use Rattle.rela_locations.specs.Load.{part, load_device, load_devices, load_group, load_groups, load_tags}
use Rattle.rela_locations.specs.Network.{Device, Group, Network}

-- the object of these members
abbrev pub entry_of : List Member → Data
entry_of members = object_of (map member_of members)

-- the tags of a device
abbrev pub tags_of : ℕ → Data → Result (List (List ℕ)) LoadError
tags_of row d = do
  tags_part ← part 7 row (codes "tags") d
  load_tags row tags_part

-- `old` begins a file of version 1 up to the bracket that opens its groups, and `new` follows that
pub record Opens (old new : List Token) : Type 0 where
  pub first : List Token
  pub last : List Token
  pub begins : old ≡ begin_object ∷ key (codes "version") ∷ first
  pub version : Holds 0 first (whole 1) last
  pub groups : last ≡ key (codes "groups") ∷ begin_array ∷ new

-- `old` begins a group of this name up to the bracket that opens its devices, and `new` follows that
pub record OpensGroup (old : List Token) (name : List ℕ) (new : List Token) : Type 0 where
  pub first : List Token
  pub last : List Token
  pub begins : old ≡ begin_object ∷ key (codes "name") ∷ first
  pub named : Holds 0 first (Data.string name) last
  pub devices : last ≡ key (codes "devices") ∷ begin_array ∷ new

-- `old` begins with the entry of the device after devices and interfaces of these names, and `new` follows that
pub record IsPlainDevice (earlier interfaces : List (List ℕ)) (old : List Token) (device : Device)
    (new : List Token) : Type 0 where
  pub entry : Data
  pub held : Holds 3 old entry new
  pub loaded : load_device earlier interfaces entry ≡ Ok device

-- `old` begins with the array of the entries of these devices, and `new` follows that
pub record ArePlainDevices (earlier interfaces : List (List ℕ)) (old : List Token)
    (devices : List Device) (new : List Token) : Type 0 where
  pub entries : List Data
  pub held : Holds 4 old (list entries) new
  pub loaded : load_devices earlier interfaces entries ≡ Ok devices

-- `old` begins with the entry of the group after groups, devices and interfaces of these names, and `new` follows that
pub record IsPlainGroup (earlier devices interfaces : List (List ℕ)) (old : List Token)
    (group : Group) (new : List Token) : Type 0 where
  pub entry : Data
  pub held : Holds 5 old entry new
  pub loaded : load_group earlier devices interfaces entry ≡ Ok group

-- `old` begins with the array of the entries of these groups, and `new` follows that
pub record ArePlainGroups (earlier devices interfaces : List (List ℕ)) (old : List Token)
    (groups : Network) (new : List Token) : Type 0 where
  pub entries : List Data
  pub held : Holds 6 old (list entries) new
  pub loaded : load_groups earlier devices interfaces entries ≡ Ok groups
