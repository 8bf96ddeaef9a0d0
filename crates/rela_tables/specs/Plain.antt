-- Starts, tables and routes that stand in a file as they are mostly written.
use Rattle.std.specs.Prelude.{◌≡◌, ℕ, List, [], ◌∷◌, Ok, codes, length, map}
use Rattle.json.specs.Token.{Token, begin_array, begin_object, key}
use Rattle.serde_json.specs.Data.{Data}
use Rattle.rela_tokens.specs.Holds.{Holds}
use Rattle.rela_tokens.specs.Objects.{object_of}
use Rattle.rela_tokens.specs.Pieces.{list, member_of, whole}
use Rattle.rela_tokens.specs.declared.piece.Member.{Member}
use Rattle.rela_locations.specs.Network.{Network}
use Rattle.rela_snapshot.specs.Steps.{IsAnswer}
use Rattle.rela_tables.specs.declared.route.Route.{Route}
use Rattle.rela_tables.specs.declared.table.Table.{Table}
use Rattle.rela_tables.specs.Load.{AreTablesAfter, IsTableAfter}
use Rattle.rela_tables.specs.Routes.{AreRoutes, IsRoute}
use Rattle.rela_tables.specs.Starts.{starts_from}

-- the object of these members
abbrev pub entry_of : List Member → Data
entry_of members = object_of (map member_of members)

-- `old` begins a file, up to its version, which is 1, and `new` follows that
pub record OpensVersion (old new : List Token) : Type 0 where
  pub first : List Token
  pub begins : old ≡ begin_object ∷ key (codes "version") ∷ first
  pub version : Holds 0 first (whole 1) new

-- `old` begins a file of version 1 and these starts, up to the bracket that opens its tables, and `new` follows that
pub record Opens (network : Network) (old : List Token) (starts : List ℕ)
    (new : List Token) : Type 0 where
  pub first : List Token
  pub second : List Token
  pub last : List Token
  pub entries : List Data
  pub version : OpensVersion old first
  pub starts_key : first ≡ key (codes "starts") ∷ second
  pub listed : Holds 2 second (list entries) last
  pub starts_are : starts_from network 0 entries ≡ Ok starts
  pub tables : last ≡ key (codes "tables") ∷ begin_array ∷ new

-- `old` begins a table of the device of this name, up to the bracket that opens its routes, and `new` follows that
pub record OpensTable (old : List Token) (name : List ℕ) (new : List Token) : Type 0 where
  pub first : List Token
  pub last : List Token
  pub begins : old ≡ begin_object ∷ key (codes "device") ∷ first
  pub device : Holds 0 first (Data.string name) last
  pub routes : last ≡ key (codes "routes") ∷ begin_array ∷ new

-- `old` begins with the entry of the route after those of these prefixes, and `new` follows that
pub record IsPlainRoute (network : Network) (earlier : List (ℕ × ℕ)) (row : ℕ) (old : List Token)
    (route : Route) (new : List Token) : Type 0 where
  pub entry : Data
  pub held : Holds 3 old entry new
  pub answer : IsAnswer (IsRoute network earlier row entry) (Ok route)

-- `old` begins with the array of the entries of these routes, and `new` follows that
pub record ArePlainRoutes (network : Network) (row : ℕ) (old : List Token) (routes : List Route)
    (new : List Token) : Type 0 where
  pub entries : List Data
  pub held : Holds 4 old (list entries) new
  pub answer : IsAnswer (AreRoutes network row [] entries) (Ok routes)
  pub as_many : length entries ≡ length routes

-- `old` begins with the entry of the table after those of these devices, and `new` follows that
pub record IsPlainTable (network : Network) (earlier : List ℕ) (count : ℕ) (old : List Token)
    (table : Table) (new : List Token) : Type 0 where
  pub entry : Data
  pub held : Holds 5 old entry new
  pub answer : IsAnswer (IsTableAfter network earlier count entry) (Ok table)

-- `old` begins with the array of the entries of these tables, and `new` follows that
pub record ArePlainTables (network : Network) (old : List Token) (tables : List Table)
    (new : List Token) : Type 0 where
  pub entries : List Data
  pub held : Holds 6 old (list entries) new
  pub answer : IsAnswer (AreTablesAfter network [] entries) (Ok tables)
