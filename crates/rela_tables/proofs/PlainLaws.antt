-- What the walk of a file makes of what is written plainly.
use Rattle.std.proofs.Common.{◌≡◌, ◌∙◌, refl, sym, ap, subst, ℕ, ◌+◌, ◌<◌, ◌≤◌, Bool, cond, false, List, [], ◌∷◌, ◌++◌, append-nil, append_assoc, get_or, length, map, Option, Some, None, option_map, Result, Ok, Err, codes, le-ltb, lt-ltb, suc, zero, Bor, arith}
use Rattle.std.specs.Prelude.{IfOk, nat_eq, nat_lt}
use Rattle.std.specs.List.{list_any}
use Rattle.std.specs.Str.{IsUtf8}
use Rattle.std.proofs.lemmas.List.{length-append}
use Rattle.std.proofs.lemmas.Str.{is_utf8-from_IsUtf8}
use Rattle.json.specs.Json.{after_end_array, read_key}
use Rattle.json.specs.Lex.{tokens}
use Rattle.json.specs.Token.{Token, begin_array, begin_object, key}
use Rattle.serde_json.specs.Data.{Data, no_members, string}
use Rattle.serde_json.specs.Find.{get_member}
use Rattle.serde_json.specs.Read.{read}
use Rattle.serde_json.specs.View.{items_of}
use Rattle.rela_flows.specs.declared.prefix.Ipv4Prefix.{Ipv4Prefix}
use Rattle.rela_json.specs.declared.error.LoadError.{LoadError}
use Rattle.rela_json.specs.declared.error.LoadError.TheVariants.{TooMany}
use Rattle.rela_json.specs.Fields.{entries_of, few_entries_of, part_of, string_of, whole_number_of}
use Rattle.rela_json.specs.Parts.{list_of as entries_in, member_of}
use Rattle.rela_json.specs.Reading.{reading}
use Rattle.rela_json.specs.Results.{◌>>=◌, try_map}
use Rattle.rela_locations.specs.Network.{Network}
use Rattle.rela_names.specs.declared.level.Level.TheVariants.{Device, Interface}
use Rattle.rela_snapshot.specs.Steps.{IsAnswer}
use Rattle.rela_tokens.specs.Holds.{Holds, HoldsAll, HoldsMembers}
use Rattle.rela_tokens.specs.Objects.{object_of, puts}
use Rattle.rela_tokens.specs.Pieces.{data_of, list, text, whole}
use Rattle.rela_tokens.specs.Pieces.{member_of as named_data}
use Rattle.rela_tokens.specs.declared.piece.Member.{Member}
use Rattle.rela_tokens.specs.declared.piece.Piece.{Piece}
use Rattle.rela_tables.specs.declared.route.Route.{Route}
use Rattle.rela_tables.specs.declared.table.Table.{Table}
use Rattle.rela_tables.specs.Distinct.{devices_of, keys_of}
use Rattle.rela_tables.specs.Entries.{symbol_of}
use Rattle.rela_tables.specs.Forwarding.{route_count}
use Rattle.rela_tables.specs.Load.{AreTablesAfter, LoadTables}
use Rattle.rela_tables.specs.Plain.{ArePlainRoutes, ArePlainTables, IsPlainRoute, IsPlainTable, Opens, OpensTable, entry_of}
use Rattle.rela_tables.specs.RouteParts.{hop_of, hops_of, listed_hops_of, prefix_text_of}
use Rattle.rela_tables.specs.Routes.{AreRoutes, IsPrefix, IsPrefixOf, IsRoute}
use Rattle.rela_tables.specs.Starts.{start_of, starts_from}
use Rattle.rela_tables.specs.TableParts.{contents_of, device_of, head_of, route_entries_of}
use Rattle.rela_tables.proofs.Loops.{with_front}
use Rattle.rela_tables.proofs.WalkLaws.{AreReadSo, AreTablesSo, all_routes, all_tables, file_whole, has_json, no_tables_yet, none_read, prefix_read, route_goes_on, table_goes_on, table_whole}

-- ---- what a look-up among the members shows

pub found_is : (name : List ℕ) (ms : List Member) (o : Option (Bor Piece)) (piece : Bor Piece) (x : Data) → option_map (λ (p : Bor Piece). data_of p.now) o ≡ get_member name (puts (map named_data ms) no_members)
    → o ≡ Some piece → data_of piece.now ≡ x → member_of name (entry_of ms) ≡ Some (Some x)
found_is name ms o piece x found some is = ap (λ (r : Option Data). Some r) (sym found ∙ ap (option_map (λ (p : Bor Piece). data_of p.now)) some ∙ ap (λ (y : Data). Some y) is)

pub missing_is : (name : List ℕ) (ms : List Member) (o : Option (Bor Piece)) → option_map (λ (p : Bor Piece). data_of p.now) o ≡ get_member name (puts (map named_data ms) no_members)
    → o ≡ None → member_of name (entry_of ms) ≡ Some None
missing_is name ms o found none = ap (λ (r : Option Data). Some r) (sym found ∙ ap (option_map (λ (p : Bor Piece). data_of p.now)) none)

-- ---- lists

entries_are : (ds : List Data) → entries_in (items_of ds) ≡ ds
entries_are [] = refl
entries_are (d ∷ ds) = ap (λ (es : List Data). d ∷ es) (entries_are ds)

pub same_at : {X : Type 0} (xs : List X) (k : ℕ) (a b : X) → k < length xs → get_or xs k a ≡ get_or xs k b
same_at [] k a b lt = absurd (omega arith)
same_at (x ∷ xs) zero a b lt = refl
same_at (x ∷ xs) (suc k) a b lt = same_at xs k a b (omega arith)

all_more : (k : ℕ) (old mid new : List Token) (ds : List Data) (d : Data) → HoldsAll k old ds mid → Holds k mid d new → HoldsAll k old (ds ++ d ∷ []) new
all_more k old mid new [] d h one = (new, subst (λ (ts : List Token). Holds k ts d new) (sym h) one, refl)
all_more k old mid new (e ∷ ds) d h one = (h.0, h.1, all_more k h.0 mid new ds d h.2 one)

deeper : (k l : ℕ) (old new : List Token) (d : Data) → k ≤ l → Holds k old d new → Holds l old d new
deeper k l old new d le h = record { reads = λ n far. h.reads n (omega arith); shorter = h.shorter }

-- ---- a route

pub prefix_taken : (row : ℕ) (d : Data) (bytes s : List ℕ) (r : Result Ipv4Prefix LoadError) → bytes ≡ s → member_of (codes "prefix") d ≡ Some (Some (string s)) → IsAnswer (IsPrefix row bytes) r → IsAnswer (IsPrefixOf row d) r
unfolding prefix_text_of part_of string_of
prefix_taken row d bytes s r same has is = prefix_read row d bytes r (rw has (ap (λ (t : List ℕ). Ok t) (sym same))) is

pub route_kept : {E : Type 0} (network : Network) (earlier : List (ℕ × ℕ)) (row : ℕ) (old new : List Token) (items now : List Member) (r : Result Route E) → now ≡ items → Holds 3 old (entry_of items) new
    → IfOk r (λ route. IsAnswer (IsRoute network earlier row (entry_of now)) (Ok route)) → IfOk r (λ route. IsPlainRoute network earlier row old route new)
route_kept network earlier row old new items now (Ok route) same held is = record {
  entry = entry_of items;
  held = held;
  answer = subst (λ (ms : List Member). IsAnswer (IsRoute network earlier row (entry_of ms)) (Ok route)) same is;
}
route_kept network earlier row old new items now (Err e) same held is = tt

pub hops_taken : (network : Network) (row : ℕ) (d : Data) (names : List (Bor (List ℕ))) (hops : List ℕ) → member_of (codes "hops") d ≡ Some (Some (list (map text names))) → try_map (hop_of network row) (map text names) ≡ Ok hops
    → hops_of network row d ≡ Ok (Some hops)
unfolding hops_of listed_hops_of part_of entries_of
hops_taken network row d names hops has is =
    rw has (ap (λ (ds : List Data). try_map (hop_of network row) ds >>= λ hops. Ok (Some hops)) (entries_are (map text names)) ∙ ap (λ (r : Result (List ℕ) LoadError). r >>= λ hops. Ok (Some hops)) is)

pub hops_missing : (network : Network) (row : ℕ) (d : Data) → member_of (codes "hops") d ≡ Some None → hops_of network row d ≡ Ok None
unfolding hops_of listed_hops_of part_of
hops_missing network row d has = rw has refl

pub hop_taken : (network : Network) (row : ℕ) (names : List (Bor (List ℕ))) (i : ℕ) (one other : Bor (List ℕ)) (bytes : List ℕ) (hop : ℕ) → i < length names → bytes ≡ (get_or names i other).now → symbol_of Interface network row bytes ≡ Ok hop
    → hop_of network row (text (get_or names i one)) ≡ Ok hop
unfolding hop_of string_of
hop_taken network row names i one other bytes hop lt is found = ap (symbol_of Interface network row) (ap (λ (b : Bor (List ℕ)). b.now) (same_at names i one other lt) ∙ sym is) ∙ found

pub start_taken : (network : Network) (row : ℕ) (names : List (Bor (List ℕ))) (i : ℕ) (one other : Bor (List ℕ)) (bytes : List ℕ) (start : ℕ) → i < length names → bytes ≡ (get_or names i other).now → symbol_of Interface network row bytes ≡ Ok start
    → start_of network row (text (get_or names i one)) ≡ Ok start
unfolding start_of string_of
start_taken network row names i one other bytes start lt is found = ap (symbol_of Interface network row) (ap (λ (b : Bor (List ℕ)). b.now) (same_at names i one other lt) ∙ sym is) ∙ found

-- ---- a loop that collects results, of which one more is there

front_more : {A E : Type 0} (front new : List A) (x : A) (left rest whole : Result (List A) E) → left ≡ (rest >>= λ xs. Ok (x ∷ xs)) → new ≡ front ++ x ∷ [] → with_front front left ≡ whole → with_front new rest ≡ whole
front_more {A} {E} front new x left (Ok xs) whole is made so_far =
    let joined : new ++ xs ≡ front ++ x ∷ xs = ap (λ ys. ys ++ xs) made ∙ append_assoc front (x ∷ []) xs in
    ap (λ ys. Ok ys) joined ∙ sym (ap (with_front front) is) ∙ so_far
front_more {A} {E} front new x left (Err e) whole is made so_far = sym (ap (with_front front) is) ∙ so_far

pub hops_more : (network : Network) (row : ℕ) (front new : List ℕ) (x : ℕ) (d : Data) (left rest : List Data) (all : Result (List ℕ) LoadError) → left ≡ d ∷ rest → hop_of network row d ≡ Ok x → new ≡ front ++ x ∷ []
    → with_front front (try_map (hop_of network row) left) ≡ all → with_front new (try_map (hop_of network row) rest) ≡ all
hops_more network row front new x d left rest all next is =
    front_more front new x (try_map (hop_of network row) left) (try_map (hop_of network row) rest) all
    (ap (try_map (hop_of network row)) next ∙ ap (λ (r : Result ℕ LoadError). r >>= λ y. try_map (hop_of network row) rest >>= λ ys. Ok (y ∷ ys)) is)

pub starts_more : (network : Network) (row : ℕ) (front new : List ℕ) (x : ℕ) (d : Data) (left rest : List Data) (all : Result (List ℕ) LoadError) → left ≡ d ∷ rest → start_of network row d ≡ Ok x → new ≡ front ++ x ∷ []
    → with_front front (starts_from network row left) ≡ all → with_front new (starts_from network (row + 1) rest) ≡ all
starts_more network row front new x d left rest all next is =
    front_more front new x (starts_from network row left) (starts_from network (row + 1) rest) all
    (ap (starts_from network row) next ∙ ap (λ (r : Result ℕ LoadError). r >>= λ y. starts_from network (row + 1) rest >>= λ ys. Ok (y ∷ ys)) is)

-- ---- the routes of a table

-- `old` begins with the entries of these routes, `new` follows them, and whatever entries come next, they leave those to be read
pub record RoutesSoFar (network : Network) (first row : ℕ) (old : List Token) (routes : List Route) (new : List Token) : Type 0 where
  pub entries : List Data
  pub held : HoldsAll 3 old entries new
  pub read : (rest : List Data) → AreReadSo network first row (entries ++ rest) rest routes
  pub as_many : length entries ≡ length routes

pub no_route : (network : Network) (first : ℕ) (old : List Token) (routes : List Route) → routes ≡ [] → RoutesSoFar network first first old routes old
no_route network first old routes none = rw none (record { entries = []; held = refl; read = λ rest. none_read network first rest rest [] refl refl; as_many = refl })

pub next_route : (network : Network) (first row : ℕ) (old mid place new : List Token) (keys : List (ℕ × ℕ)) (routes more : List Route) (route : Route) → place ≡ mid → keys ≡ keys_of routes → more ≡ routes ++ route ∷ []
    → RoutesSoFar network first row old routes mid → IsPlainRoute network keys row place route new → RoutesSoFar network first (row + 1) old more new
next_route network first row old mid place new keys routes more route here known is so_far one =
    let d : Data = one.entry in
    let held : Holds 3 mid d new = subst (λ (ts : List Token). Holds 3 ts d new) here one.held in
    record {
      entries = so_far.entries ++ d ∷ [];
      held = all_more 3 old mid new so_far.entries d so_far.held held;
      read = λ rest. subst (λ (all : List Data). AreReadSo network first (row + 1) all rest more) (sym (append_assoc so_far.entries (d ∷ []) rest))
          (route_goes_on network first row (so_far.entries ++ d ∷ rest) (d ∷ rest) rest d routes more keys route refl known is one.answer (so_far.read (d ∷ rest)));
      as_many = omega (arith, so_far.as_many, length-append so_far.entries (d ∷ []), ap length is, length-append routes (route ∷ []));
    }

pub all_plain_routes : (network : Network) (first row : ℕ) (old last new : List Token) (routes : List Route)
    → ((k : ℕ) (old mid new : List Token) (ds : List Data) → HoldsAll k old ds mid → after_end_array mid ≡ Some new → Holds (k + 1) (begin_array ∷ old) (list ds) new)
    → RoutesSoFar network first row old routes last → after_end_array last ≡ Some new → ArePlainRoutes network first (begin_array ∷ old) routes new
all_plain_routes network first row old last new routes array so_far closed = record {
  entries = so_far.entries;
  held = array 3 old last new so_far.entries so_far.held closed;
  answer = subst (λ (ds : List Data). IsAnswer (AreRoutes network first [] ds) (Ok routes)) (append-nil so_far.entries) (all_routes network first row (so_far.entries ++ []) [] routes refl (so_far.read []));
  as_many = so_far.as_many;
}

-- ---- a table

abbrev table_members : List ℕ → List Data → List (List ℕ × Data)
table_members name ds = (codes "device", string name) ∷ (codes "routes", list ds) ∷ []

device_is : (network : Network) (earlier : List ℕ) (row device : ℕ) (name : List ℕ) (ds : List Data) → symbol_of Device network row name ≡ Ok device → list_any (nat_eq device) earlier ≡ false
    → device_of network earlier row (object_of (table_members name ds)) ≡ Ok device
unfolding device_of part_of string_of
device_is network earlier row device name ds is new = rw is (rw new refl)

route_entries_are : (row : ℕ) (name : List ℕ) (ds : List Data) → length ds ≤ 10000 → route_entries_of row (object_of (table_members name ds)) ≡ Ok ds
unfolding route_entries_of few_entries_of part_of entries_of
route_entries_are row name ds few =
    let check : List Data → Result (List Data) LoadError = λ es. cond (nat_lt 10000 (length es)) (Err (TooMany row)) (Ok es) in
    ap check (entries_are ds) ∙ ap (λ (b : Bool). cond b (Err (TooMany row)) (Ok ds)) (le-ltb 10000 (length ds) few)

head_is : (network : Network) (earlier : List ℕ) (device : ℕ) (name : List ℕ) (ds : List Data) → length earlier < 100000 → symbol_of Device network (length earlier) name ≡ Ok device → list_any (nat_eq device) earlier ≡ false
    → length ds ≤ 10000 → head_of network earlier (object_of (table_members name ds)) ≡ Ok (device, ds)
unfolding head_of
head_is network earlier device name ds room is new few =
    rw (lt-ltb (length earlier) 100000 room, device_is network earlier (length earlier) device name ds is new, route_entries_are (length earlier) name ds few) refl

pub table_read : (network : Network) (earlier : List ℕ) (count device : ℕ) (name : List ℕ) (old opened last new : List Token) (routes : List Route)
    → ((k : ℕ) (old mid new : List Token) (ms : List (List ℕ × Data)) → HoldsMembers k old ms mid → read_key mid ≡ Some (None, new) → Holds (k + 1) (begin_object ∷ old) (object_of ms) new)
    → length earlier < 100000 → symbol_of Device network (length earlier) name ≡ Ok device → list_any (nat_eq device) earlier ≡ false → length routes ≤ 10000
    → OpensTable old name opened → ArePlainRoutes network count (begin_array ∷ opened) routes last → read_key last ≡ Some (None, new) → IsPlainTable network earlier count old (record { device = device; routes = routes }) new
table_read network earlier count device name old opened last new routes object room is fresh few opens plain closed =
    let ds : List Data = plain.entries in
    let d : Data = object_of (table_members name ds) in
    let members : HoldsMembers 4 (key (codes "device") ∷ opens.first) (table_members name ds) last =
    (opens.first, opens.last, refl, deeper 0 4 opens.first opens.last (string name) (omega arith) opens.device, (begin_array ∷ opened, last, opens.routes, plain.held, refl)) in
    record {
      entry = d;
      held = subst (λ (ts : List Token). Holds 5 ts d new) (sym opens.begins) (object 4 (key (codes "device") ∷ opens.first) last new (table_members name ds) members closed);
      answer = table_whole network earlier count device d ds routes (head_is network earlier device name ds room is fresh (omega (arith, few, plain.as_many))) plain.answer;
    }

-- ---- the tables

pub record TablesSoFar (network : Network) (old : List Token) (tables : List Table) (new : List Token) : Type 0 where
  pub entries : List Data
  pub held : HoldsAll 5 old entries new
  pub read : (rest : List Data) → AreTablesSo network (entries ++ rest) rest tables

pub no_table : (network : Network) (old : List Token) (tables : List Table) → tables ≡ [] → TablesSoFar network old tables old
no_table network old tables none = rw none (record { entries = []; held = refl; read = λ rest. no_tables_yet network rest rest [] refl refl })

pub next_table : (network : Network) (count : ℕ) (old mid place new : List Token) (devices : List ℕ) (tables more : List Table) (table : Table) → place ≡ mid → devices ≡ devices_of tables → count ≡ route_count tables → more ≡ tables ++ table ∷ []
    → TablesSoFar network old tables mid → IsPlainTable network devices count place table new → TablesSoFar network old more new
next_table network count old mid place new devices tables more table here known counted is so_far one =
    let d : Data = one.entry in
    let held : Holds 5 mid d new = subst (λ (ts : List Token). Holds 5 ts d new) here one.held in
    record {
      entries = so_far.entries ++ d ∷ [];
      held = all_more 5 old mid new so_far.entries d so_far.held held;
      read = λ rest. subst (λ (all : List Data). AreTablesSo network all rest more) (sym (append_assoc so_far.entries (d ∷ []) rest))
          (table_goes_on network (so_far.entries ++ d ∷ rest) (d ∷ rest) rest d tables more devices count table refl known counted is one.answer (so_far.read (d ∷ rest)));
    }

pub all_plain_tables : (network : Network) (old last new : List Token) (tables : List Table)
    → ((k : ℕ) (old mid new : List Token) (ds : List Data) → HoldsAll k old ds mid → after_end_array mid ≡ Some new → Holds (k + 1) (begin_array ∷ old) (list ds) new)
    → TablesSoFar network old tables last → after_end_array last ≡ Some new → ArePlainTables network (begin_array ∷ old) tables new
all_plain_tables network old last new tables array so_far closed = record {
  entries = so_far.entries;
  held = array 5 old last new so_far.entries so_far.held closed;
  answer = subst (λ (ds : List Data). IsAnswer (AreTablesAfter network [] ds) (Ok tables)) (append-nil so_far.entries) (all_tables network (so_far.entries ++ []) [] tables refl (so_far.read []));
}

-- ---- the file

abbrev file_members : List Data → List Data → List (List ℕ × Data)
file_members ss ds = (codes "version", whole 1) ∷ (codes "starts", list ss) ∷ (codes "tables", list ds) ∷ []

contents_are : (network : Network) (ss ds : List Data) (starts : List ℕ) → starts_from network 0 ss ≡ Ok starts → contents_of network (object_of (file_members ss ds)) ≡ Ok (starts, ds)
unfolding contents_of part_of whole_number_of entries_of
contents_are network ss ds starts is =
    let with_tables : Result (List ℕ) LoadError → Result (List ℕ × List Data) LoadError = λ r. r >>= λ found. Ok (found, entries_in (items_of ds)) in
    ap (λ (es : List Data). with_tables (starts_from network 0 es)) (entries_are ss) ∙ ap with_tables is ∙ ap (λ (es : List Data). Ok (starts, es)) (entries_are ds)

reading_is : (bytes : List ℕ) (d : Data) → IsUtf8 bytes → read bytes ≡ Some d → reading bytes ≡ Some d
unfolding reading
reading_is bytes d utf8 is = ap (λ (b : Bool). cond b (read bytes) None) (is_utf8-from_IsUtf8 bytes utf8) ∙ is

pub file_read : (network : Network) (bytes s : List ℕ) (start opened last : List Token) (starts : List ℕ) (tables : List Table)
    → ((k : ℕ) (old mid new : List Token) (ms : List (List ℕ × Data)) → HoldsMembers k old ms mid → read_key mid ≡ Some (None, new) → Holds (k + 1) (begin_object ∷ old) (object_of ms) new)
    → ((k : ℕ) (bytes : List ℕ) (d : Data) → k ≤ 127 → Holds k (tokens bytes) d [] → read bytes ≡ Some d)
    → (s ≡ bytes) × IsUtf8 bytes → start ≡ tokens s → Opens network start starts opened → ArePlainTables network (begin_array ∷ opened) tables last → read_key last ≡ Some (None, [])
    → IsAnswer (LoadTables network bytes) (Ok (record { starts = starts; tables = tables }))
file_read network bytes s start opened last starts tables object text utf8 begins opens plain closed =
    let ss : List Data = opens.entries in
    let ds : List Data = plain.entries in
    let d : Data = object_of (file_members ss ds) in
    let versioned = opens.version in
    let members : HoldsMembers 6 (key (codes "version") ∷ versioned.first) (file_members ss ds) last = (
      versioned.first,
      opens.first,
      refl,
      deeper 0 6 versioned.first opens.first (whole 1) (omega arith) versioned.version,
      (opens.second, opens.last, opens.starts_key, deeper 2 6 opens.second opens.last (list ss) (omega arith) opens.listed, (begin_array ∷ opened, last, opens.tables, plain.held, refl)),
    ) in
    let held : Holds 7 (tokens bytes) d [] =
    subst (λ (ts : List Token). Holds 7 ts d []) (sym versioned.begins ∙ begins ∙ ap tokens utf8.0) (object 6 (key (codes "version") ∷ versioned.first) last [] (file_members ss ds) members closed) in
    let is : reading bytes ≡ Some d = reading_is bytes d utf8.1 (text 7 bytes d (omega arith) held) in
    has_json network bytes d (Ok (record { starts = starts; tables = tables })) is (file_whole network d starts ds tables (contents_are network ss ds starts opens.starts_are) plain.answer)
