-- The flows of a plain file, one behind another, and the file around them.
use Rattle.std.proofs.Common.{◌≡◌, ◌∙◌, refl, sym, ap, subst, ℕ, ◌+◌, ◌≤◌, List, [], ◌∷◌, ◌++◌, append-nil, append_assoc, Bool, cond, Some, None, Ok, codes, arith}
use Rattle.std.specs.Str.{IsUtf8}
use Rattle.std.proofs.lemmas.Str.{is_utf8-from_IsUtf8}
use Rattle.json.specs.Json.{after_end_array, read_key}
use Rattle.json.specs.Lex.{tokens}
use Rattle.json.specs.Token.{Token, begin_array, begin_object, key}
use Rattle.serde_json.specs.Data.{Data}
use Rattle.serde_json.specs.Read.{read}
use Rattle.rela_json.specs.Fields.{entries_of, part_of, whole_number_of}
use Rattle.rela_json.specs.Reading.{reading}
use Rattle.rela_locations.specs.Network.{Network}
use Rattle.rela_tokens.specs.Holds.{Holds, HoldsAll, HoldsMembers}
use Rattle.rela_tokens.specs.Objects.{object_of}
use Rattle.rela_tokens.specs.Pieces.{list, whole}
use Rattle.rela_snapshot.specs.declared.snapshot.Flow.{Flow}
use Rattle.rela_snapshot.specs.declared.version.Version.TheVariants.{One}
use Rattle.rela_snapshot.specs.Contents.{contents_of}
use Rattle.rela_snapshot.specs.FlowEntry.{ListedFlow}
use Rattle.rela_snapshot.specs.Flows.{AreFlows, AreFlowsOf}
use Rattle.rela_snapshot.specs.Load.{Load}
use Rattle.rela_snapshot.specs.Plain.{ArePlainFlows, IsPlainFlow, Opens}
use Rattle.rela_snapshot.specs.SnapshotFlows.{names_of}
use Rattle.rela_snapshot.specs.Steps.{IsAnswer}
use Rattle.rela_snapshot.proofs.FlowLaws.{AreRead, has_contents, has_json, read_all, read_more, read_none}
use Rattle.rela_snapshot.proofs.PlainLaws.{entries_are}

-- ---- the flows

-- `old` begins with the entries of these flows, `new` follows them, and whatever entries come next, they leave those to be read
pub record SoFar (network : Network) (old : List Token) (flows : List Flow) (new : List Token) : Type 0 where
  pub entries : List Data
  pub held : HoldsAll 3 old entries new
  pub read : (rest : List Data) → AreRead network One (entries ++ rest) rest flows

pub no_flow : (network : Network) (old : List Token) (flows : List Flow) → flows ≡ [] → SoFar network old flows old
no_flow network old flows none = rw none (record { entries = []; held = refl; read = λ rest. read_none network One rest })

pub next_flow : (network : Network) (old mid place new : List Token) (names : List (List ℕ)) (flows more : List Flow) (flow : Flow)
    → ((k : ℕ) (old mid new : List Token) (ds : List Data) (d : Data) → HoldsAll k old ds mid → Holds k mid d new → HoldsAll k old (ds ++ d ∷ []) new) → place ≡ mid → names ≡ names_of flows → more ≡ flows ++ flow ∷ []
    → SoFar network old flows mid → IsPlainFlow network names place flow new → SoFar network old more new
next_flow network old mid place new names flows more flow one_more here known is so_far one =
    let d : Data = one.entry in
    let held : Holds 3 mid d new = subst (λ (ts : List Token). Holds 3 ts d new) here one.held in
    record {
      entries = so_far.entries ++ d ∷ [];
      held = one_more 3 old mid new so_far.entries d so_far.held held;
      read = λ rest. subst (λ (all : List Data). AreRead network One all rest more) (sym (append_assoc so_far.entries (d ∷ []) rest))
          (read_more network One (so_far.entries ++ d ∷ rest) (d ∷ rest) rest d names flows more flow refl known is (one.listed, one.answer, one.same) (so_far.read (d ∷ rest)));
    }

pub all_flows : (network : Network) (old last new : List Token) (flows : List Flow) → ((k : ℕ) (old mid new : List Token) (ds : List Data) → HoldsAll k old ds mid → after_end_array mid ≡ Some new → Holds (k + 1) (begin_array ∷ old) (list ds) new)
    → SoFar network old flows last → after_end_array last ≡ Some new → ArePlainFlows network (begin_array ∷ old) flows new
all_flows network old last new flows array so_far closed =
    let all = read_all network One (so_far.entries ++ []) [] flows refl (so_far.read []) in
    record {
      entries = so_far.entries;
      listed = all.0;
      held = array 3 old last new so_far.entries so_far.held closed;
      answer = subst (λ (ds : List Data). IsAnswer (AreFlows network One [] ds) (Ok all.0)) (append-nil so_far.entries) all.1;
      same = all.2;
    }

-- ---- the file

abbrev file_members : List Data → List (List ℕ × Data)
file_members ds = (codes "version", whole 1) ∷ (codes "flows", list ds) ∷ []

contents_are : (ds : List Data) → contents_of (object_of (file_members ds)) ≡ Ok (One, ds)
unfolding contents_of part_of whole_number_of entries_of
contents_are ds = ap (λ (es : List Data). Ok (One, es)) (entries_are ds)

reading_is : (bytes : List ℕ) (d : Data) → IsUtf8 bytes → read bytes ≡ Some d → reading bytes ≡ Some d
unfolding reading
reading_is bytes d text is = ap (λ (b : Bool). cond b (read bytes) None) (is_utf8-from_IsUtf8 bytes text) ∙ is

pub file_read : (network : Network) (bytes s : List ℕ) (start opened last : List Token) (flows : List Flow)
    → ((k : ℕ) (old mid new : List Token) (ms : List (List ℕ × Data)) → HoldsMembers k old ms mid → read_key mid ≡ Some (None, new) → Holds (k + 1) (begin_object ∷ old) (object_of ms) new)
    → ((k : ℕ) (bytes : List ℕ) (d : Data) → k ≤ 127 → Holds k (tokens bytes) d [] → read bytes ≡ Some d)
    → ((k l : ℕ) (old new : List Token) (d : Data) → k ≤ l → Holds k old d new → Holds l old d new)
    → (s ≡ bytes) × IsUtf8 bytes → start ≡ tokens s → Opens start opened → ArePlainFlows network (begin_array ∷ opened) flows last → read_key last ≡ Some (None, [])
    → (listed : List ListedFlow) × IsAnswer (Load network bytes) (Ok listed) × AreFlowsOf listed flows
file_read network bytes s start opened last flows object text deeper utf8 begins opens plain closed =
    let ds : List Data = plain.entries in
    let members : HoldsMembers 4 (key (codes "version") ∷ opens.first) (file_members ds) last =
    (opens.first, opens.second, refl, deeper 0 4 opens.first opens.second (whole 1) (omega arith) opens.version, (begin_array ∷ opened, last, opens.flows, plain.held, refl)) in
    let held : Holds 5 (tokens bytes) (object_of (file_members ds)) [] =
    subst (λ (ts : List Token). Holds 5 ts (object_of (file_members ds)) []) (sym opens.begins ∙ begins ∙ ap tokens utf8.0) (object 4 (key (codes "version") ∷ opens.first) last [] (file_members ds) members closed) in
    let is : reading bytes ≡ Some (object_of (file_members ds)) = reading_is bytes (object_of (file_members ds)) utf8.1 (text 5 bytes (object_of (file_members ds)) (omega arith) held) in
    (plain.listed, has_json network bytes (object_of (file_members ds)) (Ok plain.listed) is (has_contents network (object_of (file_members ds)) One ds (Ok plain.listed) (contents_are ds) plain.answer), plain.same)
