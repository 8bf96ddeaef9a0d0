-- Values that stand at the front of tokens, from their parts.
use Rattle.std.proofs.Common.{◌≡◌, ℕ, ◌+◌, ◌-◌, ◌≤◌, List, [], ◌∷◌, ◌++◌, length, Option, Some, None, option_and_then, refl, sym, ap, ◌∙◌, subst, arith}
use Rattle.json.specs.Token.{Token}
use Rattle.json.specs.Lex.{tokens}
use Rattle.json.specs.Json as json
use Rattle.json.specs.Json.{after_end_array, read_key, items, members, parse_map, value}
use Rattle.json.proofs.Grammar.{value_is, value-begin_array, value-begin_object, after_end_array-shorter, read_key-shorter}
use Rattle.serde_json.specs.Data.{Data, Members, array, item, no_members, number, object, put, string, unsigned}
use Rattle.serde_json.specs.Read.{converted, number_of, of_items, of_json, of_members, read}
use Rattle.serde_json.specs.View.{items_of}
use Rattle.rela_tokens.proofs.Turns.{converted-array, converted-object, converted_some, item_read, items_over, member_read, members_over}
use Rattle.rela_tokens.specs.Holds.{Holds, HoldsAll, HoldsMembers}
use Rattle.rela_tokens.specs.Objects.{object_of, puts}

-- ---- one token

pub string_holds : (k : ℕ) (s : List ℕ) (new : List Token) → Holds k (Token.string s ∷ new) (string s) new
string_holds k s new = record {
  reads = λ n le. ap (converted of_json) (value_is n (Token.string s ∷ new));
  shorter = omega arith;
}

pub number_holds : (k : ℕ) (s : List ℕ) (m : ℕ) (new : List Token) → number_of s ≡ Some (unsigned m) → Holds k (Token.number s ∷ new) (number (unsigned m)) new
number_holds k s m new is = record {
  reads = λ n le. ap (converted of_json) (value_is n (Token.number s ∷ new)) ∙ rw is;
  shorter = omega arith;
}

pub deeper : (k l : ℕ) (old new : List Token) (d : Data) → k ≤ l → Holds k old d new → Holds l old d new
deeper k l old new d le h = record { reads = λ n far. h.reads n (omega arith); shorter = h.shorter }

-- ---- the values of an array

no_value : (n : ℕ) (ts : List Token) (d : Data) (new : List Token) → value n ts ≡ None → converted of_json (value n ts) ≡ Some (d, new) → ⊥
no_value n ts d new none is = absurd (let other = ap (converted of_json) none in cc)

not_closed : (n : ℕ) (ts : List Token) (d : Data) (new : List Token) → converted of_json (value n ts) ≡ Some (d, new) → after_end_array ts ≡ None
not_closed n [] d new is = refl
not_closed n (Token.begin_object ∷ ts) d new is = refl
not_closed n (Token.end_object ∷ ts) d new is = refl
not_closed n (Token.begin_array ∷ ts) d new is = refl
not_closed n (Token.end_array ∷ ts) d new is = absurd (no_value n (Token.end_array ∷ ts) d new (value_is n (Token.end_array ∷ ts)) is)
not_closed n (Token.key s ∷ ts) d new is = refl
not_closed n (Token.string s ∷ ts) d new is = refl
not_closed n (Token.number s ∷ ts) d new is = refl
not_closed n (Token.boolean b ∷ ts) d new is = refl
not_closed n (Token.null ∷ ts) d new is = refl
not_closed n (Token.bad ∷ ts) d new is = refl

all_shorter : (k : ℕ) (old new : List Token) (ds : List Data) → HoldsAll k old ds new → length new ≤ length old
all_shorter k old new [] h = rw h (omega arith)
all_shorter k old new (d ∷ ds) h = let less = h.1.shorter in let rest = all_shorter k h.0 new ds h.2 in omega arith

items_held : (k n m : ℕ) → k ≤ n → (old mid new : List Token) (ds : List Data) → length old ≤ m → HoldsAll k old ds mid → after_end_array mid ≡ Some new
    → converted of_items (items (value n) m old) ≡ Some (items_of ds, new)
items_held k n m le old mid new [] room h closed = items_over (value n) m old new room (ap after_end_array h ∙ closed)
items_held k n m le old mid new (d ∷ ds) room h closed =
    let is = h.1.reads n le in
    let less = h.1.shorter in
    item_read (value n) m old h.0 d (omega arith) (not_closed n old d h.0 is) is ∙ ap (parse_map (item d)) (items_held k n (m - 1) le h.0 mid new ds (omega arith) h.2 closed)

pub array_holds : (k : ℕ) (old mid new : List Token) (ds : List Data) → HoldsAll k old ds mid → after_end_array mid ≡ Some new → Holds (k + 1) (Token.begin_array ∷ old) (array (items_of ds)) new
array_holds k old mid new ds h closed = record {
  reads = λ n le. ap (converted of_json) (value-begin_array n old (omega arith)) ∙ converted-array (items (value (n - 1)) (length old) old)
      ∙ ap (parse_map array) (items_held k (n - 1) (length old) (omega arith) old mid new ds (omega arith) h closed);
  shorter = let less = all_shorter k old mid ds h in let last = after_end_array-shorter mid new closed in omega arith;
}

-- one more value behind those that are there
pub all_more : (k : ℕ) (old mid new : List Token) (ds : List Data) (d : Data) → HoldsAll k old ds mid → Holds k mid d new → HoldsAll k old (ds ++ d ∷ []) new
all_more k old mid new [] d h one = (new, subst (λ (ts : List Token). Holds k ts d new) (sym h) one, refl)
all_more k old mid new (e ∷ ds) d h one = (h.0, h.1, all_more k h.0 mid new ds d h.2 one)

-- ---- the members of an object

members_shorter : (k : ℕ) (old new : List Token) (ms : List (List ℕ × Data)) → HoldsMembers k old ms new → length new ≤ length old
members_shorter k old new [] h = rw h (omega arith)
members_shorter k old new (m ∷ ms) h =
    let key = ap length h.2 in
    let less = h.3.shorter in
    let rest = members_shorter k h.1 new ms h.4 in
    omega arith

members_held : (k n m : ℕ) → k ≤ n → (old mid new : List Token) (ms : List (List ℕ × Data)) (found : Members) → length old ≤ m → HoldsMembers k old ms mid → read_key mid ≡ Some (None, new)
    → converted (λ js. of_members js found) (members (value n) m old) ≡ Some (puts ms found, new)
members_held k n m le old mid new [] found room h closed = members_over (value n) found m old new room (ap read_key h ∙ closed)
members_held k n m le old mid new (one ∷ ms) found room h closed =
    let key = ap length h.2 in
    let is = h.3.reads n le in
    let less = h.3.shorter in
    member_read (value n) found m one.0 old h.0 h.1 one.1 (omega arith) (ap read_key h.2) is
    ∙ members_held k n (m - 1) le h.1 mid new ms (put one.0 one.1 found) (omega arith) h.4 closed

pub object_holds : (k : ℕ) (old mid new : List Token) (ms : List (List ℕ × Data)) → HoldsMembers k old ms mid → read_key mid ≡ Some (None, new) → Holds (k + 1) (Token.begin_object ∷ old) (object_of ms) new
object_holds k old mid new ms h closed = record {
  reads = λ n le. ap (converted of_json) (value-begin_object n old (omega arith)) ∙ converted-object (members (value (n - 1)) (length old) old)
      ∙ ap (parse_map object) (members_held k (n - 1) (length old) (omega arith) old mid new ms no_members (omega arith) h closed);
  shorter = let less = members_shorter k old mid ms h in let last = read_key-shorter mid None new closed in omega arith;
}

-- one more member behind those that are there
pub members_more : (k : ℕ) (old mid first new : List Token) (ms : List (List ℕ × Data)) (m : List ℕ × Data) → HoldsMembers k old ms mid → mid ≡ Token.key m.0 ∷ first → Holds k first m.1 new
    → HoldsMembers k old (ms ++ m ∷ []) new
members_more k old mid first new [] m h key one = (first, new, h ∙ key, one, refl)
members_more k old mid first new (e ∷ ms) m h key one = (h.0, h.1, h.2, h.3, members_more k h.1 mid first new ms m h.4 key one)

-- ---- the whole text

abbrev whole : Option (json.Json × List Token) → Option Data
whole o = option_and_then of_json (option_and_then (λ p. json.if_last p.0 p.1) o)

pub text_holds : (k : ℕ) (bytes : List ℕ) (d : Data) → k ≤ 127 → Holds k (tokens bytes) d [] → read bytes ≡ Some d
text_holds k bytes d le h = let j = converted_some of_json (value 127 (tokens bytes)) d [] (h.reads 127 le) in ap whole j.1 ∙ j.2
