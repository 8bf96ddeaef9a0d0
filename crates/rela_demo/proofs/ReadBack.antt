-- Values whose compact text is read as the value again, or as one whose members have the order of their names.
use Rattle.std.proofs.Common.{◌≡◌, ◌∙◌, refl, sym, ap, ℕ, ◌+◌, ◌<◌, ◌≤◌, ◌^◌, Bool, true, false, cond, List, [], ◌∷◌, ◌++◌, map, Option, Some, None, option_map, option_and_then, IsUtf8, codes, append-nil, lt-ltb, arith, decimal}
use Rattle.std.specs.List.{All}
use Rattle.std.proofs.lemmas.List.Elements.{All-head, All-map, All-tail}
use Rattle.std.proofs.lemmas.Str.{IsUtf8-append, is_utf8-from_IsUtf8}
use Rattle.json.specs.Json as json
use Rattle.json.specs.Lex.{tokens}
use Rattle.json.specs.Print.{quoted}
use Rattle.json.specs.Token.{Token}
use Rattle.json.specs.Tree as tree
use Rattle.json.proofs.Printed.Decimals.{IsNumber-decimal}
use Rattle.json.proofs.Printed.Trees.{ArePrintable-json_tokens, value-json_tokens}
use Rattle.json.proofs.Printed.Utf8.{IsUtf8-are_ascii, IsUtf8-quoted, are_ascii}
use Rattle.serde_json.specs.Data.{Data, number, string, array, object, Items, item, no_items, Members, no_members, member, put}
use Rattle.serde_json.specs.Read.{max_depth, of_items, of_json, of_members, read}
use Rattle.serde_json.specs.View.{items_of}
use Rattle.serde_json.specs.Written.{comma_if, compact_text, items_outline, items_text, members_outline, members_text, outline}
use Rattle.serde_json.proofs.Numbers.{number_of-decimal}
use Rattle.serde_json.proofs.Texts.{print-outline}
use Rattle.rela_json.specs.Reading.{reading}
use Rattle.rela_demo.specs.Text.{list_data, number_data}
use Rattle.json.proofs.Printed.Tokens.{tokens-print}
use Rattle.rela_demo.proofs.Plain.{IsPlain, digits_plain}

-- d is no deeper than n, and its text is read as e
pub record IsReadAs (n : ℕ) (d e : Data) : Type 0 where
  pub shallow : tree.depth (outline d) ≤ n
  pub numbers : tree.HasNumbers (outline d)
  pub utf8 : IsUtf8 (compact_text d)
  pub same : of_json (outline d) ≡ Some e

-- its text is read as the value
abbrev pub IsReadBack : ℕ → Data → Type 0
IsReadBack n d = IsReadAs n d d

pub deeper : (m n : ℕ) (d : Data) → m ≤ n → IsReadBack m d → IsReadBack n d
deeper m n d le is = record { shallow = omega (arith, le, is.shallow); numbers = is.numbers; utf8 = is.utf8; same = is.same }

-- ---- numbers and strings

plain_ascii : (s : List ℕ) → All IsPlain s → are_ascii s ≡ true
plain_ascii [] h = refl
plain_ascii (x ∷ s) h = rw (lt-ltb x 128 (All-head IsPlain x s h).2, plain_ascii s (All-tail IsPlain x s h)) refl

plain_utf8 : (s : List ℕ) → All IsPlain s → IsUtf8 s
plain_utf8 s h = IsUtf8-are_ascii s (plain_ascii s h)

pub number_back : (n : ℕ) → n < 2 ^ 64 → IsReadBack 0 (number_data n)
number_back n lt = record { shallow = omega arith; numbers = IsNumber-decimal n lt; utf8 = plain_utf8 (decimal n) (digits_plain n lt); same = ap (option_map number) (number_of-decimal n lt) }

pub string_back : (s : List ℕ) → All IsPlain s → IsReadBack 0 (string s)
string_back s h = record { shallow = omega arith; numbers = tt; utf8 = IsUtf8-quoted s (plain_utf8 s h); same = refl }

-- ---- arrays

comma_utf8 : (later : Bool) → IsUtf8 (comma_if later)
comma_utf8 true = IsUtf8-are_ascii (44 ∷ []) refl
comma_utf8 false = IsUtf8-are_ascii [] refl

record AreReadAs (n : ℕ) (ds es : Items) : Type 0 where
  shallow : tree.items_depth (items_outline ds) ≤ n
  numbers : tree.ItemsHaveNumbers (items_outline ds)
  utf8 : (later : Bool) → IsUtf8 (items_text later ds)
  same : of_items (items_outline ds) ≡ Some es

no_items_as : (n : ℕ) → AreReadAs n no_items no_items
no_items_as n = record { shallow = omega arith; numbers = tt; utf8 = λ later. IsUtf8-are_ascii (93 ∷ []) refl; same = refl }

item_as : (n : ℕ) (d e : Data) (ds es : Items) → IsReadAs n d e → AreReadAs n ds es → AreReadAs n (item d ds) (item e es)
item_as n d e ds es one rest = record {
  shallow = omega (arith, one.shallow, rest.shallow);
  numbers = (one.numbers, rest.numbers);
  utf8 = λ later. IsUtf8-append (comma_if later) (compact_text d ++ items_text true ds) (comma_utf8 later) (IsUtf8-append (compact_text d) (items_text true ds) one.utf8 (rest.utf8 true));
  same = ap (option_and_then (λ x. option_map (item x) (of_items (items_outline ds)))) one.same ∙ ap (option_map (item e)) rest.same;
}

items_back : (n : ℕ) (ds : List Data) → All (IsReadBack n) ds → AreReadAs n (items_of ds) (items_of ds)
items_back n [] h = no_items_as n
items_back n (x ∷ xs) h = item_as n x x (items_of xs) (items_of xs) (All-head (IsReadBack n) x xs h) (items_back n xs (All-tail (IsReadBack n) x xs h))

array_as : (n : ℕ) (ds es : Items) → AreReadAs n ds es → IsReadAs (n + 1) (array ds) (array es)
array_as n ds es is = record {
  shallow = omega (arith, is.shallow);
  numbers = is.numbers;
  utf8 = IsUtf8-append (91 ∷ []) (items_text false ds) (IsUtf8-are_ascii (91 ∷ []) refl) (is.utf8 false);
  same = ap (option_map array) is.same;
}

pub array_back : (n : ℕ) (ds : List Data) → All (IsReadBack n) ds → IsReadBack (n + 1) (array (items_of ds))
array_back n ds h = array_as n (items_of ds) (items_of ds) (items_back n ds h)

-- an array of one entry
pub single_as : (n : ℕ) (d e : Data) → IsReadAs n d e → IsReadAs (n + 1) (array (items_of (d ∷ []))) (array (items_of (e ∷ [])))
single_as n d e is = array_as n (items_of (d ∷ [])) (items_of (e ∷ [])) (item_as n d e no_items no_items is (no_items_as n))

pub list_back : {A : Type 0} (n : ℕ) (f : A → Data) (xs : List A) → All (λ x. IsReadBack n (f x)) xs → IsReadBack (n + 1) (list_data f xs)
list_back n f xs h = array_back n (map f xs) (All-map (IsReadBack n) f xs h)

-- ---- objects

record AreMembersBack (n : ℕ) (ms : Members) : Type 0 where
  shallow : tree.members_depth (members_outline ms) ≤ n
  numbers : tree.MembersHaveNumbers (members_outline ms)
  utf8 : (later : Bool) → IsUtf8 (members_text later ms)

no_members_back : (n : ℕ) → AreMembersBack n no_members
no_members_back n = record { shallow = omega arith; numbers = tt; utf8 = λ later. IsUtf8-are_ascii (125 ∷ []) refl }

member_back : (n : ℕ) (k : List ℕ) (d : Data) {e : Data} (ms : Members) → are_ascii k ≡ true → IsReadAs n d e → AreMembersBack n ms → AreMembersBack n (member k d ms)
member_back n k d ms ascii one rest =
    let after : List ℕ = compact_text d ++ members_text true ms in
    let entry : IsUtf8 (quoted k ++ 58 ∷ after) = IsUtf8-append (quoted k) (58 ∷ after) (IsUtf8-quoted k (IsUtf8-are_ascii k ascii))
    (IsUtf8-append (58 ∷ []) after (IsUtf8-are_ascii (58 ∷ []) refl) (IsUtf8-append (compact_text d) (members_text true ms) one.utf8 (rest.utf8 true))) in
    record {
      shallow = omega (arith, one.shallow, rest.shallow);
      numbers = (one.numbers, rest.numbers);
      utf8 = λ later. IsUtf8-append (comma_if later) (quoted k ++ 58 ∷ after) (comma_utf8 later) entry;
    }

object_as : (n : ℕ) (ms es : Members) → AreMembersBack n ms → of_members (members_outline ms) no_members ≡ Some es → IsReadAs (n + 1) (object ms) (object es)
object_as n ms es is same = record {
  shallow = omega (arith, is.shallow);
  numbers = is.numbers;
  utf8 = IsUtf8-append (123 ∷ []) (members_text false ms) (IsUtf8-are_ascii (123 ∷ []) refl) (is.utf8 false);
  same = ap (option_map object) same;
}

next_put : (n : ℕ) (k : List ℕ) (d : Data) {e : Data} (ms found : Members) → IsReadAs n d e → of_members (json.member k (outline d) (members_outline ms)) found ≡ of_members (members_outline ms) (put k e found)
next_put n k d {e} ms found is = ap (option_and_then (λ x. of_members (members_outline ms) (put k x found))) is.same

-- an object of two members, which is read as these members in the order of their names
pub two_as : (n : ℕ) (k l : List ℕ) (a b : Data) {c d : Data} (es : Members) → are_ascii k ≡ true → are_ascii l ≡ true → put l d (member k c no_members) ≡ es → IsReadAs n a c → IsReadAs n b d
    → IsReadAs (n + 1) (object (member k a (member l b no_members))) (object es)
two_as n k l a b {c} {d} es ascii_k ascii_l order is_a is_b =
    object_as n (member k a (member l b no_members)) es
    (member_back n k a (member l b no_members) ascii_k is_a (member_back n l b no_members ascii_l is_b (no_members_back n)))
    (next_put n k a (member l b no_members) no_members is_a ∙ next_put n l b no_members (member k c no_members) is_b ∙ ap (λ (ms : Members). Some ms) order)

-- the object of a flow
abbrev pub flow_object : Data → Data → Data → Data → Data → Data → Data → Data
flow_object a b c d e f g = object
    (member (codes "delivered") a (member (codes "dropped") b (member (codes "dst") c (member (codes "edges") d
    (member (codes "name") e (member (codes "nodes") f (member (codes "starts") g no_members)))))))

pub flow_back : (n : ℕ) (a b c d e f g : Data) → IsReadBack n a → IsReadBack n b → IsReadBack n c → IsReadBack n d → IsReadBack n e → IsReadBack n f → IsReadBack n g → IsReadBack (n + 1) (flow_object a b c d e f g)
flow_back n a b c d e f g is_a is_b is_c is_d is_e is_f is_g =
    let m7 : Members = member (codes "starts") g no_members in
    let m6 : Members = member (codes "nodes") f m7 in
    let m5 : Members = member (codes "name") e m6 in
    let m4 : Members = member (codes "edges") d m5 in
    let m3 : Members = member (codes "dst") c m4 in
    let m2 : Members = member (codes "dropped") b m3 in
    let m1 : Members = member (codes "delivered") a m2 in
    let f1 : Members = member (codes "delivered") a no_members in
    let f2 : Members = put (codes "dropped") b f1 in
    let f3 : Members = put (codes "dst") c f2 in
    let f4 : Members = put (codes "edges") d f3 in
    let f5 : Members = put (codes "name") e f4 in
    let f6 : Members = put (codes "nodes") f f5 in
    object_as n m1 m1
    (member_back n (codes "delivered") a m2 refl is_a (member_back n (codes "dropped") b m3 refl is_b (member_back n (codes "dst") c m4 refl is_c (member_back n (codes "edges") d m5 refl is_d
    (member_back n (codes "name") e m6 refl is_e (member_back n (codes "nodes") f m7 refl is_f (member_back n (codes "starts") g no_members refl is_g (no_members_back n))))))))
    (next_put n (codes "delivered") a m2 no_members is_a ∙ next_put n (codes "dropped") b m3 f1 is_b ∙ next_put n (codes "dst") c m4 f2 is_c ∙ next_put n (codes "edges") d m5 f3 is_d
    ∙ next_put n (codes "name") e m6 f4 is_e ∙ next_put n (codes "nodes") f m7 f5 is_f ∙ next_put n (codes "starts") g no_members f6 is_g)

-- ---- a text

abbrev whole : Option (json.Json × List Token) → Option Data
whole parsed = option_and_then of_json (option_and_then (λ p. json.if_last p.0 p.1) parsed)

text_read : (n : ℕ) (d : Data) {e : Data} → n ≤ 127 → IsReadAs n d e → read (compact_text d) ≡ Some e
text_read n d few is =
    let ts : List Token = tree.json_tokens (outline d) in
    let spelled : tokens (compact_text d) ≡ ts = ap tokens (sym (print-outline d)) ∙ tokens-print ts (ArePrintable-json_tokens (outline d) is.numbers) in
    ap whole (ap (json.value max_depth) (spelled ∙ sym (append-nil ts)) ∙ value-json_tokens (outline d) max_depth [] (omega (arith, few, is.shallow))) ∙ is.same

pub text_reading : (n : ℕ) (d : Data) {e : Data} → n ≤ 127 → IsReadAs n d e → reading (compact_text d) ≡ Some e
unfolding reading
text_reading n d few is = ap (λ b. cond b (read (compact_text d)) None) (is_utf8-from_IsUtf8 (compact_text d) is.utf8) ∙ text_read n d few is
