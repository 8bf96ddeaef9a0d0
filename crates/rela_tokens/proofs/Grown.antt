-- Lists that grow at their end.
use Rattle.std.proofs.Common.{◌≡◌, ℕ, ◌+◌, ◌≤◌, List, [], ◌∷◌, ◌++◌, Some, Result, Ok, Err, IfOk, map, refl, sym, ap, ◌∙◌, subst}
use Rattle.std.proofs.lemmas.List.{map-append}
use Rattle.json.specs.Token.{Token}
use Rattle.json.specs.Json.{after_end_array, read_key}
use Rattle.json.proofs.Grammar.{read_key_is}
use Rattle.serde_json.specs.Data.{Data, string}
use Rattle.rela_tokens.specs.Holds.{Holds, HoldsAll, HoldsMembers}
use Rattle.rela_tokens.specs.Pieces.{list, pair, whole}
use Rattle.rela_tokens.specs.Reading.{Takes, TakesNumber}
use Rattle.rela_tokens.specs.declared.reader.Token.{Token as Taken}
use Rattle.rela_tokens.specs.declared.reader.Token.TheVariants.{Number}
use Rattle.rela_tokens.proofs.Standing.{all_more, array_holds, deeper, members_more, number_holds, string_holds}

-- ---- what a token that was taken shows

pub text_taken : (k : ℕ) (old new : List Token) (s : List ℕ) → old ≡ Token.string s ∷ new → Holds k old (string s) new
text_taken k old new s is = subst (λ (ts : List Token). Holds k ts (string s) new) (sym is) (string_holds k s new)

pub number_shown : (old new : List Token) (t : Taken) (n : ℕ) → t ≡ Number n → Takes old t new → TakesNumber old n new
number_shown old new t n is h = subst (λ (x : Taken). Takes old x new) is h

pub number_taken : (k : ℕ) (old new : List Token) (n : ℕ) → TakesNumber old n new → Holds k old (whole n) new
number_taken k old new n t = subst (λ (ts : List Token). Holds k ts (whole n) new) (sym t.1) (number_holds k t.0 n new t.2)

-- a value behind its first token, which was taken before
pub behind : (k l : ℕ) (old mid new : List Token) (t : Token) (d : Data) → old ≡ t ∷ mid → k ≤ l → Holds k (t ∷ mid) d new → Holds l old d new
behind k l old mid new t d is le h = subst (λ (ts : List Token). Holds l ts d new) (sym is) (deeper k l (t ∷ mid) new d le h)

pub behind_two : (k l : ℕ) (old mid new : List Token) (s t : Token) (d : Data) → old ≡ t ∷ mid → k ≤ l → Holds k (s ∷ t ∷ mid) d new → Holds l (s ∷ old) d new
behind_two k l old mid new s t d is le h = subst (λ (ts : List Token). Holds l (s ∷ ts) d new) (sym is) (deeper k l (s ∷ t ∷ mid) new d le h)

-- ---- a list that grows

-- the first item alone
pub first_held : {X : Type 0} (f : X → Data) (k : ℕ) (old new : List Token) (xs ys : List X) (x : X) → xs ≡ [] → ys ≡ xs ++ x ∷ [] → Holds k old (f x) new → HoldsAll k old (map f ys) new
first_held {X} f k old new xs ys x none is one =
    let same : ys ≡ x ∷ [] = is ∙ ap (λ (zs : List X). zs ++ x ∷ []) none in
    subst (λ (zs : List X). HoldsAll k old (map f zs) new) (sym same) (new, one, refl)

-- one more item behind those that are there
pub next_held : {X : Type 0} (f : X → Data) (k : ℕ) (old mid place new : List Token) (xs ys : List X) (x : X) → place ≡ mid → ys ≡ xs ++ x ∷ [] → HoldsAll k old (map f xs) mid → Holds k place (f x) new
    → HoldsAll k old (map f ys) new
next_held {X} f k old mid place new xs ys x here is h one =
    let same : map f ys ≡ map f xs ++ f x ∷ [] = ap (map f) is ∙ map-append f xs (x ∷ []) in
    subst (λ (ds : List Data). HoldsAll k old ds new) (sym same)
    (all_more k old mid new (map f xs) (f x) h (subst (λ (ts : List Token). Holds k ts (f x) new) here one))

pub pair_held : (old mid last new : List Token) (a b : ℕ) → Holds 0 old (whole a) mid → Holds 0 mid (whole b) last → after_end_array last ≡ Some new → Holds 1 (Token.begin_array ∷ old) (pair (a, b)) new
pair_held old mid last new a b one two closed = array_holds 0 old last new (whole a ∷ whole b ∷ []) (mid, one, (last, two, refl)) closed

pub empty_held : (k : ℕ) (old new : List Token) → old ≡ Token.end_array ∷ new → Holds (k + 1) (Token.begin_array ∷ old) (list []) new
empty_held k old new is = array_holds k old old new [] refl (ap after_end_array is)

-- ---- members that grow

pub next_member : {X : Type 0} (f : X → List ℕ × Data) (k : ℕ) (old mid first new : List Token) (xs ys : List X) (x : X) → read_key mid ≡ Some (Some (f x).0, first) → ys ≡ xs ++ x ∷ [] → HoldsMembers k old (map f xs) mid
    → Holds k first (f x).1 new → HoldsMembers k old (map f ys) new
next_member {X} f k old mid first new xs ys x key is h one =
    let same : map f ys ≡ map f xs ++ f x ∷ [] = ap (map f) is ∙ map-append f xs (x ∷ []) in
    subst (λ (ms : List (List ℕ × Data)). HoldsMembers k old ms new) (sym same) (members_more k old mid first new (map f xs) (f x) h (read_key_is mid (Some (f x).0) first key) one)

-- ---- what a call answers, as what its caller answers

pub passed : {X E : Type 0} (f : X → Data) (k : ℕ) (old mid new : List Token) (t : Token) (r : Result X E) → old ≡ t ∷ mid → IfOk r (λ x. Holds k (t ∷ mid) (f x) new) → IfOk r (λ x. Holds k old (f x) new)
passed f k old mid new t (Ok x) is h = subst (λ (ts : List Token). Holds k ts (f x) new) (sym is) h
passed f k old mid new t (Err e) is h = tt
