-- Texts that are cut into tokens of a phrase, whatever stands before them, and joined texts.
use Rattle.std.proofs.Common.{◌≡◌, ℕ, ◌+◌, Bool, true, false, ◌&&◌, None, Some, List, [], ◌∷◌, ◌++◌, length, refl, sym, ap, ◌∙◌, subst, arith, append_assoc, append-nil, length-append, add-zero}
use Rattle.std.specs.Prelude.{⊤}
use Rattle.std.specs.List.{flat_map}
use Rattle.std.specs.Option.{option_and_then}
use Rattle.std.proofs.lemmas.Grind.{flat_map-append}
use Rattle.rela_names.specs.Name.{is_name_byte}
use Rattle.rela_lex.specs.declared.token.Token.{Token}
use Rattle.rela_lex.specs.declared.token.TokenKind.{TokenKind}
use Rattle.rela_lex.specs.Spells.{Piece, spelling, token_spelling, StopsBefore, TokenStands, Stands, EachStands, token_of, tokens_at, tokens_from}
use Rattle.rela_spec.specs.Grammar.{room_after, room_behind, is_mark_of, is_bad_number, bad_in_front, bad_number}
use Rattle.rela_spec.specs.Phrases.{Phrase, token, ◌>>=◌}

-- a closing brace is not next, nor next but one behind a bad number
abbrev pub closes_brace : List Token → Bool
closes_brace [] = false
closes_brace (t ∷ ts) = is_mark_of 125 t.kind

abbrev pub is_bad_pair : List Token → Bool
is_bad_pair (t ∷ u ∷ ts) = is_bad_number t.kind && is_mark_of 125 u.kind
is_bad_pair _ = false

pub record Quiet (ts : List Token) : Type 0 where
  pub first : closes_brace ts ≡ false
  pub pair : is_bad_pair ts ≡ false

-- tokens that change the room from m to n, and have no bad number
pub record Loose (m n : ℕ) (ts : List Token) : Type 0 where
  pub room : (b : List Token) → room_behind m (ts ++ b) ≡ room_behind n b
  pub numbers : (b : List Token) → bad_number (ts ++ b) ≡ bad_number b

pub record Tame (m n : ℕ) (ts : List Token) : Type 0 where
  pub loose : Loose m n ts
  pub quiet : (b : List Token) → Quiet b → Quiet (ts ++ b)

pub loose_join : {m n k : ℕ} (ts us : List Token) → Loose m n ts → Loose n k us → Loose m k (ts ++ us)
loose_join {m} {n} {k} ts us first second = record {
  room = λ b. ap (room_behind m) (append_assoc ts us b) ∙ first.room (us ++ b) ∙ second.room b;
  numbers = λ b. ap bad_number (append_assoc ts us b) ∙ first.numbers (us ++ b) ∙ second.numbers b;
}

pub tame_join : {m n k : ℕ} (ts us : List Token) → Tame m n ts → Tame n k us → Tame m k (ts ++ us)
tame_join ts us first second = record {
  loose = loose_join ts us first.loose second.loose;
  quiet = λ b q. subst Quiet (sym (append_assoc ts us b)) (first.quiet (us ++ b) (second.quiet b q));
}

pub tame_none : (m : ℕ) → Tame m m []
tame_none m = record { loose = record { room = λ b. refl; numbers = λ b. refl }; quiet = λ b q. q }

pub never_bad : (x : Bool) → (x && false) ≡ false
never_bad true = refl
never_bad false = refl

no_bad_in_front : (t : Token) (b : List Token) → is_mark_of 123 t.kind ≡ false → bad_in_front (t ∷ b) ≡ None
unfolding bad_in_front
no_bad_in_front t [] e = refl
no_bad_in_front t (u ∷ []) e = refl
no_bad_in_front t (u ∷ v ∷ b) e = rw e refl

numbers_skip : (t : Token) (b : List Token) → is_mark_of 123 t.kind ≡ false → bad_number (t ∷ b) ≡ bad_number b
unfolding bad_number
numbers_skip t b e = rw (no_bad_in_front t b e, bad_number) refl

room_skips : (m n : ℕ) (t : Token) (b : List Token) → room_after t.kind m ≡ Some n → room_behind m (t ∷ b) ≡ room_behind n b
unfolding room_behind
room_skips m n t b e = ap (option_and_then (λ left. room_behind left b)) e

quiet_pair : (t : Token) (b : List Token) → closes_brace b ≡ false → is_bad_pair (t ∷ b) ≡ false
quiet_pair t [] e = refl
quiet_pair t (u ∷ b) e = ap (λ (x : Bool). is_bad_number t.kind && x) e ∙ never_bad (is_bad_number t.kind)

pub loose_token : (m n : ℕ) (t : Token) → room_after t.kind m ≡ Some n → is_mark_of 123 t.kind ≡ false → Loose m n (t ∷ [])
loose_token m n t e first = record { room = λ b. room_skips m n t b e; numbers = λ b. numbers_skip t b first }

pub tame_token : (m n : ℕ) (t : Token) → room_after t.kind m ≡ Some n → is_mark_of 123 t.kind ≡ false → is_mark_of 125 t.kind ≡ false → Tame m n (t ∷ [])
tame_token m n t e first close = record {
  loose = loose_token m n t e first;
  quiet = λ b q. record { first = close; pair = quiet_pair t b q.first };
}

-- pieces that spell the text before a rest, and whose tokens spell a value of the phrase
pub record Found {A : Type 0} (at : ℕ) (R : Phrase A) (text rest : List ℕ) (P : A → Type 0) (K : List Token → Type 0) : Type 0 where
  pub pieces : List Piece
  pub spelled : flat_map spelling pieces ≡ text
  pub stands : EachStands pieces rest
  pub value : A
  pub right : P value
  pub phrase : (b : List Token) → R (tokens_from at pieces ++ b) value b
  pub tokens : K (tokens_from at pieces)

-- wherever the text stands before such a rest it is read as a value that is right
pub record Reads {A : Type 0} (C : List ℕ → Type 0) (R : Phrase A) (text : List ℕ) (P : A → Type 0) (K : List Token → Type 0) : Type 0 where
  pub found : (at : ℕ) (rest : List ℕ) → C rest → Found at R text rest P K

-- any rest, and one that no name byte begins
abbrev pub Free : List ℕ → Type 0
Free rest = ⊤

abbrev pub Stops : List ℕ → Type 0
Stops rest = StopsBefore is_name_byte rest

spelling_join : (ps qs : List Piece) (rest : List ℕ) → flat_map spelling (ps ++ qs) ++ rest ≡ flat_map spelling ps ++ (flat_map spelling qs ++ rest)
spelling_join ps qs rest = ap (λ (x : List ℕ). x ++ rest) (flat_map-append spelling ps qs) ∙ append_assoc (flat_map spelling ps) (flat_map spelling qs) rest

stands_join : (ps qs : List Piece) (rest : List ℕ) → EachStands ps (flat_map spelling qs ++ rest) → EachStands qs rest → EachStands (ps ++ qs) rest
stands_join [] qs rest each later = later
stands_join (p ∷ ps) qs rest each later =
    (subst (λ (x : List ℕ). Stands p x) (sym (spelling_join ps qs rest)) each.0, stands_join ps qs rest each.1 later)

tokens_join : (at : ℕ) (ps qs : List Piece) → tokens_from at (ps ++ qs) ≡ tokens_from at ps ++ tokens_from (at + length (flat_map spelling ps)) qs
tokens_join at [] qs = ap (λ (n : ℕ). tokens_from n qs) (sym (add-zero at))
tokens_join at (p ∷ ps) qs =
    let next : ℕ = at + length (spelling p) in
    let there : next + length (flat_map spelling ps) ≡ at + length (spelling p ++ flat_map spelling ps) =
    omega (arith, length-append (spelling p) (flat_map spelling ps)) in
    ap (λ (x : List Token). tokens_at at (token_of p) ++ x) (tokens_join next ps qs ∙ ap (λ (n : ℕ). tokens_from next ps ++ tokens_from n qs) there)
    ∙ sym (append_assoc (tokens_at at (token_of p)) (tokens_from next ps) (tokens_from (at + length (spelling p ++ flat_map spelling ps)) qs))

found_then : {A B : Type 0} {R : Phrase A} {S : A → Phrase B} {t u : List ℕ} {P : A → Type 0} {Q : B → Type 0} {K L M : List Token → Type 0}
    (at : ℕ) (rest : List ℕ) → ((ts us : List Token) → K ts → L us → M (ts ++ us))
    → (first : Found at R t (u ++ rest) P K) → Found (at + length (flat_map spelling first.pieces)) (S first.value) u rest Q L
    → Found at (R >>= S) (t ++ u) rest Q M
found_then {R = R} {S = S} {t = t} {u = u} {M = M} at rest join first second =
    let next : ℕ = at + length (flat_map spelling first.pieces) in
    let ts : List Token = tokens_from at first.pieces in
    let us : List Token = tokens_from next second.pieces in
    let same : tokens_from at (first.pieces ++ second.pieces) ≡ ts ++ us = tokens_join at first.pieces second.pieces in
    record {
      pieces = first.pieces ++ second.pieces;
      spelled = flat_map-append spelling first.pieces second.pieces ∙ ap (λ (x : List ℕ). x ++ flat_map spelling second.pieces) first.spelled ∙ ap (λ (x : List ℕ). t ++ x) second.spelled;
      stands = stands_join first.pieces second.pieces rest (subst (λ (x : List ℕ). EachStands first.pieces (x ++ rest)) (sym second.spelled) first.stands) second.stands;
      value = second.value;
      right = second.right;
      phrase = λ b. (
        first.value,
        us ++ b,
        subst (λ (x : List Token). R x first.value (us ++ b)) (sym (ap (λ (x : List Token). x ++ b) same ∙ append_assoc ts us b)) (first.phrase (us ++ b)),
        second.phrase b,
      );
      tokens = subst M (sym same) (join ts us first.tokens second.tokens);
    }

-- one text behind another
pub reads_then : {A B : Type 0} {C D : List ℕ → Type 0} {R : Phrase A} {S : A → Phrase B} {t u : List ℕ} {P : A → Type 0} {Q : B → Type 0} {K L M : List Token → Type 0}
    → ((rest : List ℕ) → D rest → C (u ++ rest)) → ((ts us : List Token) → K ts → L us → M (ts ++ us))
    → Reads C R t P K → ((v : A) → P v → Reads D (S v) u Q L) → Reads D (R >>= S) (t ++ u) Q M
reads_then {u = u} stops join first second = record {
  found = λ at rest d.
      let one = first.found at (u ++ rest) (stops rest d) in
      found_then at rest join one ((second one.value one.right).found (at + length (flat_map spelling one.pieces)) rest d);
}

-- the same tokens as another phrase, with another value
pub reads_as : {A B : Type 0} {C : List ℕ → Type 0} {R : Phrase A} {S : Phrase B} {t : List ℕ} {P : A → Type 0} {Q : B → Type 0} {K : List Token → Type 0}
    (f : A → B) → ((v : A) → P v → Q (f v)) → ((a : List Token) (v : A) (b : List Token) → R a v b → S a (f v) b) → Reads C R t P K → Reads C S t Q K
reads_as f right on first = record {
  found = λ at rest c.
      let one = first.found at rest c in
      record {
        pieces = one.pieces;
        spelled = one.spelled;
        stands = one.stands;
        value = f one.value;
        right = right one.value one.right;
        phrase = λ b. on _ one.value b (one.phrase b);
        tokens = one.tokens;
      };
}

-- a blank before the text
pub reads_behind_blank : {A : Type 0} {C : List ℕ → Type 0} {R : Phrase A} {t : List ℕ} {P : A → Type 0} {K : List Token → Type 0} → Reads C R t P K → Reads C R (32 ∷ t) P K
reads_behind_blank first = record {
  found = λ at rest c.
      let one = first.found (at + 1) rest c in
      record {
        pieces = Piece.Blank 32 ∷ one.pieces;
        spelled = ap (λ (x : List ℕ). 32 ∷ x) one.spelled;
        stands = (refl, one.stands);
        value = one.value;
        right = one.right;
        phrase = λ b. one.phrase b;
        tokens = one.tokens;
      };
}

-- one token
pub reads_token : {A : Type 0} {C : List ℕ → Type 0} {Has : Token → A → Type 0} {P : A → Type 0} {K : List Token → Type 0} (kind : TokenKind) (value : ℕ → A)
    → ((rest : List ℕ) → C rest → TokenStands kind rest) → ((at : ℕ) → Has (record { at = at; kind = kind }) (value at)) → ((at : ℕ) → P (value at))
    → ((at : ℕ) → K (record { at = at; kind = kind } ∷ [])) → Reads C (token Has) (token_spelling kind) P K
reads_token kind value stands has right tokens = record {
  found = λ at rest c. record {
    pieces = Piece.Lexeme kind ∷ [];
    spelled = append-nil (token_spelling kind);
    stands = (stands rest c, tt);
    value = value at;
    right = right at;
    phrase = λ b. (record { at = at; kind = kind }, refl, has at);
    tokens = tokens at;
  };
}
