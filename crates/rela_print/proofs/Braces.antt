-- Tokens between braces: no bad number stands alone in them.
use Rattle.std.proofs.Common.{◌≡◌, ℕ, suc, ◌+◌, Bool, false, ◌&&◌, None, Some, List, [], ◌∷◌, ◌++◌, refl, sym, ap, ◌∙◌, subst, inl, inr, arith, append_assoc}
use Rattle.rela_lex.specs.declared.token.Token.{Token}
use Rattle.rela_lex.specs.declared.token.TokenKind.TheVariants.{Mark}
use Rattle.rela_spec.specs.Grammar.{room_after, room_behind, is_mark_of, is_bad_number, bad_in_front, bad_number}
use Rattle.rela_spec.specs.GrammarWords.{mark}
use Rattle.rela_print.proofs.TextPieces.{is_bad_pair, Quiet, Loose, loose_join, loose_token, Tame, Reads, Free, Stops, reads_token, never_bad}
use Rattle.rela_print.proofs.TokenTexts.{Whatever}

-- an opening brace
pub record Opening (k : ℕ) (ts : List Token) : Type 0 where
  pub room : (b : List Token) → room_behind (suc k) (ts ++ b) ≡ room_behind k b
  pub numbers : (b : List Token) → is_bad_pair b ≡ false → bad_number (ts ++ b) ≡ bad_number b
  pub quiet : (b : List Token) → Quiet (ts ++ b)

-- what may stand behind an opening brace
pub record Inner (k n : ℕ) (ts : List Token) : Type 0 where
  pub loose : Loose k n ts
  pub pair : (b : List Token) → is_bad_pair (ts ++ b) ≡ false

-- what may stand behind a path expression that stands behind an opening brace
pub record Later (k n : ℕ) (ts : List Token) : Type 0 where
  pub loose : Loose k n ts
  pub quiet : (b : List Token) → Quiet (ts ++ b)

pub opening_then : {k : ℕ} (ts us : List Token) → Opening k ts → Inner k (suc k) us → Tame (suc k) (suc k) (ts ++ us)
opening_then {k} ts us first inner = record {
  loose = record {
    room = λ b. ap (room_behind (suc k)) (append_assoc ts us b) ∙ first.room (us ++ b) ∙ inner.loose.room b;
    numbers = λ b. ap bad_number (append_assoc ts us b) ∙ first.numbers (us ++ b) (inner.pair b) ∙ inner.loose.numbers b;
  };
  quiet = λ b q. subst Quiet (sym (append_assoc ts us b)) (first.quiet (us ++ b));
}

pub inner_then : {k n j : ℕ} (ts us : List Token) → Inner k n ts → Loose n j us → Inner k j (ts ++ us)
inner_then ts us first second = record {
  loose = loose_join ts us first.loose second;
  pair = λ b. ap is_bad_pair (append_assoc ts us b) ∙ first.pair (us ++ b);
}

pub later_then : {k n j : ℕ} (ts us : List Token) → Later k n ts → Loose n j us → Later k j (ts ++ us)
later_then ts us first second = record {
  loose = loose_join ts us first.loose second;
  quiet = λ b. subst Quiet (sym (append_assoc ts us b)) (first.quiet (us ++ b));
}

pub zone_then : {k n : ℕ} (ts us : List Token) → Tame k k ts → Later k n us → Inner k n (ts ++ us)
zone_then ts us first later = record {
  loose = loose_join ts us first.loose later.loose;
  pair = λ b. ap is_bad_pair (append_assoc ts us b) ∙ (first.quiet (us ++ b) (later.quiet b)).pair;
}

pub tame_then : {k n j : ℕ} (ts us : List Token) → Tame k n ts → Loose n j us → Loose k j (ts ++ us)
tame_then ts us first second = loose_join ts us first.loose second

no_pair_in_front : (t : Token) (b : List Token) → is_bad_pair b ≡ false → bad_in_front (t ∷ b) ≡ None
unfolding bad_in_front
no_pair_in_front t [] e = refl
no_pair_in_front t (u ∷ []) e = refl
no_pair_in_front t (u ∷ v ∷ b) e = rw (e, never_bad (is_mark_of 123 t.kind)) refl

numbers_behind : (t : Token) (b : List Token) → is_bad_pair b ≡ false → bad_number (t ∷ b) ≡ bad_number b
unfolding bad_number
numbers_behind t b e = rw (no_pair_in_front t b e, bad_number) refl

no_pair : (t : Token) (b : List Token) → is_bad_number t.kind ≡ false → is_bad_pair (t ∷ b) ≡ false
no_pair t [] e = refl
no_pair t (u ∷ b) e = ap (λ (x : Bool). x && is_mark_of 125 u.kind) e

room_opens : (k at : ℕ) (b : List Token) → room_behind (suc k) (record { at = at; kind = Mark 123 } ∷ b) ≡ room_behind k b
unfolding room_behind
room_opens k at b = refl

pub reads_opening_brace : {k : ℕ} → Reads Free (mark 123) (123 ∷ []) Whatever (Opening k)
reads_opening_brace {k} =
    reads_token (Mark 123) (λ at. tt) (λ rest c. inl refl) (λ at. refl) (λ at. tt) λ at. record {
      room = room_opens k at;
      numbers = numbers_behind (record { at = at; kind = Mark 123 });
      quiet = λ b. record { first = refl; pair = no_pair (record { at = at; kind = Mark 123 }) b refl };
    }

pub reads_closing_brace : {k : ℕ} → Reads Free (mark 125) (125 ∷ []) Whatever (Loose k (suc k))
reads_closing_brace {k} =
    let room : Some (k + 1) ≡ Some (suc k) = ap Some (omega arith) in
    reads_token (Mark 125) (λ at. tt) (λ rest c. inl refl) (λ at. refl) (λ at. tt) (λ at. loose_token k (suc k) (record { at = at; kind = Mark 125 }) room refl)

pub inner_token : (k : ℕ) (t : Token) → room_after t.kind k ≡ Some k → is_mark_of 123 t.kind ≡ false → is_bad_number t.kind ≡ false → Inner k k (t ∷ [])
inner_token k t room first good = record { loose = loose_token k k t room first; pair = λ b. no_pair t b good }

pub reads_colon : {k : ℕ} → Reads Stops (mark 58) (58 ∷ []) Whatever (Later k k)
reads_colon {k} =
    reads_token (Mark 58) (λ at. tt) (λ rest c. inr (refl, c)) (λ at. refl) (λ at. tt) λ at. record {
      loose = loose_token k k (record { at = at; kind = Mark 58 }) refl refl;
      quiet = λ b. record { first = refl; pair = no_pair (record { at = at; kind = Mark 58 }) b refl };
    }
