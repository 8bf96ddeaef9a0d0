-- Readings behind an opening bracket.
use Rattle.std.proofs.Common.{◌≡◌, ℕ, zero, suc, ◌+◌, ◌<◌, ◌≤◌, Bool, true, false, if◌then◌else◌, Some, Result, Ok, Err, List, [], ◌∷◌, ◌++◌, refl, sym, ap, ◌∙◌, subst, arith, eq-eqb}
use Rattle.std.specs.Option.{option_and_then}
use Rattle.std.proofs.lemmas.Bool.{cond-true, eqb-true}
use Rattle.rela_lex.specs.declared.error.SpecError.{SpecError}
use Rattle.rela_lex.specs.declared.error.SpecError.TheVariants.{Syntax, TooDeep, Memory}
use Rattle.rela_lex.specs.declared.token.Token.{Token}
use Rattle.rela_lex.specs.declared.token.TokenKind.{TokenKind}
use Rattle.rela_lex.specs.declared.token.TokenKind.TheVariants.{Mark, Bare, Quoted, Reference}
use Rattle.rela_spec.specs.Grammar.{SameNext, offset, is_mark_of, opens, closes, one_less, room_after, room_behind}
use Rattle.rela_spec.specs.GrammarWords.{mark}
use Rattle.rela_spec.specs.Phrases.{Phrase, bracketed}
use Rattle.rela_spec.specs.Readings.{Reading, and_read, read_open, opened}
use Rattle.rela_spec.proofs.Exact.{Stuck, Outcome, Completed, Exact, nothing_opened}

pub mark_is : (byte : ℕ) (kind : TokenKind) → is_mark_of byte kind ≡ true → kind ≡ Mark byte
mark_is byte (Mark other) e = ap Mark (eqb-true other byte e)
mark_is byte (Bare name) e = absurd (let never = e in cc)
mark_is byte (Quoted name) e = absurd (let never = e in cc)
mark_is byte (Reference name) e = absurd (let never = e in cc)

pub is_mark_itself : (byte : ℕ) (kind : TokenKind) → kind ≡ Mark byte → is_mark_of byte kind ≡ true
is_mark_itself byte kind e = ap (is_mark_of byte) e ∙ eq-eqb byte byte refl

room_opened : (kind : TokenKind) (room : ℕ) → opens kind ≡ true → room_after kind room ≡ one_less room
room_opened kind room e = cond-true (opens kind) (one_less room) (if closes kind then Some (room + 1) else Some room) e

room_behind_opened : (t : Token) (ts : List Token) (room : ℕ) → opens t.kind ≡ true → room_behind (suc room) (t ∷ ts) ≡ room_behind room ts
unfolding room_behind
room_behind_opened t ts room e = ap (option_and_then (λ left. room_behind left ts)) (room_opened t.kind (suc room) e)

module _ {A : Type 0} (S : ℕ → Phrase A) (byte : ℕ) (is_opening : opens (Mark byte) ≡ true) (goes_on : TokenKind → Bool) (to end : ℕ) (completed : Completed S 0) where
  abbrev whole_of : ℕ → Phrase A
  whole_of d = bracketed d (mark byte) S

  abbrev bracket : Token
  bracket = record { at = 0; kind = Mark byte }

  t_opens : (t : Token) → t.kind ≡ Mark byte → opens t.kind ≡ true
  t_opens t e = ap opens e ∙ is_opening

  -- a bracket, and what stands behind it
  whole_at : (n d : ℕ) → n < d → (t : Token) → t.kind ≡ Mark byte → (w : A) (a b : List Token) → ((inner : ℕ) → n ≤ inner → S inner a w b) → whole_of d (t ∷ a) w b
  whole_at n zero lt t is w a b h = absurd (omega arith)
  whole_at n (suc d) lt t is w a b h = (tt, a, (t, refl, is), h d (omega arith))

  opening_viable : (n d : ℕ) → n < d → (k : List Token) → whole_of d (bracket ∷ (completed.others ++ k)) completed.value k
  opening_viable n d lt k = whole_at 0 d (omega arith) bracket refl completed.value (completed.others ++ k) k (λ inner le. completed.whole inner le k)

  never_here : (r : List Token) → ((t : Token) (ts : List Token) → r ≡ t ∷ ts → is_mark_of byte t.kind ≡ false) → (d : ℕ) (y : List Token) → SameNext r y → (w : A) (b : List Token) → whole_of d y w b → ⊥
  never_here r differs zero y same w b h = h
  never_here [] differs (suc d) y same w b h = let never : [] ≡ h.2.0 ∷ h.1 = sym same ∙ h.2.1 in absurd (let clash = never in cc)
  never_here (t ∷ ts) differs (suc d) y same w b h =
      let both : t ∷ same.0 ≡ h.2.0 ∷ h.1 = sym same.1 ∙ h.2.1 in
      let one : h.2.0 ≡ t = cc in
      let is : is_mark_of byte t.kind ≡ true = ap (λ (x : Token). is_mark_of byte x.kind) (sym one) ∙ is_mark_itself byte h.2.0.kind h.2.2 in
      let never : true ≡ false = sym is ∙ differs t ts refl in
      absurd (let clash = never in cc)

  stuck_here : (room : ℕ) (r : List Token) (at : ℕ) → at ≡ offset end r → ((t : Token) (ts : List Token) → r ≡ t ∷ ts → is_mark_of byte t.kind ≡ false) → Stuck whole_of goes_on room room end r at
  stuck_here room r at here differs = record {
    before = [];
    rest = r;
    joined = refl;
    here = here;
    never = λ d y same w b h stops. never_here r differs d y same w b h;
    others = bracket ∷ completed.others;
    value = completed.value;
    viable = λ d lt k. opening_viable room d lt k;
    left = room;
    level = nothing_opened room;
  }

  only_inside : (t : Token) (is : t.kind ≡ Mark byte) (d : ℕ) (a : List Token) (w : A) (b : List Token) → whole_of d (t ∷ a) w b → (inner : ℕ) × S inner a w b
  only_inside t is zero a w b h = absurd h
  only_inside t is (suc d) a w b h =
      let both : t ∷ a ≡ h.2.0 ∷ h.1 = h.2.1 in
      let rest : h.1 ≡ a = cc in
      (d, subst (λ (x : List Token). S d x w b) rest h.3)

  bracket_read : (inner : ℕ) (t : Token) (ts : List Token) → t.kind ≡ Mark byte → (found : Result (A × List Token) SpecError)
      → Outcome S goes_on inner inner to end ts found → Outcome whole_of goes_on (suc inner) (suc inner) to end (t ∷ ts) found
  bracket_read inner t ts is (Ok found) h = record {
    before = t ∷ h.before;
    joined = ap (λ (x : List Token). t ∷ x) h.joined;
    spelled = λ d le k. whole_at inner d (omega arith) t is found.0 (h.before ++ k) k (λ n far. h.spelled n far k);
    only = λ d y same w b s stops. let in_it = only_inside t is d (h.before ++ y) w b s in h.only in_it.0 y same w b in_it.1 stops;
    level = room_behind_opened t h.before inner (t_opens t is) ∙ h.level;
  }
  bracket_read inner t ts is (Err (Syntax at)) h = record {
    before = t ∷ h.before;
    rest = h.rest;
    joined = ap (λ (x : List Token). t ∷ x) h.joined;
    here = h.here;
    never = λ d y same w b s stops. let in_it = only_inside t is d (h.before ++ y) w b s in h.never in_it.0 y same w b in_it.1 stops;
    others = h.others;
    value = h.value;
    viable = λ d lt k. whole_at (suc inner) d (omega arith) t is h.value (h.before ++ (h.others ++ k)) k (λ n far. h.viable n (omega arith) k);
    left = h.left;
    level = room_behind_opened t h.before inner (t_opens t is) ∙ h.level;
  }
  bracket_read inner t ts is (Err (TooDeep at)) h = record {
    before = t ∷ h.before;
    bracket = h.bracket;
    rest = h.rest;
    joined = ap (λ (x : List Token). t ∷ x) h.joined;
    here = h.here;
    opening = h.opening;
    level = room_behind_opened t h.before inner (t_opens t is) ∙ h.level;
    others = h.others;
    value = h.value;
    viable = λ d lt k. whole_at (suc inner) d (omega arith) t is h.value (h.before ++ h.bracket ∷ (h.others ++ k)) k (λ n far. h.viable n (omega arith) k);
  }
  bracket_read inner t ts is (Err Memory) h = tt
  bracket_read inner t ts is (Err _) h = absurd h

  read_opened : (room : ℕ) (k : Reading A) (t : Token) (ts : List Token) → t.kind ≡ Mark byte
      → ((inner : ℕ) → room ≡ suc inner → Exact S goes_on 0 inner inner to end k)
      → Outcome whole_of goes_on room room to end (t ∷ ts) (and_read (opened room t.at ts) (λ _. k))
  read_opened zero k t ts is inside = record {
    before = [];
    bracket = t;
    rest = ts;
    joined = refl;
    here = refl;
    opening = t_opens t is;
    level = nothing_opened 0;
    others = completed.others;
    value = completed.value;
    viable = λ d lt k. whole_at 0 d lt t is completed.value (completed.others ++ k) k (λ inner le. completed.whole inner le k);
  }
  read_opened (suc inner) k t ts is inside = bracket_read inner t ts is (k ts) ((inside inner refl).outcome ts)

  same_token : (t u : Token) (ts us : List Token) → t ∷ ts ≡ u ∷ us → t ≡ u
  same_token t u ts us e = cc

  read_tested : (room : ℕ) (k : Reading A) (t : Token) (ts : List Token) (b : Bool) → is_mark_of byte t.kind ≡ b
      → ((inner : ℕ) → room ≡ suc inner → Exact S goes_on 0 inner inner to end k)
      → Outcome whole_of goes_on room room to end (t ∷ ts) (and_read (if b then opened room t.at ts else Err (Syntax t.at)) (λ _. k))
  read_tested room k t ts true is inside = read_opened room k t ts (mark_is byte t.kind is) inside
  read_tested room k t ts false is inside = stuck_here room (t ∷ ts) t.at refl (λ u us e. ap (λ (x : Token). is_mark_of byte x.kind) (sym (same_token t u ts us e)) ∙ is)

  open_outcome : (room : ℕ) (k : Reading A) → ((inner : ℕ) → room ≡ suc inner → Exact S goes_on 0 inner inner to end k)
      → (r : List Token) → Outcome whole_of goes_on room room to end r (and_read (read_open end byte room r) (λ _. k))
  unfolding read_open
  open_outcome room k inside [] = stuck_here room [] end refl (λ t ts e. absurd (let clash = e in cc))
  open_outcome room k inside (t ∷ ts) = read_tested room k t ts (is_mark_of byte t.kind) refl inside

  pub exact_open : (room : ℕ) (k : Reading A) → ((inner : ℕ) → room ≡ suc inner → Exact S goes_on 0 inner inner to end k)
      → Exact (λ d. bracketed d (mark byte) S) goes_on 1 room room to end (λ ts. and_read (read_open end byte room ts) (λ _. k))
  exact_open room k inside = record {
    outcome = λ r. open_outcome room k inside r;
    completed = record { others = bracket ∷ completed.others; value = completed.value; whole = λ d le k. opening_viable 0 d (omega arith) k };
  }
