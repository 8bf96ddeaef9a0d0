-- Exact readings of phrases with what they begin with.
use Rattle.std.proofs.Common.{◌≡◌, ℕ, zero, suc, ◌+◌, ◌≤◌, Bool, true, false, ◌||◌, Some, List, [], refl, ap, arith}
use Rattle.std.specs.Prelude.{⊤}
use Rattle.rela_lex.specs.declared.token.Token.{Token}
use Rattle.rela_lex.specs.declared.token.TokenKind.{TokenKind}
use Rattle.rela_lex.specs.declared.token.TokenKind.TheVariants.{Mark, Bare}
use Rattle.rela_spec.specs.Grammar.{is_mark_of, opens, room_after}
use Rattle.rela_spec.specs.GrammarWords.{mark, word}
use Rattle.rela_spec.specs.Phrases.{Phrase, done, bracketed, chain, ◌or◌, ◌>>=◌, ◌>>◌}
use Rattle.rela_spec.specs.ReadWords.{is_word_of, read_mark, read_word}
use Rattle.rela_spec.specs.Readings.{Reading, next_is, choose, and_read, read_done, read_open, read_chain}
use Rattle.rela_spec.proofs.Exact.{Completed, Exact}
use Rattle.rela_spec.proofs.Then.{Follows, exact_then}
use Rattle.rela_spec.proofs.Choose.{Begins, Avoids, exact_done, exact_choose, first_completes, weaken}
use Rattle.rela_spec.proofs.Many.{exact_chain}
use Rattle.rela_spec.proofs.Opened.{exact_open}
use Rattle.rela_spec.proofs.ExactWords.{nothing, stops_nothing, Apart, apart_mark, apart_word, apart_next, begins_then, begins_or, begins_mark, begins_word, avoids_begins, follows_nothing, follows_begins, follows_done, exact_mark, exact_word, stops_first, stops_second}

-- the phrase is read exactly, and begins where the next token passes
pub record Leading {A : Type 0} (R : ℕ → Phrase A) (passes goes_on : TokenKind → Bool) (least room from to end : ℕ) (p : Reading A) : Type 0 where
  pub exact : Exact R goes_on least room from to end p
  pub begins : Begins R passes

module _ {A : Type 0} {c : TokenKind → Bool} {least room from to end : ℕ} where
  -- what goes on with nothing may go on with anything
  pub widen : {R : ℕ → Phrase A} {p : Reading A} → (few : ℕ) → few ≤ least → Exact R nothing few room from to end p → Exact R c least room from to end p
  widen {R} {p} few le exact = weaken R p nothing c few least room from to end le (λ b _. stops_nothing b) exact

  pub behind_mark : {S : ℕ → Phrase A} {k : Reading A} (byte mid : ℕ) → least ≤ 1 → room_after (Mark byte) from ≡ Some mid → Exact S c least room mid to end k
      → Exact (λ d. mark byte >> S d) c least room from to end (λ ts. and_read (read_mark end byte ts) (λ _. k))
  behind_mark {S} {k} byte mid few level exact =
      exact_then (λ d. mark byte) (λ _ d. S d) nothing c least room from mid to end (read_mark end byte) (λ _. k) few (exact_mark byte nothing least room from mid end level) (λ _. exact) (follows_nothing (λ _ d. S d) c)

  pub behind_word : {S : ℕ → Phrase A} {k : Reading A} (bytes : List ℕ) → least ≤ 1 → Exact S c least room from to end k
      → Exact (λ d. word bytes >> S d) c least room from to end (λ ts. and_read (read_word end bytes ts) (λ _. k))
  behind_word {S} {k} bytes few exact =
      exact_then (λ d. word bytes) (λ _ d. S d) nothing c least room from from to end (read_word end bytes) (λ _. k) few (exact_word bytes nothing least room from end) (λ _. exact) (follows_nothing (λ _ d. S d) c)

  pub led_mark : {S : ℕ → Phrase A} {k : Reading A} (byte mid : ℕ) → least ≤ 1 → room_after (Mark byte) from ≡ Some mid → Exact S c least room mid to end k
      → Leading (λ d. mark byte >> S d) (is_mark_of byte) c least room from to end (λ ts. and_read (read_mark end byte ts) (λ _. k))
  led_mark {S} {k} byte mid few level exact = record { exact = behind_mark byte mid few level exact; begins = begins_then (λ d. mark byte) (λ _ d. S d) (is_mark_of byte) (begins_mark byte) }

  pub led_word : {S : ℕ → Phrase A} {k : Reading A} (bytes : List ℕ) → least ≤ 1 → Exact S c least room from to end k
      → Leading (λ d. word bytes >> S d) (is_word_of bytes) c least room from to end (λ ts. and_read (read_word end bytes ts) (λ _. k))
  led_word {S} {k} bytes few exact = record { exact = behind_word bytes few exact; begins = begins_then (λ d. word bytes) (λ _ d. S d) (is_word_of bytes) (begins_word bytes) }

  pub led_or : {R S : ℕ → Phrase A} {f g : TokenKind → Bool} {few many : ℕ} {p q : Reading A} → Leading R f c few room from to end p → Leading S g c many room from to end q → Apart f g
      → Completed (λ d. R d or S d) least → Leading (λ d. R d or S d) (λ kind. f kind || g kind) c least room from to end (choose f p q)
  led_or {R} {S} {f} {g} {few} {many} {p} {q} first second apart completed = record {
    exact = exact_choose R S f c room from to end least few many p q first.begins (avoids_begins S f g c second.begins apart) first.exact second.exact completed;
    begins = begins_or R S f g first.begins second.begins;
  }

  pub or_mark : {S R : ℕ → Phrase A} {g : TokenKind → Bool} {many : ℕ} {k q : Reading A} (byte mid : ℕ) → least ≤ 1 → room_after (Mark byte) from ≡ Some mid → Exact S c least room mid to end k
      → Leading R g c many room from to end q → g (Mark byte) ≡ false
      → Leading (λ d. (mark byte >> S d) or R d) (λ kind. is_mark_of byte kind || g kind) c least room from to end (choose (is_mark_of byte) (λ ts. and_read (read_mark end byte ts) (λ _. k)) q)
  or_mark {S} {R} {g} {many} {k} {q} byte mid few level exact second apart =
      let first : Leading (λ d. mark byte >> S d) (is_mark_of byte) c least room from to end (λ ts. and_read (read_mark end byte ts) (λ _. k)) = led_mark byte mid few level exact in
      led_or first second (apart_mark byte g apart) (first_completes (λ d. mark byte >> S d) R least first.exact.completed)

  pub or_word : {S R : ℕ → Phrase A} {g : TokenKind → Bool} {many : ℕ} {k q : Reading A} (bytes : List ℕ) → least ≤ 1 → Exact S c least room from to end k
      → Leading R g c many room from to end q → g (Bare bytes) ≡ false
      → Leading (λ d. (word bytes >> S d) or R d) (λ kind. is_word_of bytes kind || g kind) c least room from to end (choose (is_word_of bytes) (λ ts. and_read (read_word end bytes ts) (λ _. k)) q)
  or_word {S} {R} {g} {many} {k} {q} bytes few exact second apart =
      let first : Leading (λ d. word bytes >> S d) (is_word_of bytes) c least room from to end (λ ts. and_read (read_word end bytes ts) (λ _. k)) = led_word bytes few exact in
      led_or first second (apart_word bytes g apart) (first_completes (λ d. word bytes >> S d) R least first.exact.completed)

  -- the phrase behind the first, or no phrase
  pub mark_or_else : {S R : ℕ → Phrase A} {many : ℕ} {k q : Reading A} (byte mid : ℕ) → least ≤ 1 → room_after (Mark byte) from ≡ Some mid → Exact S c least room mid to end k
      → Exact R c many room from to end q → Avoids R (is_mark_of byte) c
      → Exact (λ d. (mark byte >> S d) or R d) c least room from to end (choose (is_mark_of byte) (λ ts. and_read (read_mark end byte ts) (λ _. k)) q)
  mark_or_else {S} {R} {many} {k} {q} byte mid few level exact second avoids =
      let first : Leading (λ d. mark byte >> S d) (is_mark_of byte) c least room from to end (λ ts. and_read (read_mark end byte ts) (λ _. k)) = led_mark byte mid few level exact in
      exact_choose (λ d. mark byte >> S d) R (is_mark_of byte) c room from to end least least many (λ ts. and_read (read_mark end byte ts) (λ _. k)) q first.begins avoids first.exact second
      (first_completes (λ d. mark byte >> S d) R least first.exact.completed)

  pub word_or_else : {S R : ℕ → Phrase A} {many : ℕ} {k q : Reading A} (bytes : List ℕ) → least ≤ 1 → Exact S c least room from to end k → Exact R c many room from to end q → Avoids R (is_word_of bytes) c
      → Exact (λ d. (word bytes >> S d) or R d) c least room from to end (choose (is_word_of bytes) (λ ts. and_read (read_word end bytes ts) (λ _. k)) q)
  word_or_else {S} {R} {many} {k} {q} bytes few exact second avoids =
      let first : Leading (λ d. word bytes >> S d) (is_word_of bytes) c least room from to end (λ ts. and_read (read_word end bytes ts) (λ _. k)) = led_word bytes few exact in
      exact_choose (λ d. word bytes >> S d) R (is_word_of bytes) c room from to end least least many (λ ts. and_read (read_word end bytes ts) (λ _. k)) q first.begins avoids first.exact second
      (first_completes (λ d. word bytes >> S d) R least first.exact.completed)

pub make_of : {A B : Type 0} {R : ℕ → Phrase A} {c : TokenKind → Bool} {least room from to end : ℕ} {p : Reading A} (make : A → B) → least ≤ 1 → Exact R c least room from to end p
    → Exact (λ d. R d >>= λ v. done (make v)) c least room from to end (λ ts. and_read (p ts) (λ v. read_done (make v)))
make_of {A} {B} {R} {c} {least} {room} {from} {to} {end} {p} make few exact =
    exact_then R (λ v d. done (make v)) c c least room from to to end p (λ v. read_done (make v)) few exact (λ v. exact_done (make v) c least room to end) (follows_done make c)

pub led_make : {A B : Type 0} {R : ℕ → Phrase A} {f c : TokenKind → Bool} {least room from to end : ℕ} {p : Reading A} (make : A → B) → least ≤ 1 → Leading R f c least room from to end p
    → Leading (λ d. R d >>= λ v. done (make v)) f c least room from to end (λ ts. and_read (p ts) (λ v. read_done (make v)))
led_make {A} {B} {R} {f} make few led = record { exact = make_of make few led.exact; begins = begins_then R (λ v d. done (make v)) f led.begins }

pub led_then : {A B : Type 0} {R : ℕ → Phrase A} {S : A → ℕ → Phrase B} {f first_goes_on c : TokenKind → Bool} {least room from mid to end : ℕ} {p : Reading A} {k : A → Reading B} → least ≤ 1
    → Leading R f first_goes_on least room from mid end p → ((v : A) → Exact (S v) c least room mid to end (k v)) → Follows S first_goes_on c
    → Leading (λ d. R d >>= λ v. S v d) f c least room from to end (λ ts. and_read (p ts) k)
led_then {A} {B} {R} {S} {f} {first_goes_on} {c} {least} {room} {from} {mid} {to} {end} {p} {k} few first second follows = record {
  exact = exact_then R S first_goes_on c least room from mid to end p k few first.exact second follows;
  begins = begins_then R S f first.begins;
}

-- a phrase, and the mark that ends it
pub closed_by : {A B : Type 0} {R : ℕ → Phrase A} {c : TokenKind → Bool} {least room from mid end : ℕ} {p : Reading A} (make : A → B) (byte to : ℕ) (goes_on : TokenKind → Bool) → least ≤ 1
    → Exact R c least room from mid end p → room_after (Mark byte) mid ≡ Some to → c (Mark byte) ≡ false
    → Exact (λ d. R d >>= λ v. mark byte >> done (make v)) goes_on least room from to end (λ ts. and_read (p ts) (λ v ts. and_read (read_mark end byte ts) (λ _. read_done (make v))))
closed_by {A} {B} {R} {c} {least} {room} {from} {mid} {end} {p} make byte to goes_on few exact level apart =
    exact_then R (λ v d. mark byte >> done (make v)) c goes_on least room from mid to end p (λ v ts. and_read (read_mark end byte ts) (λ _. read_done (make v))) few exact
    (λ v. behind_mark byte to few level (exact_done (make v) goes_on least room to end))
    (follows_begins (λ v d. mark byte >> done (make v)) (is_mark_of byte) c goes_on (λ v. begins_then (λ d. mark byte) (λ _ d. done (make v)) (is_mark_of byte) (begins_mark byte)) (apart_mark byte c apart))

pub led_open : {A : Type 0} {S : ℕ → Phrase A} {c : TokenKind → Bool} {room to end : ℕ} {k : Reading A} (byte : ℕ) → opens (Mark byte) ≡ true → Completed S 0
    → ((inner : ℕ) → room ≡ suc inner → Exact S c 0 inner inner to end k)
    → Leading (λ d. bracketed d (mark byte) S) (is_mark_of byte) c 1 room room to end (λ ts. and_read (read_open end byte room ts) (λ _. k))
led_open {A} {S} {c} {room} {to} {end} {k} byte opening completed inside = record {
  exact = exact_open S byte opening c to end completed room k inside;
  begins = begins;
}
  where
    begins : (d : ℕ) (a : List Token) (v : A) (b : List Token) → bracketed d (mark byte) S a v b → next_is (is_mark_of byte) a ≡ true
    begins zero a v b h = absurd h
    begins (suc d) a v b h = begins_mark byte d a tt h.1 h.2

pub closes_to : (inner room : ℕ) → room ≡ suc inner → Some (inner + 1) ≡ Some room
closes_to inner room e = let one : inner + 1 ≡ room = omega arith in ap Some one

pub led_chain : {A : Type 0} {between : Phrase ⊤} {R : ℕ → Phrase A} {f first_goes_on : TokenKind → Bool} {least room level end : ℕ} {next part : Reading A} (join : List A → A) (passes : TokenKind → Bool) → least ≤ 1
    → Leading R f first_goes_on least room level level end part → Leading (λ d. between >> R d) passes first_goes_on least room level level end next → Apart passes first_goes_on
    → Leading (λ d. chain join between (R d)) f (λ kind. first_goes_on kind || passes kind) least room level level end (read_chain join passes next part)
led_chain {A} {between} {R} {f} {first_goes_on} {least} {room} {level} {end} {next} {part} join passes few first more apart = record {
  exact =
      exact_chain join between R passes first_goes_on (λ kind. first_goes_on kind || passes kind) least room level end next part few first.exact more.exact more.begins (apart_next passes first_goes_on apart)
      (stops_first first_goes_on passes) (stops_second first_goes_on passes);
  begins = λ d a v b h. first.begins d a h.0 h.1 h.2;
}

-- one part is a chain
pub chain_one : {A : Type 0} (join : List A → A) (between : Phrase ⊤) (part : Phrase A) (a : List Token) (v : A) (b : List Token) → part a v b → chain join between part a v b
chain_one join between part a v b h = (v, b, h, ([], b, refl, (refl, refl)))
