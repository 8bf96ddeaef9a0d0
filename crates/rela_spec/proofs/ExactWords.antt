-- Single tokens are read exactly, and so is what stands behind them.
use Rattle.std.proofs.Common.{◌≡◌, ◌⊎◌, ℕ, Bool, true, false, ◌||◌, not, Some, List, [], ◌∷◌, refl, sym, ap, ◌∙◌, subst, inl, inr}
use Rattle.std.specs.Prelude.{codes}
use Rattle.std.proofs.lemmas.Bool.{cases_Bool, or_cases}
use Rattle.std.proofs.lemmas.Slice.Eq.{bytes_eq-Decides}
use Rattle.rela_lex.specs.declared.token.Token.{Token}
use Rattle.rela_lex.specs.declared.token.TokenKind.{TokenKind}
use Rattle.rela_lex.specs.declared.token.TokenKind.TheVariants.{Mark, Bare, Quoted, Reference}
use Rattle.rela_spec.specs.Grammar.{is_mark_of, room_after}
use Rattle.rela_spec.specs.GrammarWords.{Named, mark, word, name, reference, number, number_of, is_number}
use Rattle.rela_spec.specs.Keywords.{is_keyword}
use Rattle.rela_spec.specs.Phrases.{Phrase, token, done, ◌or◌, ◌>>=◌}
use Rattle.rela_spec.specs.ReadWords.{is_word_of, is_name_kind, is_reference_kind, if_so, mark_value, word_value, named, name_in, reference_in, number_in, read_mark, read_word, read_name, read_reference, read_number}
use Rattle.rela_spec.specs.Readings.{next_is}
use Rattle.rela_spec.proofs.Exact.{Stops, Exact}
use Rattle.rela_spec.proofs.Then.{Follows}
use Rattle.rela_spec.proofs.Choose.{Begins, Avoids, exact_token}
use Rattle.rela_spec.proofs.Opened.{mark_is, is_mark_itself}

-- tokens that no phrase goes on with
abbrev pub nothing : TokenKind → Bool
nothing kind = false

pub stops_nothing : (ts : List Token) → Stops nothing ts
stops_nothing [] = refl
stops_nothing (t ∷ ts) = refl

-- what passes the one test doesn't pass the other
abbrev pub Apart : (f g : TokenKind → Bool) → Type 0
Apart f g = (kind : TokenKind) → f kind ≡ true → g kind ≡ false

true_is_not_false : (b : Bool) → b ≡ true → b ≡ false → ⊥
true_is_not_false b yes_it no_it = let never : true ≡ false = sym yes_it ∙ no_it in absurd (let clash = never in cc)

pub word_is : (bytes : List ℕ) (kind : TokenKind) → is_word_of bytes kind ≡ true → kind ≡ Bare bytes
word_is bytes (Bare name) e = ap Bare ((bytes_eq-Decides name bytes).0 e)
word_is bytes (Mark byte) e = absurd (let clash = e in cc)
word_is bytes (Quoted name) e = absurd (let clash = e in cc)
word_is bytes (Reference name) e = absurd (let clash = e in cc)

pub is_word_itself : (bytes : List ℕ) (kind : TokenKind) → kind ≡ Bare bytes → is_word_of bytes kind ≡ true
is_word_itself bytes kind e = ap (is_word_of bytes) e ∙ (bytes_eq-Decides bytes bytes).1 refl

pub apart_mark : (byte : ℕ) (g : TokenKind → Bool) → g (Mark byte) ≡ false → Apart (is_mark_of byte) g
apart_mark byte g e kind is = ap g (mark_is byte kind is) ∙ e

pub apart_word : (bytes : List ℕ) (g : TokenKind → Bool) → g (Bare bytes) ≡ false → Apart (is_word_of bytes) g
apart_word bytes g e kind is = ap g (word_is bytes kind is) ∙ e

pub apart_or : (f g h : TokenKind → Bool) → Apart f h → Apart g h → Apart (λ kind. f kind || g kind) h
apart_or f g h first second kind e = elim (or_cases (f kind) (g kind) e) [ inl one ↦ first kind one | inr two ↦ second kind two ]

pub apart_back : (f g : TokenKind → Bool) → Apart f g → Apart g f
apart_back f g apart kind e =
    elim (cases_Bool (f kind)) [
      | inl holds ↦ absurd (true_is_not_false (g kind) e (apart kind holds))
      | inr fails ↦ fails
    ]

pub apart_next : (f g : TokenKind → Bool) → Apart f g → (ts : List Token) → next_is f ts ≡ true → Stops g ts
apart_next f g apart [] e = refl
apart_next f g apart (t ∷ ts) e = apart t.kind e

left_false : (x y : Bool) → (x || y) ≡ false → x ≡ false
left_false true y e = e
left_false false y e = refl

right_false : (x y : Bool) → (x || y) ≡ false → y ≡ false
right_false true y e = absurd (let clash = e in cc)
right_false false y e = e

pub stops_first : (f g : TokenKind → Bool) (ts : List Token) → Stops (λ kind. f kind || g kind) ts → Stops f ts
stops_first f g [] e = refl
stops_first f g (t ∷ ts) e = left_false (f t.kind) (g t.kind) e

pub stops_second : (f g : TokenKind → Bool) (ts : List Token) → Stops (λ kind. f kind || g kind) ts → Stops g ts
stops_second f g [] e = refl
stops_second f g (t ∷ ts) e = right_false (f t.kind) (g t.kind) e

pub begins_then : {A B : Type 0} (R : ℕ → Phrase A) (S : A → ℕ → Phrase B) (f : TokenKind → Bool) → Begins R f → Begins (λ d. R d >>= λ v. S v d) f
begins_then R S f begins d a v b h = begins d a h.0 h.1 h.2

pub begins_or : {A : Type 0} (R S : ℕ → Phrase A) (f g : TokenKind → Bool) → Begins R f → Begins S g → Begins (λ d. R d or S d) (λ kind. f kind || g kind)
begins_or R S f g first second d a v b (inl h) = passes_left f g a (first d a v b h)
  where
    passes_left : (f g : TokenKind → Bool) (ts : List Token) → next_is f ts ≡ true → next_is (λ kind. f kind || g kind) ts ≡ true
    passes_left f g [] e = e
    passes_left f g (t ∷ ts) e = rw e refl
begins_or R S f g first second d a v b (inr h) = passes_right f g a (second d a v b h)
  where
    or_true : (x : Bool) → (x || true) ≡ true
    or_true true = refl
    or_true false = refl

    passes_right : (f g : TokenKind → Bool) (ts : List Token) → next_is g ts ≡ true → next_is (λ kind. f kind || g kind) ts ≡ true
    passes_right f g [] e = e
    passes_right f g (t ∷ ts) e = ap (λ (x : Bool). f t.kind || x) e ∙ or_true (f t.kind)

pub begins_token : {A : Type 0} (Has : Token → A → Type 0) (f : TokenKind → Bool) → ((t : Token) (v : A) → Has t v → f t.kind ≡ true) → Begins (λ d. token Has) f
begins_token Has f is d a v b h = ap (next_is f) h.1 ∙ is h.0 v h.2

pub begins_mark : (byte : ℕ) → Begins (λ d. mark byte) (is_mark_of byte)
begins_mark byte = begins_token (λ t _. t.kind ≡ Mark byte) (is_mark_of byte) (λ t v h. is_mark_itself byte t.kind h)

pub begins_word : (bytes : List ℕ) → Begins (λ d. word bytes) (is_word_of bytes)
begins_word bytes = begins_token (λ t _. t.kind ≡ Bare bytes) (is_word_of bytes) (λ t v h. is_word_itself bytes t.kind h)

pub begins_name : Begins (λ d. name) is_name_kind
begins_name d a v b h = ap (next_is is_name_kind) h.1 ∙ is h.0.kind h.2.1
  where
    is : (kind : TokenKind) → ((kind ≡ Quoted v.name) ⊎ ((kind ≡ Bare v.name) × (is_keyword v.name ≡ false))) → is_name_kind kind ≡ true
    is kind (inl e) = ap is_name_kind e
    is kind (inr e) = ap is_name_kind e.0 ∙ ap not e.1

pub begins_reference : Begins (λ d. reference) is_reference_kind
begins_reference d a v b h = ap (next_is is_reference_kind) h.1 ∙ ap is_reference_kind h.2.1

pub avoids_begins : {A : Type 0} (R : ℕ → Phrase A) (f g c : TokenKind → Bool) → Begins R g → Apart f g → Avoids R f c
avoids_begins R f g c begins apart d a v b h next stop = true_is_not_false (next_is g a) (begins d a v b h) (apart_next f g apart a next)

pub avoids_or : {A : Type 0} (R S : ℕ → Phrase A) (f c : TokenKind → Bool) → Avoids R f c → Avoids S f c → Avoids (λ d. R d or S d) f c
avoids_or R S f c first second d a v b (inl h) next stop = first d a v b h next stop
avoids_or R S f c first second d a v b (inr h) next stop = second d a v b h next stop

pub avoids_done : {A : Type 0} (v : A) (f c : TokenKind → Bool) → ((ts : List Token) → Stops c ts → Stops f ts) → Avoids (λ d. done v) f c
avoids_done v f c stops d a w b h next stop = true_is_not_false (next_is f a) next (stops a (subst (Stops c) (sym h.1) stop))

pub follows_nothing : {A B : Type 0} (S : A → ℕ → Phrase B) (c : TokenKind → Bool) → Follows S nothing c
follows_nothing S c v d m w b h stop = stops_nothing m

pub follows_begins : {A B : Type 0} (S : A → ℕ → Phrase B) (f g c : TokenKind → Bool) → ((v : A) → Begins (S v) f) → Apart f g → Follows S g c
follows_begins S f g c begins apart v d m w b h stop = apart_next f g apart m (begins v d m w b h)

pub follows_done : {A B : Type 0} (make : A → B) (c : TokenKind → Bool) → Follows (λ v d. done (make v)) c c
follows_done make c v d m w b h stop = subst (Stops c) (sym h.1) stop

if_so_holds : {A : Type 0} (v w : A) (b : Bool) → if_so v b ≡ Some w → b ≡ true
if_so_holds v w true e = refl
if_so_holds v w false e = absurd (let clash = e in cc)

pub exact_mark : (byte : ℕ) (goes_on : TokenKind → Bool) (least room from to end : ℕ) → room_after (Mark byte) from ≡ Some to → Exact (λ d. mark byte) goes_on least room from to end (read_mark end byte)
unfolding read_mark
exact_mark byte goes_on least room from to end level = exact_token (λ t _. t.kind ≡ Mark byte) (mark_value byte) goes_on least room from to end (record {
  sound = λ t v e. mark_is byte t.kind (if_so_holds tt v (is_mark_of byte t.kind) e);
  complete = λ t v has. ap (if_so tt) (is_mark_itself byte t.kind has);
  level = λ t v has. ap (λ (kind : TokenKind). room_after kind from) has ∙ level;
  sample = record { at = 0; kind = Mark byte };
  sampled = tt;
  has = refl;
})

pub exact_word : (bytes : List ℕ) (goes_on : TokenKind → Bool) (least room level end : ℕ) → Exact (λ d. word bytes) goes_on least room level level end (read_word end bytes)
unfolding read_word
exact_word bytes goes_on least room level end = exact_token (λ t _. t.kind ≡ Bare bytes) (word_value bytes) goes_on least room level level end (record {
  sound = λ t v e. word_is bytes t.kind (if_so_holds tt v (is_word_of bytes t.kind) e);
  complete = λ t v has. ap (if_so tt) (is_word_itself bytes t.kind has);
  level = λ t v has. ap (λ (kind : TokenKind). room_after kind level) has;
  sample = record { at = 0; kind = Bare bytes };
  sampled = tt;
  has = refl;
})

some_named : (at : ℕ) (name : List ℕ) (n : Named) → Some (named at name) ≡ Some n → named at name ≡ n
some_named at name n e = cc

not_true : (b : Bool) → not b ≡ true → b ≡ false
not_true true e = absurd (let clash = e in cc)
not_true false e = refl

name_sound : (at : ℕ) (kind : TokenKind) (n : Named) → name_in at kind ≡ Some n → (n.at ≡ at) × ((kind ≡ Quoted n.name) ⊎ ((kind ≡ Bare n.name) × (is_keyword n.name ≡ false)))
name_sound at (Quoted name) n e =
    let same = some_named at name n e in
    (sym (ap (λ (x : Named). x.at) same), inl (ap (λ (x : Named). Quoted x.name) same))
name_sound at (Bare name) n e =
    let holds = if_so_holds (named at name) n (not (is_keyword name)) e in
    let same = some_named at name n (sym (ap (if_so (named at name)) holds) ∙ e) in
    (sym (ap (λ (x : Named). x.at) same), inr (ap (λ (x : Named). Bare x.name) same, ap (λ (x : Named). is_keyword x.name) (sym same) ∙ not_true (is_keyword name) holds))
name_sound at (Mark byte) n e = absurd (let clash = e in cc)
name_sound at (Reference name) n e = absurd (let clash = e in cc)

name_complete : (at : ℕ) (kind : TokenKind) (n : Named) → n.at ≡ at → ((kind ≡ Quoted n.name) ⊎ ((kind ≡ Bare n.name) × (is_keyword n.name ≡ false))) → name_in at kind ≡ Some n
name_complete at kind n here (inl e) = ap (name_in at) e ∙ ap (λ (x : ℕ). Some (named x n.name)) (sym here)
name_complete at kind n here (inr e) = ap (name_in at) e.0 ∙ ap (λ (b : Bool). if_so (named at n.name) (not b)) e.1 ∙ ap (λ (x : ℕ). Some (named x n.name)) (sym here)

name_level : (level : ℕ) (kind : TokenKind) (n : Named) → ((kind ≡ Quoted n.name) ⊎ ((kind ≡ Bare n.name) × (is_keyword n.name ≡ false))) → room_after kind level ≡ Some level
name_level level kind n (inl e) = ap (λ (k : TokenKind). room_after k level) e
name_level level kind n (inr e) = ap (λ (k : TokenKind). room_after k level) e.0

pub exact_name : (goes_on : TokenKind → Bool) (least room level end : ℕ) → Exact (λ d. name) goes_on least room level level end (read_name end)
unfolding read_name is_keyword
exact_name goes_on least room level end =
    exact_token (λ t n. (n.at ≡ t.at) × ((t.kind ≡ Quoted n.name) ⊎ ((t.kind ≡ Bare n.name) × (is_keyword n.name ≡ false)))) (λ t. name_in t.at t.kind) goes_on least room level level end (record {
      sound = λ t v e. name_sound t.at t.kind v e;
      complete = λ t v has. name_complete t.at t.kind v has.0 has.1;
      level = λ t v has. name_level level t.kind v has.1;
      sample = record { at = 0; kind = Quoted (codes "a") };
      sampled = named 0 (codes "a");
      has = (refl, inl refl);
    })

reference_sound : (at : ℕ) (kind : TokenKind) (n : Named) → reference_in at kind ≡ Some n → (n.at ≡ at) × (kind ≡ Reference n.name)
reference_sound at (Reference name) n e = let same = some_named at name n e in (sym (ap (λ (x : Named). x.at) same), ap (λ (x : Named). Reference x.name) same)
reference_sound at (Mark byte) n e = absurd (let clash = e in cc)
reference_sound at (Bare name) n e = absurd (let clash = e in cc)
reference_sound at (Quoted name) n e = absurd (let clash = e in cc)

pub exact_reference : (goes_on : TokenKind → Bool) (least room level end : ℕ) → Exact (λ d. reference) goes_on least room level level end (read_reference end)
unfolding read_reference
exact_reference goes_on least room level end =
    exact_token (λ t n. (n.at ≡ t.at) × (t.kind ≡ Reference n.name)) (λ t. reference_in t.at t.kind) goes_on least room level level end (record {
      sound = λ t v e. reference_sound t.at t.kind v e;
      complete = λ t v has. ap (reference_in t.at) has.1 ∙ ap (λ (x : ℕ). Some (named x v.name)) (sym has.0);
      level = λ t v has. ap (λ (k : TokenKind). room_after k level) has.1;
      sample = record { at = 0; kind = Reference (codes "a") };
      sampled = named 0 (codes "a");
      has = (refl, refl);
    })

some_number : (n m : ℕ) → Some n ≡ Some m → n ≡ m
some_number n m e = cc

number_sound : (kind : TokenKind) (n : ℕ) → number_in kind ≡ Some n → (w : List ℕ) × (kind ≡ Bare w) × (is_number w ≡ true) × (n ≡ number_of w)
number_sound (Bare w) n e =
    let holds = if_so_holds (number_of w) n (is_number w) e in
    (w, refl, holds, sym (some_number (number_of w) n (sym (ap (if_so (number_of w)) holds) ∙ e)))
number_sound (Mark byte) n e = absurd (let clash = e in cc)
number_sound (Quoted w) n e = absurd (let clash = e in cc)
number_sound (Reference w) n e = absurd (let clash = e in cc)

pub exact_number : (goes_on : TokenKind → Bool) (least room level end : ℕ) → Exact (λ d. number) goes_on least room level level end (read_number end)
unfolding read_number
exact_number goes_on least room level end =
    exact_token (λ t n. (w : List ℕ) × (t.kind ≡ Bare w) × (is_number w ≡ true) × (n ≡ number_of w)) (λ t. number_in t.kind) goes_on least room level level end (record {
      sound = λ t v e. number_sound t.kind v e;
      complete = λ t v has. ap number_in has.1 ∙ ap (if_so (number_of has.0)) has.2 ∙ ap Some (sym has.3);
      level = λ t v has. ap (λ (k : TokenKind). room_after k level) has.1;
      sample = record { at = 0; kind = Bare (codes "0") };
      sampled = number_of (codes "0");
      has = (codes "0", refl, refl, refl);
    })
