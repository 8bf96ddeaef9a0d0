-- Readings of nothing, of one token, and of one of two phrases.
use Rattle.std.proofs.Common.{◌≡◌, ℕ, ◌≤◌, Bool, true, false, if◌then◌else◌, Option, None, Some, Result, Ok, Err, List, [], ◌∷◌, ◌++◌, refl, sym, ap, ◌∙◌, inl, inr, arith}
use Rattle.std.specs.Option.{option_and_then}
use Rattle.rela_lex.specs.declared.error.SpecError.{SpecError}
use Rattle.rela_lex.specs.declared.error.SpecError.TheVariants.{Syntax, TooDeep, Memory}
use Rattle.rela_lex.specs.declared.token.Token.{Token}
use Rattle.rela_lex.specs.declared.token.TokenKind.{TokenKind}
use Rattle.rela_spec.specs.Grammar.{SameNext, room_after, room_behind}
use Rattle.rela_spec.specs.Phrases.{Phrase, token, done, ◌or◌}
use Rattle.rela_spec.specs.Readings.{Reading, next_is, choose, read_done, read_token, token_value}
use Rattle.rela_spec.proofs.Exact.{Stops, Outcome, Completed, Exact, same_after, same_passes, nothing_opened}

-- only where the next token passes the phrase begins
abbrev pub Begins : {A : Type 0} → (ℕ → Phrase A) → (TokenKind → Bool) → Type 0
Begins {A} R passes = (d : ℕ) (a : List Token) (v : A) (b : List Token) → R d a v b → next_is passes a ≡ true

-- where the next token passes the phrase doesn't begin
abbrev pub Avoids : {A : Type 0} → (ℕ → Phrase A) → (passes goes_on : TokenKind → Bool) → Type 0
Avoids {A} R passes goes_on = (d : ℕ) (a : List Token) (v : A) (b : List Token) → R d a v b → next_is passes a ≡ true → Stops goes_on b → ⊥

pub exact_done : {A : Type 0} (v : A) (goes_on : TokenKind → Bool) (least room from end : ℕ) → Exact (λ d. done v) goes_on least room from from end (read_done v)
unfolding room_behind
exact_done v goes_on least room from end = record {
  outcome = λ r. record {
    before = [];
    joined = refl;
    spelled = λ d le k. (refl, refl);
    only = λ d y same w b h stops. (h.0, sym h.1);
    level = refl;
  };
  completed = record { others = []; value = v; whole = λ d le k. (refl, refl) };
}

-- the same for more tokens that the phrase may go on with, and a greater least number
pub weaken : {A : Type 0} (R : ℕ → Phrase A) (p : Reading A) (less more : TokenKind → Bool) (few least room from to end : ℕ) → few ≤ least
    → ((b : List Token) → Stops more b → Stops less b) → Exact R less few room from to end p → Exact R more least room from to end p
weaken {A} R p less more few least room from to end le stops exact = record {
  outcome = λ r. go r (p r) (exact.outcome r);
  completed = record { others = exact.completed.others; value = exact.completed.value; whole = λ d far k. exact.completed.whole d (omega arith) k };
}
  where
    go : (r : List Token) (found : Result (A × List Token) SpecError) → Outcome R less room from to end r found → Outcome R more room from to end r found
    go r (Ok found) h = record {
      before = h.before;
      joined = h.joined;
      spelled = h.spelled;
      only = λ d y same w b s stop. h.only d y same w b s (stops b stop);
      level = h.level;
    }
    go r (Err (Syntax at)) h = record {
      before = h.before;
      rest = h.rest;
      joined = h.joined;
      here = h.here;
      never = λ d y same w b s stop. h.never d y same w b s (stops b stop);
      others = h.others;
      value = h.value;
      viable = h.viable;
      left = h.left;
      level = h.level;
    }
    go r (Err (TooDeep at)) h = h
    go r (Err Memory) h = tt
    go r (Err _) h = absurd h

-- the same for a phrase that the same tokens spell
pub exact_as : {A : Type 0} (R S : ℕ → Phrase A) (p : Reading A) (goes_on : TokenKind → Bool) (least room from to end : ℕ)
    → ((d : ℕ) (a : List Token) (v : A) (b : List Token) → R d a v b → S d a v b) → ((d : ℕ) (a : List Token) (v : A) (b : List Token) → S d a v b → R d a v b)
    → Exact R goes_on least room from to end p → Exact S goes_on least room from to end p
exact_as {A} R S p goes_on least room from to end on back exact = record {
  outcome = λ r. go r (p r) (exact.outcome r);
  completed = record { others = exact.completed.others; value = exact.completed.value; whole = λ d far k. on d (exact.completed.others ++ k) exact.completed.value k (exact.completed.whole d far k) };
}
  where
    go : (r : List Token) (found : Result (A × List Token) SpecError) → Outcome R goes_on room from to end r found → Outcome S goes_on room from to end r found
    go r (Ok found) h = record {
      before = h.before;
      joined = h.joined;
      spelled = λ d le k. on d (h.before ++ k) found.0 k (h.spelled d le k);
      only = λ d y same w b s stop. h.only d y same w b (back d (h.before ++ y) w b s) stop;
      level = h.level;
    }
    go r (Err (Syntax at)) h = record {
      before = h.before;
      rest = h.rest;
      joined = h.joined;
      here = h.here;
      never = λ d y same w b s stop. h.never d y same w b (back d (h.before ++ y) w b s) stop;
      others = h.others;
      value = h.value;
      viable = λ d le k. on d (h.before ++ (h.others ++ k)) h.value k (h.viable d le k);
      left = h.left;
      level = h.level;
    }
    go r (Err (TooDeep at)) h = record {
      before = h.before;
      bracket = h.bracket;
      rest = h.rest;
      joined = h.joined;
      here = h.here;
      opening = h.opening;
      level = h.level;
      others = h.others;
      value = h.value;
      viable = λ d le k. on d (h.before ++ h.bracket ∷ (h.others ++ k)) h.value k (h.viable d le k);
    }
    go r (Err Memory) h = tt
    go r (Err _) h = absurd h

-- what passes at the front passes at the front of all that has the same next token behind the same tokens
passes_too : (passes : TokenKind → Bool) (r before now y : List Token) → r ≡ before ++ now → SameNext now y → next_is passes (before ++ y) ≡ next_is passes r
passes_too passes r before now y joined same = sym (same_passes passes r (before ++ y) (same_after r before now y joined same))

module _ {A : Type 0} (R S : ℕ → Phrase A) (passes goes_on : TokenKind → Bool) (room from to end : ℕ) where
  first_of_two : Avoids S passes goes_on → (r : List Token) → next_is passes r ≡ true → (found : Result (A × List Token) SpecError)
      → Outcome R goes_on room from to end r found → Outcome (λ d. R d or S d) goes_on room from to end r found
  first_of_two avoids r next (Ok found) h = record {
    before = h.before;
    joined = h.joined;
    spelled = λ d le k. inl (h.spelled d le k);
    only = λ d y same w b s stop. elim s [
      | inl first ↦ h.only d y same w b first stop
      | inr second ↦ absurd (avoids d (h.before ++ y) w b second (passes_too passes r h.before found.1 y h.joined same ∙ next) stop)
    ];
    level = h.level;
  }
  first_of_two avoids r next (Err (Syntax at)) h = record {
    before = h.before;
    rest = h.rest;
    joined = h.joined;
    here = h.here;
    never = λ d y same w b s stop. elim s [
      | inl first ↦ h.never d y same w b first stop
      | inr second ↦ avoids d (h.before ++ y) w b second (passes_too passes r h.before h.rest y h.joined same ∙ next) stop
    ];
    others = h.others;
    value = h.value;
    viable = λ d le k. inl (h.viable d le k);
    left = h.left;
    level = h.level;
  }
  first_of_two avoids r next (Err (TooDeep at)) h = record {
    before = h.before;
    bracket = h.bracket;
    rest = h.rest;
    joined = h.joined;
    here = h.here;
    opening = h.opening;
    level = h.level;
    others = h.others;
    value = h.value;
    viable = λ d le k. inl (h.viable d le k);
  }
  first_of_two avoids r next (Err Memory) h = tt
  first_of_two avoids r next (Err _) h = absurd h

  not_both : (b : Bool) → b ≡ true → b ≡ false → ⊥
  not_both b yes_it no_it = let never : true ≡ false = sym yes_it ∙ no_it in absurd (let clash = never in cc)

  second_of_two : Begins R passes → (r : List Token) → next_is passes r ≡ false → (found : Result (A × List Token) SpecError)
      → Outcome S goes_on room from to end r found → Outcome (λ d. R d or S d) goes_on room from to end r found
  second_of_two begins r next (Ok found) h = record {
    before = h.before;
    joined = h.joined;
    spelled = λ d le k. inr (h.spelled d le k);
    only = λ d y same w b s stop. elim s [
      | inl first ↦ absurd (not_both (next_is passes (h.before ++ y)) (begins d (h.before ++ y) w b first) (passes_too passes r h.before found.1 y h.joined same ∙ next))
      | inr second ↦ h.only d y same w b second stop
    ];
    level = h.level;
  }
  second_of_two begins r next (Err (Syntax at)) h = record {
    before = h.before;
    rest = h.rest;
    joined = h.joined;
    here = h.here;
    never = λ d y same w b s stop. elim s [
      | inl first ↦ not_both (next_is passes (h.before ++ y)) (begins d (h.before ++ y) w b first) (passes_too passes r h.before h.rest y h.joined same ∙ next)
      | inr second ↦ h.never d y same w b second stop
    ];
    others = h.others;
    value = h.value;
    viable = λ d le k. inr (h.viable d le k);
    left = h.left;
    level = h.level;
  }
  second_of_two begins r next (Err (TooDeep at)) h = record {
    before = h.before;
    bracket = h.bracket;
    rest = h.rest;
    joined = h.joined;
    here = h.here;
    opening = h.opening;
    level = h.level;
    others = h.others;
    value = h.value;
    viable = λ d le k. inr (h.viable d le k);
  }
  second_of_two begins r next (Err Memory) h = tt
  second_of_two begins r next (Err _) h = absurd h

  chosen_at : (p q : Reading A) (r : List Token) (b : Bool) → next_is passes r ≡ b → Begins R passes → Avoids S passes goes_on
      → Outcome R goes_on room from to end r (p r) → Outcome S goes_on room from to end r (q r)
      → Outcome (λ d. R d or S d) goes_on room from to end r (if b then p r else q r)
  chosen_at p q r true next begins avoids first second = first_of_two avoids r next (p r) first
  chosen_at p q r false next begins avoids first second = second_of_two begins r next (q r) second

  pub exact_choose : (least few many : ℕ) (p q : Reading A) → Begins R passes → Avoids S passes goes_on
      → Exact R goes_on few room from to end p → Exact S goes_on many room from to end q → Completed (λ d. R d or S d) least
      → Exact (λ d. R d or S d) goes_on least room from to end (choose passes p q)
  exact_choose least few many p q begins avoids first second completed = record {
    outcome = λ r. chosen_at p q r (next_is passes r) refl begins avoids (first.outcome r) (second.outcome r);
    completed = completed;
  }

pub first_completes : {A : Type 0} (R S : ℕ → Phrase A) (least : ℕ) → Completed R least → Completed (λ d. R d or S d) least
first_completes R S least c = record { others = c.others; value = c.value; whole = λ d le k. inl (c.whole d le k) }

pub second_completes : {A : Type 0} (R S : ℕ → Phrase A) (least : ℕ) → Completed S least → Completed (λ d. R d or S d) least
second_completes R S least c = record { others = c.others; value = c.value; whole = λ d le k. inr (c.whole d le k) }

-- a token by its value: exactly the tokens that have it
pub record Valued {A : Type 0} (Has : Token → A → Type 0) (value : Token → Option A) (from to : ℕ) : Type 0 where
  pub sound : (t : Token) (v : A) → value t ≡ Some v → Has t v
  pub complete : (t : Token) (v : A) → Has t v → value t ≡ Some v
  pub level : (t : Token) (v : A) → Has t v → room_after t.kind from ≡ Some to
  pub sample : Token
  pub sampled : A
  pub has : Has sample sampled

module _ {A : Type 0} (Has : Token → A → Type 0) (value : Token → Option A) (goes_on : TokenKind → Bool) (least room from to end : ℕ) (valued : Valued Has value from to) where
  same_some : (v w : A) → Some v ≡ Some w → v ≡ w
  same_some v w e = cc

  token_level : (t : Token) (o : Option ℕ) → o ≡ Some to → option_and_then (λ left. room_behind left []) o ≡ Some to
  unfolding room_behind
  token_level t None e = e
  token_level t (Some left) e = e

  level_of : (t : Token) (v : A) → Has t v → room_behind from (t ∷ []) ≡ Some to
  unfolding room_behind
  level_of t v has = token_level t (room_after t.kind from) (valued.level t v has)

  token_never : (t : Token) (ts : List Token) → value t ≡ None → (y : List Token) → SameNext (t ∷ ts) y → (w : A) (b : List Token) → token Has y w b → ⊥
  token_never t ts none y same w b h =
      let both : t ∷ same.0 ≡ h.0 ∷ b = sym same.1 ∙ h.1 in
      let one : h.0 ≡ t = cc in
      let some : value t ≡ Some w = ap value (sym one) ∙ valued.complete h.0 w h.2 in
      absurd (let never = sym none ∙ some in cc)

  token_found : (t : Token) (ts : List Token) (o : Option A) → value t ≡ o → Outcome (λ d. token Has) goes_on room from to end (t ∷ ts) (token_value t.at ts o)
  token_found t ts (Some v) e = record {
    before = t ∷ [];
    joined = refl;
    spelled = λ d le k. (t, refl, valued.sound t v e);
    only = λ d y same w b h stops.
        let both : t ∷ y ≡ h.0 ∷ b = h.1 in
        let one : h.0 ≡ t = cc in
        let rest : b ≡ y = cc in
        let some : Some w ≡ Some v = sym (valued.complete h.0 w h.2) ∙ ap value one ∙ e in
        (same_some w v some, rest);
    level = level_of t v (valued.sound t v e);
  }
  token_found t ts None e = record {
    before = [];
    rest = t ∷ ts;
    joined = refl;
    here = refl;
    never = λ d y same w b h stops. token_never t ts e y same w b h;
    others = valued.sample ∷ [];
    value = valued.sampled;
    viable = λ d le k. (valued.sample, refl, valued.has);
    left = from;
    level = nothing_opened from;
  }

  token_outcome : (r : List Token) → Outcome (λ d. token Has) goes_on room from to end r (read_token value end r)
  token_outcome [] = record {
    before = [];
    rest = [];
    joined = refl;
    here = refl;
    never = λ d y same w b h stops. let never : [] ≡ h.0 ∷ b = sym same ∙ h.1 in absurd (let clash = never in cc);
    others = valued.sample ∷ [];
    value = valued.sampled;
    viable = λ d le k. (valued.sample, refl, valued.has);
    left = from;
    level = nothing_opened from;
  }
  token_outcome (t ∷ ts) = token_found t ts (value t) refl

  pub exact_token : Exact (λ d. token Has) goes_on least room from to end (read_token value end)
  exact_token = record {
    outcome = token_outcome;
    completed = record { others = valued.sample ∷ []; value = valued.sampled; whole = λ d le k. (valued.sample, refl, valued.has) };
  }
