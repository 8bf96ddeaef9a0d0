-- A reading behind another is exact for the phrase behind the other's.
use Rattle.std.proofs.Common.{◌≡◌, ℕ, suc, ◌≤◌, Bool, Result, Ok, Err, List, ◌∷◌, ◌++◌, sym, ap, ◌∙◌, subst, arith, append_assoc}
use Rattle.rela_lex.specs.declared.error.SpecError.{SpecError}
use Rattle.rela_lex.specs.declared.error.SpecError.TheVariants.{Syntax, TooDeep, Memory}
use Rattle.rela_lex.specs.declared.token.Token.{Token}
use Rattle.rela_lex.specs.declared.token.TokenKind.{TokenKind}
use Rattle.rela_spec.specs.Grammar.{SameNext}
use Rattle.rela_spec.specs.Phrases.{Phrase, ◌>>=◌}
use Rattle.rela_spec.specs.Readings.{Reading, and_read}
use Rattle.rela_spec.proofs.Exact.{Stops, Read, Outcome, Exact, same_after, room_append}

-- what the phrase behind begins with ends the first
abbrev pub Follows : {A B : Type 0} → (A → ℕ → Phrase B) → (first_goes_on goes_on : TokenKind → Bool) → Type 0
Follows {A} {B} S first_goes_on goes_on = (v : A) (d : ℕ) (m : List Token) (w : B) (b : List Token) → S v d m w b → Stops goes_on b → Stops first_goes_on m

module _ {A B : Type 0} (R : ℕ → Phrase A) (S : A → ℕ → Phrase B) (first_goes_on goes_on : TokenKind → Bool) (least room from mid to end : ℕ) where
  regroup : (v : A) (d : ℕ) (m xs ys zs : List Token) → R d (xs ++ (ys ++ zs)) v m → R d ((xs ++ ys) ++ zs) v m
  regroup v d m xs ys zs h = subst (λ (x : List Token). R d x v m) (sym (append_assoc xs ys zs)) h

  ungroup : (v : A) (d : ℕ) (m xs ys zs : List Token) → R d ((xs ++ ys) ++ zs) v m → R d (xs ++ (ys ++ zs)) v m
  ungroup v d m xs ys zs h = subst (λ (x : List Token). R d x v m) (append_assoc xs ys zs) h

  joined_on : (r m now xs ys : List Token) → r ≡ xs ++ m → m ≡ ys ++ now → r ≡ (xs ++ ys) ++ now
  joined_on r m now xs ys first second = first ∙ ap (λ (x : List Token). xs ++ x) second ∙ sym (append_assoc xs ys now)

  -- the second phrase of a whole that has the first as it was read
  rest_only : (r : List Token) (v : A) (m : List Token) → Read R first_goes_on room from mid r v m → Follows S first_goes_on goes_on
      → (d : ℕ) (xs now y : List Token) → m ≡ xs ++ now → SameNext now y → (first : Read R first_goes_on room from mid r v m)
      → (w : B) (b : List Token) → (R d >>= λ v. S v d) ((first.before ++ xs) ++ y) w b → Stops goes_on b → S v d (xs ++ y) w b
  rest_only r v m _ follows d xs now y joined same first w b h stops =
      let one = first.only d (xs ++ y) (same_after m xs now y joined same) h.0 h.1 (ungroup h.0 d h.1 first.before xs y h.2) (follows h.0 d h.1 w b h.3 stops) in
      subst (λ (x : List Token). S v d x w b) one.1 (subst (λ (x : A). S x d h.1 w b) one.0 h.3)

  then_read : (r : List Token) (v : A) (m : List Token) → Read R first_goes_on room from mid r v m → Follows S first_goes_on goes_on
      → (found : Result (B × List Token) SpecError) → Outcome (S v) goes_on room mid to end m found
      → Outcome (λ d. R d >>= λ v. S v d) goes_on room from to end r found
  then_read r v m first follows (Ok found) second = record {
    before = first.before ++ second.before;
    joined = joined_on r m found.1 first.before second.before first.joined second.joined;
    spelled = λ d le k. (v, second.before ++ k, regroup v d (second.before ++ k) first.before second.before k (first.spelled d le (second.before ++ k)), second.spelled d le k);
    only = λ d y same w b h stops. second.only d y same w b (rest_only r v m first follows d second.before found.1 y second.joined same first w b h stops) stops;
    level = room_append first.before second.before from mid first.level ∙ second.level;
  }
  then_read r v m first follows (Err (Syntax at)) second = record {
    before = first.before ++ second.before;
    rest = second.rest;
    joined = joined_on r m second.rest first.before second.before first.joined second.joined;
    here = second.here;
    never = λ d y same w b h stops. second.never d y same w b (rest_only r v m first follows d second.before second.rest y second.joined same first w b h stops) stops;
    others = second.others;
    value = second.value;
    viable = λ d lt k. (v, second.before ++ (second.others ++ k), regroup v d (second.before ++ (second.others ++ k)) first.before second.before (second.others ++ k) (first.spelled d (omega arith) (second.before ++ (second.others ++ k))), second.viable d lt k);
    left = second.left;
    level = room_append first.before second.before from mid first.level ∙ second.level;
  }
  then_read r v m first follows (Err (TooDeep at)) second = record {
    before = first.before ++ second.before;
    bracket = second.bracket;
    rest = second.rest;
    joined = joined_on r m (second.bracket ∷ second.rest) first.before second.before first.joined second.joined;
    here = second.here;
    opening = second.opening;
    level = room_append first.before second.before from mid first.level ∙ second.level;
    others = second.others;
    value = second.value;
    viable = λ d lt k. (v, second.before ++ second.bracket ∷ (second.others ++ k), regroup v d (second.before ++ second.bracket ∷ (second.others ++ k)) first.before second.before (second.bracket ∷ (second.others ++ k)) (first.spelled d (omega arith) (second.before ++ second.bracket ∷ (second.others ++ k))), second.viable d lt k);
  }
  then_read r v m first follows (Err Memory) second = tt
  then_read r v m first follows (Err _) second = absurd second

  then_found : (r : List Token) (k : A → Reading B) → Follows S first_goes_on goes_on → least ≤ suc room → ((v : A) → Exact (S v) goes_on least room mid to end (k v))
      → (found : Result (A × List Token) SpecError) → Outcome R first_goes_on room from mid end r found
      → Outcome (λ d. R d >>= λ v. S v d) goes_on room from to end r (and_read found k)
  then_found r k follows few second (Ok found) first = then_read r found.0 found.1 first follows (k found.0 found.1) ((second found.0).outcome found.1)
  then_found r k follows few second (Err (Syntax at)) first =
      let more = (second first.value).completed in
      record {
        before = first.before;
        rest = first.rest;
        joined = first.joined;
        here = first.here;
        never = λ d y same w b h stops. first.never d y same h.0 h.1 h.2 (follows h.0 d h.1 w b h.3 stops);
        others = first.others ++ more.others;
        value = more.value;
        viable = λ d lt k. (first.value, more.others ++ k, subst (λ (x : List Token). R d (first.before ++ x) first.value (more.others ++ k)) (sym (append_assoc first.others more.others k)) (first.viable d lt (more.others ++ k)), more.whole d (omega arith) k);
        left = first.left;
        level = first.level;
      }
  then_found r k follows few second (Err (TooDeep at)) first =
      let more = (second first.value).completed in
      record {
        before = first.before;
        bracket = first.bracket;
        rest = first.rest;
        joined = first.joined;
        here = first.here;
        opening = first.opening;
        level = first.level;
        others = first.others ++ more.others;
        value = more.value;
        viable = λ d lt k. (first.value, more.others ++ k, subst (λ (x : List Token). R d (first.before ++ first.bracket ∷ x) first.value (more.others ++ k)) (sym (append_assoc first.others more.others k)) (first.viable d lt (more.others ++ k)), more.whole d (omega arith) k);
      }
  then_found r k follows few second (Err Memory) first = tt
  then_found r k follows few second (Err _) first = absurd first

  pub exact_then : (p : Reading A) (k : A → Reading B) → least ≤ 1 → Exact R first_goes_on least room from mid end p → ((v : A) → Exact (S v) goes_on least room mid to end (k v)) → Follows S first_goes_on goes_on
      → Exact (λ d. R d >>= λ v. S v d) goes_on least room from to end (λ ts. and_read (p ts) k)
  exact_then p k few first second follows =
      let more = (second first.completed.value).completed in
      record {
        outcome = λ r. then_found r k follows (omega arith) second (p r) (first.outcome r);
        completed = record {
          others = first.completed.others ++ more.others;
          value = more.value;
          whole = λ d lt k. (first.completed.value, more.others ++ k, subst (λ (x : List Token). R d x first.completed.value (more.others ++ k)) (sym (append_assoc first.completed.others more.others k)) (first.completed.whole d lt (more.others ++ k)), more.whole d lt k);
        };
      }
