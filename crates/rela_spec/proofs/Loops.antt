-- Loops that read a phrase many times.
use Rattle.std.proofs.Common.{◌≡◌, ℕ, zero, suc, ◌<◌, ◌≤◌, Bool, true, false, Result, Ok, Err, List, [], ◌∷◌, ◌++◌, length, refl, sym, ap, ◌∙◌, subst, arith, append_assoc, append-nil}
use Rattle.std.proofs.lemmas.Bool.{cond-true, cond-false}
use Rattle.rela_lex.specs.declared.error.SpecError.{SpecError}
use Rattle.rela_lex.specs.declared.error.SpecError.TheVariants.{Memory}
use Rattle.rela_lex.specs.declared.token.Token.{Token}
use Rattle.rela_lex.specs.declared.token.TokenKind.{TokenKind}
use Rattle.rela_spec.specs.Phrases.{joined_parts}
use Rattle.rela_spec.specs.Readings.{Reading, next_is, and_read, read_done, read_many, read_all, read_chain, read_onto}

-- what is read of the rest, behind what was read, is what is read of all
pub record Gathers {A : Type 0} (passes : TokenKind → Bool) (p : Reading A) (before : List A) (tokens : List Token) (so_far : List A) (rest : List Token) : Type 0 where
  pub left : ℕ
  pub enough : length rest ≤ left
  pub same : read_onto so_far (read_many passes p left) rest ≡ read_onto before (read_all passes p) tokens

module _ {A : Type 0} (passes : TokenKind → Bool) (p : Reading A) where
  pub gathers_start : (before : List A) (tokens : List Token) → Gathers passes p before tokens before tokens
  unfolding read_all
  gathers_start before tokens = record { left = length tokens; enough = omega arith; same = refl }

  some_left : (rest : List Token) (left : ℕ) → next_is passes rest ≡ true → length rest ≤ left → (n : ℕ) × (left ≡ suc n)
  some_left [] left next enough = absurd (let clash = next in cc)
  some_left (t ∷ ts) zero next enough = absurd (omega arith)
  some_left (t ∷ ts) (suc n) next enough = (n, refl)

  one_more : (n : ℕ) (rest : List Token) → next_is passes rest ≡ true → read_many passes p (suc n) rest ≡ and_read (p rest) (λ v ts. and_read (read_many passes p n ts) (λ vs. read_done (v ∷ vs)))
  one_more n rest next = cond-true (next_is passes rest) (and_read (p rest) (λ v ts. and_read (read_many passes p n ts) (λ vs. read_done (v ∷ vs)))) (Ok ([], rest)) next

  no_more : (n : ℕ) (rest : List Token) → next_is passes rest ≡ false → read_many passes p n rest ≡ Ok ([], rest)
  no_more zero rest next = cond-false (next_is passes rest) (Err Memory) (Ok ([], rest)) next
  no_more (suc n) rest next = cond-false (next_is passes rest) (and_read (p rest) (λ v ts. and_read (read_many passes p n ts) (λ vs. read_done (v ∷ vs)))) (Ok ([], rest)) next

  push_onto : (so_far : List A) (v : A) (found : Result (List A × List Token) SpecError)
      → and_read found (λ vs. read_done ((so_far ++ v ∷ []) ++ vs)) ≡ and_read (and_read found (λ vs. read_done (v ∷ vs))) (λ vs. read_done (so_far ++ vs))
  push_onto so_far v (Ok found) = ap (λ (x : List A). Ok (x, found.1)) (append_assoc so_far (v ∷ []) found.0)
  push_onto so_far v (Err e) = refl

  onto : List A → Result (List A × List Token) SpecError → Result (List A × List Token) SpecError
  onto before found = and_read found (λ vs. read_done (before ++ vs))

  pub gathers_more : (before : List A) (tokens : List Token) (so_far : List A) (rest : List Token) (v : A) (now : List Token) → Gathers passes p before tokens so_far rest
      → next_is passes rest ≡ true → p rest ≡ Ok (v, now) → length now < length rest → Gathers passes p before tokens (so_far ++ v ∷ []) now
  unfolding onto
  gathers_more before tokens so_far rest v now g next read less =
      let some = some_left rest g.left next g.enough in
      let after : Result (A × List Token) SpecError → Result (List A × List Token) SpecError = λ found. and_read found (λ v ts. and_read (read_many passes p some.0 ts) (λ vs. read_done (v ∷ vs))) in
      record {
        left = some.0;
        enough = omega (arith, some.1, g.enough);
        same =
            push_onto so_far v (read_many passes p some.0 now)
            ∙ ap (λ (x : Result (A × List Token) SpecError). onto so_far (after x)) (sym read)
            ∙ ap (onto so_far) (sym (one_more some.0 rest next))
            ∙ ap (λ (n : ℕ). onto so_far (read_many passes p n rest)) (sym some.1)
            ∙ g.same;
      }

  pub gathers_fault : (before : List A) (tokens : List Token) (so_far : List A) (rest : List Token) (e : SpecError) → Gathers passes p before tokens so_far rest
      → next_is passes rest ≡ true → p rest ≡ Err e → read_onto before (read_all passes p) tokens ≡ Err e
  unfolding onto
  gathers_fault before tokens so_far rest e g next read =
      let some = some_left rest g.left next g.enough in
      let after : Result (A × List Token) SpecError → Result (List A × List Token) SpecError = λ found. and_read found (λ v ts. and_read (read_many passes p some.0 ts) (λ vs. read_done (v ∷ vs))) in
      sym g.same
      ∙ ap (λ (n : ℕ). onto so_far (read_many passes p n rest)) some.1
      ∙ ap (onto so_far) (one_more some.0 rest next)
      ∙ ap (λ (x : Result (A × List Token) SpecError). onto so_far (after x)) read

  pub gathers_end : (before : List A) (tokens : List Token) (so_far : List A) (rest : List Token) → Gathers passes p before tokens so_far rest
      → next_is passes rest ≡ false → read_onto before (read_all passes p) tokens ≡ Ok (so_far, rest)
  unfolding onto
  gathers_end before tokens so_far rest g next = sym g.same ∙ ap (onto so_far) (no_more g.left rest next) ∙ ap (λ (x : List A). Ok (x, rest)) (append-nil so_far)

  pub from_none : (tokens : List Token) (vs : List A) (now : List Token) → read_onto [] (read_all passes p) tokens ≡ Ok (vs, now) → read_all passes p tokens ≡ Ok (vs, now)
  from_none tokens vs now e = onto_none (read_all passes p tokens) ∙ e
    where
      onto_none : (found : Result (List A × List Token) SpecError) → found ≡ and_read found (λ vs. read_done ([] ++ vs))
      onto_none (Ok found) = refl
      onto_none (Err e) = refl

  pub from_none_fault : (tokens : List Token) (e : SpecError) → read_onto [] (read_all passes p) tokens ≡ Err e → read_all passes p tokens ≡ Err e
  from_none_fault tokens e h = onto_none (read_all passes p tokens) ∙ h
    where
      onto_none : (found : Result (List A × List Token) SpecError) → found ≡ and_read found (λ vs. read_done ([] ++ vs))
      onto_none (Ok found) = refl
      onto_none (Err e) = refl

  module _ (join : List A → A) (part : Reading A) where
    chain_of : Result (A × List Token) SpecError → Result (A × List Token) SpecError
    chain_of found = and_read found (λ first ts. and_read (read_all passes p ts) (λ others. read_done (joined_parts join first others)))

    pub chain_first_fault : (tokens : List Token) (e : SpecError) → part tokens ≡ Err e → read_chain join passes p part tokens ≡ Err e
    unfolding chain_of
    chain_first_fault tokens e read = ap chain_of read

    pub chain_alone : (tokens : List Token) (first : A) (rest : List Token) → part tokens ≡ Ok (first, rest) → next_is passes rest ≡ false → read_chain join passes p part tokens ≡ Ok (first, rest)
    unfolding chain_of read_all
    chain_alone tokens first rest read next = ap chain_of read ∙ ap (λ (x : Result (List A × List Token) SpecError). and_read x (λ others. read_done (joined_parts join first others))) (no_more (length rest) rest next)

    pub chain_more_fault : (tokens : List Token) (first : A) (rest : List Token) (e : SpecError) → part tokens ≡ Ok (first, rest) → read_onto (first ∷ []) (read_all passes p) rest ≡ Err e
        → read_chain join passes p part tokens ≡ Err e
    unfolding chain_of
    chain_more_fault tokens first rest e read more = ap chain_of read ∙ fault (read_all passes p rest) more
      where
        fault : (found : Result (List A × List Token) SpecError) → and_read found (λ vs. read_done ((first ∷ []) ++ vs)) ≡ Err e → and_read found (λ others. read_done (joined_parts join first others)) ≡ Err e
        fault (Ok found) h = absurd (let clash = h in cc)
        fault (Err f) h = let same : f ≡ e = cc in ap Err same

    -- more is read where the next token passes
    not_none : (n : ℕ) (rest : List Token) (now : List Token) → next_is passes rest ≡ true → read_many passes p n rest ≡ Ok ([], now) → ⊥
    not_none zero rest now next e = absurd (let clash = sym (cond-true (next_is passes rest) (Err Memory) (Ok ([], rest)) next) ∙ e in cc)
    not_none (suc n) rest now next e = some (p rest) (sym (one_more n rest next) ∙ e)
      where
        behind : (v : A) (found : Result (List A × List Token) SpecError) → and_read found (λ vs. read_done (v ∷ vs)) ≡ Ok ([], now) → ⊥
        behind v (Ok found) h =
            let both : ◌≡◌ {A = List A × List Token} (v ∷ found.0, found.1) ([], now) = cc in
            let clash : v ∷ found.0 ≡ [] = ap (λ (x : List A × List Token). x.0) both in
            absurd (let apart = clash in cc)
        behind v (Err f) h = absurd (let clash = h in cc)

        some : (found : Result (A × List Token) SpecError) → and_read found (λ v ts. and_read (read_many passes p n ts) (λ vs. read_done (v ∷ vs))) ≡ Ok ([], now) → ⊥
        some (Ok found) h = behind found.0 (read_many passes p n found.1) h
        some (Err f) h = absurd (let clash = h in cc)

    joined_all : (first : A) (parts : List A) (now : List Token) (found : Result (List A × List Token) SpecError) → ((b : List Token) → found ≡ Ok ([], b) → ⊥)
        → and_read found (λ vs. read_done ((first ∷ []) ++ vs)) ≡ Ok (parts, now) → and_read found (λ others. read_done (joined_parts join first others)) ≡ Ok (join parts, now)
    joined_all first parts now (Ok ([], b)) some h = absurd (some b refl)
    joined_all first parts now (Ok (v ∷ vs, b)) some h = ap (λ (x : Result (List A × List Token) SpecError). and_read x (λ all. read_done (join all))) h
    joined_all first parts now (Err e) some h = absurd (let clash = h in cc)

    pub chain_joined : (tokens : List Token) (first : A) (rest : List Token) (parts : List A) (now : List Token) → part tokens ≡ Ok (first, rest) → next_is passes rest ≡ true
        → read_onto (first ∷ []) (read_all passes p) rest ≡ Ok (parts, now) → read_chain join passes p part tokens ≡ Ok (join parts, now)
    unfolding chain_of read_all
    chain_joined tokens first rest parts now read next more =
        ap chain_of read ∙ joined_all first parts now (read_many passes p (length rest) rest) (λ b e. not_none (length rest) rest b next e) more

-- The same for a loop whose reading takes the end of the text, which the loop keeps.
module _ {A : Type 0} (passes : TokenKind → Bool) (p : ℕ → Reading A) (end now_end : ℕ) (kept : now_end ≡ end) (before : List A) (tokens : List Token) (so_far : List A) (rest : List Token)
    (g : Gathers passes (p end) before tokens so_far rest) where
  pub loop_more : (v : A) (pushed : List A) (now : List Token) → next_is passes rest ≡ true → p now_end rest ≡ Ok (v, now) → length now < length rest → pushed ≡ so_far ++ v ∷ []
      → Gathers passes (p end) before tokens pushed now
  loop_more v pushed now next read less items =
      subst (λ (x : List A). Gathers passes (p end) before tokens x now) (sym items)
      (gathers_more passes (p end) before tokens so_far rest v now g next (ap (λ (n : ℕ). p n rest) (sym kept) ∙ read) less)

  pub loop_fault : (e : SpecError) → next_is passes rest ≡ true → p now_end rest ≡ Err e → read_onto before (read_all passes (p end)) tokens ≡ Err e
  loop_fault e next read = gathers_fault passes (p end) before tokens so_far rest e g next (ap (λ (n : ℕ). p n rest) (sym kept) ∙ read)
