-- Readings of a phrase many times, of chains, and behind an opening bracket.
use Rattle.std.proofs.Common.{◌≡◌, ℕ, zero, suc, ◌≤◌, Bool, true, false, Err, List, [], ◌∷◌, length, refl, sym, ◌∙◌, subst, inl, inr, arith}
use Rattle.std.specs.Prelude.{⊤}
use Rattle.rela_lex.specs.declared.error.SpecError.TheVariants.{Memory}
use Rattle.rela_lex.specs.declared.token.Token.{Token}
use Rattle.rela_lex.specs.declared.token.TokenKind.{TokenKind}
use Rattle.rela_spec.specs.Phrases.{Phrase, done, many, chain, joined_parts, ◌or◌, ◌>>=◌, ◌>>◌}
use Rattle.rela_spec.specs.Readings.{Reading, next_is, and_read, read_done, read_many, read_all, read_chain}
use Rattle.rela_spec.proofs.Exact.{Stops, Completed, Exact}
use Rattle.rela_spec.proofs.Then.{Follows, exact_then}
use Rattle.rela_spec.proofs.Choose.{Begins, Avoids, exact_done, exact_as, exact_choose, weaken}

not_both : (b : Bool) → b ≡ true → b ≡ false → ⊥
not_both b yes_it no_it = let never : true ≡ false = sym yes_it ∙ no_it in absurd (let clash = never in cc)

module _ {A : Type 0} (R : ℕ → Phrase A) (passes first_goes_on goes_on : TokenKind → Bool) (least room level end : ℕ) (p : Reading A) where
  abbrev some_of : ℕ → Phrase (List A)
  some_of d = R d >>= λ v. many (R d) >>= λ vs. done (v ∷ vs)

  -- what there is to know of the part, and of what ends the whole
  pub record Parts : Type 0 where
    pub few : least ≤ 1
    pub part : Exact R first_goes_on least room level level end p
    pub begins : Begins R passes
    pub ends_part : (m : List Token) → next_is passes m ≡ true → Stops first_goes_on m
    pub ends : (m : List Token) → Stops goes_on m → Stops first_goes_on m
    pub stops : (m : List Token) → Stops goes_on m → Stops passes m

  some_follows : Parts → Follows (λ v d. many (R d) >>= λ vs. done (v ∷ vs)) first_goes_on goes_on
  some_follows parts v d m w b ([], n, spelled, last) stops = parts.ends m (subst (Stops goes_on) (sym (spelled ∙ last.1)) stops)
  some_follows parts v d m w b (x ∷ xs, n, spelled, last) stops = parts.ends_part m (parts.begins d m x spelled.0 spelled.1)

  to_many : (d : ℕ) (a : List Token) (v : List A) (b : List Token) → (some_of d or done []) a v b → many (R d) a v b
  to_many d a v b (inl h) = subst (λ (x : List A). many (R d) a x b) (sym h.3.3.0) (h.1, h.2, subst (many (R d) h.1 h.3.0) h.3.3.1 h.3.2)
  to_many d a v b (inr h) = subst (λ (x : List A). many (R d) a x b) (sym h.0) h.1

  from_many : (d : ℕ) (a : List Token) (v : List A) (b : List Token) → many (R d) a v b → (some_of d or done []) a v b
  from_many d a [] b h = inr (refl, h)
  from_many d a (v ∷ vs) b h = inl (v, h.0, h.1, (vs, b, h.2, (refl, refl)))

  some_begins : Parts → Begins some_of passes
  some_begins parts d a v b h = parts.begins d a h.0 h.1 h.2

  none_avoids : Parts → Avoids {A = List A} (λ d. done []) passes goes_on
  none_avoids parts d a v b h next stop = not_both (next_is passes a) next (parts.stops a (subst (Stops goes_on) (sym h.1) stop))

  nothing_completes : Completed (λ d. some_of d or done []) 0
  nothing_completes = record { others = []; value = []; whole = λ d le k. inr (refl, refl) }

  some_completes : Parts → Completed some_of least
  some_completes parts =
      let c = parts.part.completed in
      record { others = c.others; value = c.value ∷ []; whole = λ d le k. (c.value, k, c.whole d le k, ([], k, refl, (refl, refl))) }

  more_exact : Parts → (n : ℕ) → Exact (λ d. many (R d)) goes_on 0 room level level end (read_many passes p n) → (v : A)
      → Exact (λ d. many (R d) >>= λ vs. done (v ∷ vs)) goes_on least room level level end (λ ts. and_read (read_many passes p n ts) (λ vs. read_done (v ∷ vs)))
  more_exact parts n others v =
      exact_then (λ d. many (R d)) (λ vs d. done (v ∷ vs)) goes_on goes_on least room level level level end (read_many passes p n) (λ vs. read_done (v ∷ vs)) parts.few
      (weaken (λ d. many (R d)) (read_many passes p n) goes_on goes_on 0 least room level level end (omega arith) (λ b h. h) others)
      (λ vs. exact_done (v ∷ vs) goes_on least room level end)
      (λ vs d m w b h stops. subst (Stops goes_on) (sym h.1) stops)

  pub many_exact : Parts → (n : ℕ) → Exact (λ d. many (R d)) goes_on 0 room level level end (read_many passes p n)
  many_exact parts zero =
      exact_as (λ d. some_of d or done []) (λ d. many (R d)) (read_many passes p zero) goes_on 0 room level level end to_many from_many
      (exact_choose some_of (λ d. done []) passes goes_on room level level end 0 least 0 (λ _. Err Memory) (read_done []) (some_begins parts) (none_avoids parts)
      (record { outcome = λ r. tt; completed = some_completes parts })
      (exact_done [] goes_on 0 room level end) nothing_completes)
  many_exact parts (suc n) =
      exact_as (λ d. some_of d or done []) (λ d. many (R d)) (read_many passes p (suc n)) goes_on 0 room level level end to_many from_many
      (exact_choose some_of (λ d. done []) passes goes_on room level level end 0 least 0
      (λ ts. and_read (p ts) (λ v ts. and_read (read_many passes p n ts) (λ vs. read_done (v ∷ vs)))) (read_done []) (some_begins parts) (none_avoids parts)
      (exact_then R (λ v d. many (R d) >>= λ vs. done (v ∷ vs)) first_goes_on goes_on least room level level level end p
      (λ v ts. and_read (read_many passes p n ts) (λ vs. read_done (v ∷ vs))) parts.few parts.part (λ v. more_exact parts n (many_exact parts n) v) (some_follows parts))
      (exact_done [] goes_on 0 room level end) nothing_completes)

  pub all_exact : Parts → Exact (λ d. many (R d)) goes_on 0 room level level end (read_all passes p)
  unfolding read_all
  all_exact parts = record { outcome = λ r. (many_exact parts (length r)).outcome r; completed = record { others = []; value = []; whole = λ d le k. refl } }

-- a part, and more parts each behind what stands between
pub exact_chain : {A : Type 0} (join : List A → A) (between : Phrase ⊤) (R : ℕ → Phrase A) (passes first_goes_on goes_on : TokenKind → Bool) (least room level end : ℕ) (next part : Reading A)
    → least ≤ 1 → Exact R first_goes_on least room level level end part → Exact (λ d. between >> R d) first_goes_on least room level level end next
    → Begins (λ d. between >> R d) passes → ((m : List Token) → next_is passes m ≡ true → Stops first_goes_on m)
    → ((m : List Token) → Stops goes_on m → Stops first_goes_on m) → ((m : List Token) → Stops goes_on m → Stops passes m)
    → Exact (λ d. chain join between (R d)) goes_on least room level level end (read_chain join passes next part)
exact_chain join between R passes first_goes_on goes_on least room level end next part few first more begins ends_part ends stops =
    exact_then R (λ first d. many (between >> R d) >>= λ others. done (joined_parts join first others)) first_goes_on goes_on least room level level level end part
    (λ first ts. and_read (read_all passes next ts) (λ others. read_done (joined_parts join first others))) few first
    (λ first. exact_then (λ d. many (between >> R d)) (λ others d. done (joined_parts join first others)) goes_on goes_on least room level level level end (read_all passes next)
    (λ others. read_done (joined_parts join first others)) few
    (weaken (λ d. many (between >> R d)) (read_all passes next) goes_on goes_on 0 least room level level end (omega arith) (λ b h. h)
    (all_exact (λ d. between >> R d) passes first_goes_on goes_on least room level end next parts))
    (λ others. exact_done (joined_parts join first others) goes_on least room level end)
    (λ vs d m w b h stop. subst (Stops goes_on) (sym h.1) stop))
    (λ v d m w b h stop. follows d m h.0 h.1 b h.2 h.3.1 stop)
  where
    parts : Parts (λ d. between >> R d) passes first_goes_on goes_on least room level end next
    parts = record { few = few; part = more; begins = begins; ends_part = ends_part; ends = ends; stops = stops }

    follows : (d : ℕ) (m : List Token) (others : List _) (n b : List Token) → many (between >> R d) m others n → n ≡ b → Stops goes_on b → Stops first_goes_on m
    follows d m [] n b spelled last stop = ends m (subst (Stops goes_on) (sym (spelled ∙ last)) stop)
    follows d m (x ∷ xs) n b spelled last stop = ends_part m (begins d m x spelled.0 spelled.1)
