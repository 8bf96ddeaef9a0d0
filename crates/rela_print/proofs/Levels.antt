-- Trees of several levels: what is spelled at one level is written so that it is read at that level again, in parentheses where it binds no more tightly.
use Rattle.std.proofs.Common.{◌≡◌, ◌⊎◌, ℕ, zero, suc, ◌+◌, ◌≤◌, ◌<◌, List, [], ◌∷◌, ◌++◌, map, sym, ap, ◌∙◌, subst, inl, inr, arith}
use Rattle.std.specs.Prelude.{⊤, nat_lt}
use Rattle.std.proofs.lemmas.Bool.{cases_lt, cond-true, cond-false, lt-ltb, le-ltb}
use Rattle.rela_lex.specs.declared.token.Token.{Token}
use Rattle.rela_print.specs.Joined.{joined}
use Rattle.rela_spec.specs.Phrases.{Phrase, chain, joined_parts, ◌>>◌}
use Rattle.rela_print.specs.Printed.{Printed, within}
use Rattle.rela_print.proofs.ChainTexts.{reads_chain}
use Rattle.rela_print.proofs.Sources.{Each, Parts}
use Rattle.rela_print.proofs.TextPieces.{Tame, Reads, Stops, reads_as}

module _ {A : Type 0} (last : ℕ) (level : ℕ → ℕ → Phrase A) (zeroed : A → A) (printed : A → Printed)
    (lift : (d n : ℕ) (a : List Token) (e : A) (b : List Token) → level d n a e b → level (suc d) n a e b)
    (grouped : (n : ℕ) (t : List ℕ) (P : A → Type 0) → Reads Stops (level last n) t P (Tame n n) → Reads Stops (level 0 (suc n)) (40 ∷ (t ++ 41 ∷ [])) P (Tame (suc n) (suc n))) where
  abbrev pub ReadsAt : ℕ → ℕ → List ℕ → A → Type 0
  ReadsAt d n t e = Reads Stops (level d n) t (λ w. zeroed w ≡ zeroed e) (Tame n n)

  -- with room for m brackets and more, the tree's own text is read at the level that it binds at
  pub record Good (m : ℕ) (e : A) : Type 0 where
    pub depth : ℕ
    pub low : depth ≤ last
    pub binding : (printed e).binding + depth ≡ suc last
    pub reads : (n : ℕ) → m ≤ n → ReadsAt depth n (printed e).text e

  -- the tree is of this level or a tighter one, or stands in parentheses
  abbrev pub Kept : ℕ → ℕ → A → Type 0
  Kept d m e = ((g : Good m e) × (g.depth ≤ d)) ⊎ ((k : ℕ) × (m ≡ suc k) × Good k e)

  pub good_more : (m n : ℕ) (e : A) → m ≤ n → Good m e → Good n e
  good_more m n e le g = record { depth = g.depth; low = g.low; binding = g.binding; reads = λ k far. g.reads k (omega arith) }

  pub good_from : (d m : ℕ) (e : A) → Kept d m e → Good m e
  good_from d m e (inl kept) = kept.0
  good_from d m e (inr kept) = good_more kept.0 m e (omega (arith, kept.1)) kept.2

  pub kept_more : (d c m : ℕ) (e : A) → d ≤ c → Kept d m e → Kept c m e
  kept_more d c m e le (inl kept) = inl (kept.0, omega (arith, kept.1))
  kept_more d c m e le (inr kept) = inr kept

  lifts : (k d j n : ℕ) → j ≡ k + d → (a : List Token) (e : A) (b : List Token) → level d n a e b → level j n a e b
  lifts zero d j n same a e b h = let one : d ≡ j = omega arith in subst (λ (x : ℕ). level x n a e b) one h
  lifts (suc k) d j n same a e b h = lifts k (suc d) j n (omega arith) a e b (lift d n a e b h)

  apart : (d j : ℕ) → d ≤ j → (k : ℕ) × (j ≡ k + d)
  apart zero j le = (j, omega arith)
  apart (suc d) zero le = absurd (omega arith)
  apart (suc d) (suc j) le = let one = apart d j (omega arith) in (one.0, omega (arith, one.1))

  pub reads_lower : (d j n : ℕ) (t : List ℕ) (e : A) → d ≤ j → ReadsAt d n t e → ReadsAt j n t e
  reads_lower d j n t e le h =
      let gap = apart d j le in
      reads_as (λ (w : A). w) (λ w p. p) (λ a w b spelled. lifts gap.0 d j n gap.1 a w b spelled) h

  as_is : (above : ℕ) (p : Printed) → above < p.binding → p.text ≡ within above p
  unfolding within
  as_is above p lt = sym (cond-true (nat_lt above p.binding) p.text (40 ∷ (p.text ++ 41 ∷ [])) (lt-ltb above p.binding lt))

  in_parentheses : (above : ℕ) (p : Printed) → p.binding ≤ above → 40 ∷ (p.text ++ 41 ∷ []) ≡ within above p
  unfolding within
  in_parentheses above p le = sym (cond-false (nat_lt above p.binding) p.text (40 ∷ (p.text ++ 41 ∷ [])) (le-ltb above p.binding le))

  bare : (d n above m : ℕ) (e : A) (g : Good m e) → g.depth ≤ d → m ≤ n → above < (printed e).binding → ReadsAt d n (within above (printed e)) e
  bare d n above m e g le room lt =
      subst (λ (t : List ℕ). ReadsAt d n t e) (as_is above (printed e) lt) (reads_lower g.depth d n (printed e).text e le (g.reads n room))

  enclosed : (d n above k : ℕ) (e : A) (g : Good k e) → k < n → (printed e).binding ≤ above → ReadsAt d n (within above (printed e)) e
  enclosed d zero above k e g lt le = absurd (omega arith)
  enclosed d (suc n) above k e g lt le =
      subst (λ (t : List ℕ). ReadsAt d (suc n) t e) (in_parentheses above (printed e) le)
      (reads_lower 0 d (suc n) (40 ∷ ((printed e).text ++ 41 ∷ [])) e (omega arith)
      (grouped n (printed e).text (λ w. zeroed w ≡ zeroed e) (reads_lower g.depth last n (printed e).text e g.low (g.reads n (omega arith)))))

  -- a part as it stands within what binds so tightly
  pub reads_part : (d m n above : ℕ) (e : A) → m ≤ n → above + suc d ≡ suc last → Kept d m e → ReadsAt d n (within above (printed e)) e
  reads_part d m n above e room level_is (inl kept) = bare d n above m e kept.0 kept.1 room (let g = kept.0 in omega (arith, kept.1, g.binding))
  reads_part d m n above e room level_is (inr kept) = elim (cases_lt above (printed e).binding) [
    | inl lt ↦ let g = kept.2 in bare d n above kept.0 e kept.2 (omega (arith, g.binding)) (omega (arith, kept.1)) lt
    | inr le ↦ enclosed d n above kept.0 e kept.2 (omega (arith, kept.1)) le
  ]

  pub make_good : (m d b : ℕ) (t : List ℕ) (e : A) → printed e ≡ record { binding = b; text = t } → d ≤ last → b + d ≡ suc last
      → ((n : ℕ) → m ≤ n → ReadsAt d n t e) → (g : Good m e) × (g.depth ≤ d)
  make_good m d b t e is low binding reads =
      let good : Good m e = record {
        depth = d;
        low = low;
        binding = ap (λ (p : Printed). p.binding + d) is ∙ binding;
        reads = λ n le. subst (λ (p : Printed). ReadsAt d n p.text e) (sym is) (reads n le);
      } in
      (good, omega arith)

  parts_read : (d m n above : ℕ) (parts : List A) → m ≤ n → above + suc d ≡ suc last → Each (Kept d m) parts → Each (λ e. ReadsAt d n (within above (printed e)) e) parts
  parts_read d m n above [] room level_is each = tt
  parts_read d m n above (e ∷ parts) room level_is each = (reads_part d m n above e room level_is each.0, parts_read d m n above parts room level_is each.1)

  -- a chain of parts of one level is of the next
  pub kept_chain : (join : List A → A) (between : Phrase ⊤) (sep : List ℕ) (d m above : ℕ) → d < last → above + suc d ≡ suc last
      → ((parts : List A) → printed (join parts) ≡ record { binding = above; text = joined (32 ∷ sep) (λ e. within above (printed e)) parts })
      → ((parts : List A) → zeroed (join parts) ≡ join (map zeroed parts))
      → ((n : ℕ) (a : List Token) (e : A) (b : List Token) → chain join between (level d n) a e b → level (suc d) n a e b)
      → ((n : ℕ) (t : List ℕ) (P : A → Type 0) → Reads Stops (level d n) t P (Tame n n) → Reads Stops (between >> level d n) (32 ∷ (sep ++ t)) P (Tame n n))
      → (w : A) → Parts join (Kept d m) w → Kept (suc d) m w
  kept_chain join between sep d m above low level_is prints zeroes on more w parts = go parts.first parts.others parts.joined parts.each
    where
      whole : (first next : A) (others : List A) → Each (Kept d m) (first ∷ next ∷ others) → Kept (suc d) m (join (first ∷ next ∷ others))
      whole first next others each = inl (make_good m (suc d) above (joined (32 ∷ sep) (λ e. within above (printed e)) (first ∷ next ∷ others)) (join (first ∷ next ∷ others))
          (prints (first ∷ next ∷ others)) (omega arith) level_is
          λ n room. reads_as (λ (v : A). v)
          (λ v alike. ap zeroed alike.joined ∙ zeroes alike.parts ∙ ap join alike.alike ∙ sym (zeroes (first ∷ next ∷ others)))
          (on n)
          (reads_chain n join between (level d n) zeroed sep (λ e. within above (printed e)) (λ e. more n (within above (printed e)) (λ v. zeroed v ≡ zeroed e))
          first next others (parts_read d m n above (first ∷ next ∷ others) room level_is each)))

      go : (first : A) (others : List A) → w ≡ joined_parts join first others → Each (Kept d m) (first ∷ others) → Kept (suc d) m w
      go first [] is each = subst (Kept (suc d) m) (sym is) (kept_more d (suc d) m first (omega arith) each.0)
      go first (next ∷ others) is each = subst (Kept (suc d) m) (sym is) (whole first next others each)
