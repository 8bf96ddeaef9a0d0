-- Specifications of changes are read exactly.
use Rattle.std.proofs.Common.{◌≡◌, ℕ, zero, suc, ◌-◌, ◌≤◌, Bool, ◌||◌, Err, List, [], ◌∷◌, refl, subst, inl, arith}
use Rattle.std.specs.Prelude.{codes}
use Rattle.rela_lex.specs.declared.error.SpecError.TheVariants.{Memory}
use Rattle.rela_lex.specs.declared.token.Token.{Token}
use Rattle.rela_lex.specs.declared.token.TokenKind.{TokenKind}
use Rattle.rela_lex.specs.declared.token.TokenKind.TheVariants.{Mark, Bare, Quoted, Reference}
use Rattle.rela_spec.specs.Grammar.{is_mark_of}
use Rattle.rela_spec.specs.GrammarWords.{mark, word, reference}
use Rattle.rela_spec.specs.GrammarPaths.{path}
use Rattle.rela_spec.specs.GrammarSpecs.{argument, replacement, change, unit, single, alternatives, body}
use Rattle.rela_spec.specs.Keywords.{is_keyword, is_item_word, is_member_word, is_modifier_word, is_joining_word, is_predicate_word}
use Rattle.rela_spec.specs.Phrases.{Phrase, done, none, chain, bracketed, ◌or◌, ◌>>=◌, ◌>>◌}
use Rattle.rela_spec.specs.ReadWords.{is_word_of, is_reference_kind, read_mark, read_reference}
use Rattle.rela_spec.specs.ReadPaths.{starts_member, starts_path, read_path}
use Rattle.rela_spec.specs.ReadSpecs.{read_argument, read_replacement, read_change, read_unit, read_group, read_single, read_steps, read_over, read_body}
use Rattle.rela_spec.specs.Readings.{Reading, and_read, read_done}
use Rattle.rela_spec.specs.declared.tree.Modifier.TheVariants as modifier
use Rattle.rela_spec.specs.declared.tree.PathExpr.{PathExpr}
use Rattle.rela_spec.specs.declared.tree.SpecExpr.{SpecExpr}
use Rattle.rela_spec.specs.declared.tree.SpecExpr.TheVariants as spec
use Rattle.rela_spec.proofs.Exact.{Completed, Exact}
use Rattle.rela_spec.proofs.Then.{exact_then}
use Rattle.rela_spec.proofs.Choose.{exact_done, exact_as, first_completes, second_completes}
use Rattle.rela_spec.proofs.ExactWords.{nothing, Apart, apart_mark, apart_word, begins_mark, begins_reference, begins_then, follows_begins, exact_reference}
use Rattle.rela_spec.proofs.ExactPaths.{path_goes_on, led_path}
use Rattle.rela_spec.proofs.Leading.{Leading, behind_mark, led_word, led_or, or_word, make_of, led_make, closed_by, led_open, closes_to, led_chain, chain_one}

module _ (end : ℕ) where
  -- the path expression behind a bracket
  inside_path : (inner room : ℕ) → room ≡ suc inner → Exact (λ d. path d) (path_goes_on end) 0 inner inner inner end (read_path end (room - 1))
  inside_path inner room e =
      let same : inner ≡ room - 1 = omega arith in
      subst (λ (n : ℕ). Exact (λ d. path d) (path_goes_on end) 0 inner inner inner end (read_path end n)) same (led_path end inner).exact

  argument_inside : (inner room : ℕ) → room ≡ suc inner
      → Exact (λ d. path d >>= λ e. mark 41 >> done e) nothing 0 inner inner room end (λ ts. and_read (read_path end (room - 1) ts) (λ e ts. and_read (read_mark end 41 ts) (λ _. read_done e)))
  unfolding starts_path starts_member is_keyword is_item_word is_member_word is_modifier_word is_joining_word is_predicate_word
  argument_inside inner room e = closed_by (λ e. e) 41 room nothing (omega arith) (inside_path inner room e) (closes_to inner room e) refl

  pub led_argument : (room : ℕ) → Leading (λ d. argument d) (is_mark_of 40) nothing 1 room room room end (read_argument end room)
  unfolding argument read_argument
  led_argument room = led_open 40 refl (argument_inside 0 1 refl).completed (λ inner e. argument_inside inner room e)

  replaced_by : (inner room : ℕ) → room ≡ suc inner → (old : PathExpr)
      → Exact (λ d. mark 44 >> (path d >>= λ new. mark 41 >> done (modifier.Replace old new))) nothing 0 inner inner room end
      (λ ts. and_read (read_mark end 44 ts) (λ _ ts. and_read (read_path end (room - 1) ts) (λ new ts. and_read (read_mark end 41 ts) (λ _. read_done (modifier.Replace old new)))))
  unfolding starts_path starts_member is_keyword is_item_word is_member_word is_modifier_word is_joining_word is_predicate_word
  replaced_by inner room e old = behind_mark 44 inner (omega arith) refl (closed_by (λ new. modifier.Replace old new) 41 room nothing (omega arith) (inside_path inner room e) (closes_to inner room e) refl)

  replacement_inside : (inner room : ℕ) → room ≡ suc inner
      → Exact (λ d. path d >>= λ old. mark 44 >> (path d >>= λ new. mark 41 >> done (modifier.Replace old new))) nothing 0 inner inner room end
      (λ ts. and_read (read_path end (room - 1) ts) (λ old ts. and_read (read_mark end 44 ts) (λ _ ts. and_read (read_path end (room - 1) ts) (λ new ts. and_read (read_mark end 41 ts) (λ _. read_done (modifier.Replace old new))))))
  unfolding starts_path starts_member is_keyword is_item_word is_member_word is_modifier_word is_joining_word is_predicate_word
  replacement_inside inner room e =
      exact_then (λ d. path d) (λ old d. mark 44 >> (path d >>= λ new. mark 41 >> done (modifier.Replace old new))) (path_goes_on end) nothing 0 inner inner inner room end (read_path end (room - 1))
      (λ old ts. and_read (read_mark end 44 ts) (λ _ ts. and_read (read_path end (room - 1) ts) (λ new ts. and_read (read_mark end 41 ts) (λ _. read_done (modifier.Replace old new))))) (omega arith)
      (inside_path inner room e) (replaced_by inner room e)
      (follows_begins (λ old d. mark 44 >> (path d >>= λ new. mark 41 >> done (modifier.Replace old new))) (is_mark_of 44) (path_goes_on end) nothing
      (λ old. begins_then (λ d. mark 44) (λ _ d. path d >>= λ new. mark 41 >> done (modifier.Replace old new)) (is_mark_of 44) (begins_mark 44)) (apart_mark 44 (path_goes_on end) refl))

  pub led_replacement : (room : ℕ) → Leading (λ d. replacement d) (is_mark_of 40) nothing 1 room room room end (read_replacement end room)
  unfolding replacement read_replacement
  led_replacement room = led_open 40 refl (replacement_inside 0 1 refl).completed (λ inner e. replacement_inside inner room e)

  abbrev starts_change : TokenKind → Bool
  starts_change kind =
      is_word_of (codes "preserve") kind
      || (is_word_of (codes "drop") kind
      || (is_word_of (codes "add") kind || (is_word_of (codes "remove") kind || (is_word_of (codes "replace") kind || (is_word_of (codes "any") kind || is_word_of (codes "ignore") kind)))))

  pub led_change : (room : ℕ) → Leading (λ d. change d) starts_change nothing 0 room room room end (read_change end room)
  unfolding change read_change
  led_change room =
      let few : 1 ≤ 1 = omega arith in
      let an_argument = (led_argument room).exact in
      or_word (codes "preserve") (omega arith) (exact_done modifier.Preserve nothing 0 room room end)
      (or_word (codes "drop") (omega arith) (exact_done modifier.Drop nothing 0 room room end)
      (or_word (codes "add") few (make_of (λ e. modifier.Add e) few an_argument)
      (or_word (codes "remove") few (make_of (λ e. modifier.Remove e) few an_argument)
      (or_word (codes "replace") few (led_replacement room).exact
      (or_word (codes "any") few (make_of (λ e. modifier.AnyOf e) few an_argument)
      (led_word (codes "ignore") few (make_of (λ e. modifier.Ignore e) few an_argument))
      refl)
      refl)
      refl)
      refl)
      refl)
      refl

  abbrev changes : PathExpr → ℕ → Phrase SpecExpr
  changes zone d = mark 58 >> (change d >>= λ m. mark 125 >> done (spec.Unit zone m))

  read_changes : (inner room : ℕ) → room ≡ suc inner → (zone : PathExpr)
      → Exact (changes zone) nothing 0 inner inner room end
      (λ ts. and_read (read_mark end 58 ts) (λ _ ts. and_read (read_change end (room - 1) ts) (λ m ts. and_read (read_mark end 125 ts) (λ _. read_done (spec.Unit zone m)))))
  read_changes inner room e zone =
      let same : inner ≡ room - 1 = omega arith in
      behind_mark 58 inner (omega arith) refl
      (closed_by (λ m. spec.Unit zone m) 125 room nothing (omega arith) (subst (λ (n : ℕ). Exact (λ d. change d) nothing 0 inner inner inner end (read_change end n)) same (led_change inner).exact) (closes_to inner room e) refl)

  unit_inside : (inner room : ℕ) → room ≡ suc inner
      → Exact (λ d. path d >>= λ zone. changes zone d) nothing 0 inner inner room end
      (λ ts. and_read (read_path end (room - 1) ts) (λ zone ts. and_read (read_mark end 58 ts) (λ _ ts. and_read (read_change end (room - 1) ts) (λ m ts. and_read (read_mark end 125 ts) (λ _. read_done (spec.Unit zone m))))))
  unfolding starts_path starts_member is_keyword is_item_word is_member_word is_modifier_word is_joining_word is_predicate_word
  unit_inside inner room e =
      exact_then (λ d. path d) changes (path_goes_on end) nothing 0 inner inner inner room end (read_path end (room - 1))
      (λ zone ts. and_read (read_mark end 58 ts) (λ _ ts. and_read (read_change end (room - 1) ts) (λ m ts. and_read (read_mark end 125 ts) (λ _. read_done (spec.Unit zone m))))) (omega arith)
      (inside_path inner room e) (read_changes inner room e)
      (follows_begins changes (is_mark_of 58) (path_goes_on end) nothing (λ zone. begins_then (λ d. mark 58) (λ _ d. change d >>= λ m. mark 125 >> done (spec.Unit zone m)) (is_mark_of 58) (begins_mark 58)) (apart_mark 58 (path_goes_on end) refl))

  pub led_unit : (room : ℕ) → Leading (λ d. unit d) (is_mark_of 123) nothing 1 room room room end (read_unit end room)
  unfolding unit read_unit
  led_unit room = led_open 123 refl (unit_inside 0 1 refl).completed (λ inner e. unit_inside inner room e)

  -- what stands in the brackets, where so many may be nested
  abbrev pub inner_body : ℕ → Phrase SpecExpr
  inner_body zero = none
  inner_body (suc d) = body d

  abbrev pub starts_body : TokenKind → Bool
  starts_body kind = is_reference_kind kind || (is_mark_of 40 kind || is_mark_of 123 kind)

  abbrev pub body_goes_on : TokenKind → Bool
  body_goes_on kind = (nothing kind || is_word_of (codes "then") kind) || is_word_of (codes "else") kind

  abbrev pub Inside : ℕ → Reading SpecExpr → Type 0
  Inside room inside = (inner : ℕ) → room ≡ suc inner → Leading (λ d. body d) starts_body body_goes_on 0 inner inner inner end inside

  abbrev group : Phrase SpecExpr → Phrase SpecExpr
  group inside = inside >>= λ s. mark 41 >> done s

  group_inside : (room : ℕ) (inside : Reading SpecExpr) → Inside room inside → (inner : ℕ) → room ≡ suc inner
      → Exact (λ d. group (body d)) nothing 0 inner inner room end (λ ts. and_read (inside ts) (λ s ts. and_read (read_mark end 41 ts) (λ _. read_done s)))
  group_inside room inside exact inner e = closed_by (λ s. s) 41 room nothing (omega arith) (exact inner e).exact (closes_to inner room e) refl

  abbrev referred : ℕ → Phrase SpecExpr
  referred d = reference >>= λ n. done (spec.Reference n.name n.at)

  abbrev simple : ℕ → Phrase SpecExpr
  simple d = alternatives d (inner_body d)

  abbrev a_reference : Token
  a_reference = record { at = 0; kind = Reference (codes "a") }

  abbrev closing : Token
  closing = record { at = 0; kind = Mark 41 }

  -- a reference is a whole body, however many brackets may be nested
  one_reference : (d : ℕ) (inside : Phrase SpecExpr) (b : List Token) → alternatives d inside (a_reference ∷ b) (spec.Reference (codes "a") 0) b
  unfolding alternatives single
  one_reference d inside b =
      chain_one spec.Else (word (codes "else")) (chain spec.Then (word (codes "then")) (single d inside)) (a_reference ∷ b) (spec.Reference (codes "a") 0) b
      (chain_one spec.Then (word (codes "then")) (single d inside) (a_reference ∷ b) (spec.Reference (codes "a") 0) b
      (inl (record { name = codes "a"; at = 0 }, b, (a_reference, refl, (refl, refl)), (refl, refl))))

  one_body : (d : ℕ) (b : List Token) → body d (a_reference ∷ b) (spec.Reference (codes "a") 0) b
  unfolding body
  one_body zero b = one_reference zero none b
  one_body (suc d) b = one_reference (suc d) (body d) b

  body_completed : Completed (λ d. group (body d)) 0
  body_completed = record {
    others = a_reference ∷ closing ∷ [];
    value = spec.Reference (codes "a") 0;
    whole = λ d le k. (spec.Reference (codes "a") 0, closing ∷ k, one_body d (closing ∷ k), (tt, k, (closing, refl, refl), (refl, refl)));
  }

  to_group : (d : ℕ) (a : List Token) (v : SpecExpr) (b : List Token) → bracketed d (mark 40) (λ d. group (body d)) a v b → bracketed d (mark 40) (λ _. group (inner_body d)) a v b
  to_group zero a v b h = h
  to_group (suc d) a v b h = h

  from_group : (d : ℕ) (a : List Token) (v : SpecExpr) (b : List Token) → bracketed d (mark 40) (λ _. group (inner_body d)) a v b → bracketed d (mark 40) (λ d. group (body d)) a v b
  from_group zero a v b h = h
  from_group (suc d) a v b h = h

  led_group : (room : ℕ) (inside : Reading SpecExpr) → Inside room inside → Leading (λ d. bracketed d (mark 40) (λ _. group (inner_body d))) (is_mark_of 40) nothing 1 room room room end (read_group end room inside)
  led_group room inside exact =
      let opened = led_open 40 refl body_completed (group_inside room inside exact) in
      record {
        exact = exact_as (λ d. bracketed d (mark 40) (λ d. group (body d))) (λ d. bracketed d (mark 40) (λ _. group (inner_body d))) (read_group end room inside) nothing 1 room room room end to_group from_group opened.exact;
        begins = λ d a v b h. opened.begins d a v b (from_group d a v b h);
      }

  reference_apart : Apart is_reference_kind (λ kind. is_mark_of 40 kind || is_mark_of 123 kind)
  reference_apart (Reference n) e = refl
  reference_apart (Mark byte) e = absurd (let clash = e in cc)
  reference_apart (Bare n) e = absurd (let clash = e in cc)
  reference_apart (Quoted n) e = absurd (let clash = e in cc)

  led_single : (room : ℕ) (inside : Reading SpecExpr) → Inside room inside → Leading (λ d. single d (inner_body d)) starts_body nothing 0 room room room end (read_single end room (read_group end room inside))
  unfolding single
  led_single room inside exact =
      let references : Leading referred is_reference_kind nothing 0 room room room end (λ ts. and_read (read_reference end ts) (λ n. read_done (spec.Reference n.name n.at))) =
      led_make (λ n. spec.Reference n.name n.at) (omega arith) (record { exact = exact_reference nothing 0 room room end; begins = begins_reference })
      in
      let second = led_or {least = 1} (led_group room inside exact) (led_unit room) (apart_mark 40 (is_mark_of 123) refl)
      (second_completes (λ d. bracketed d (mark 40) (λ _. group (inner_body d))) (λ d. unit d) 1 (led_unit room).exact.completed)
      in
      led_or {least = 0} references second reference_apart (first_completes referred (λ d. bracketed d (mark 40) (λ _. group (inner_body d)) or unit d) 0 references.exact.completed)

  abbrev steps : ℕ → Phrase SpecExpr
  steps d = chain spec.Then (word (codes "then")) (single d (inner_body d))

  led_steps : (room : ℕ) (inside : Reading SpecExpr) → Inside room inside
      → Leading steps starts_body (λ kind. nothing kind || is_word_of (codes "then") kind) 0 room room room end (read_steps end (read_single end room (read_group end room inside)))
  led_steps room inside exact =
      let part = led_single room inside exact in
      led_chain spec.Then (is_word_of (codes "then")) (omega arith) part (led_word (codes "then") (omega arith) part.exact) (λ kind e. refl)

  led_alternatives : (room : ℕ) (inside : Reading SpecExpr) → Inside room inside → Leading simple starts_body body_goes_on 0 room room room end (read_over end room inside)
  unfolding alternatives
  led_alternatives room inside exact =
      let part = led_steps room inside exact in
      led_chain spec.Else (is_word_of (codes "else")) (omega arith) part (led_word (codes "else") (omega arith) part.exact) (apart_word (codes "else") (λ kind. nothing kind || is_word_of (codes "then") kind) refl)

  to_body : (d : ℕ) (a : List Token) (v : SpecExpr) (b : List Token) → alternatives d (inner_body d) a v b → body d a v b
  unfolding body
  to_body zero a v b h = h
  to_body (suc d) a v b h = h

  from_body : (d : ℕ) (a : List Token) (v : SpecExpr) (b : List Token) → body d a v b → alternatives d (inner_body d) a v b
  unfolding body
  from_body zero a v b h = h
  from_body (suc d) a v b h = h

  led_over : (room : ℕ) (inside : Reading SpecExpr) → Inside room inside → Leading (λ d. body d) starts_body body_goes_on 0 room room room end (read_over end room inside)
  led_over room inside exact =
      let whole = led_alternatives room inside exact in
      record {
        exact = exact_as simple (λ d. body d) (read_over end room inside) body_goes_on 0 room room room end to_body from_body whole.exact;
        begins = λ d a v b h. whole.begins d a v b (from_body d a v b h);
      }

  same_less : (n m : ℕ) → suc n ≡ suc m → n ≡ m
  same_less n m e = omega arith

  pub led_body : (room : ℕ) → Leading (λ d. body d) starts_body body_goes_on 0 room room room end (read_body end room)
  unfolding read_body
  led_body zero = led_over zero (λ _. Err Memory) (λ inner e. absurd (omega arith))
  led_body (suc room) = led_over (suc room) (read_body end room) (λ inner e. subst (λ (n : ℕ). Leading (λ d. body d) starts_body body_goes_on 0 n n n end (read_body end room)) (same_less room inner e) (led_body room))
