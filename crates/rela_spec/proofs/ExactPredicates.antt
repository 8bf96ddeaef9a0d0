-- Predicates on flows are read exactly.
use Rattle.std.proofs.Common.{◌≡◌, ℕ, zero, suc, Bool, ◌||◌, Err, List, [], ◌∷◌, refl, subst, inl, inr, arith}
use Rattle.std.specs.Prelude.{codes}
use Rattle.rela_flows.specs.declared.prefix.Prefix.{Prefix}
use Rattle.rela_flows.specs.declared.predicate.Predicate.{Predicate}
use Rattle.rela_flows.specs.declared.predicate.Predicate.TheVariants as flows
use Rattle.rela_lex.specs.declared.error.SpecError.TheVariants.{Memory}
use Rattle.rela_lex.specs.declared.token.Token.{Token}
use Rattle.rela_lex.specs.declared.token.TokenKind.{TokenKind}
use Rattle.rela_lex.specs.declared.token.TokenKind.TheVariants.{Mark, Bare}
use Rattle.rela_spec.specs.Grammar.{is_mark_of}
use Rattle.rela_spec.specs.GrammarWords.{mark, word}
use Rattle.rela_spec.specs.GrammarPredicates.{placed, test, single, denial, disjunction, predicate}
use Rattle.rela_spec.specs.Phrases.{Phrase, done, none, chain, bracketed, ◌>>=◌, ◌>>◌}
use Rattle.rela_spec.specs.ReadWords.{is_word_of, read_mark}
use Rattle.rela_spec.specs.ReadPredicates.{read_placed, read_destination, read_source, read_test, read_group, read_single, read_denial, read_conjunction, read_over, read_predicate}
use Rattle.rela_spec.specs.Readings.{Reading, and_read, read_done}
use Rattle.rela_spec.proofs.Exact.{Completed, Exact}
use Rattle.rela_spec.proofs.Choose.{exact_done, exact_as, second_completes}
use Rattle.rela_spec.proofs.ExactPrefixes.{AreFound, exact_prefix}
use Rattle.rela_spec.proofs.ExactWords.{nothing, apart_mark, apart_word, exact_name}
use Rattle.rela_spec.proofs.Leading.{Leading, led_word, led_or, or_word, make_of, closed_by, led_open, closes_to, led_chain, chain_one}

module _ (are_found : AreFound) (end : ℕ) where
  abbrev starts_placed : TokenKind → Bool
  starts_placed kind = is_word_of (codes "in") kind || is_word_of (codes "overlaps") kind

  led_placed : (within overlapping : Prefix → Predicate) (room level : ℕ) → Leading (λ d. placed within overlapping) starts_placed nothing 0 room level level end (read_placed end within overlapping)
  unfolding placed
  led_placed within overlapping room level =
      or_word (codes "in") (omega arith) (make_of within (omega arith) (exact_prefix are_found nothing 0 room level end))
      (led_word (codes "overlaps") (omega arith) (make_of overlapping (omega arith) (exact_prefix are_found nothing 0 room level end)))
      refl

  abbrev starts_test : TokenKind → Bool
  starts_test kind =
      is_word_of (codes "all") kind || (is_word_of (codes "dst") kind || (is_word_of (codes "src") kind || (is_word_of (codes "flow") kind || is_word_of (codes "class") kind)))

  pub led_test : (room level : ℕ) → Leading (λ d. test) starts_test nothing 0 room level level end (read_test end)
  unfolding test read_test read_destination read_source
  led_test room level =
      or_word (codes "all") (omega arith) (exact_done flows.All nothing 0 room level end)
      (or_word (codes "dst") (omega arith) (led_placed flows.DstIn flows.DstOverlaps room level).exact
      (or_word (codes "src") (omega arith) (led_placed flows.SrcIn flows.SrcOverlaps room level).exact
      (or_word (codes "flow") (omega arith) (make_of (λ n. flows.Flow n.name) (omega arith) (exact_name nothing 0 room level end))
      (led_word (codes "class") (omega arith) (make_of (λ n. flows.Class n.name) (omega arith) (exact_name nothing 0 room level end)))
      refl)
      refl)
      refl)
      refl

  -- what stands in the brackets, where so many may be nested
  abbrev pub inner_predicate : ℕ → Phrase Predicate
  inner_predicate zero = none
  inner_predicate (suc d) = predicate d

  abbrev starts_single : TokenKind → Bool
  starts_single kind = is_mark_of 40 kind || starts_test kind

  abbrev pub starts_predicate : TokenKind → Bool
  starts_predicate kind = is_word_of (codes "not") kind || starts_single kind

  abbrev pub predicate_goes_on : TokenKind → Bool
  predicate_goes_on kind = (nothing kind || is_word_of (codes "and") kind) || is_word_of (codes "or") kind

  abbrev pub Inside : ℕ → Reading Predicate → Type 0
  Inside room inside = (inner : ℕ) → room ≡ suc inner → Leading (λ d. predicate d) starts_predicate predicate_goes_on 0 inner inner inner end inside

  abbrev group : Phrase Predicate → Phrase Predicate
  group inside = inside >>= λ p. mark 41 >> done p

  group_inside : (room : ℕ) (inside : Reading Predicate) → Inside room inside → (inner : ℕ) → room ≡ suc inner
      → Exact (λ d. group (predicate d)) nothing 0 inner inner room end (λ ts. and_read (inside ts) (λ p ts. and_read (read_mark end 41 ts) (λ _. read_done p)))
  group_inside room inside exact inner e = closed_by (λ p. p) 41 room nothing (omega arith) (exact inner e).exact (closes_to inner room e) refl

  abbrev a_test : Token
  a_test = record { at = 0; kind = Bare (codes "all") }

  abbrev closing : Token
  closing = record { at = 0; kind = Mark 41 }

  -- `all` is a whole predicate, however many brackets may be nested
  one_test : (d : ℕ) (inside : Phrase Predicate) (b : List Token) → disjunction d inside (a_test ∷ b) flows.All b
  unfolding disjunction denial single test
  one_test d inside b =
      chain_one flows.Or (word (codes "or")) (chain flows.And (word (codes "and")) (denial d inside)) (a_test ∷ b) flows.All b
      (chain_one flows.And (word (codes "and")) (denial d inside) (a_test ∷ b) flows.All b (inr (inr (inl (tt, b, (a_test, refl, refl), (refl, refl))))))

  one_predicate : (d : ℕ) (b : List Token) → predicate d (a_test ∷ b) flows.All b
  unfolding predicate
  one_predicate zero b = one_test zero none b
  one_predicate (suc d) b = one_test (suc d) (predicate d) b

  predicate_completed : Completed (λ d. group (predicate d)) 0
  predicate_completed = record {
    others = a_test ∷ closing ∷ [];
    value = flows.All;
    whole = λ d le k. (flows.All, closing ∷ k, one_predicate d (closing ∷ k), (tt, k, (closing, refl, refl), (refl, refl)));
  }

  to_group : (d : ℕ) (a : List Token) (v : Predicate) (b : List Token) → bracketed d (mark 40) (λ d. group (predicate d)) a v b → bracketed d (mark 40) (λ _. group (inner_predicate d)) a v b
  to_group zero a v b h = h
  to_group (suc d) a v b h = h

  from_group : (d : ℕ) (a : List Token) (v : Predicate) (b : List Token) → bracketed d (mark 40) (λ _. group (inner_predicate d)) a v b → bracketed d (mark 40) (λ d. group (predicate d)) a v b
  from_group zero a v b h = h
  from_group (suc d) a v b h = h

  abbrev grouped : ℕ → Phrase Predicate
  grouped d = bracketed d (mark 40) (λ _. group (inner_predicate d))

  led_group : (room : ℕ) (inside : Reading Predicate) → Inside room inside → Leading grouped (is_mark_of 40) nothing 1 room room room end (read_group end room inside)
  led_group room inside exact =
      let opened = led_open 40 refl predicate_completed (group_inside room inside exact) in
      record {
        exact = exact_as (λ d. bracketed d (mark 40) (λ d. group (predicate d))) grouped (read_group end room inside) nothing 1 room room room end to_group from_group opened.exact;
        begins = λ d a v b h. opened.begins d a v b (from_group d a v b h);
      }

  led_single : (room : ℕ) (inside : Reading Predicate) → Inside room inside → Leading (λ d. single d (inner_predicate d)) starts_single nothing 0 room room room end (read_single end (read_group end room inside))
  unfolding single
  led_single room inside exact =
      led_or {least = 0} (led_group room inside exact) (led_test room room) (apart_mark 40 starts_test refl) (second_completes grouped (λ d. test) 0 (led_test room room).exact.completed)

  led_denial : (room : ℕ) (inside : Reading Predicate) → Inside room inside
      → Leading (λ d. denial d (inner_predicate d)) starts_predicate nothing 0 room room room end (read_denial end (read_single end (read_group end room inside)))
  unfolding denial
  led_denial room inside exact =
      let part = led_single room inside exact in
      or_word (codes "not") (omega arith) (make_of (λ p. flows.Not p) (omega arith) part.exact) part refl

  led_conjunction : (room : ℕ) (inside : Reading Predicate) → Inside room inside
      → Leading (λ d. chain flows.And (word (codes "and")) (denial d (inner_predicate d))) starts_predicate (λ kind. nothing kind || is_word_of (codes "and") kind) 0 room room room end
      (read_conjunction end (read_denial end (read_single end (read_group end room inside))))
  led_conjunction room inside exact =
      let part = led_denial room inside exact in
      led_chain flows.And (is_word_of (codes "and")) (omega arith) part (led_word (codes "and") (omega arith) part.exact) (λ kind e. refl)

  led_disjunction : (room : ℕ) (inside : Reading Predicate) → Inside room inside → Leading (λ d. disjunction d (inner_predicate d)) starts_predicate predicate_goes_on 0 room room room end (read_over end room inside)
  unfolding disjunction
  led_disjunction room inside exact =
      let part = led_conjunction room inside exact in
      led_chain flows.Or (is_word_of (codes "or")) (omega arith) part (led_word (codes "or") (omega arith) part.exact) (apart_word (codes "or") (λ kind. nothing kind || is_word_of (codes "and") kind) refl)

  to_predicate : (d : ℕ) (a : List Token) (v : Predicate) (b : List Token) → disjunction d (inner_predicate d) a v b → predicate d a v b
  unfolding predicate
  to_predicate zero a v b h = h
  to_predicate (suc d) a v b h = h

  from_predicate : (d : ℕ) (a : List Token) (v : Predicate) (b : List Token) → predicate d a v b → disjunction d (inner_predicate d) a v b
  unfolding predicate
  from_predicate zero a v b h = h
  from_predicate (suc d) a v b h = h

  led_over : (room : ℕ) (inside : Reading Predicate) → Inside room inside → Leading (λ d. predicate d) starts_predicate predicate_goes_on 0 room room room end (read_over end room inside)
  led_over room inside exact =
      let whole = led_disjunction room inside exact in
      record {
        exact = exact_as (λ d. disjunction d (inner_predicate d)) (λ d. predicate d) (read_over end room inside) predicate_goes_on 0 room room room end to_predicate from_predicate whole.exact;
        begins = λ d a v b h. whole.begins d a v b (from_predicate d a v b h);
      }

  same_less : (n m : ℕ) → suc n ≡ suc m → n ≡ m
  same_less n m e = omega arith

  pub led_predicate : (room : ℕ) → Leading (λ d. predicate d) starts_predicate predicate_goes_on 0 room room room end (read_predicate end room)
  unfolding read_predicate
  led_predicate zero = led_over zero (λ _. Err Memory) (λ inner e. absurd (omega arith))
  led_predicate (suc room) =
      led_over (suc room) (read_predicate end room)
      (λ inner e. subst (λ (n : ℕ). Leading (λ d. predicate d) starts_predicate predicate_goes_on 0 n n n end (read_predicate end room)) (same_less room inner e) (led_predicate room))
